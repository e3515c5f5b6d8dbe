use Rattle.am_record.specs.Sessions.{IsAllowed, active_after}
use Rattle.std.proofs.Common.{◌≡◌, ℕ, Option, sym, ap, subst}
use Rattle.am_law_sound.specs.StoreState.{StoreState}
use Rattle.am_line_alone.specs.Solo.{Solo, IsOpen}
use Rattle.am_line_alone.proofs.Solos.{stays_open}
use Rattle.am_line_alone.proofs.solo.SoloStoreBackend.call.Goals as goal

pub invariant_of-self : goal.invariant_of-self
invariant_of-self g c =
    let same : c.args.self.now.active ≡ c.self.inside.active = sym (ap (λ (s : Solo). s.active) c.self.view_is) in
    let allowed = subst (λ (a : Option ℕ). IsAllowed a c.args.step) same c.requires in
    let stays = stays_open c.self.inside.store c.self.inside.active c.args.step c.step-reply.result allowed
    c.self.invariant c.step-reply.ensures.says in
    let here = subst (λ (p : StoreState). IsOpen p (active_after c.self.inside.active c.step-reply.result))
    (sym c.step-reply.ensures.after) stays in
    subst (IsOpen c.step-reply.new.self) (sym c.active_behind-self-inside.ensures) here
