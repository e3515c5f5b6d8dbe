use Rattle.std.proofs.Common.{◌≡◌, ℕ, sym, ◌∙◌, subst}
use Rattle.std.proofs.lemmas.Option.{same_Some}
use Rattle.am_index_parts.specs.RunFilters.{LivesInRun}
use Rattle.am_index_parts.proofs.KeyLooks.{found_live, not_found, said_of_none}
use Rattle.am_index_parts.proofs.key_look.live_in_holder.Goals as goal

pub returns-then-is_some-clause-live : goal.returns-then-is_some-clause-live
returns-then-is_some-clause-live g c =
    found_live c.requires.sound c.in-Some.run' c.args.key c.look-slot.ensures.found c.live_at-found.result
    c.live_at-found.ensures.live

pub returns-clause-absent : goal.returns-clause-absent
returns-clause-absent g c = λ run is lives.
    let es = g.I.PartIndex.entries c.args.index.now in
    let same : c.in-Some.run' ≡ run = same_Some _ _ (sym c.in-Some.is ∙ is) in
    said_of_none c.live_at-found.result (LivesInRun es c.args.key c.in-Some.run' → ⊥)
    (sym c.is_some.ensures ∙ c.if-is_some.false)
    (not_found es c.in-Some.run' c.args.key c.look-slot.result.0 c.look-slot.ensures.found c.live_at-found.result
    c.live_at-found.ensures.none) (subst (λ (p : ℕ). LivesInRun es c.args.key p) (sym same) lives)
