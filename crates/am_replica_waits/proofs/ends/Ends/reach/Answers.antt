use Rattle.std.proofs.Common.{rules, ◌≡◌, ℕ, List, filter, ap, ◌∙◌}
use Rattle.std.specs.Prelude.{ltb}
use Rattle.std.proofs.lemmas.Fn.{filter_same}
use Rattle.am_replica_waits.specs.declared.ends.Question.{Question}
use Rattle.am_replica_waits.specs.Ends.{EndsState, newest_known, with_applied, with_reached}
use Rattle.am_replica_waits.proofs.ends.Ends.reach.Goals as goal

pub returns : goal.returns
returns c =
    let at : ℕ = c.max-applied.result in
    let old : EndsState = record {
      known = c.self.inside.known;
      applied = c.self.inside.applied;
      unreached = c.self.inside.unreached.items;
    } in
    let known : c.newest_known-self-inside.result ≡ newest_known at old.known old.unreached =
    c.newest_known-self-inside.ensures ∙ ap (newest_known at old.known) c.deref.ensures.value in
    let left : c.retain.new.self.items ≡ filter (λ q. ltb at q.end) old.unreached =
    filter_same _ (λ q. ltb at q.end) _ (λ x b q h. search rules) _ _ c.retain.ensures.filtered in
    let new : EndsState = with_applied at old in
    ap (λ (n : ℕ). record new { known = n; unreached = c.retain.new.self.items }) known
    ∙ ap (λ (qs : List Question). record new { unreached = qs }) left
    ∙ ap (λ n. with_applied n old) c.max-applied.ensures
    ∙ ap (with_reached c.args.revision) c.self.view_is
