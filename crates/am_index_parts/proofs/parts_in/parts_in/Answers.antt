use Rattle.std.proofs.Common.{◌≡◌, ◌≢◌, ℕ, true, filter, List, rules, refl, sym, subst}
use Rattle.std.proofs.lemmas.Fn.{filter_same}
use Rattle.am_index_parts.specs.Catalogs.{is_one_of}
use Rattle.am_index_parts.proofs.MeetingRuns.{has_more, has_last}
use Rattle.am_index_parts.proofs.PartLists.{is_open, has_open, all_stand}
use Rattle.am_index_parts.proofs.parts_in.parts_in.Goals as goal
use Rattle.am_index_parts.proofs.parts_in.parts_in.Goals.{After-put_in_order}
use Rattle.am_index_parts.proofs.parts_in.parts_in.Goals.{then-has_final+in_ok-push, else-has_final}

left : (c : After-put_in_order) → c.retain.new.self.items ≡
    filter (is_open c.args.catalog.now c.args.first_run) c.add_runs_in.new.parts.items
left c = filter_same _ (is_open c.args.catalog.now c.args.first_run) _ (λ x b f called. search rules) _ _
    c.retain.ensures.filtered

-- those that were left are there still
still : (c : After-put_in_order) → (part : ℕ) → is_one_of c.retain.new.self.items part ≡ true →
    is_one_of c.put_in_order.new.parts.items part ≡ true
still c part it = c.put_in_order.ensures.kept part (elim c.if-has_final.branch [
  | then-has_final+in_ok-push w ↦ rw w.parts-is
      (has_more c.retain.new.self.items 0 w.push.new.self.items w.in_ok-push.ensures.items part it)
  | else-has_final w ↦ rw w.parts-is it
])

final_too : (c : After-put_in_order) → c.args.catalog.now.in_final ≢ 0 →
    is_one_of c.put_in_order.new.parts.items 0 ≡ true
final_too c some = c.put_in_order.ensures.kept 0 (elim c.if-has_final.branch [
  | then-has_final+in_ok-push w ↦ rw w.parts-is
      (has_last c.retain.new.self.items 0 w.push.new.self.items w.in_ok-push.ensures.items 0 refl)
  | else-has_final w ↦ absurd (some (c.has_final.ensures w.if-has_final.false))
])

pub returns-clause-every : goal.returns-clause-every
returns-clause-every c = all_stand c.args.keys.now c.args.catalog.now c.args.range c.args.first_run
    c.add_runs_in.new.parts.items c.put_in_order.new.parts.items c.in_ok-add_runs_in.ensures
    (λ part from listed found. still c part (subst (λ (l : List ℕ). is_one_of l part ≡ true) (sym (left c))
    (has_open c.args.catalog.now c.args.first_run part c.add_runs_in.new.parts.items from listed found)))
    (final_too c)
