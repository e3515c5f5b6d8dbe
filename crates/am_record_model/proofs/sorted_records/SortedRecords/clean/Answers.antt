use Rattle.std.proofs.Common.{sym, ap, ◌∙◌, subst, IsSome}
use Rattle.am_record.proofs.Outcomes.{is_none}
use Rattle.am_record_model.specs.Slots.{live, IsNoPlace}
use Rattle.am_record_model.proofs.Live.{cleaned, no_place_removed, no_place_beside, no_place_live}
use Rattle.am_record_model.proofs.sorted_records.SortedRecords.clean.Goals as goal

pub returns-then-is_none-clause-live : goal.returns-then-is_none-clause-live
returns-then-is_none-clause-live c =
    ap live c.remove.ensures ∙ cleaned c.args.self.now c.args.key
    (sym c.get.ensures ∙ is_none c.get.result c.if-is_none.ensures)

pub returns-then-is_none-clause-gone : goal.returns-then-is_none-clause-gone
returns-then-is_none-clause-gone c = subst (λ m. IsNoPlace m c.args.key) (sym c.remove.ensures)
    (no_place_removed c.args.self.now c.args.key)

pub returns-then-is_none-clause-others : goal.returns-then-is_none-clause-others
returns-then-is_none-clause-others c k h = subst (λ m. IsNoPlace m k) (sym c.remove.ensures)
    (no_place_beside c.args.self.now c.args.key k h)

pub returns-else-is_none-clause-gone : goal.returns-else-is_none-clause-gone
returns-else-is_none-clause-gone c =
    no_place_live c.args.self.now c.args.key (subst IsSome c.get.ensures c.if-is_none.ensures)
