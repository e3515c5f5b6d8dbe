use Rattle.std.proofs.Common.{Some, None, not, sym, ap, ◌∙◌, arith}
use Rattle.std.specs.Prelude.{is_some, unwrap_or}
use Rattle.std.specs.FinMap as map
use Rattle.std.specs.Map.{lookup}
use Rattle.std.specs.Ordering.{is_eq}
use Rattle.am_record.specs.OrderedKey.{key_cmp}
use Rattle.am_record_model.proofs.Maps.{got_where, put_is_insert}
use Rattle.am_record_model.proofs.Live.{has_live, flattened, filled_live}
use Rattle.am_record_model.proofs.sorted_records.SortedRecords.add.Goals as goal

pub returns-clause-new : goal.returns-clause-new
returns-clause-new c =
    let there = got_where c.self.inside.by_key.entries c.args.key ∙ ap (λ m. map.get m c.args.key) c.self.view_is in
    c.fill.ensures.new ∙ ap (λ s. not (is_some s)) (c.or_insert-slot.ensures.value ∙
    ap (λ o. unwrap_or o None) c.in_ok-self-inside.ensures.value ∙
    sym (flattened (lookup (λ k. is_eq (key_cmp c.args.key k)) c.self.inside.by_key.entries)))
    ∙ ap not (sym (has_live c.args.self.now c.args.key _ (sym there)))

pub returns-clause-left : goal.returns-clause-left
returns-clause-left c =
    let es = c.self.inside.by_key.entries in
    let there = got_where es c.args.key ∙ ap (λ m. map.get m c.args.key) c.self.view_is in
    filled_live c.args.self.now _ c.args.key c.fill.new.slot
    (put_is_insert es _ c.args.key c.fill.new.slot
    (λ q. grind (arith, (c.in_ok-self-inside.ensures.update.0 c.fill.new.slot).0 q))
    ∙ ap (λ m. map.insert m c.args.key c.fill.new.slot) c.self.view_is)
    c.args.value _ (sym there) (c.fill.ensures.left ∙ ap (λ s. Some (unwrap_or s c.args.value))
    (c.or_insert-slot.ensures.value ∙ ap (λ o. unwrap_or o None) c.in_ok-self-inside.ensures.value))
