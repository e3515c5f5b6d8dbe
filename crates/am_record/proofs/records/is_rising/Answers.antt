use Rattle.std.proofs.Common.{rules, sym, ◌∙◌, arith, eqb-true}
use Rattle.std.proofs.lemmas.Bool.{eqb-false}
use Rattle.std.proofs.lemmas.List.Sorted.{answers_always}
use Rattle.std.specs.Ordering.{is_lt}
use Rattle.am_record.specs.OrderedKey.{key_cmp}
use Rattle.am_record.proofs.FirstRows.{Record}
use Rattle.am_record.proofs.RisingRecords.{adjacent_answer, rising_none, rising_some}
use Rattle.am_record.proofs.records.is_rising.Goals as goal

pub returns-then-is_empty : goal.returns-then-is_empty
returns-then-is_empty c = sym (rising_none c.args.records.now
    (eqb-true _ _ (sym c.is_empty.ensures ∙ c.if-is_empty.true)))

pub returns : goal.returns
returns c =
    sym (rising_some c.args.records.now (omega (arith, eqb-false _ _ (sym c.is_empty.ensures ∙ c.if-is_empty.false)))
    ∙ adjacent_answer c.args.records.now c.is_sorted_by.result
    (c.is_sorted_by.ensures.cases (λ (x : Record) (y : Record). is_lt (key_cmp x.0 y.0))
    (answers_always _ _ _ (λ f a r g h. search rules))))
