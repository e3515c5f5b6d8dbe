use Rattle.std.proofs.Common.{◌≡◌, ◌<◌, ◌≤◌, List, IfNone, take, length, get_or, sym, subst}
use Rattle.std.specs.List.{AllByRecursion}
use Rattle.am_index_parts.specs.declared.catalog.OpenRun.{OpenRun}
use Rattle.am_record.specs.declared.entry.Entry.{Entry}
use Rattle.am_index_parts.specs.Catalogs.{IsCatalog}
use Rattle.am_index_parts.specs.Partitions.{AreEmptyFrom}
use Rattle.am_index_parts.proofs.KeyLooks.{empty_up_to, empty_from}
use Rattle.am_index_parts.proofs.catalog.Catalog.next_part.Goals as goal
use Rattle.am_index_parts.proofs.catalog.Catalog.next_part.Goals.{else-from-eq0-via-then-from-eq0+else-has_final}
use Rattle.am_index_parts.proofs.catalog.Catalog.next_part.Goals.{else-from-eq0-via-else-from-eq0}

pub returns-in_err-get-clause-none : goal.returns-in_err-get-clause-none
returns-in_err-get-clause-none c =
    let runs = c.args.self.now.runs.items in let at = c.count_below-at.result in
    let final : c.args.from ≡ 0 → c.args.self.now.in_final ≡ 0 = λ zero. elim c.else-from-eq0.branch [
      | else-from-eq0-via-then-from-eq0+else-has_final w ↦ w.has_final.ensures w.if-has_final.false
      | else-from-eq0-via-else-from-eq0 w ↦ absurd (w.if-from-eq0.false zero)
    ] in
    let below = subst (λ (l : List OpenRun). AllByRecursion (λ (r : OpenRun). r.part < c.args.from) (take at l))
    c.deref.ensures.value (subst (λ n. AllByRecursion (λ (r : OpenRun). r.part < n) (take at c.deref.result.now))
    c.from.ensures c.count_below-at.ensures.below) in
    let past = subst (λ (l : List OpenRun). length l ≤ at) c.deref-2.ensures.value c.in_err-get.ensures.lookup.3 in
    subst (λ o. IfNone o ((es : List Entry) → IsCatalog es c.args.self.now →
    AreEmptyFrom es c.args.from)) (sym c.from_residual.ensures)
    (λ es whole. empty_from whole.counted c.args.from at final below past)

pub returns-clause-passed : goal.returns-clause-passed
returns-clause-passed c = λ es whole.
    let runs = c.args.self.now.runs.items in let at = c.count_below-at.result in
    let final : c.args.from ≡ 0 → c.args.self.now.in_final ≡ 0 = λ zero. elim c.else-from-eq0.branch [
      | else-from-eq0-via-then-from-eq0+else-has_final w ↦ w.has_final.ensures w.if-has_final.false
      | else-from-eq0-via-else-from-eq0 w ↦ absurd (w.if-from-eq0.false zero)
    ] in
    let below = subst (λ (l : List OpenRun). AllByRecursion (λ (r : OpenRun). r.part < c.args.from) (take at l))
    c.deref.ensures.value (subst (λ n. AllByRecursion (λ (r : OpenRun). r.part < n) (take at c.deref.result.now))
    c.from.ensures c.count_below-at.ensures.below) in
    let run = c.in_ok-get.field-0.now in
    let inside = subst (λ (l : List OpenRun). at < length l) c.deref-2.ensures.value c.in_ok-get.ensures.lookup.3.0 in
    let here = subst (λ (l : List OpenRun). run ≡ get_or l at run) c.deref-2.ensures.value
    c.in_ok-get.ensures.lookup.1 in
    empty_up_to whole.counted c.args.from at final below run inside here
