-- One row after another is written over.
use Rattle.std.proofs.Common.{◌≡◌, ℕ, suc, zero, ◌<◌, ◌≤◌, ◌+◌, List, [], ◌∷◌, length, take, slice_set, slice_index_or}
use Rattle.std.proofs.Common.{refl, ap, arith, sym, ◌∙◌}
use Rattle.am_record.specs.OrderedKey.{OrderedKey}
use Rattle.am_c_steps.specs.declared.text.Record.{Record}
use Rattle.am_c_steps.specs.Texts.{record_as_text}
use Rattle.am_c_steps.specs.AnswerParts.{rows_over}

pub next_row : (pairs : List (OrderedKey × List ℕ)) (old : List Record) (i : ℕ) (d : OrderedKey × List ℕ) →
    i < length pairs → length pairs ≤ length old
    → slice_set (rows_over (take i pairs) old) i (record_as_text (slice_index_or pairs i d)) ≡ rows_over
    (take (suc i) pairs) old
next_row [] old i d h k = absurd (omega (arith, h))
next_row (p ∷ ps) [] i d h k = absurd (omega (arith, k))
next_row (p ∷ ps) (o ∷ os) zero d h k = refl
next_row (p ∷ ps) (o ∷ os) (suc i) d h k = ap (λ (rows : List Record). record_as_text p ∷ rows)
    (next_row ps os i d (omega (arith, h)) (omega (arith, k)))

pub writes_next : (pairs : List (OrderedKey × List ℕ)) (old rows : List Record) (i : ℕ) (x : OrderedKey × List ℕ)
    (r : Record) → rows ≡ rows_over (take i pairs) old
    → i < length pairs → length pairs ≤ length old → slice_index_or pairs i x ≡ x → r ≡ record_as_text x →
    slice_set rows i r ≡ rows_over (take (i + 1) pairs) old
writes_next pairs old rows i x r so h k is of =
    let more : suc i ≡ i + 1 = omega arith in
    (λ j. slice_set (so j) i ((of ∙ ap record_as_text (sym is)) j)) ∙ next_row pairs old i x h k ∙
    ap (λ (n : ℕ). rows_over (take n pairs) old) more
