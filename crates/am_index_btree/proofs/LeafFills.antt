-- Records of a run, put after a leaf's entries one after another.
use Rattle.std.proofs.Common.{◌≡◌, ℕ, zero, suc, ◌+◌, List, [], ◌∷◌, ◌++◌, take, drop, refl, sym, ap}
use Rattle.std.proofs.Common.{◌∙◌, subst, append_assoc, arith}
use Rattle.am_record.specs.Plain.{Records}
use Rattle.am_record.specs.declared.entry.Entry.{Entry}
use Rattle.am_index.specs.Entries.{IsRising}
use Rattle.am_index.specs.Runs.{live_entry, run_entries}
use Rattle.am_index.proofs.Lists.{rising_front}

module _ (part : ℕ) where
  run_cut : (rs : Records) (i : ℕ) → run_entries part (take i rs) ++ run_entries part (drop i rs) ≡ run_entries part rs
  run_cut rs zero = refl
  run_cut [] (suc i) = refl
  run_cut (r ∷ rs) (suc i) = ap (λ l. live_entry part r ∷ l) (run_cut rs i)

  run_further : (rs : Records) (i n m : ℕ) → m ≡ i + n → run_entries part (take i rs) ++
      run_entries part (take n (drop i rs)) ≡ run_entries part (take m rs)
  run_further rs zero n m e = ap (λ (j : ℕ). run_entries part (take j rs)) {x = n} {y = m} (omega arith)
  run_further rs (suc i) n zero e = absurd (omega arith)
  run_further [] (suc i) zero (suc m) e = refl
  run_further [] (suc i) (suc n) (suc m) e = refl
  run_further (r ∷ rs) (suc i) n (suc m) e = ap (λ l. live_entry part r ∷ l) (run_further rs i n m (omega arith))

  module _ (es : List Entry) (rs : Records) (rising : IsRising (es ++ run_entries part rs)) (i : ℕ) where
    abbrev so_far : List Entry
    so_far = es ++ run_entries part (take i rs)

    whole : so_far ++ run_entries part (drop i rs) ≡ es ++ run_entries part rs
    whole = append_assoc es (run_entries part (take i rs)) (run_entries part (drop i rs)) ∙
        ap (λ l. es ++ l) (run_cut rs i)

    rest_rises : IsRising (so_far ++ run_entries part (drop i rs))
    rest_rises = subst IsRising (sym whole) rising

    pub front_rises : IsRising so_far
    front_rises = rising_front so_far (run_entries part (drop i rs)) rest_rises

    -- the records that are left go after what stands
    pub left_rise : {now : List Entry} → now ≡ so_far → IsRising (now ++ run_entries part (drop i rs))
    left_rise is = subst (λ l. IsRising (l ++ run_entries part (drop i rs))) (sym is) rest_rises

    pub further : (n : ℕ) {now after : List Entry} → now ≡ so_far →
        after ≡ now ++ run_entries part (take n (drop i rs)) → after ≡ es ++ run_entries part (take (i + n) rs)
    further n was is =
        is ∙ ap (λ l. l ++ run_entries part (take n (drop i rs))) was
        ∙ append_assoc es (run_entries part (take i rs)) (run_entries part (take n (drop i rs))) ∙
        ap (λ l. es ++ l) (run_further rs i n (i + n) refl)
