-- Records are made pairs one after another.
use Rattle.std.proofs.Common.{◌≡◌, ℕ, suc, ◌<◌, ◌+◌, List, [], ◌∷◌, ◌++◌, length, take, drop, slice_index_or, refl, ap}
use Rattle.std.proofs.Common.{arith, sym, ◌∙◌, Ok, Err}
use Rattle.std.specs.Prelude.{Result, Bool, true, false, if◌then◌else◌, is_ok, is_err}
use Rattle.std.proofs.lemmas.List.{take-append-drop}
use Rattle.std.proofs.Math.Seq.{take-suc, drop-cons}
use Rattle.am_record.specs.OrderedKey.{OrderedKey}
use Rattle.am_c_steps.specs.declared.status.Status.{Status}
use Rattle.am_c_steps.specs.declared.text.Record.{Record}
use Rattle.am_c_steps.specs.Texts.{of_both, pair_given}
use Rattle.am_c_steps.specs.AskedSteps.{pairs_given}

abbrev Pair : Type 0
Pair = OrderedKey × List ℕ

abbrev put : Pair → List Pair → Result (List Pair) Status
put p ps = Ok (p ∷ ps)

abbrev join : List Pair → List Pair → Result (List Pair) Status
join ps qs = Ok (ps ++ qs)

first_put : (a : Result Pair Status) (b c : Result (List Pair) Status) → of_both put a (of_both join b c) ≡ of_both join
    (of_both put a b) c
first_put (Err why) b c = refl
first_put (Ok p) (Err why) c = refl
first_put (Ok p) (Ok ps) (Err why) = refl
first_put (Ok p) (Ok ps) (Ok qs) = refl

none_before : (c : Result (List Pair) Status) → c ≡ of_both join (Ok []) c
none_before (Ok qs) = refl
none_before (Err why) = refl

joined : (done rest : List Record) → pairs_given (done ++ rest) ≡ of_both join (pairs_given done) (pairs_given rest)
joined [] rest = none_before (pairs_given rest)
joined (r ∷ done) rest = ap (λ c. of_both put (pair_given r) c) (joined done rest) ∙
    first_put (pair_given r) (pairs_given done) (pairs_given rest)

module _ (records : List Record) (i : ℕ) (r : Record) (ps : List Pair) (low : i < length records)
    (done : pairs_given (take i records) ≡ Ok ps) where
  pub one_more : (p : Pair) → pair_given (slice_index_or records i r) ≡ Ok p → pairs_given (take (i + 1) records) ≡ Ok
      (ps ++ p ∷ [])
  one_more p made =
      let more : i + 1 ≡ suc i = omega arith in
      ap (λ n. pairs_given (take n records)) more ∙ ap pairs_given (take-suc records i r low) ∙
      joined (take i records) (slice_index_or records i r ∷ [])
      ∙ (λ j. of_both join (done j) (of_both put (made j) (Ok [])))

  pub one_wrong : (why : Status) → pair_given (slice_index_or records i r) ≡ Err why → pairs_given records ≡ Err why
  one_wrong why wrong =
      ap pairs_given (sym (take-append-drop i records) ∙ ap (λ xs. take i records ++ xs) (drop-cons records i r low)) ∙
      joined (take i records) (slice_index_or records i r ∷ drop (suc i) records)
      ∙ (λ j. of_both join (done j) (of_both put (wrong j) (pairs_given (drop (suc i) records))))

true_not_false : true ≡ false → ⊥
true_not_false e = cc

-- what was pushed, where no error came
pub pushed : {X E A : Type 0} (r : Result X E) (failed : Bool) (new xs ys : A) → failed ≡ is_err r → failed ≡ false →
    new ≡ (if is_ok r then xs else ys) → new ≡ xs
pushed (Ok x) failed new xs ys is fine so = so
pushed (Err e) failed new xs ys is fine so = absurd (true_not_false (sym is ∙ fine))
