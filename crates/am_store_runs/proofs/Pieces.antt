-- Records that are cut piece by piece.
use Rattle.std.proofs.Common.{◌≡◌, ℕ, ◌<◌, ◌≤◌, ◌+◌, ◌-◌, zero, suc, List, [], ◌∷◌, ◌++◌, length, take, drop}
use Rattle.std.proofs.Common.{None, refl, sym, ap}
use Rattle.std.proofs.Common.{◌∙◌, subst, arith, append_assoc, length-append}
use Rattle.std.specs.Prelude.{min, slice_get}
use Rattle.std.proofs.lemmas.Option.{none-some}
use Rattle.std.specs.List.Sorted.{IsPermutation}
use Rattle.std.proofs.Math.Seq.{take-append_seam}
use Rattle.std.proofs.lemmas.List.{append-nil, take_all, drop_all, take-append-drop, drop-drop, length-drop}
use Rattle.std.proofs.lemmas.List.Sorted.{IsPermutation-refl, IsPermutation-append, IsPermutation-map}
use Rattle.am_record.specs.Plain.{Records}
use Rattle.am_store_runs.specs.declared.fault.LoadFault.{LoadFault}
use Rattle.am_store_runs.specs.declared.fault.LoadFault.TheVariants.{NotRising, BadSize, Twice, NoMemory}
use Rattle.am_store_runs.specs.Cuts.{keys_of, records_of, times_among, NoneTwice, IsSortedPiece, AreRunsOf}
use Rattle.am_store_runs.specs.Cuts.{IsCut, IsPieceFault, IsTwiceFault}
use Rattle.am_store_runs.specs.RecordPlaces.{piece}
use Rattle.am_record.proofs.FirstRows.{Record}
use Rattle.am_store_runs.proofs.Spots.{piece_long}
use Rattle.am_store_runs.proofs.Twice.{times_among-append, times_among-permutation}
use Rattle.am_store_runs.proofs.Sorts.{rising_apart}

pub keys_of-append : (rs qs : Records) → keys_of (rs ++ qs) ≡ keys_of rs ++ keys_of qs
keys_of-append [] qs = refl
keys_of-append (r ∷ rs) qs = ap (λ ks. r.0 ∷ ks) (keys_of-append rs qs)

-- ---- the first n of some records

drop_front : (rs qs : Records) → drop (length rs) (rs ++ qs) ≡ qs
drop_front [] qs = refl
drop_front (r ∷ rs) qs = drop_front rs qs

take_piece : (n : ℕ) (piece rest : Records) → length piece ≡ min n (length (piece ++ rest)) →
    take n (piece ++ rest) ≡ piece
take_piece n piece [] h = ap (take n) (append-nil piece) ∙ take_all n piece (omega (arith, h, length-append piece []))
take_piece n piece (r ∷ rest) h =
    let all : n ≡ length piece = omega (arith, h, length-append piece (r ∷ rest)) in
    ap (λ m. take m (piece ++ r ∷ rest)) all ∙ take-append_seam piece (r ∷ rest)

drop_piece : (n : ℕ) (piece rest : Records) → length piece ≡ min n (length (piece ++ rest)) →
    drop n (piece ++ rest) ≡ rest
drop_piece n piece [] h = drop_all n (piece ++ []) (omega (arith, h, length-append piece []))
drop_piece n piece (r ∷ rest) h =
    let all : n ≡ length piece = omega (arith, h, length-append piece (r ∷ rest)) in
    ap (λ m. drop m (piece ++ r ∷ rest)) all ∙ drop_front piece (r ∷ rest)

-- ---- the records are cut but for the rest

pub record IsCutting (n : ℕ) (all : Records) (runs : List Records) (rest : Records) : Type 0 where
  pub front : Records
  pub split : all ≡ front ++ rest
  pub done : (later : List Records) → AreRunsOf n rest later → AreRunsOf n all (runs ++ later)

pub cut_piece : {n : ℕ} {all : Records} {runs : List Records} {rest : Records} (piece rest' run : Records) →
    rest ≡ piece ++ rest' → length piece ≡ min n (length rest)
    → IsCutting n all runs rest → IsSortedPiece piece run → IsCutting n all (runs ++ run ∷ []) rest'
cut_piece {n} {all} {runs} {rest} piece rest' run split long h is = record {
  front = h.front ++ piece;
  split = h.split ∙ ap (λ (l : Records). h.front ++ l) split ∙ sym (append_assoc h.front piece rest');
  done = λ later are.
      let long' : length piece ≡ min n (length (piece ++ rest')) = long ∙ ap (λ (l : Records). min n (length l))
      split in
      let first : take n rest ≡ piece = ap (take n) split ∙ take_piece n piece rest' long' in
      let others : drop n rest ≡ rest' = ap (drop n) split ∙ drop_piece n piece rest' long' in
      let whole : AreRunsOf n rest (run ∷ later) = (
        subst (λ (p : Records). IsSortedPiece p run) (sym first) is,
        subst (λ (l : Records). AreRunsOf n l later) (sym others) are,
      ) in
      subst (λ (l : List Records). AreRunsOf n all l) (sym (append_assoc runs (run ∷ []) later))
      (h.done (run ∷ later) whole);
}

pub cut_whole : {n : ℕ} {all : Records} (runs : List Records) (rest : Records) → length rest ≡ 0 →
    IsCutting n all runs rest → AreRunsOf n all runs
cut_whole {n} {all} runs [] none h = subst (λ (l : List Records). AreRunsOf n all l) (append-nil runs) (h.done [] refl)
cut_whole runs (r ∷ rest) none h = absurd (omega (arith, none))

-- ---- pieces by their places

-- a piece, and what comes after it
pub piece_behind : (rs : Records) (from more : ℕ) → drop from rs ≡ piece rs from (from + more) ++ drop (from + more) rs
piece_behind rs from more =
    sym (take-append-drop more (drop from rs))
    ∙ ap (λ (l : Records). take more (drop from rs) ++ l) (drop-drop more from rs)
    ∙ ap (λ n. take n (drop from rs) ++ drop (from + more) rs) (omega (arith))

-- the next piece is cut
pub cut_next : {n : ℕ} {all : Records} {runs : List Records} (from more : ℕ) (run : Records) → from ≤ length all →
    more ≡ min n (length all - from) → IsCutting n all runs (drop from all) →
    IsSortedPiece (piece all from (from + more))
    run →
    IsCutting n all (runs ++ run ∷ []) (drop (from + more) all)
cut_next {n} {all} {runs} from more run within size h is =
    cut_piece (piece all from (from + more)) (drop (from + more) all) run (piece_behind all from more)
    (piece_long all from (from + more) (omega arith) (omega (arith, within, size))
    ∙ omega (arith, size, length-drop from all)) h is

-- the fault of a part of some records is one of them all
pub fault_of_part : (front part rest : Records) (fault : LoadFault) → IsPieceFault part fault →
    IsPieceFault (front ++ (part ++ rest)) fault
fault_of_part front part rest NotRising h = h
fault_of_part front part rest (Twice key) two =
    omega (
      arith,
      two,
      ap (times_among key) (keys_of-append front (part ++ rest)),
      ap (λ ks. times_among key (keys_of front ++ ks)) (keys_of-append part rest),
      times_among-append key (keys_of front) (keys_of part ++ keys_of rest),
      times_among-append key (keys_of part) (keys_of rest),
    )
fault_of_part front part rest NoMemory h = tt
fault_of_part front part rest BadSize h = h

pub fault_of_piece : (rs : Records) (from more : ℕ) (fault : LoadFault) →
    IsPieceFault (piece rs from (from + more)) fault → IsPieceFault rs fault
fault_of_piece rs from more fault is =
    let split : rs ≡ take from rs ++ (piece rs from (from + more) ++ drop (from + more) rs) =
    sym (take-append-drop from rs) ∙ ap (λ (l : Records). take from rs ++ l) (piece_behind rs from more) in
    subst (λ (l : Records). IsPieceFault l fault) (sym split)
    (fault_of_part (take from rs) (piece rs from (from + more)) (drop (from + more) rs) fault is)

-- or of them in another order
pub fault_permuted : (rs qs : Records) (fault : LoadFault) → IsPermutation rs qs → IsPieceFault qs fault →
    IsPieceFault rs fault
fault_permuted rs qs NotRising p h = h
fault_permuted rs qs (Twice key) p two = omega (
  arith,
  two,
  times_among-permutation key (keys_of rs) (keys_of qs) (IsPermutation-map (λ (r : Record). r.0) rs qs p),
)
fault_permuted rs qs NoMemory p h = tt
fault_permuted rs qs BadSize p h = h

-- ---- the records of the runs

take_drop : (n : ℕ) (rs : Records) → take n rs ++ drop n rs ≡ rs
take_drop zero rs = refl
take_drop (suc n) [] = refl
take_drop (suc n) (r ∷ rs) = ap (λ l. r ∷ l) (take_drop n rs)

pub runs_permuted : (n : ℕ) (rs : Records) (runs : List Records) → AreRunsOf n rs runs →
    IsPermutation rs (records_of runs)
runs_permuted n rs [] none = subst (λ (l : Records). IsPermutation l []) (sym none) (IsPermutation-refl [])
runs_permuted n rs (run ∷ runs) are =
    subst (λ (l : Records). IsPermutation l (run ++ records_of runs)) (take_drop n rs)
    (IsPermutation-append (take n rs) run (drop n rs) (records_of runs) are.0.same
    (runs_permuted n (drop n rs) runs are.1))

-- no key stands twice in the records of one run
pub few_apart : (n : ℕ) (rs : Records) (runs : List Records) → length runs < 2 → AreRunsOf n rs runs →
    NoneTwice (keys_of rs)
few_apart n rs [] few none = subst (λ (l : Records). NoneTwice (keys_of l)) (sym none)
    (record { once = λ key. omega arith })
few_apart n rs (run ∷ []) few are =
    rising_apart rs run (subst (λ (l : Records). IsPermutation rs l) (append-nil run)
    (runs_permuted n rs (run ∷ []) are)) are.0.rising
few_apart n rs (run ∷ next ∷ runs) few are = absurd (omega (arith, few))

-- ---- the fault of a piece, where no key stands twice

pub only_memory : (rs : Records) (fault : LoadFault) → IsPieceFault rs fault → NoneTwice (keys_of rs) →
    IsTwiceFault rs fault
only_memory rs NotRising h none = h
only_memory rs BadSize h none = h
only_memory rs (Twice key) two none = absurd (omega (arith, two, none.once key))
only_memory rs NoMemory h none = h

-- the runs are all where none is still to come
pub cut_to_end : (n : ℕ) (all : Records) (runs left : List Records) → IsCut n all (runs ++ left) →
    None ≡ slice_get left 0 → IsCut n all runs
cut_to_end n all runs [] h none = subst (IsCut n all) (append-nil runs) h
cut_to_end n all runs (run ∷ left) h none = absurd (none-some run none)
