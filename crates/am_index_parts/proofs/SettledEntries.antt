-- Live entries of a run that settle where nothing stands.
use Rattle.std.proofs.Common.{◌≡◌, ℕ, zero, suc, ◌≤◌, Bool, true, false, List, [], ◌∷◌, ◌++◌, length, take, drop, refl}
use Rattle.std.proofs.Common.{sym, ap}
use Rattle.std.proofs.Common.{◌∙◌}
use Rattle.std.proofs.Common.{get_or, subst, append-nil, arith}
use Rattle.std.specs.Prelude.{is_some, if◌then◌else◌}
use Rattle.std.specs.List.{AllByRecursion}
use Rattle.std.specs.Ordering.{is_lt}
use Rattle.std.specs.declared.cmp.Ordering.TheVariants.{Less}
use Rattle.std.proofs.lemmas.Bool.{cond-false}
use Rattle.am_record.specs.EntryOrder.{place_of, place_cmp, place_cmp-total}
use Rattle.am_record.specs.declared.entry.Entry.{Entry}
use Rattle.am_record.proofs.Lists.{AllByRecursion-at}
use Rattle.am_index.specs.Entries.{find, insert_entry, set_entry, all_inserted, IsRising}
use Rattle.am_index.specs.Places.{AllBelow}
use Rattle.am_index.proofs.Insertions.{AllFree, still_free}
use Rattle.am_index.proofs.Lists.{rising_insert}
use Rattle.am_index_parts.specs.GoingHome.{home_of, homes_of, goes_behind, IsHome, AreHomesOf}
use Rattle.am_index_parts.specs.Partitions.{settled, settled_too, all_settled}

-- what is above the last of entries that rise is above all of them
below_last : (xs : List Entry) (i : ℕ) (x y : Entry) → suc i ≡ length xs → x ≡ get_or xs i x → IsRising xs →
    place_cmp (place_of x) (place_of y) ≡ Less → AllBelow (place_of y) xs
below_last [] i x y last here rise less = absurd (omega (arith, last))
below_last (z ∷ []) zero x y last here rise less =
    (subst (λ (e : Entry). place_cmp (place_of e) (place_of y) ≡ Less) here less, tt)
below_last (z ∷ w ∷ zs) zero x y last here rise less = absurd (omega (arith, last))
below_last (z ∷ zs) (suc i) x y last here rise less = (
  place_cmp-total.trans (place_of z) (place_of x) (place_of y)
      (subst (λ (e : Entry). place_cmp (place_of z) (place_of e) ≡ Less) (sym here)
      (AllByRecursion-at (λ (e : Entry). place_cmp (place_of z) (place_of e) ≡ Less) zs i x rise.0
      (omega (arith, last)))) less,
  below_last zs i x y (omega (arith, last)) here rise.1 less,
)

pub rising_push : (xs : List Entry) (i : ℕ) (x y : Entry) → suc i ≡ length xs → x ≡ get_or xs i x → IsRising xs →
    place_cmp (place_of x) (place_of y) ≡ Less → IsRising (xs ++ y ∷ [])
rising_push xs i x y last here rise less = rising_insert y xs [] (subst IsRising (sym (append-nil xs)) rise)
    (below_last xs i x y last here rise less) tt

-- they are inserted
pub settled_inserted : (xs es : List Entry) → AllByRecursion (λ e. e.is_ghost ≡ false) xs → IsRising (homes_of xs) →
    AllFree es (homes_of xs) → all_settled xs es ≡ all_inserted (homes_of xs) es
settled_inserted [] es live rise free = refl
settled_inserted (x ∷ xs) es live rise free =
    let one : settled_too x es ≡ insert_entry es (home_of x) =
    cond-false x.is_ghost es (settled x es) live.0 ∙
    cond-false (is_some (find es 0 x.key)) (set_entry es 0 x.key x.value false) (insert_entry es (home_of x))
    (ap is_some free.0) in
    ap (all_settled xs) one ∙ settled_inserted xs (insert_entry es (home_of x)) live.1 rise.1
    (still_free (home_of x) (homes_of xs) es rise.0 free.1)

pub all_are_home : (xs : List Entry) → AllByRecursion IsHome (homes_of xs)
all_are_home [] = tt
all_are_home (x ∷ xs) = ((refl, refl), all_are_home xs)

-- the first of them, and their homes
pub fewer_homes : (n m : ℕ) (es : List Entry) → n ≤ m → take n (homes_of (take m es)) ≡ homes_of (take n es)
fewer_homes zero m es le = refl
fewer_homes (suc n) zero es le = absurd (omega (arith, le))
fewer_homes (suc n) (suc m) [] le = refl
fewer_homes (suc n) (suc m) (e ∷ es) le = ap (λ l. home_of e ∷ l) (fewer_homes n m es (omega (arith, le)))

pub fewer_live : (n m : ℕ) (es : List Entry) → n ≤ m → AllByRecursion (λ e. e.is_ghost ≡ false) (take m es) →
    AllByRecursion (λ e. e.is_ghost ≡ false) (take n es)
fewer_live zero m es le live = tt
fewer_live (suc n) zero es le live = absurd (omega (arith, le))
fewer_live (suc n) (suc m) [] le live = tt
fewer_live (suc n) (suc m) (e ∷ es) le live = (live.0, fewer_live n m es (omega (arith, le)) live.1)

-- those of the others after the first
pub homes_left : (n : ℕ) (es homes : List Entry) → AreHomesOf es homes → AreHomesOf (drop n es) (drop n homes)
homes_left zero es homes h = h
homes_left (suc n) es [] h = record { first = refl; live = tt; rising = tt }
homes_left (suc n) [] (x ∷ homes) h = absurd (omega (arith, ap length h.first))
homes_left (suc n) (e ∷ es) (x ∷ homes) h =
    homes_left n es homes (record { first = ap (drop 1) h.first; live = h.live.1; rising = h.rising.1 })

-- ---- one after another

pub settled_on : (xs ys es : List Entry) → all_settled (xs ++ ys) es ≡ all_settled ys (all_settled xs es)
settled_on [] ys es = refl
settled_on (x ∷ xs) ys es = settled_on xs ys (settled_too x es)

-- an entry goes after where it does so of the last one
pub behind_last : (xs : List Entry) (i : ℕ) (x y : Entry) → suc i ≡ length xs → x ≡ get_or xs i x →
    goes_behind xs y ≡ is_lt (place_cmp (place_of x) (place_of y))
behind_last [] i x y last here = absurd (omega arith)
behind_last (f ∷ []) zero x y last here = ap (λ (e : Entry). is_lt (place_cmp (place_of e) (place_of y))) (sym here)
behind_last (f ∷ []) (suc i) x y last here = absurd (omega arith)
behind_last (f ∷ g ∷ xs) zero x y last here = absurd (omega arith)
behind_last (f ∷ g ∷ xs) (suc i) x y last here = behind_last (g ∷ xs) i x y (omega arith) here

-- no homes are those of none of the entries
pub homes_or_none : (b : Bool) (es homes : List Entry) → AreHomesOf es homes →
    AreHomesOf es (if b then homes else [])
homes_or_none true es homes h = h
homes_or_none false es homes h = record { first = refl; live = tt; rising = tt }
