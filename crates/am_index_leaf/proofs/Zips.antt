-- Places, values and bits change together.
use Rattle.std.proofs.Common.{◌≡◌, ℕ, zero, suc, ◌/◌, ◌%◌, ◌^◌, ◌<◌, ◌≤◌, Bool, eqb, List, [], ◌∷◌, length, get_or, set}
use Rattle.std.proofs.Common.{take, drop, refl, ap, ◌∙◌, arith}
use Rattle.std.proofs.Math.Nat.{div-one}
use Rattle.std.specs.List.{insert, remove}
use Rattle.am_record.specs.declared.entry.Entry.{Entry}
use Rattle.am_record.specs.EntryOrder.{Place}
use Rattle.am_index_leaf.specs.Bits.{has_bit, inserted_bit, removed_bit, changed_bit}
use Rattle.am_index_leaf.specs.Leaf.{entries_of}
use Rattle.am_index_leaf.specs.Changes.{set_at}
use Rattle.am_index_leaf.proofs.BitLemmas.{low_bit, low_part, shifted, cut_low}

abbrev pub entry_of : Place → List ℕ → Bool → Entry
entry_of p v b = record { part = p.0; key = p.1; value = v; is_ghost = b }

pub length-entries_of : (ps : List Place) (vs : List (List ℕ)) (m : ℕ) → length ps ≡ length vs →
    length (entries_of ps vs m) ≡ length ps
length-entries_of [] vs m e = refl
length-entries_of (p ∷ ps) [] m e = absurd (omega arith)
length-entries_of (p ∷ ps) (v ∷ vs) m e = ap suc (length-entries_of ps vs (m / 2) (omega arith))

pub entries_of-at : (ps : List Place) (vs : List (List ℕ)) (m i : ℕ) (p : Place) (v : List ℕ) (d : Entry) →
    length ps ≡ length vs → i < length ps
    → get_or (entries_of ps vs m) i d ≡ entry_of (get_or ps i p) (get_or vs i v) (has_bit m i)
entries_of-at [] vs m i p v d e lt = absurd (omega arith)
entries_of-at (q ∷ ps) [] m i p v d e lt = absurd (omega arith)
entries_of-at (q ∷ ps) (w ∷ vs) m zero p v d e lt = refl
entries_of-at (q ∷ ps) (w ∷ vs) m (suc i) p v d e lt = entries_of-at ps vs (m / 2) i p v d (omega arith) (omega arith)

pub entries_of-insert : (ps : List Place) (vs : List (List ℕ)) (m i : ℕ) (p : Place) (v : List ℕ) (b : Bool) →
    length ps ≡ length vs → i ≤ length ps
    → entries_of (insert ps i p) (insert vs i v) (inserted_bit m i b) ≡ insert (entries_of ps vs m) i (entry_of p v b)
entries_of-insert ps vs m zero p v b e le = let low = low_bit b m in λ j. entry_of p v (low.1 j) ∷ entries_of ps vs
    (low.0 j)
entries_of-insert [] vs m (suc i) p v b e le = absurd (omega arith)
entries_of-insert (q ∷ ps) [] m (suc i) p v b e le = absurd (omega arith)
entries_of-insert (q ∷ ps) (w ∷ vs) m (suc i) p v b e le =
    let low = low_part (m % 2) (inserted_bit (m / 2) i b) (omega arith) in
    (λ j. entry_of q w (eqb (low.1 j) 1) ∷ entries_of (insert ps i p) (insert vs i v) (low.0 j)) ∙
    ap (λ l. entry_of q w (has_bit m 0) ∷ l) (entries_of-insert ps vs (m / 2) i p v b (omega arith) (omega arith))

pub entries_of-remove : (ps : List Place) (vs : List (List ℕ)) (m i : ℕ) → length ps ≡ length vs → i < length ps
    → entries_of (remove ps i) (remove vs i) (removed_bit m i) ≡ remove (entries_of ps vs m) i
entries_of-remove [] vs m i e lt = absurd (omega arith)
entries_of-remove (q ∷ ps) [] m i e lt = absurd (omega arith)
entries_of-remove (q ∷ ps) (w ∷ vs) m zero e lt = refl
entries_of-remove (q ∷ ps) (w ∷ vs) m (suc i) e lt =
    let low = low_part (m % 2) (removed_bit (m / 2) i) (omega arith) in
    (λ j. entry_of q w (eqb (low.1 j) 1) ∷ entries_of (remove ps i) (remove vs i) (low.0 j)) ∙
    ap (λ l. entry_of q w (has_bit m 0) ∷ l) (entries_of-remove ps vs (m / 2) i (omega arith) (omega arith))

pub entries_of-set : (ps : List Place) (vs : List (List ℕ)) (m i : ℕ) (v : List ℕ) (b : Bool) → length ps ≡ length vs →
    i < length ps
    → entries_of ps (set vs i v) (changed_bit m i b) ≡ set_at (entries_of ps vs m) i v b
entries_of-set [] vs m i v b e lt = absurd (omega arith)
entries_of-set (q ∷ ps) [] m i v b e lt = absurd (omega arith)
entries_of-set (q ∷ ps) (w ∷ vs) m zero v b e lt = let low = low_bit b (m / 2) in
    λ j. entry_of q v (low.1 j) ∷ entries_of ps vs (low.0 j)
entries_of-set (q ∷ ps) (w ∷ vs) m (suc i) v b e lt =
    let low = low_part (m % 2) (changed_bit (m / 2) i b) (omega arith) in
    (λ j. entry_of q w (eqb (low.1 j) 1) ∷ entries_of ps (set vs i v) (low.0 j)) ∙
    ap (λ l. entry_of q w (has_bit m 0) ∷ l) (entries_of-set ps vs (m / 2) i v b (omega arith) (omega arith))

pub entries_of-take : (n : ℕ) (ps : List Place) (vs : List (List ℕ)) (m : ℕ) →
    entries_of (take n ps) (take n vs) (m % 2 ^ n) ≡ take n (entries_of ps vs m)
entries_of-take zero ps vs m = refl
entries_of-take (suc n) [] vs m = refl
entries_of-take (suc n) (q ∷ ps) [] m = refl
entries_of-take (suc n) (q ∷ ps) (w ∷ vs) m =
    let cut = cut_low m n in
    let half : m % 2 ^ suc n / 2 ≡ m / 2 % 2 ^ n = omega arith in
    let lowest : m % 2 ^ suc n % 2 ≡ m % 2 = omega arith in
    (λ j. entry_of q w (eqb (lowest j) 1) ∷ entries_of (take n ps) (take n vs) (half j)) ∙
    ap (λ l. entry_of q w (has_bit m 0) ∷ l) (entries_of-take n ps vs (m / 2))

pub entries_of-drop : (n : ℕ) (ps : List Place) (vs : List (List ℕ)) (m : ℕ) → length ps ≡ length vs →
    entries_of (drop n ps) (drop n vs) (m / 2 ^ n) ≡ drop n (entries_of ps vs m)
entries_of-drop zero ps vs m e = ap (λ (k : ℕ). entries_of ps vs k) (div-one m)
entries_of-drop (suc n) [] vs m e = refl
entries_of-drop (suc n) (q ∷ ps) [] m e = absurd (omega arith)
entries_of-drop (suc n) (q ∷ ps) (w ∷ vs) m e = ap (λ (k : ℕ). entries_of (drop n ps) (drop n vs) k) (shifted m n) ∙
    entries_of-drop n ps vs (m / 2) (omega arith)
