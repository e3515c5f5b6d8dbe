-- The bits that say which children of a node have ghosts.
use Rattle.std.proofs.Common.{◌≡◌, ℕ, zero, suc, ◌+◌, ◌*◌, ◌/◌, ◌%◌, ◌^◌, ◌<◌, ◌≤◌, Bool, true, false, eqb, List, []}
use Rattle.std.proofs.Common.{◌∷◌, ◌++◌, length, get_or, set, drop, refl, sym, ap, ◌∙◌, subst, ⊎_elim, arith}
use mir.Val.{bool_byte}
use Rattle.std.specs.Prelude.{not, ◌||◌}
use Rattle.std.specs.List.{insert, remove}
use Rattle.std.specs.declared.vec.Vec.{Vec}
use Rattle.std.specs.declared.alloc.Global.{Global}
use Rattle.std.proofs.lemmas.Bool.{eq-eqb, ne_eqb}
use Rattle.std.proofs.Math.Bool.{or-false}
use Rattle.std.proofs.Math.Seq.{drop-cons}
use Rattle.std.proofs.lemmas.Bool.Decides.{eqb_tells}
use Rattle.std.proofs.lemmas.List.Folds.{list_any-append}
use Rattle.am_record.specs.Plain.{Records}
use Rattle.am_record.specs.declared.entry.Entry.{Entry}
use Rattle.am_index.specs.Runs.{run_entries}
use Rattle.am_index_leaf.specs.Bits.{has_bit, bit, inserted_bit, removed_bit, changed_bit}
use Rattle.am_index_leaf.specs.Ghosts.{has_ghost}
use Rattle.am_index_leaf.proofs.BitLemmas.{pow_double, pow_mono}
use Rattle.am_index_btree.specs.Ghosts.{marks_of}
use Rattle.am_index_btree.specs.Shape.{Shape}
use Rattle.am_index_btree.specs.Nodes.{all_entries, IsTree}
use Rattle.am_index_btree.specs.declared.separator.Separator.{Separator}
use Rattle.am_index_btree.specs.declared.node.Node.{Node}
use Rattle.am_index_btree.specs.declared.node.Node.TheVariants.{Inner}

-- the lowest bit, and the others
halves : (b : Bool) (m : ℕ) → ((bit b + 2 * m) / 2 ≡ m) × ((bit b + 2 * m) % 2 ≡ bit b)
halves true m = (omega arith, omega arith)
halves false m = (omega arith, omega arith)

first_bit : (b : Bool) (m : ℕ) → eqb ((bit b + 2 * m) % 2) 1 ≡ b
first_bit true m = eq-eqb _ _ (omega arith)
first_bit false m = ap (λ n. eqb n 1) (halves false m).1

-- ---- the bits after an edit

pub marks_set : (ks : List Shape) (i : ℕ) (k' : Shape) → i < length ks →
    changed_bit (marks_of ks) i (has_ghost k'.entries) ≡ marks_of (set ks i k')
marks_set [] i k' lt = absurd (omega arith)
marks_set (k ∷ ks) zero k' lt =
    ap (λ (n : ℕ). bit (has_ghost k'.entries) + 2 * n) (halves (has_ghost k.entries) (marks_of ks)).0
marks_set (k ∷ ks) (suc i) k' lt =
    let h = halves (has_ghost k.entries) (marks_of ks) in
    (λ j. h.1 j + 2 * changed_bit (h.0 j) i (has_ghost k'.entries)) ∙
    ap (λ (n : ℕ). bit (has_ghost k.entries) + 2 * n) (marks_set ks i k' (omega arith))

pub marks_insert : (ks : List Shape) (i : ℕ) (k : Shape) → i ≤ length ks →
    inserted_bit (marks_of ks) i (has_ghost k.entries) ≡ marks_of (insert ks i k)
marks_insert ks zero k le = refl
marks_insert [] (suc i) k le = absurd (omega arith)
marks_insert (c ∷ ks) (suc i) k le =
    let h = halves (has_ghost c.entries) (marks_of ks) in
    (λ j. h.1 j + 2 * inserted_bit (h.0 j) i (has_ghost k.entries)) ∙
    ap (λ (n : ℕ). bit (has_ghost c.entries) + 2 * n) (marks_insert ks i k (omega arith))

pub marks_remove : (ks : List Shape) (i : ℕ) → i < length ks →
    removed_bit (marks_of ks) i ≡ marks_of (remove ks i)
marks_remove [] i lt = absurd (omega arith)
marks_remove (k ∷ ks) zero lt = (halves (has_ghost k.entries) (marks_of ks)).0
marks_remove (k ∷ ks) (suc i) lt =
    let h = halves (has_ghost k.entries) (marks_of ks) in
    (λ j. h.1 j + 2 * removed_bit (h.0 j) i) ∙
    ap (λ (n : ℕ). bit (has_ghost k.entries) + 2 * n) (marks_remove ks i (omega arith))

-- where the child has ghosts just where it had some
pub marks_same : (ks : List Shape) (i : ℕ) (k k' : Shape) → k ≡ get_or ks i k →
    has_ghost k'.entries ≡ has_ghost k.entries → marks_of ks ≡ marks_of (set ks i k')
marks_same [] i k k' here same = refl
marks_same (c ∷ ks) zero k k' here same =
    ap (λ b. bit b + 2 * marks_of ks) (sym (same ∙ ap (λ (s : Shape). has_ghost s.entries) here))
marks_same (c ∷ ks) (suc i) k k' here same =
    ap (λ (n : ℕ). bit (has_ghost c.entries) + 2 * n) (marks_same ks i k k' here same)

-- the bits of a node, and those that it has once the child at the index is another one and was marked
pub marks_are : {n : Node} {separators : List Separator} {ks : Vec Shape Global} {marks : ℕ} →
    n ≡ Inner separators ks marks → IsTree n → marks ≡ marks_of ks.items
marks_are is tree = (subst IsTree is tree).1

pub marked : {n : Node} {separators : List Separator} {ks : Vec Shape Global} {marks : ℕ} →
    n ≡ Inner separators ks marks → IsTree n → (i : ℕ) (k' : Shape) (m : ℕ) → i < length ks.items →
    m ≡ changed_bit marks i (has_ghost k'.entries) → m ≡ marks_of (set ks.items i k')
marked {n} {separators} {ks} is tree i k' m lt h =
    h ∙ ap (λ w. changed_bit w i (has_ghost k'.entries)) (marks_are is tree) ∙ marks_set ks.items i k' lt

-- ---- what they say

pub marks_below : (ks : List Shape) → marks_of ks < 2 ^ length ks
marks_below [] = omega arith
marks_below (k ∷ ks) = below (has_ghost k.entries) (marks_of ks) (length ks) (marks_below ks)
  where
    below : (b : Bool) (m n : ℕ) → m < 2 ^ n → bit b + 2 * m < 2 ^ suc n
    below true m n lt = let d = pow_double n in omega (arith, lt)
    below false m n lt = let d = pow_double n in omega (arith, lt)

pub byte_small : (b : Bool) → bool_byte b ≤ 1
byte_small true = omega arith
byte_small false = omega arith

-- so many children have a free bit in a word of so many
pub marks_fit : (ks : List Shape) (n : ℕ) → length ks ≤ n → marks_of ks < 2 ^ n
marks_fit ks n le = let up = pow_mono (length ks) n le in let h = marks_below ks in omega arith

-- a later child's bit
pub others_bits : (c : Shape) (ks : List Shape) (i : ℕ) →
    has_bit (marks_of (c ∷ ks)) (suc i) ≡ has_bit (marks_of ks) i
others_bits c ks i = ap (λ (n : ℕ). has_bit n i) (halves (has_ghost c.entries) (marks_of ks)).0

pub mark_of : (ks : List Shape) (i : ℕ) (k : Shape) → i < length ks → k ≡ get_or ks i k →
    has_bit (marks_of ks) i ≡ has_ghost k.entries
mark_of [] i k lt here = absurd (omega arith)
mark_of (c ∷ ks) zero k lt here = first_bit (has_ghost c.entries) (marks_of ks) ∙
    ap (λ (s : Shape). has_ghost s.entries) (sym here)
mark_of (c ∷ ks) (suc i) k lt here =
    others_bits c ks i ∙ mark_of ks i k (omega arith) here

some_bit : (b : Bool) (m : ℕ) → not (eqb (bit b + 2 * m) 0) ≡ (b || not (eqb m 0))
some_bit true m = ap not (ne_eqb (1 + 2 * m) 0 (λ none. absurd (omega (arith, none))))
some_bit false m = ap not
    (⊎_elim (λ none. eq-eqb (0 + 2 * m) 0 (omega (arith, none.1)) ∙ sym none.0)
    (λ some. ne_eqb (0 + 2 * m) 0 (λ none. absurd (omega (arith, none, some.1))) ∙ sym some.0) (eqb_tells m 0))

pub any_mark : (ks : List Shape) → not (eqb (marks_of ks) 0) ≡ has_ghost (all_entries ks)
any_mark [] = refl
any_mark (k ∷ ks) =
    some_bit (has_ghost k.entries) (marks_of ks) ∙ ap (λ b. has_ghost k.entries || b) (any_mark ks) ∙
    sym (list_any-append (λ (e : Entry). e.is_ghost) k.entries (all_entries ks))

-- live records behind them change nothing
pub live_behind : (es : List Entry) (part : ℕ) (rs : Records) →
    has_ghost (es ++ run_entries part rs) ≡ has_ghost es
live_behind es part rs =
    list_any-append (λ (e : Entry). e.is_ghost) es (run_entries part rs) ∙ ap (λ b. has_ghost es || b) (live rs) ∙
    or-false (has_ghost es)
  where
    live : (rs : Records) → has_ghost (run_entries part rs) ≡ false
    live [] = refl
    live (r ∷ rs) = live rs

-- one child more before those that were counted
pub marks_next : (ks : List Shape) (i : ℕ) (k : Shape) (b m : ℕ) → i < length ks → k ≡ get_or ks i k →
    b ≡ bit (has_ghost k.entries) → m ≡ marks_of (drop (suc i) ks) → 2 * m + b ≡ marks_of (drop i ks)
marks_next ks i k b m lt here byte so_far =
    let comm : 2 * m + b ≡ b + 2 * m = omega arith in
    comm ∙ (λ j. byte j + 2 * so_far j) ∙
    ap (λ (s : Shape). bit (has_ghost s.entries) + 2 * marks_of (drop (suc i) ks)) here ∙
    sym (ap marks_of (drop-cons ks i k lt))
