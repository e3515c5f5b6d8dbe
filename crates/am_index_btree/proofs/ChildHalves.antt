-- The children of an inner node, cut in two.
use Rattle.std.proofs.Common.{◌≡◌, ◌≢◌, ℕ, zero, suc, ◌+◌, ◌<◌, ◌≤◌, List, [], ◌∷◌, ◌++◌, length, get_or, take, drop}
use Rattle.std.proofs.Common.{refl, sym, ap, ◌∙◌, subst, append_assoc, length-append, arith}
use Rattle.std.specs.declared.cmp.Ordering.{Ordering}
use Rattle.std.specs.declared.cmp.Ordering.TheVariants.{Less, Equal, Greater}
use Rattle.std.specs.List.{AllByRecursion}
use Rattle.std.proofs.lemmas.List.{take-append-drop}
use Rattle.am_record.specs.declared.entry.Entry.{Entry}
use Rattle.am_record.specs.EntryOrder.{Place, place_of, place_cmp, place_cmp-total}
use Rattle.am_record.proofs.Lists.{AllByRecursion-map, AllByRecursion-append, AllByRecursion-front, AllByRecursion-back}
use Rattle.am_record.proofs.Lists.{AllByRecursion-at, AllByRecursion-take, AllByRecursion-drop}
use Rattle.am_record.proofs.PlaceOrder.{turned_greater}
use Rattle.am_index.specs.Entries.{IsRising}
use Rattle.am_index.specs.Places.{AllBelow, NoneBelow}
use Rattle.am_index.proofs.Lists.{rising_front, rising_back}
use Rattle.am_index_btree.specs.declared.separator.Separator.{Separator}
use Rattle.am_index_btree.specs.Shape.{Shape}
use Rattle.am_index_btree.specs.Rooms.{IsRoomed}
use Rattle.am_index_btree.specs.Separators.{separator_place, SeparatorsRise}
use Rattle.am_index_btree.specs.Nodes.{all_entries, depth_of, AreParted, AreFilledChildren, AreChildren, IsInner}

pub all_both : {X : Type 0} (P Q R : X → Type 0) → ((x : X) → P x → Q x → R x) → (xs : List X) → AllByRecursion P xs →
    AllByRecursion Q xs → AllByRecursion R xs
all_both P Q R f [] a b = tt
all_both P Q R f (x ∷ xs) a b = (f x a.0 b.0, all_both P Q R f xs a.1 b.1)

-- what holds of all entries holds of each child's
pub all_in_each : (P : Entry → Type 0) (ks : List Shape) → AllByRecursion P (all_entries ks) →
    AllByRecursion (λ k. AllByRecursion P k.entries) ks
all_in_each P [] a = tt
all_in_each P (k ∷ ks) a = (
  AllByRecursion-front P k.entries (all_entries ks) a,
  all_in_each P ks (AllByRecursion-back P k.entries (all_entries ks) a),
)

pub parted_lengths : (ls : List Separator) (ks : List Shape) → AreParted ls ks → length ls ≡ length ks
parted_lengths [] [] a = refl
parted_lengths [] (k ∷ ks) a = absurd (omega (arith, a))
parted_lengths (l ∷ ls) [] a = absurd (omega (arith, a))
parted_lengths (l ∷ ls) (k ∷ ks) a = omega (arith, parted_lengths ls ks a.2)

pub AreParted-take : (m : ℕ) (ls : List Separator) (ks : List Shape) → AreParted ls ks →
    AreParted (take m ls) (take m ks)
AreParted-take zero ls ks a = tt
AreParted-take (suc m) [] [] a = tt
AreParted-take (suc m) [] (k ∷ ks) a = absurd (omega (arith, a))
AreParted-take (suc m) (l ∷ ls) [] a = absurd (omega (arith, a))
AreParted-take (suc m) (l ∷ ls) (k ∷ ks) a = (
  a.0,
  AllByRecursion-take (λ n. AllBelow (separator_place n) k.entries) m
      ls a.1,
  AreParted-take m ls ks a.2,
)

pub AreParted-drop : (m : ℕ) (ls : List Separator) (ks : List Shape) → AreParted ls ks →
    AreParted (drop m ls) (drop m ks)
AreParted-drop zero ls ks a = a
AreParted-drop (suc m) [] [] a = tt
AreParted-drop (suc m) [] (k ∷ ks) a = absurd (omega (arith, a))
AreParted-drop (suc m) (l ∷ ls) [] a = absurd (omega (arith, a))
AreParted-drop (suc m) (l ∷ ls) (k ∷ ks) a = AreParted-drop m ls ks a.2

pub all_entries-append : (xs ys : List Shape) → all_entries (xs ++ ys) ≡ all_entries xs ++ all_entries ys
all_entries-append [] ys = refl
all_entries-append (x ∷ xs) ys = ap (λ l. x.entries ++ l) (all_entries-append xs ys) ∙
    sym (append_assoc x.entries (all_entries xs) (all_entries ys))

pub all_entries_cut : (m : ℕ) (ks : List Shape) → all_entries (take m ks) ++ all_entries (drop m ks) ≡ all_entries ks
all_entries_cut m ks = sym (all_entries-append (take m ks) (drop m ks)) ∙ ap all_entries (take-append-drop m ks)

-- children of one depth give the node the next one
pub depth_level : (d : ℕ) (ks : List Shape) → 0 < length ks → AllByRecursion (λ k. k.depth + 1 ≡ d) ks → depth_of ks ≡ d
depth_level d [] lt a = absurd (omega arith)
depth_level d (k ∷ []) lt a = omega (arith, a.0)
depth_level d (k ∷ j ∷ ks) lt a = let more = depth_level d (j ∷ ks) (omega arith) a.1 in omega (arith, a.0)

pub some_entries : (ks : List Shape) → 0 < length ks → AllByRecursion (λ k. 0 < length k.entries) ks →
    0 < length (all_entries ks)
some_entries [] lt a = absurd (omega arith)
some_entries (k ∷ ks) lt a = omega (arith, a.0, length-append k.entries (all_entries ks))

-- children that aren't empty have as many entries at least
pub many_entries : (ks : List Shape) → AllByRecursion (λ k. 0 < length k.entries) ks →
    length ks ≤ length (all_entries ks)
many_entries [] a = omega arith
many_entries (k ∷ ks) a = omega (arith, a.0, many_entries ks a.1, length-append k.entries (all_entries ks))

-- between two separators stands an entry
pub separators_apart : (l m : Place) (es : List Entry) → 0 < length es → NoneBelow l es → AllBelow m es →
    place_cmp l m ≡ Less
separators_apart l m [] lt n b = absurd (omega arith)
separators_apart l m (e ∷ es) lt n b = by (place_cmp l (place_of e)) refl
  where
    by : (o : Ordering) → place_cmp l (place_of e) ≡ o → place_cmp l m ≡ Less
    by Less h = place_cmp-total.trans l (place_of e) m h b.0
    by Equal h = place_cmp-total.congr l (place_of e) m h ∙ b.0
    by Greater h = absurd (n.0 (turned_greater l (place_of e) h))

pub separators_rise : (ls : List Separator) (ks : List Shape) → AreParted ls ks →
    AllByRecursion (λ k. 0 < length k.entries) ks → SeparatorsRise ls
separators_rise [] ks a f = tt
separators_rise (l ∷ ls) [] a f = absurd (omega (arith, a))
separators_rise (l ∷ ls) (k ∷ ks) a f = (
  AllByRecursion-map (λ m. AllBelow (separator_place m) k.entries)
      (λ m. place_cmp (separator_place l) (separator_place m) ≡ Less)
      (λ m b. separators_apart (separator_place l) (separator_place m) k.entries f.0 a.0 b) ls a.1,
  separators_rise ls ks a.2 f.1,
)

-- what is not below a low is not below a lesser one
not_below : (l m e : Place) → place_cmp l m ≡ Less → place_cmp e m ≢ Less → place_cmp e l ≢ Less
not_below l m e h n less = n (place_cmp-total.trans e l m less h)

none_below_all : (l : Place) (ls : List Separator) (ks : List Shape) → AreParted ls ks →
    AllByRecursion (λ m. place_cmp l (separator_place m) ≡ Less) ls → NoneBelow l (all_entries ks)
none_below_all l [] [] a h = tt
none_below_all l [] (k ∷ ks) a h = absurd (omega (arith, a))
none_below_all l (m ∷ ls) [] a h = absurd (omega (arith, a))
none_below_all l (m ∷ ls) (k ∷ ks) a h =
    AllByRecursion-append (λ e. place_cmp (place_of e) l ≢ Less) k.entries (all_entries ks)
    (AllByRecursion-map (λ e. place_cmp (place_of e) (separator_place m) ≢ Less) (λ e. place_cmp (place_of e) l ≢ Less)
    (λ e n. not_below l (separator_place m) (place_of e) h.0 n) k.entries a.0)
    (none_below_all l ls ks a.2 h.1)

-- a low parts the children before it from its own and the later ones
pub parted_cut : (m : ℕ) (ls : List Separator) (ks : List Shape) (d : Separator) → AreParted ls ks →
    AllByRecursion (λ k. 0 < length k.entries) ks → m < length ls
    → AllBelow (separator_place (get_or ls m d)) (all_entries (take m ks)) × NoneBelow (separator_place (get_or ls m d))
    (all_entries (drop m ks))
parted_cut m [] ks d a f lt = absurd (omega arith)
parted_cut m (l ∷ ls) [] d a f lt = absurd (omega (arith, a))
parted_cut zero (l ∷ ls) (k ∷ ks) d a f lt = (
  tt,
  AllByRecursion-append (λ e. place_cmp (place_of e) (separator_place l) ≢ Less) k.entries (all_entries ks) a.0
      (none_below_all (separator_place l) ls ks a.2 (separators_rise (l ∷ ls) (k ∷ ks) a f).0),
)
parted_cut (suc m) (l ∷ ls) (k ∷ ks) d a f lt =
    let low = get_or ls m d in let rest = parted_cut m ls ks d a.2 f.1 (omega arith) in (
      AllByRecursion-append (λ e. place_cmp (place_of e) (separator_place low) ≡ Less) k.entries
          (all_entries (take m ks)) (AllByRecursion-at (λ n. AllBelow (separator_place n) k.entries) ls m d a.1
          (omega arith)) rest.0,
      rest.1,
    )

module _ (m d : ℕ) (ls : List Separator) (ks : List Shape) (c : AreFilledChildren d ls ks) where
  both : IsRising (all_entries (take m ks) ++ all_entries (drop m ks))
  both = subst IsRising (sym (all_entries_cut m ks)) c.rising

  pub children_taken : AreFilledChildren d (take m ls) (take m ks)
  children_taken = record {
    level = AllByRecursion-take (λ k. k.depth + 1 ≡ d) m ks c.level;
    filled = AllByRecursion-take (λ k. 0 < length k.entries) m ks c.filled;
    parted = AreParted-take m ls ks c.parted;
    roomed = AllByRecursion-take (λ (k : Shape). IsRoomed k) m ks c.roomed;
    rising = rising_front (all_entries (take m ks)) (all_entries (drop m ks)) both;
  }

  pub children_dropped : AreFilledChildren d (drop m ls) (drop m ks)
  children_dropped = record {
    level = AllByRecursion-drop (λ k. k.depth + 1 ≡ d) m ks c.level;
    filled = AllByRecursion-drop (λ k. 0 < length k.entries) m ks c.filled;
    parted = AreParted-drop m ls ks c.parted;
    roomed = AllByRecursion-drop (λ (k : Shape). IsRoomed k) m ks c.roomed;
    rising = rising_back (all_entries (take m ks)) (all_entries (drop m ks)) both;
  }

pub inner_with : (d : ℕ) (ls : List Separator) (ks : List Shape) (L : List Separator) (K : List Shape) (rk : ℕ) →
    L ≡ ls → K ≡ ks → AreChildren d ls ks → 0 < length ks → length ks ≤ 32 → 32 ≤ rk → IsInner L K rk
inner_with d ls ks L K rk e f c some most room =
    subst (λ ms. IsInner ms K rk) (sym e) (subst (λ js. IsInner ls js rk) (sym f) (record {
      some = some;
      most = most;
      room = room;
      children = subst (λ (n : ℕ). AreChildren n ls ks) (sym (depth_level d ks some c.level)) c;
    }))

pub inner_from : (d : ℕ) (ls : List Separator) (ks : List Shape) (L : List Separator) (K : List Shape) (rk : ℕ) →
    L ≡ ls → K ≡ ks → AreFilledChildren d ls ks → 0 < length ks → length ks ≤ 32 → 32 ≤ rk → IsInner L K rk
inner_from d ls ks L K rk e f c some most room =
    inner_with d ls ks L K rk e f (record {
      level = c.level;
      filled = (λ _. c.filled);
      parted = c.parted;
      roomed = c.roomed;
      rising = c.rising;
    }) some most room

pub children_rise : (ls : List Separator) (ks : List Shape) → AreParted ls ks →
    (1 < length ks → AllByRecursion (λ k. 0 < length k.entries) ks) → SeparatorsRise ls
children_rise [] ks a f = tt
children_rise (l ∷ []) ks a f = (tt, tt)
children_rise (l ∷ m ∷ ls) ks a f = separators_rise (l ∷ m ∷ ls) ks a
    (f (omega (arith, parted_lengths (l ∷ m ∷ ls) ks a)))

pub get_dropped : {X : Type 0} (m : ℕ) (xs : List X) (d : X) → get_or (drop m xs) 0 d ≡ get_or xs m d
get_dropped zero xs d = refl
get_dropped (suc m) [] d = refl
get_dropped (suc m) (x ∷ xs) d = get_dropped m xs d
