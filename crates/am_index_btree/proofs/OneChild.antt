-- A node, one of whose children another one takes the place of.
use Rattle.std.proofs.Common.{◌≡◌, ℕ, zero, suc, ◌+◌, ◌<◌, List, [], ◌∷◌, length, get_or, set, drop, refl, sym, ap, ◌∙◌}
use Rattle.std.proofs.Common.{subst, length-set, arith}
use Rattle.std.specs.List.{AllByRecursion}
use Rattle.am_record.specs.declared.entry.Entry.{Entry}
use Rattle.am_record.proofs.Lists.{AllByRecursion-at}
use Rattle.am_index.specs.Entries.{IsRising}
use Rattle.am_index.specs.Places.{AllBelow, NoneBelow}
use Rattle.am_index_btree.specs.declared.separator.Separator.{Separator}
use Rattle.am_index_btree.specs.Shape.{Shape}
use Rattle.am_index_btree.specs.Rooms.{IsRoomed, KeepsRoom}
use Rattle.am_index_btree.specs.Separators.{separator_place}
use Rattle.am_index_btree.specs.Nodes.{all_entries, depth_of, inner_shape, AreParted, IsInner}
use Rattle.am_index_btree.proofs.Inner.{IsOver, one_below}
use Rattle.am_index_btree.proofs.ChildHalves.{depth_level, inner_with}
use Rattle.am_index_btree.proofs.ValueRooms.{keeps_set}

pub all_set : {X : Type 0} (P : X → Type 0) (xs : List X) (i : ℕ) (y : X) → AllByRecursion P xs → P y →
    AllByRecursion P (set xs i y)
all_set P [] i y a h = tt
all_set P (x ∷ xs) zero y a h = (h, a.1)
all_set P (x ∷ xs) (suc i) y a h = (a.0, all_set P xs i y a.1 h)

-- it stands from its separator on and below all later ones
pub parted_set : (i : ℕ) (ls : List Separator) (ks : List Shape) (k : Shape) → AreParted ls ks → i < length ls →
    ((d : Separator) → NoneBelow (separator_place (get_or ls i d)) k.entries) →
    AllByRecursion (λ m. AllBelow (separator_place m) k.entries) (drop (suc i) ls) → AreParted ls (set ks i k)
parted_set i [] ks k a lt own later = absurd (omega arith)
parted_set i (l ∷ ls) [] k a lt own later = absurd (omega (arith, a))
parted_set zero (l ∷ ls) (c ∷ ks) k a lt own later = (own l, later, a.2)
parted_set (suc i) (l ∷ ls) (c ∷ ks) k a lt own later = (a.0, a.1, parted_set i ls ks k a.2 (omega arith) own later)

-- the subtree has these separators and children now, and its entries are edited
pub record IsEdited (s : Shape) (ls : List Separator) (ks : List Shape) (rk : ℕ) (edit : List Entry → List Entry) : Type
    0 where
  pub inner : IsInner ls ks rk
  pub entries : all_entries ks ≡ edit s.entries
  pub depth : depth_of ks ≡ s.depth
  pub rooms : KeepsRoom s (inner_shape ks)

module _ {s : Shape} {ls : List Separator} {ks : List Shape} {rk : ℕ} (node : IsOver s ls ks rk) (i : ℕ) (k : Shape)
    (within : i < length ks) (here : k ≡ get_or ks i k) where
  pub some_there : 1 < length ks → 0 < length k.entries
  some_there more = subst (λ (t : Shape). 0 < length t.entries) (sym here)
      (AllByRecursion-at (λ (j : Shape). 0 < length j.entries) ks i k (node.inner.children.filled more) within)

  pub with_child : (edit : List Entry → List Entry) (k' : Shape) → k'.depth ≡ k.depth → AreParted ls (set ks i k') →
      all_entries (set ks i k') ≡ edit (all_entries ks) → IsRising (edit (all_entries ks)) → KeepsRoom k k' →
      (1 < length ks → 0 < length k'.entries) → IsEdited s ls (set ks i k') rk edit
  with_child edit k' deep parted entries rising keeps some =
      let same = length-set ks i k' in let c = node.inner.children in
      let level : AllByRecursion (λ (j : Shape). j.depth + 1 ≡ depth_of ks) (set ks i k') =
      all_set (λ (j : Shape). j.depth + 1 ≡ depth_of ks) ks i k' c.level
      (omega (arith, one_below ls ks rk node.inner i k within here, deep)) in
      record {
        inner = inner_with (depth_of ks) ls (set ks i k') ls (set ks i k') rk refl refl (record {
          level = level;
          filled = (λ more. all_set (λ (j : Shape). 0 < length j.entries) ks i k'
              (c.filled (omega (arith, more, same))) (some (omega (arith, more, same))));
          parted = parted;
          roomed = all_set (λ (j : Shape). IsRoomed j) ks i k' c.roomed keeps.have;
          rising = subst IsRising (sym entries) rising;
        }) (omega (arith, within, same)) (omega (arith, node.inner.most, same)) node.inner.room;
        entries = entries ∙ sym (ap (λ (t : Shape). edit t.entries) node.seen);
        depth = depth_level (depth_of ks) (set ks i k') (omega (arith, within, same)) level ∙
            sym (ap (λ (t : Shape). t.depth) node.seen);
        rooms = subst (λ (t : Shape). KeepsRoom t (inner_shape (set ks i k'))) (sym node.seen)
            (keeps_set ks i k c.rising c.roomed within here k' keeps);
      }
