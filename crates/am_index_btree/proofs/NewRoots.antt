-- A new root over the two halves of the old one.
use Rattle.std.proofs.Common.{◌≡◌, ◌≢◌, ℕ, ◌+◌, ◌≤◌, List, [], ◌∷◌, ◌++◌, sym, ap, ◌∙◌, subst, append-nil, arith}
use Rattle.std.proofs.lemmas.Bool.{true≢false}
use Rattle.std.specs.Ordering.{is_lt}
use Rattle.std.specs.declared.cmp.Ordering.TheVariants.{Less}
use Rattle.am_record.specs.OrderedKey.{OrderedKey}
use Rattle.am_record.specs.declared.entry.Entry.{Entry}
use Rattle.am_record.specs.OrderedKey.{IsLeast, key_cmp}
use Rattle.am_record.specs.EntryOrder.{Place, place_of, place_cmp, place_cmp-part, place_cmp-same}
use Rattle.am_index.specs.Entries.{IsRising}
use Rattle.am_index.specs.Places.{NoneBelow}
use Rattle.am_index_btree.specs.declared.separator.Separator.{Separator}
use Rattle.am_index_btree.specs.declared.node.Node.{Node}
use Rattle.am_index_btree.specs.declared.node.Node.TheVariants.{Leaf, Inner}
use Rattle.am_index_btree.specs.declared.insert.Split.{Split}
use Rattle.am_index_btree.specs.Shape.{Shape}
use Rattle.am_index_btree.specs.Rooms.{IsRoomed}
use Rattle.am_index_btree.specs.Nodes.{all_entries, shape_of, IsTree, AreFilledChildren}
use Rattle.am_index_btree.specs.InsertResults.{HasSplit}

pub tree_rises : (n : Node) → IsTree n → IsRising (shape_of n).entries
tree_rises (Leaf l) t = t.1.0
tree_rises (Inner separators children marks) t = t.0.children.rising

-- no place is below the least key of partition 0
none_under : (k : OrderedKey) → IsLeast k → (a : Place) → place_cmp a (0, k) ≢ Less
none_under k h a less =
    let low : a.0 ≤ 0 = place_cmp-part a (0, k) (λ g. absurd (cc)) in
    let first : a.0 ≡ 0 = omega (arith, low) in
    let keys : key_cmp a.1 k ≡ Less = sym (place_cmp-same 0 a.1 k) ∙ ap (λ (n : ℕ). place_cmp (n, a.1) (0, k))
    (sym first) ∙ less in
    true≢false (sym (ap is_lt keys) ∙ h a.1)

least_below : (k : OrderedKey) → IsLeast k → (es : List Entry) → NoneBelow (0, k) es
least_below k h [] = tt
least_below k h (e ∷ es) = (none_under k h (place_of e), least_below k h es)

module _ (k : OrderedKey) (least : IsLeast k) (d : ℕ) (all : List Entry) (left : Shape) (s : Split)
    (h : HasSplit d all left s) (rising : IsRising all) (roomed : IsRoomed left) (right_roomed : IsRoomed s.right) where
  abbrev low : Separator
  low = record { part = 0; key = k }

  joined : all_entries (left ∷ s.right ∷ []) ≡ all
  joined = ap (λ es. left.entries ++ es) (append-nil s.right.entries) ∙ h.entries

  pub root_children : AreFilledChildren (d + 1) (low ∷ s.separator ∷ []) (left ∷ s.right ∷ [])
  root_children = record {
    level = (ap (λ (n : ℕ). n + 1) h.depth, (ap (λ (n : ℕ). n + 1) h.right_depth, tt));
    filled = (h.left_some, (h.right_some, tt));
    parted = (least_below k least left.entries, (h.below, tt), (h.others, tt, tt));
    roomed = (roomed, (right_roomed, tt));
    rising = subst IsRising (sym joined) rising;
  }
