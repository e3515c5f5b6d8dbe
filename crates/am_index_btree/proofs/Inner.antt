-- An inner node and one of its children.
use Rattle.std.proofs.Common.{◌≡◌, ℕ, ◌+◌, ◌<◌, List, length, get_or, vec_capacity, refl, sym, ap, ◌∙◌, subst, arith}
use Rattle.std.specs.Prelude.{Vec}
use Rattle.std.specs.declared.alloc.Global.{Global}
use Rattle.am_record.proofs.Lists.{AllByRecursion-at}
use Rattle.am_index_btree.specs.declared.separator.Separator.{Separator}
use Rattle.am_index_btree.specs.Shape.{Shape}
use Rattle.am_index_btree.specs.Separators.{SeparatorsRise}
use Rattle.am_index_btree.specs.declared.node.Node.{Node}
use Rattle.am_index_btree.specs.declared.node.Node.TheVariants.{Inner}
use Rattle.am_index_btree.specs.Nodes.{depth_of, inner_shape, shape_of, IsInner, IsTree}
use Rattle.am_index_btree.proofs.ChildHalves.{parted_lengths, children_rise}

-- an inner node, and the index of the child for a place
module _ (separators : List Separator) (ks : List Shape) (rk : ℕ) (inner : IsInner separators ks rk) where
  pub as_many : length separators ≡ length ks
  as_many = parted_lengths separators ks inner.children.parted

  pub they_rise : SeparatorsRise separators
  they_rise = children_rise separators ks inner.children.parted inner.children.filled

  pub some_separators : 0 < length separators
  some_separators = omega (arith, as_many, inner.some)

  module _ (i : ℕ) (k : Shape) (within : i < length ks) (here : k ≡ get_or ks i k) where
    pub one_below : k.depth + 1 ≡ depth_of ks
    one_below = subst (λ (s : Shape). s.depth + 1 ≡ depth_of ks) (sym here)
        (AllByRecursion-at (λ (j : Shape). j.depth + 1 ≡ depth_of ks) ks i k inner.children.level within)

-- a subtree whose topmost node is an inner one: what its methods ask of the node
pub record IsOver (s : Shape) (separators : List Separator) (ks : List Shape) (rk : ℕ) : Type 0 where
  pub seen : s ≡ inner_shape ks
  pub inner : IsInner separators ks rk
  pub as_many : length separators ≡ length ks
  pub asked : record { rising : SeparatorsRise separators; some : 0 < length separators }
  pub falls : (i : ℕ) (k : Shape) → i < length ks → k ≡ get_or ks i k → k.depth < s.depth

pub over_children : {separators : List Separator} {ks : List Shape} {rk : ℕ} → IsInner separators ks rk →
    IsOver (inner_shape ks) separators ks rk
over_children {separators} {ks} {rk} inner = record {
  seen = refl;
  inner = inner;
  as_many = as_many separators ks rk inner;
  asked = record { rising = they_rise separators ks rk inner; some = some_separators separators ks rk inner };
  falls = λ i k within here. omega (arith, one_below separators ks rk inner i k within here);
}

pub over : {n : Node} {s : Shape} {separators : List Separator} {ks : Vec Shape Global} {marks : ℕ} →
    n ≡ Inner separators ks marks → IsTree n → shape_of n ≡ s → IsOver s separators ks.items (vec_capacity ks)
over {n} {s} {separators} {ks} is tree view =
    subst (λ (t : Shape). IsOver t separators ks.items (vec_capacity ks)) (sym (ap shape_of is) ∙ view)
    (over_children (subst IsTree is tree).0)
