use Rattle.std.proofs.Common.{◌≡◌, List, length, drop, option_copied, sym, ap, ◌∙◌, subst}
use Rattle.std.proofs.Common.{add-one, arith}
use Rattle.std.proofs.lemmas.List.{drop-drop}
use Rattle.std.specs.Prelude.{true}
use Rattle.std.specs.List.{AllByRecursion}
use Rattle.am_index.proofs.Searches.{whole_rest}
use Rattle.am_index_btree.specs.declared.read.Wanted.TheVariants.{Any}
use Rattle.am_index_btree.specs.Seek.{first_wanted, is_onward}
use Rattle.am_index_btree.specs.Shape.{Shape}
use Rattle.am_index_btree.specs.Nodes.{all_entries, depth_of}
use Rattle.am_index_btree.proofs.Inner.{over}
use Rattle.am_index_btree.proofs.Seeks.{all_onward}
use Rattle.am_index_btree.proofs.ChildWalks.{child_within, search_from, search_here, search_on, search_ends}
use Rattle.am_index_btree.proofs.node.Subtree.+seek.Goals as goal

pub child_from-requires : goal.child_from-requires
child_from-requires t c = (over c.in-Inner.is c.self.invariant c.self.view_is).asked

pub offset_bounds-deref-child_from : goal.offset_bounds-deref-child_from
offset_bounds-deref-child_from t c =
    let node = over c.in-Inner.is c.self.invariant c.self.view_is in
    let within = child_within node (option_copied c.args.from) _ c.child_from.ensures in
    omega (arith, within, node.inner.most)

pub slice_bounds-child-items-count : goal.slice_bounds-child-items-count
slice_bounds-child-items-count t c =
    let node = over c.in-Inner.is c.self.invariant c.self.view_is in
    let within = child_within node (option_copied c.args.from) _ c.child_from.ensures in
    omega (arith, within, ap length c.deref.ensures.value)

pub slice_bounds-child-items-start : goal.slice_bounds-child-items-start
slice_bounds-child-items-start t c =
    let node = over c.in-Inner.is c.self.invariant c.self.view_is in
    let within = child_within node (option_copied c.args.from) _ c.child_from.ensures in
    omega (arith, within, ap length c.deref.ensures.value)

pub loop-child-init : goal.loop-child-init
loop-child-init t c =
    let node = over c.in-Inner.is c.self.invariant c.self.view_is in
    let ks = c.in-Inner.children.items in let at = c.child_from.result in let from = option_copied c.args.from in
    let f = search_from Any (depth_of ks) c.in-Inner.separators ks node.inner.children from at
    c.child_from.ensures in
    let rest = whole_rest at c.deref.result.now ∙ ap (drop at) c.deref.ensures.value in
    record {
      same = ap (λ (l : List Shape). first_wanted Any from (all_entries l)) rest ∙ f.0 ∙
          sym (ap (λ (s : Shape). first_wanted Any from s.entries) node.seen);
      behind = subst (λ (l : List Shape). AllByRecursion (λ e. is_onward from e ≡ true) (all_entries l))
          (sym (ap (drop 1) rest ∙ drop-drop 1 at ks ∙ ap (λ n. drop n ks) (add-one at))) f.1;
    }

pub returns-in-Some-clause-found : goal.returns-in-Some-clause-found
returns-in-Some-clause-found t c =
    search_here Any (option_copied c.loop-child.from) _ c.loop-child.child-index c.child-item.result
    c.loop-child-test.true c.child-item.is c.in-Some.entry c.in-Some.ensures.found ∙ c.loop-child.invariant.same

pub loop-child-preserved : goal.loop-child-preserved
loop-child-preserved t c = record {
  same = search_on Any (option_copied c.loop-child.from) _ c.loop-child.child-index c.child-item.result
      c.loop-child-test.true c.child-item.is c.in_default.ensures.found c.loop-child.invariant.behind ∙
      c.loop-child.invariant.same;
  behind = all_onward _;
}

pub returns-after-loop-child-clause-found : goal.returns-after-loop-child-clause-found
returns-after-loop-child-clause-found t c = search_ends Any (option_copied c.loop-child.from) _
    c.loop-child.child-index c.loop-child-test.false ∙ c.loop-child.invariant.same
