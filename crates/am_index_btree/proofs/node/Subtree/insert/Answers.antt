use Rattle.std.proofs.Common.{◌≡◌, ◌+◌, [], ◌∷◌, vec_items, vec_capacity, sym, ap, ◌∙◌, subst, arith}
use Rattle.std.specs.List.{insert}
use Rattle.am_index.specs.Entries.{insert_entry, IsRising}
use Rattle.am_index_btree.specs.Shape.{Shape}
use Rattle.am_index_btree.specs.declared.separator.Separator.{Separator}
use Rattle.am_index_btree.specs.declared.node.Node.TheVariants.{Inner}
use Rattle.am_index_btree.specs.Ghosts.{marks_of}
use Rattle.am_index_btree.specs.Nodes.{shape_of}
use Rattle.am_index_btree.specs.InsertResults.{Grows}
use Rattle.am_index_btree.proofs.ChildHalves.{inner_from}
use Rattle.am_index_btree.proofs.ChildInserts.{rising_inserted}
use Rattle.am_index_btree.proofs.NewRoots.{tree_rises, root_children}
use Rattle.am_index_btree.proofs.node.Subtree.insert.Goals as goal

pub invariant_of-self : goal.invariant_of-self
invariant_of-self c =
    let x = c.args.entry.now in let old = c.args.self.now in let k = c.least.result in let s = c.in-Some.split in
    let left = c.insert_below.new.self in
    let rising : IsRising old.entries = subst (λ (o : Shape). IsRising o.entries) c.self.view_is
    (tree_rises c.self.inside.node c.self.invariant) in
    let h = (subst (λ g. Grows old left x 1 g) c.in-Some.is c.in_ok-split.ensures.ok).0 in
    let room = (subst (λ g. Grows old left x 1 g) c.in-Some.is c.in_ok-split.ensures.ok).1.1 in
    let all = root_children k c.least.ensures.least old.depth (insert_entry old.entries x) left s h
    (rising_inserted old.entries x rising c.requires) room.roomed room.right_roomed in
    let low : Separator = record { part = 0; key = k } in
    let there = shape_of c.replace-node.result in
    let same : there ≡ left = ap shape_of c.replace-node.ensures.value ∙ c.self-2.view_is in
    let spare = c.in-Some-pop.spare in
    let now : Inner c.in-Inner.separators c.in-Inner.children c.in-Inner.marks ≡ Inner spare.separators spare.children
    0 = sym c.in-Inner.is ∙ c.replace-node.ensures.after in
    let its_separators : c.in-Inner.separators ≡ spare.separators = cc now in
    let its_children : c.in-Inner.children ≡ spare.children = cc now in
    let separators = c.put-2.ensures ∙ ap (λ ls. insert ls 1 s.separator)
    (c.put.ensures ∙ ap (λ ls. insert ls 0 low) (its_separators ∙ spare.empty.0)) in
    let children = c.put-4.ensures.items ∙ ap (λ ks. insert ks 1 s.right)
    (c.put-3.ensures.items ∙ ap (λ ks. insert ks 0 there) (ap vec_items its_children ∙ spare.empty.1)) ∙
    ap (λ (l : Shape). l ∷ s.right ∷ []) same in (
      inner_from (old.depth + 1) (low ∷ s.separator ∷ []) (left ∷ s.right ∷ []) c.put-2.new.self c.put-4.new.v.items _
          separators children all (omega arith) (omega arith)
          (omega (arith, c.put-3.ensures.capacity, c.put-4.ensures.capacity, ap vec_capacity its_children, spare.room)),
      c.marks_of.ensures ∙ ap marks_of c.deref.ensures.value,
    )
