use Rattle.std.proofs.Common.{◌≡◌, ◌++◌, ◌<◌, ◌≤◌, length, take, sym, ap, ◌∙◌, arith}
use Rattle.std.proofs.lemmas.List.{drop_all}
use Rattle.std.proofs.lemmas.Bool.{eqb-true}
use Rattle.am_index_btree.specs.Shape.{Shape}
use Rattle.am_index_btree.specs.Seek.{all_such}
use Rattle.am_index_btree.specs.Nodes.{all_entries}
use Rattle.am_index_btree.proofs.Inner.{over}
use Rattle.am_index_btree.proofs.ChildWalks.{walk_on, walk_full, walk_out, read_from, read_next, nothing_left}
use Rattle.am_index_btree.proofs.node.Subtree.+read_on.Goals as goal
use Rattle.am_index_btree.proofs.node.Subtree.+read_on.Goals.{then-is_full-via-then-is_full}
use Rattle.am_index_btree.proofs.node.Subtree.+read_on.Goals.{then-is_full-via-else-is_full+then-get-part}

pub child_for-at-requires : goal.child_for-at-requires
child_for-at-requires t c = (over c.in-Inner.is c.self.invariant c.self.view_is).asked

pub loop-at-init : goal.loop-at-init
loop-at-init t c =
    let node = over c.in-Inner.is c.self.invariant c.self.view_is in
    record {
      fits = c.entries.ensures.fits;
      same = ap (λ es. take 16 (c.args.batch.now ++ es)) (read_from c.args.part c.args.key _ _ _ node.inner.children _
          c.child_for-at.ensures c.args.start);
    }

pub get-requires : goal.get-requires
get-requires t c =
    let node = over c.in-Inner.is c.self.invariant c.self.view_is in
    omega (arith, node.as_many, c.loop-at-test.true, c.len-at-end.ensures, c.in-Inner.children.ok.0)

pub returns-then-is_full-clause-read : goal.returns-then-is_full-clause-read
returns-then-is_full-clause-read t c =
    let node = over c.in-Inner.is c.self.invariant c.self.view_is in
    let taken : c.loop-at.batch ≡ take 16
    (c.args.batch.now ++ all_such c.args.start (all_entries c.in-Inner.children.items) c.args.part c.args.key) =
    elim c.then-is_full.branch [
      | then-is_full-via-then-is_full w ↦ walk_full c.loop-at.invariant
          (omega (arith, eqb-true _ _ (sym c.is_full.ensures.full ∙ w.if-is_full.true)))
      | then-is_full-via-else-is_full+then-get-part w ↦
          let within : c.loop-at.at < length c.in-Inner.separators =
          omega (arith, node.as_many, c.loop-at-test.true, c.len-at-end.ensures, c.in-Inner.children.ok.0) in
          walk_out c.loop-at.invariant (nothing_left c.args.part c.args.key c.args.start _ _ _ node.inner.children _
          w.get.result within w.get.ensures w.if-get-part.true)
    ] in
    taken ∙ ap (λ (s : Shape). take 16 (c.args.batch.now ++ all_such c.args.start s.entries c.args.part c.args.key))
    (sym node.seen)

pub loop-at-preserved : goal.loop-at-preserved
loop-at-preserved t c =
    let within : c.loop-at.at < length c.in-Inner.children.items =
    omega (arith, c.loop-at-test.true, c.len-at-end.ensures, c.in-Inner.children.ok.0) in
    walk_on c.loop-at.invariant _ _ _
    (read_next c.args.part c.args.key c.args.start _ c.loop-at.at c.index.result.now within c.index.ensures)
    c.read_on.ensures.read

pub returns-after-loop-at-clause-read : goal.returns-after-loop-at-clause-read
returns-after-loop-at-clause-read t c =
    let node = over c.in-Inner.is c.self.invariant c.self.view_is in let ks = c.in-Inner.children.items in
    let past : length ks ≤ c.loop-at.at =
    omega (arith, c.loop-at-test.false, c.len-at-end.ensures, c.in-Inner.children.ok.0) in
    walk_out c.loop-at.invariant (ap (λ xs. all_such c.args.start (all_entries xs) c.args.part c.args.key)
    (drop_all c.loop-at.at ks past)) ∙
    ap (λ (s : Shape). take 16 (c.args.batch.now ++ all_such c.args.start s.entries c.args.part c.args.key))
    (sym node.seen)
