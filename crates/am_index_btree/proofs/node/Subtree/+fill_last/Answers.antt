use Rattle.std.proofs.Common.{◌≡◌, ◌-◌, ◌++◌, ℕ, suc, length, take, drop, sym, ap, ◌∙◌, subst, rules, arith}
use Rattle.am_index.specs.Entries.{IsRising}
use Rattle.am_index.specs.Runs.{run_entries}
use Rattle.am_index_leaf.specs.Ghosts.{has_ghost}
use Rattle.am_index_btree.specs.Shape.{Shape}
use Rattle.am_index_btree.specs.Rooms.{KeepsRoom}
use Rattle.am_index_btree.specs.Nodes.{shape_of, leaf_shape}
use Rattle.am_index_btree.proofs.ValueRooms.{leaf_keeps}
use Rattle.am_index_btree.proofs.Inner.{over}
use Rattle.am_index_btree.proofs.Marks.{marks_are, marks_same, live_behind}
use Rattle.am_index_btree.proofs.LeafFills.{front_rises}
use Rattle.am_index_btree.proofs.LastChild.{last_some, last_rises, last_filled}
use Rattle.am_index_btree.proofs.node.Subtree.+fill_last.Goals as goal
use Rattle.am_index_btree.proofs.node.Subtree.+fill_last.Goals.{in-Leaf, in-Inner}

pub fill_last-requires : goal.fill_last-requires
fill_last-requires g t c =
    let node = over c.in-Inner.is c.self.invariant c.self.view_is in let i : ℕ = c.len-last.result - 1 in
    let k = c.index_mut.result.now in let here = c.index_mut.ensures.value in
    let last : suc i ≡ length c.in-Inner.children.items =
    omega (arith, c.len-last.ensures, c.in-Inner.children.ok.0, node.inner.some) in
    let falls = node.falls i k (omega (arith, last)) here in
    λ κs within. (
      search rules,
      (
        within,
        (
          c.requires.from,
          (
            last_some node i k last here _ c.requires.some c.requires.rising,
            last_rises node i k last here _ c.requires.some c.requires.rising,
          ),
        ),
      ),
    )

pub invariant_of-self : goal.invariant_of-self
invariant_of-self g t c =
    let left = drop c.args.from (g.S.RecordSource.records c.args.records.now) in
    elim c.match-self.branch [
      | in-Leaf w ↦
          let seen : c.args.self.now ≡ leaf_shape w.in-Leaf.leaf = sym c.self.view_is ∙ ap shape_of w.in-Leaf.is in
          let rising = subst (λ (s : Shape). IsRising (s.entries ++ run_entries c.args.part left)) seen
          c.requires.rising in
          rw w.self-inside-is (
            w.fill_leaf.ensures.most,
            (
              subst IsRising (sym w.fill_leaf.ensures.entries)
                  (front_rises c.args.part w.in-Leaf.leaf.entries left rising w.fill_leaf.result),
              w.fill_leaf.ensures.room,
            ),
          )
      | in-Inner w ↦
          let node = over w.in-Inner.is c.self.invariant c.self.view_is in let i : ℕ = w.len-last.result - 1 in
          let last : suc i ≡ length w.in-Inner.children.items =
          omega (arith, w.len-last.ensures, w.in-Inner.children.ok.0, node.inner.some) in
          let rising = front_rises c.args.part c.args.self.now.entries left c.requires.rising w.fill_last.result in
          let e = w.fill_last.ensures in
          let k = w.index_mut.result.now in let here = w.index_mut.ensures.value in
          rw w.self-inside-is (
            (last_filled node i k last here _ c.requires.some rising w.fill_last.new.self e.depth e.entries
                e.rooms).inner,
            marks_are w.in-Inner.is c.self.invariant ∙ marks_same w.in-Inner.children.items i k w.fill_last.new.self
                here
                (ap has_ghost e.entries ∙ live_behind k.entries c.args.part (take w.fill_last.result left)),
          )
    ]

pub returns : goal.returns
returns g t c =
    let left = drop c.args.from (g.S.RecordSource.records c.args.records.now) in
    elim c.match-self.branch [
      | in-Leaf w ↦
          let seen : c.args.self.now ≡ leaf_shape w.in-Leaf.leaf = sym c.self.view_is ∙ ap shape_of w.in-Leaf.is in
          let e = w.fill_leaf.ensures in
          rw (w.result-is, w.self-inside-is) (record {
            most = e.count;
            entries = e.entries ∙
                sym (ap (λ (s : Shape). s.entries ++ run_entries c.args.part (take w.fill_leaf.result left)) seen);
            depth = sym (ap (λ (s : Shape). s.depth) seen);
            rooms = subst (λ (s : Shape). KeepsRoom s (leaf_shape w.fill_leaf.new.leaf)) (sym seen)
                (leaf_keeps w.in-Leaf.leaf w.fill_leaf.new.leaf e.room e.no_less_room);
          })
      | in-Inner w ↦
          let node = over w.in-Inner.is c.self.invariant c.self.view_is in let i : ℕ = w.len-last.result - 1 in
          let last : suc i ≡ length w.in-Inner.children.items =
          omega (arith, w.len-last.ensures, w.in-Inner.children.ok.0, node.inner.some) in
          let rising = front_rises c.args.part c.args.self.now.entries left c.requires.rising w.fill_last.result in
          let e = w.fill_last.ensures in
          let done = last_filled node i w.index_mut.result.now last w.index_mut.ensures.value _ c.requires.some rising
          w.fill_last.new.self e.depth e.entries e.rooms in
          rw (w.result-is, w.self-inside-is) (record {
            most = e.most;
            entries = done.entries;
            depth = done.depth;
            rooms = done.rooms;
          })
    ]
