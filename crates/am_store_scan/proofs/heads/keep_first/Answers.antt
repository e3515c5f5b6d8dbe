use Rattle.std.proofs.Common.{◌≡◌, ◌∷◌, false, Some, sym, ap, ◌∙◌, subst, rules}
use Rattle.std.specs.Ordering.{is_le}
use Rattle.std.specs.List.Sorted.{IsPermutation}
use Rattle.std.specs.BinaryHeap.{heap_items}
use Rattle.std.specs.BinaryHeap.PeekMut.{peek_mut_top, peek_mut_rest}
use Rattle.am_store_scan.specs.Heads.{Stand, head_cmp}
use Rattle.am_store_scan.specs.Cursors.{IsFirstBeside}
use Rattle.am_store_scan.proofs.FirstHeads.{not_below_others, same_top, changed_places, bound_of_both}
use Rattle.am_store_scan.proofs.heads.keep_first.Goals as goal

pub returns-then-le-clause-first : goal.returns-then-le-clause-first
returns-then-le-clause-first g c = record {
  heap = c.requires;
  greatest = not_below_others g.D.Direction.is_back c.args.head.now c.in-Some.other.now (heap_items c.args.others.now)
      (sym c.le.ensures ∙ c.if-le.true) (c.in-Some.ensures.greatest c.requires);
}

pub returns-clause-same : goal.returns-clause-same
returns-clause-same g c =
    let head = c.args.head.now in
    let old = heap_items c.args.others.now in
    let new = heap_items c.drop-first.new.self.0 in
    let top = peek_mut_top c.in-Some-peek_mut.first in
    let rest = peek_mut_rest c.in-Some-peek_mut.first in
    let pushed = subst (λ (h : Stand). IsPermutation (h ∷ rest) new) c.swap.ensures.x_after
    (c.drop-first.ensures.permutation (search rules)) in
    let changed = subst (λ (h : Stand). IsPermutation (head ∷ old) (h ∷ new))
    (sym (c.swap.ensures.y_after ∙ c.deref_mut.ensures.value))
    (changed_places head top old rest new c.in-Some-peek_mut.ensures.permutation pushed) in
    search rules

pub returns-clause-first : goal.returns-clause-first
returns-clause-first g c =
    let back = g.D.Direction.is_back in
    let head = c.args.head.now in
    let old = heap_items c.args.others.now in
    let new = heap_items c.drop-first.new.self.0 in
    let top = peek_mut_top c.in-Some-peek_mut.first in
    let rest = peek_mut_rest c.in-Some-peek_mut.first in
    let seen : top ≡ c.in-Some.other.now = same_top old c.in-Some.other.now top c.in-Some.ensures.item.3.0
    c.in-Some.ensures.lookup c.in-Some-peek_mut.ensures.top in
    let above : is_le (head_cmp back top head) ≡ false = ap (λ (h : Stand). is_le (head_cmp back h head)) seen ∙
    sym c.le.ensures ∙ c.if-le.false in
    let pushed = subst (λ (h : Stand). IsPermutation (h ∷ rest) new) c.swap.ensures.x_after
    (c.drop-first.ensures.permutation (search rules)) in
    let beside : IsFirstBeside back (Some top) new = record {
      heap = c.drop-first.ensures.heap_order (search rules) (c.in-Some-peek_mut.ensures.heap_order c.requires);
      greatest = bound_of_both back head top old rest new above (c.in-Some-peek_mut.ensures.greatest c.requires)
          c.in-Some-peek_mut.ensures.permutation pushed;
    } in
    let changed = subst (λ (h : Stand). IsFirstBeside back (Some h) new)
    (sym (c.swap.ensures.y_after ∙ c.deref_mut.ensures.value)) beside in
    search rules
