use Rattle.std.proofs.Common.{◌≡◌, ℕ, List, false, get_or, take, IfSome, IfNone, sym, subst, arith}
use Rattle.std.specs.BinaryHeap.{heap_items}
use Rattle.std.proofs.lemmas.List.{get_or_default}
use Rattle.am_index_parts.specs.Catalogs.{is_one_of, AllStandIn}
use Rattle.am_store_scan.specs.Heads.{IsFirstHead, HasNoneLive}
use Rattle.am_store_scan.proofs.GatheredHeads.{AreHeadsOf, none_yet, not_yet, one_more_part, passes_part, takes_head}
use Rattle.am_store_scan.proofs.GatheredHeads.{has_all, all_taken}
use Rattle.am_store_scan.proofs.heads.heads_of.Goals as goal
use Rattle.am_store_scan.proofs.heads.heads_of.Goals.{in-Some+in_ok-push, in_default}

pub loop-at-init : goal.loop-at-init
loop-at-init g c = none_yet g.D.Direction.is_back c.args.parts.now.entries c.args.range
    (heap_items c.new-heads.result) c.new-heads.ensures.items c.new-heads.ensures.heap_order

pub loop-at-preserved : goal.loop-at-preserved
loop-at-preserved g c =
    let back = g.D.Direction.is_back in
    let es = c.args.parts.now.entries in
    let ps : List ℕ = c.args.sources.now in
    let at = c.loop-at.at in
    let part : ℕ = get_or ps at 0 in
    let here : part ≡ get_or ps at part = get_or_default ps at 0 part c.loop-at-test.true in
    subst (λ (l : List ℕ). AreHeadsOf back es c.args.range l (heap_items c.match-first.heads))
    (sym (one_more_part ps at part c.loop-at-test.true here))
    (elim c.match-first.branch [
      | in-Some+in_ok-push w ↦ rw w.heads-is (takes_head back c.loop-at.invariant part
          (subst (λ (p : ℕ). is_one_of (take at ps) p ≡ false) (sym here) (not_yet ps at part c.requires.sources.rising
          c.loop-at-test.true)) w.in-Some.head
          (subst (λ o. IfSome o (IsFirstHead back es c.args.range part)) w.in-Some.is c.in_ok-first.ensures.some)
          w.in_ok-push.ensures.permutation w.in_ok-push.ensures.heap_order)
      | in_default w ↦ rw w.heads-is (passes_part back c.loop-at.invariant part
          (subst (λ o. IfNone o (HasNoneLive es c.args.range part)) w.in_default.is c.in_ok-first.ensures.none))
    ])

pub returns : goal.returns
returns g c =
    let back = g.D.Direction.is_back in
    let ps : List ℕ = c.args.sources.now in
    has_all back c.loop-at.invariant (subst (AllStandIn c.args.parts.now.entries c.args.range)
    (sym (all_taken ps c.loop-at.at (omega (arith, c.loop-at-test.false, c.loop-at.auto.at-end))))
    c.requires.sources.every)
