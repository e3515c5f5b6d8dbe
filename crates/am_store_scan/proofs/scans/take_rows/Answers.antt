use Rattle.std.proofs.Common.{◌+◌, ◌++◌, [], ◌∷◌, ◌∙◌, refl, ap, arith}
use Rattle.am_record.specs.Plain.{Records}
use Rattle.am_store_scan.proofs.TakenRows.{one_more, enough, no_more, all_at_once}
use Rattle.am_store_scan.proofs.scans.take_rows.Goals as goal
use Rattle.am_store_scan.proofs.scans.take_rows.Goals.{else-loop-test}
use Rattle.am_store_scan.proofs.scans.take_rows.Goals.{then-loop-test+in_ok-copy_rest+else-branch+in_default}
use Rattle.am_store_scan.proofs.scans.take_rows.Goals.{then-loop-test+in_ok-copy_rest+then-branch}

pub returns : goal.returns
returns g c =
    elim c.loop-test.branch [
      | else-loop-test w ↦ rw w.rows-is (enough c.loop.invariant c.args.max
          (omega (arith, w.loop-test.false, c.loop.auto.counter-end)))
      | then-loop-test+in_ok-copy_rest+else-branch+in_default w ↦
          rw w.rows-is (w.in_ok-copy_rest.ensures.same w.if-branch.false ∙ no_more c.loop.invariant c.args.max
          c.loop.auto.counter-end w.next.ensures.record w.in_default.is)
      | then-loop-test+in_ok-copy_rest+then-branch w ↦ rw w.rows-is
          (all_at_once c.loop.invariant c.args.max (w.in_ok-copy_rest.ensures.copied w.if-branch.true))
    ]

pub loop-preserved : goal.loop-preserved
loop-preserved g c =
    one_more c.loop.invariant (c.loop.counter + 1) c.next.ensures.record c.in-Some.is c.next.ensures.rest
    (c.in_ok-push.ensures.items ∙ ap (λ (l : Records). l ++ c.in-Some.row ∷ [])
    (c.in_ok-copy_rest.ensures.same c.if-branch.false)) refl
