use Rattle.std.proofs.Common.{◌≡◌, ◌∙◌, ◌-◌, ◌<◌, ◌==◌, get_or, length, take, drop, ap, sym, arith, rules, true, suc}
use Rattle.am_program_audit.specs.Answers.{holds_lf}
use Rattle.am_program_audit.proofs.WholeLines.{run_at}
use Rattle.am_program_audit.proofs.answer.whole_run.Goals as goal

pub returns-then-text-end-eq10 : goal.returns-then-text-end-eq10
returns-then-text-end-eq10 c =
    let text = c.args.text.now in
    let i = c.bytes.end - 1 in
    let here : suc i ≡ c.bytes.end = omega (arith, c.bytes-test.true) in
    let less : i < length text = omega (arith, c.bytes.invariant.0, here) in
    let is : (get_or text i 0 == 10) ≡ true = search rules in
    ap (λ n. take n text) (sym here) ∙
    run_at text i less is (ap (λ n. holds_lf (drop n text)) here ∙ c.bytes.invariant.1)
