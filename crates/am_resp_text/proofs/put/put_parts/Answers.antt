use Rattle.std.proofs.Common.{◌+◌, ◌<◌, ℕ, List, length, drop, Ok, Err, sym, subst, arith}
use Rattle.std.proofs.Common.{rules}
use Rattle.am_line_sink.specs.SinkWrites.{Wrote}
use Rattle.am_line_sink.proofs.Writes.{wrote_then, wrote_torn}
use Rattle.am_resp_text.specs.Answers.{parts_text}
use Rattle.am_resp_text.proofs.PartTexts.{parts_text-more, around_part}
use Rattle.am_resp_text.proofs.put.put_parts.Goals as goal

pub returns-in_err-put_part : goal.returns-in_err-put_part
returns-in_err-put_part g c =
    let parts = c.args.parts.now in
    let i = c.loop-part.part-index in
    let inside : i < length parts = omega arith in
    let rest = parts_text (drop (i + 1) parts) in
    wrote_torn rest c.from_residual.result (search rules)
    (around_part parts i c.part-item.result inside c.part-item.is)
    (wrote_then {r = Err c.in_err-put_part.field-0.0} c.loop-part.invariant c.in_err-put_part.ensures)

pub loop-part-preserved : goal.loop-part-preserved
loop-part-preserved g c =
    let parts = c.args.parts.now in
    let i = c.loop-part.part-index in
    let inside : i < length parts = omega arith in
    subst (λ (text : List ℕ). Wrote g.K.Sink.holds g.K.Sink.failures c.args.sink.now text (Ok tt) c.put_part.new.sink)
    (sym (parts_text-more parts i c.part-item.result inside c.part-item.is))
    (wrote_then {r = Ok tt} c.loop-part.invariant c.in_ok-put_part.ensures)
