use Rattle.std.proofs.Common.{◌≡◌, ◌+◌, ◌<◌, ℕ, List, ◌++◌, length, take, drop, Ok, Err, sym, ap, subst, ◌∙◌, arith}
use Rattle.std.proofs.Common.{rules}
use Rattle.am_line_sink.specs.SinkWrites.{Wrote}
use Rattle.am_line_sink.proofs.Writes.{wrote_then, wrote_torn}
use Rattle.am_line_wire.specs.Replies.{row_words, rows_words}
use Rattle.am_line_wire.proofs.RowTexts.{rows_words-more, around_row}
use Rattle.am_line_wire.proofs.reply.put_rows.Goals as goal

pub returns-in_err-give_all : goal.returns-in_err-give_all
returns-in_err-give_all g c =
    let rows = c.args.rows.now in
    let i = c.loop-row.row-index in
    let inside : i < length rows = omega arith in
    let words : c.as_slice.result.now ≡ row_words c.row-item.result = c.as_slice.ensures ∙ c.row_words.ensures in
    let rest = rows_words (drop (i + 1) rows) in
    wrote_torn rest c.from_residual.result (search rules)
    (ap (λ (text : List ℕ). (rows_words (take i rows) ++ text) ++ rest) words ∙
    around_row rows i c.row-item.result inside c.row-item.is)
    (wrote_then {r = Err c.in_err-give_all.field-0.0} c.loop-row.invariant c.in_err-give_all.ensures.wrote)

pub loop-row-preserved : goal.loop-row-preserved
loop-row-preserved g c =
    let rows = c.args.rows.now in
    let i = c.loop-row.row-index in
    let inside : i < length rows = omega arith in
    let words : c.as_slice.result.now ≡ row_words c.row-item.result = c.as_slice.ensures ∙ c.row_words.ensures in
    subst (λ (text : List ℕ). Wrote g.K.Sink.holds g.K.Sink.failures c.args.sink.now text (Ok tt) c.give_all.new.sink)
    (ap (λ (text : List ℕ). rows_words (take i rows) ++ text) words ∙
    sym (rows_words-more rows i c.row-item.result inside c.row-item.is))
    (wrote_then {r = Ok tt} c.loop-row.invariant c.in_ok-give_all.ensures.wrote)
