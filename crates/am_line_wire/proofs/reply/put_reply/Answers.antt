use Rattle.std.proofs.Common.{ℕ, List, [], ◌∷◌, ◌++◌, append_assoc, refl, sym, ap, subst, ◌∙◌, rules}
use Rattle.am_line_sink.specs.SinkWrites.{Wrote}
use Rattle.am_line_sink.proofs.Writes.{wrote_then, wrote_torn}
use Rattle.am_line_wire.specs.Replies.{rows_words}
use Rattle.am_line_wire.proofs.RowTexts.{in_pieces}
use Rattle.am_line_wire.proofs.reply.put_reply.Goals as goal

pub returns-in_err-give_all-in-Rows-clause-wrote : goal.returns-in_err-give_all-in-Rows-clause-wrote
returns-in_err-give_all-in-Rows-clause-wrote g c =
    let head = c.as_slice.result.now in
    let texts = rows_words c.in-Rows.rows in
    let pieces = in_pieces c.args.reply.now c.in-Rows.rows head texts c.in-Rows.is
    (c.as_slice.ensures ∙ c.head_of.ensures.words) refl in
    wrote_torn (texts ++ 10 ∷ []) c.from_residual.result (search rules)
    (sym (append_assoc head texts (10 ∷ [])) ∙ pieces) c.in_err-give_all-in-Rows.ensures.wrote

pub returns-in_err-put_rows-in-Rows-clause-wrote : goal.returns-in_err-put_rows-in-Rows-clause-wrote
returns-in_err-put_rows-in-Rows-clause-wrote g c =
    let pieces = in_pieces c.args.reply.now c.in-Rows.rows c.as_slice.result.now
    (rows_words c.as_slice-in-Rows.result.now) c.in-Rows.is (c.as_slice.ensures ∙ c.head_of.ensures.words)
    (ap rows_words c.as_slice-in-Rows.ensures) in
    wrote_torn (10 ∷ []) c.from_residual-in_err-put_rows-in-Rows.result (search rules) pieces
    (wrote_then c.in_ok-give_all-in-Rows.ensures.wrote c.in_err-put_rows-in-Rows.ensures)

pub returns-in_ok-put_rows-in-Rows-clause-wrote : goal.returns-in_ok-put_rows-in-Rows-clause-wrote
returns-in_ok-put_rows-in-Rows-clause-wrote g c =
    let pieces = in_pieces c.args.reply.now c.in-Rows.rows c.as_slice.result.now
    (rows_words c.as_slice-in-Rows.result.now) c.in-Rows.is (c.as_slice.ensures ∙ c.head_of.ensures.words)
    (ap rows_words c.as_slice-in-Rows.ensures) in
    subst (λ (text : List ℕ). Wrote g.K.Sink.holds g.K.Sink.failures c.args.sink.now text c.give_all-in-Rows.result
    c.give_all-in-Rows.new.sink) pieces
    (wrote_then (wrote_then c.in_ok-give_all-in-Rows.ensures.wrote c.in_ok-put_rows-in-Rows.ensures)
    c.give_all-in-Rows.ensures.wrote)
