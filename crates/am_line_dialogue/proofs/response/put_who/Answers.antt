use Rattle.std.proofs.Common.{ℕ, List, [], ◌∷◌, ◌++◌, append_assoc, sym, subst, ◌∙◌, rules}
use Rattle.am_line_sink.specs.SinkWrites.{Wrote}
use Rattle.am_line_sink.proofs.Writes.{wrote_then, wrote_torn}
use Rattle.am_line_dialogue.specs.Responses.{sessions_words}
use Rattle.am_line_dialogue.proofs.WhoTexts.{in_pieces}
use Rattle.am_line_dialogue.proofs.response.put_who.Goals as goal

pub returns-in_err-give_all-clause-wrote : goal.returns-in_err-give_all-clause-wrote
returns-in_err-give_all-clause-wrote g c =
    let head = c.as_slice.result.now in
    let texts = sessions_words c.args.sessions.now in
    let pieces = in_pieces c.args.sessions.now head c.new.result (c.as_slice.ensures ∙ c.then_number-head.ensures.text)
    c.new.ensures in
    wrote_torn (texts ++ 10 ∷ []) c.from_residual.result (search rules)
    (sym (append_assoc head texts (10 ∷ [])) ∙ pieces) c.in_err-give_all.ensures.wrote

pub returns-in_err-put_all-clause-wrote : goal.returns-in_err-put_all-clause-wrote
returns-in_err-put_all-clause-wrote g c =
    let pieces = in_pieces c.args.sessions.now c.as_slice.result.now c.new.result
    (c.as_slice.ensures ∙ c.then_number-head.ensures.text) c.new.ensures in
    wrote_torn (10 ∷ []) c.from_residual-in_err-put_all.result (search rules) pieces
    (wrote_then c.in_ok-give_all.ensures.wrote c.in_err-put_all.ensures)

pub returns-clause-wrote : goal.returns-clause-wrote
returns-clause-wrote g c =
    let pieces = in_pieces c.args.sessions.now c.as_slice.result.now c.new.result
    (c.as_slice.ensures ∙ c.then_number-head.ensures.text) c.new.ensures in
    subst (λ (text : List ℕ). Wrote g.K.Sink.holds g.K.Sink.failures c.args.sink.now text c.give_all-2.result
    c.give_all-2.new.sink) pieces
    (wrote_then (wrote_then c.in_ok-give_all.ensures.wrote c.in_ok-put_all.ensures) c.give_all-2.ensures.wrote)
