use Rattle.std.proofs.Common.{◌≡◌, ◌+◌, ◌<◌, ℕ, List, ◌++◌, length, take, drop, get_or, None, Ok, Err, sym, ap, subst}
use Rattle.std.proofs.Common.{◌∙◌}
use Rattle.std.proofs.Common.{arith, rules}
use Rattle.am_line_sink.specs.SinkWrites.{Wrote}
use Rattle.am_line_sink.proofs.Writes.{wrote_then, wrote_torn}
use Rattle.am_line_dialogue.specs.Responses.{told_words, sessions_words}
use Rattle.am_line_dialogue.specs.declared.told_sessions.ToldSession.{ToldSession}
use Rattle.am_line_dialogue.specs.declared.told_sessions.Standing.TheVariants.{Free}
use Rattle.am_line_dialogue.proofs.WhoTexts.{sessions_words-more, around_told}
use Rattle.am_line_dialogue.proofs.response.put_all.Goals as goal

nobody : ToldSession
nobody = record { session = 0; tx = None; seconds = 0; standing = Free }

pub returns-in_err-give_all : goal.returns-in_err-give_all
unfolding nobody
returns-in_err-give_all g c =
    let sessions = c.args.sessions.now in
    let i = c.loop-session.session-index in
    let inside : i < length sessions = omega arith in
    let words : c.as_slice.result.now ≡ told_words (get_or sessions i nobody) = c.as_slice.ensures ∙
    c.told_words.ensures in
    let rest = sessions_words (drop (i + 1) sessions) in
    wrote_torn rest c.from_residual.result (search rules)
    (ap (λ (text : List ℕ). (sessions_words (take i sessions) ++ text) ++ rest) words ∙
    around_told sessions i nobody inside)
    (wrote_then {r = Err c.in_err-give_all.field-0.0} c.loop-session.invariant c.in_err-give_all.ensures.wrote)

pub loop-session-preserved : goal.loop-session-preserved
unfolding nobody
loop-session-preserved g c =
    let sessions = c.args.sessions.now in
    let i = c.loop-session.session-index in
    let inside : i < length sessions = omega arith in
    let words : c.as_slice.result.now ≡ told_words (get_or sessions i nobody) = c.as_slice.ensures ∙
    c.told_words.ensures in
    subst (λ (text : List ℕ). Wrote g.K.Sink.holds g.K.Sink.failures c.args.sink.now text (Ok tt) c.give_all.new.sink)
    (ap (λ (text : List ℕ). sessions_words (take i sessions) ++ text) words ∙
    sym (sessions_words-more sessions i nobody inside))
    (wrote_then {r = Ok tt} c.loop-session.invariant c.in_ok-give_all.ensures.wrote)
