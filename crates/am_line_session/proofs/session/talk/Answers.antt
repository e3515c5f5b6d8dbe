use Rattle.std.proofs.Common.{◌≡◌, sym, ◌∙◌, refl, true, false, Bool, List, ℕ, subst, ◌++◌}
use Rattle.std.proofs.lemmas.Bool.{not-true, not-false}
use Rattle.am_line_source.specs.LineAnswers.{line_by}
use Rattle.am_line_source.specs.Lines.{TookLine}
use Rattle.am_line_session.specs.Heard.{MayHear}
use Rattle.am_line_session.proofs.SessionProgress.{talk_start, talk_more, talk_end, talk_quit, talk_torn, talk_last}
use Rattle.am_line_session.proofs.SessionProgress.{talk_failed, talk_itself, talk_ended}
use Rattle.am_line_session.proofs.HeardLines.{quit_heard, answered_heard, goes_on_behind, ended_behind, line_answered}
use Rattle.am_line_session.proofs.session.talk.Goals as goal

pub lines-init : goal.lines-init
lines-init g c = record {
  talks = talk_start g.S.AnsweredSource.comes g.K.Sink.holds g.B.Backend.means c.args.auto c.args.source.now
      c.args.sink.now (c.args.backend.now, c.args.session.now.staged) c.args.input.now c.requires.fresh;
  known = c.requires.active;
  sent = λ _. c.requires.sent;
  source_ok = refl;
  sink_ok = refl;
}

pub returns-in_default-clause-talked : goal.returns-in_default-clause-talked
returns-in_default-clause-talked g c = talk_failed g.S.AnsweredSource.comes g.K.Sink.holds g.B.Backend.means c.args.auto
    c.args.source.now c.lines.source c.next_line.new.source c.args.sink.now c.lines.sink
    (c.args.backend.now, c.args.session.now.staged) (c.lines.backend, c.lines.session.staged)
    (c.next_line.new.backend, c.next_line.new.session.staged) c.lines.input
    c.next_line.new.input c.lines.invariant.talks c.in_default.ensures.lapsed_at_failure c.in_default.ensures.part
    c.in_default.ensures.empty

pub returns-in_default-next-clause-talked : goal.returns-in_default-next-clause-talked
returns-in_default-next-clause-talked g c =
    let e = rw c.in_default-next.is at c.in-Ok.ensures.end in
    let waits = rw c.in_default-next.is at c.in-Ok.ensures.lapsed_at_end in
    talk_end g.S.AnsweredSource.comes g.K.Sink.holds g.B.Backend.means c.args.auto c.args.source.now c.lines.source
    c.next_line.new.source c.args.sink.now c.lines.sink (c.args.backend.now, c.args.session.now.staged)
    (c.lines.backend, c.lines.session.staged) (c.next_line.new.backend, c.next_line.new.session.staged) c.lines.input
    c.next_line.new.input c.lines.invariant.talks waits e.0 e.1

pub returns-then-is_ended-clause-talked : goal.returns-then-is_ended-clause-talked
returns-then-is_ended-clause-talked g c =
    let l = rw c.in-Some-next.is at c.in-Ok.ensures.line in
    let line = line_by c.in-Some-next.read.found.kind c.next_line.new.line in
    let late = c.in-Some-next.read.is_late in
    let waits = rw c.in-Some-next.is at c.in-Ok.ensures.waited in
    talk_ended g.S.AnsweredSource.comes g.K.Sink.holds g.B.Backend.means c.args.auto c.args.source.now c.lines.source
    c.next_line.new.source c.args.sink.now c.lines.sink (c.args.backend.now, c.args.session.now.staged)
    (c.lines.backend, c.lines.session.staged) c.lines.input c.next_line.new.input line
    c.in-Some-next.read.found.is_ended
    c.lines.invariant.talks l (c.next_line.new.backend, c.next_line.new.session.staged) (late, waits.0, waits.1)

pub returns-then-is_quit-clause-talked : goal.returns-then-is_quit-clause-talked
returns-then-is_quit-clause-talked g c =
    let l = rw c.in-Some-next.is at c.in-Ok.ensures.line in
    let line = line_by c.in-Some-next.read.found.kind c.next_line.new.line in
    let late = c.in-Some-next.read.is_late in
    let may : MayHear late line c.hear-heard.result =
    subst (λ (x : List ℕ). MayHear late (line_by c.in-Some-next.read.found.kind x) c.hear-heard.result)
    c.as_slice.ensures
    c.hear-heard.ensures in
    let waits = rw c.in-Some-next.is at c.in-Ok.ensures.waited in
    let q = quit_heard late line c.hear-heard.result may (sym c.if-is_quit.ensures) in
    talk_quit g.S.AnsweredSource.comes g.K.Sink.holds g.B.Backend.means c.args.auto c.args.source.now c.lines.source
    c.next_line.new.source c.args.sink.now c.lines.sink (c.args.backend.now, c.args.session.now.staged)
    (c.lines.backend, c.lines.session.staged) c.lines.input c.next_line.new.input line
    c.in-Some-next.read.found.is_ended
    c.lines.invariant.talks l (c.next_line.new.backend, c.next_line.new.session.staged) (late, waits.0, waits.1) q

pub returns-in_default-answer-clause-talked : goal.returns-in_default-answer-clause-talked
returns-in_default-answer-clause-talked g c =
    let l = rw c.in-Some-next.is at c.in-Ok.ensures.line in
    let line = line_by c.in-Some-next.read.found.kind c.next_line.new.line in
    let late = c.in-Some-next.read.is_late in
    let may : MayHear late line c.hear-heard.result =
    subst (λ (x : List ℕ). MayHear late (line_by c.in-Some-next.read.found.kind x) c.hear-heard.result)
    c.as_slice.ensures
    c.hear-heard.ensures in
    let waits = rw c.in-Some-next.is at c.in-Ok.ensures.waited in
    let t = c.in_default-answer.ensures.torn in
    let a = line_answered g.B.Backend.means (c.lines.backend, c.lines.session.staged)
    (c.next_line.new.backend, c.next_line.new.session.staged) (c.answer.new.backend, c.answer.new.session.staged) line
    late c.hear-heard.result t.0 waits.0 t.1 waits.1 may t.4 in
    let q = answered_heard g.B.Backend.means (c.next_line.new.backend, c.next_line.new.session.staged)
    (c.answer.new.backend, c.answer.new.session.staged) line late c.hear-heard.result t.0 t.1 may t.4
    (sym c.if-is_quit.ensures) in
    talk_torn g.S.AnsweredSource.comes g.K.Sink.holds g.B.Backend.means c.args.auto c.args.source.now c.lines.source
    c.next_line.new.source c.args.sink.now c.lines.sink c.answer.new.sink
    (c.args.backend.now, c.args.session.now.staged) (c.lines.backend, c.lines.session.staged)
    (c.answer.new.backend, c.answer.new.session.staged) c.lines.input c.next_line.new.input (line, t.0)
    c.in-Some-next.read.found.is_ended (waits.0 ++ t.1) t.2 c.lines.invariant.talks l q t.3 a

pub returns-then-not-goes_on-clause-talked : goal.returns-then-not-goes_on-clause-talked
returns-then-not-goes_on-clause-talked g c =
    let l = rw c.in-Some-next.is at c.in-Ok.ensures.line in
    let line = line_by c.in-Some-next.read.found.kind c.next_line.new.line in
    let late = c.in-Some-next.read.is_late in
    let may : MayHear late line c.hear-heard.result =
    subst (λ (x : List ℕ). MayHear late (line_by c.in-Some-next.read.found.kind x) c.hear-heard.result)
    c.as_slice.ensures
    c.hear-heard.ensures in
    let waits = rw c.in-Some-next.is at c.in-Ok.ensures.waited in
    let t = c.in-Ok-answer.ensures.answered in
    let a = line_answered g.B.Backend.means (c.lines.backend, c.lines.session.staged)
    (c.next_line.new.backend, c.next_line.new.session.staged) (c.answer.new.backend, c.answer.new.session.staged) line
    late c.hear-heard.result t.0 waits.0 t.1 waits.1 may t.3 in
    let said = answered_heard g.B.Backend.means (c.next_line.new.backend, c.next_line.new.session.staged)
    (c.answer.new.backend, c.answer.new.session.staged) line late c.hear-heard.result t.0 t.1 may t.3
    (sym c.if-is_quit.ensures) in
    let itself = ended_behind t.0 c.in-Ok-answer.goes_on t.4 c.if-not-goes_on.true in
    talk_itself g.S.AnsweredSource.comes g.K.Sink.holds g.B.Backend.means c.args.auto c.args.source.now c.lines.source
    c.next_line.new.source c.args.sink.now c.lines.sink c.answer.new.sink
    (c.args.backend.now, c.args.session.now.staged) (c.lines.backend, c.lines.session.staged)
    (c.answer.new.backend, c.answer.new.session.staged) (c.merge.new.backend, c.merge.new.session.staged)
    c.lines.input c.next_line.new.input (line, t.0) c.in-Some-next.read.found.is_ended (waits.0 ++ t.1)
    c.merge.ensures.merged.0 c.lines.invariant.talks l said itself t.2 a c.merge.ensures.merged.1

pub returns-then-not-found-clause-talked : goal.returns-then-not-found-clause-talked
returns-then-not-found-clause-talked g c =
    let m = rw c.in-Some-next.is at c.in-Ok.ensures.line in
    let line = line_by c.in-Some-next.read.found.kind c.next_line.new.line in
    let late = c.in-Some-next.read.is_late in
    let may : MayHear late line c.hear-heard.result =
    subst (λ (x : List ℕ). MayHear late (line_by c.in-Some-next.read.found.kind x) c.hear-heard.result)
    c.as_slice.ensures
    c.hear-heard.ensures in
    let waits = rw c.in-Some-next.is at c.in-Ok.ensures.waited in
    let d : c.in-Some-next.read.found.is_ended ≡ false = not-true _ c.if-not-found.true in
    let l = subst (λ (b : Bool). TookLine g.S.AnsweredSource.comes c.lines.input c.lines.source line b
    c.next_line.new.input c.next_line.new.source) d m in
    let t = c.in-Ok-answer.ensures.answered in
    let a = line_answered g.B.Backend.means (c.lines.backend, c.lines.session.staged)
    (c.next_line.new.backend, c.next_line.new.session.staged) (c.answer.new.backend, c.answer.new.session.staged) line
    late c.hear-heard.result t.0 waits.0 t.1 waits.1 may t.3 in
    let said = answered_heard g.B.Backend.means (c.next_line.new.backend, c.next_line.new.session.staged)
    (c.answer.new.backend, c.answer.new.session.staged) line late c.hear-heard.result t.0 t.1 may t.3
    (sym c.if-is_quit.ensures) in
    let q = goes_on_behind (line, t.0) c.in-Ok-answer.goes_on said t.4 c.if-not-goes_on.false in
    talk_last g.S.AnsweredSource.comes g.K.Sink.holds g.B.Backend.means c.args.auto c.args.source.now c.lines.source
    c.next_line.new.source c.args.sink.now c.lines.sink c.answer.new.sink
    (c.args.backend.now, c.args.session.now.staged) (c.lines.backend, c.lines.session.staged)
    (c.answer.new.backend, c.answer.new.session.staged) (c.merge.new.backend, c.merge.new.session.staged)
    c.lines.input c.next_line.new.input (line, t.0) (waits.0 ++ t.1) c.merge.ensures.merged.0 c.lines.invariant.talks l
    q t.2 a c.merge.ensures.merged.1

pub lines-preserved : goal.lines-preserved
lines-preserved g c =
    let m = rw c.in-Some-next.is at c.in-Ok.ensures.line in
    let line = line_by c.in-Some-next.read.found.kind c.next_line.new.line in
    let late = c.in-Some-next.read.is_late in
    let may : MayHear late line c.hear-heard.result =
    subst (λ (x : List ℕ). MayHear late (line_by c.in-Some-next.read.found.kind x) c.hear-heard.result)
    c.as_slice.ensures
    c.hear-heard.ensures in
    let waits = rw c.in-Some-next.is at c.in-Ok.ensures.waited in
    let d : c.in-Some-next.read.found.is_ended ≡ true = not-false _ c.if-not-found.false in
    let l = subst (λ (b : Bool). TookLine g.S.AnsweredSource.comes c.lines.input c.lines.source line b
    c.next_line.new.input c.next_line.new.source) d m in
    let t = c.in-Ok-answer.ensures.answered in
    let a = line_answered g.B.Backend.means (c.lines.backend, c.lines.session.staged)
    (c.next_line.new.backend, c.next_line.new.session.staged) (c.answer.new.backend, c.answer.new.session.staged) line
    late c.hear-heard.result t.0 waits.0 t.1 waits.1 may t.3 in
    let said = answered_heard g.B.Backend.means (c.next_line.new.backend, c.next_line.new.session.staged)
    (c.answer.new.backend, c.answer.new.session.staged) line late c.hear-heard.result t.0 t.1 may t.3
    (sym c.if-is_quit.ensures) in
    let q = goes_on_behind (line, t.0) c.in-Ok-answer.goes_on said t.4 c.if-not-goes_on.false in
    record {
      talks = talk_more g.S.AnsweredSource.comes g.K.Sink.holds g.B.Backend.means c.args.auto c.args.source.now
          c.lines.source c.next_line.new.source c.args.sink.now c.lines.sink c.answer.new.sink
          (c.args.backend.now, c.args.session.now.staged) (c.lines.backend, c.lines.session.staged)
          (c.answer.new.backend, c.answer.new.session.staged) (c.merge.new.backend, c.merge.new.session.staged)
          c.lines.input c.next_line.new.input (line, t.0) (waits.0 ++ t.1) c.merge.ensures.merged.0
          c.lines.invariant.talks l q t.2 a c.merge.ensures.merged.1;
      known = c.merge.ensures.active;
      sent = c.in-Ok-answer.ensures.sent;
      source_ok = c.in-Ok.ensures.ok ∙ c.lines.invariant.source_ok;
      sink_ok = c.in-Ok-answer.ensures.ok ∙ c.lines.invariant.sink_ok;
    }
