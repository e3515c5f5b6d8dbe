use Rattle.std.proofs.Common.{◌∙◌, sym, refl, ℕ, List, true, false, subst}
use Rattle.std.proofs.lemmas.Bool.{false≢true}
use Rattle.std.proofs.lemmas.Result.{err_from_is_err_and}
use Rattle.am_line_source.specs.Lines.{UsedPiece, IsReading}
use Rattle.am_line_source.specs.LineAnswers.{line_by}
use Rattle.am_line_source.proofs.ReadLines.{reading_more, reading_ended, reading_none, reading_part, reading_open}
use Rattle.am_line_source.proofs.ReadLines.{reading_on, reading_refilled}
use Rattle.am_line_source.proofs.input.read_line.Goals as goal

pub pieces-init : goal.pieces-init
pieces-init g c = record { line = λ before first r. r; ok = refl }

pub returns-then-not-await_bytes-clause-came : goal.returns-then-not-await_bytes-clause-came
returns-then-not-await_bytes-clause-came g c = λ before first r. reading_on g.S.AnsweredSource.comes before
    c.pieces.input first c.pieces.source c.await_bytes.new.source c.pieces.line (c.pieces.invariant.line before first r)
    c.await_bytes.ensures.kept

pub returns-in_err-refill_empty-clause-part : goal.returns-in_err-refill_empty-clause-part
returns-in_err-refill_empty-clause-part g c =
    let p = err_from_is_err_and c.from_residual.result c.from_residual.ensures.1 in
    λ before first r. rw p.1 (reading_part g.S.AnsweredSource.comes before c.pieces.input c.refill_empty.new.self
    first c.await_bytes.new.source c.refill_empty.new.source c.pieces.line
    (reading_on g.S.AnsweredSource.comes before c.pieces.input first c.pieces.source c.await_bytes.new.source
    c.pieces.line (c.pieces.invariant.line before first r) c.await_bytes.ensures.kept)
    c.in_err-refill_empty.ensures.kept)

pub returns-then-is_empty-2-clause-came : goal.returns-then-is_empty-2-clause-came
returns-then-is_empty-2-clause-came g c = λ before first r.
    let here = reading_on g.S.AnsweredSource.comes before c.pieces.input first c.pieces.source c.await_bytes.new.source
    c.pieces.line (c.pieces.invariant.line before first r) c.await_bytes.ensures.kept in
    let none = c.is_empty.ensures.0 c.if-is_empty.true in (
      reading_none g.S.AnsweredSource.comes before c.pieces.input c.refill_empty.new.self first
          c.await_bytes.new.source c.refill_empty.new.source c.pieces.line here c.in_ok-refill_empty.ensures.taken
          (c.is_empty-then-is_empty.ensures.0 c.if-is_empty-2.true),
      (none, c.in_ok-refill_empty.ensures.end none),
    )

pub returns-then-is_empty-clause-came : goal.returns-then-is_empty-clause-came
returns-then-is_empty-clause-came g c = λ before first r.
    let here = reading_on g.S.AnsweredSource.comes before c.pieces.input first c.pieces.source c.await_bytes.new.source
    c.pieces.line (c.pieces.invariant.line before first r) c.await_bytes.ensures.kept in
    let none = c.is_empty.ensures.0 c.if-is_empty.true in
    reading_open g.S.AnsweredSource.comes before c.pieces.input c.refill_empty.new.self first
    c.await_bytes.new.source c.refill_empty.new.source c.pieces.line
    (line_by c.finish-kind.result c.finish-kind.new.self) here c.in_ok-refill_empty.ensures.taken
    (none, c.in_ok-refill_empty.ensures.end none)
    (λ n. false≢true (sym c.if-is_empty-2.false ∙ c.is_empty-then-is_empty.ensures.1 n)) c.finish-kind.ensures

pub returns-then-use_piece-clause-came : goal.returns-then-use_piece-clause-came
returns-then-use_piece-clause-came g c = λ before first r.
    let here = reading_refilled g.S.AnsweredSource.comes before c.pieces.input c.refill_empty.new.self first
    c.await_bytes.new.source c.refill_empty.new.source c.pieces.line
    (reading_on g.S.AnsweredSource.comes before c.pieces.input first c.pieces.source c.await_bytes.new.source
    c.pieces.line (c.pieces.invariant.line before first r) c.await_bytes.ensures.kept)
    c.in_ok-refill_empty.ensures.taken in
    let used = rw c.if-use_piece.true at c.use_piece.ensures in
    reading_ended g.S.AnsweredSource.comes before c.refill_empty.new.self c.use_piece.new.self first
    c.refill_empty.new.source c.pieces.line c.use_piece.new.line used.0
    (line_by c.finish-kind-then-use_piece.result c.finish-kind-then-use_piece.new.self) here used.1 used.2 used.3
    c.finish-kind-then-use_piece.ensures

pub pieces-preserved : goal.pieces-preserved
pieces-preserved g c =
    let used = rw c.if-use_piece.false at c.use_piece.ensures in record {
      line = λ before first r.
          let here = reading_refilled g.S.AnsweredSource.comes before c.pieces.input c.refill_empty.new.self first
          c.await_bytes.new.source c.refill_empty.new.source c.pieces.line
          (reading_on g.S.AnsweredSource.comes before c.pieces.input first c.pieces.source c.await_bytes.new.source
          c.pieces.line (c.pieces.invariant.line before first r) c.await_bytes.ensures.kept)
          c.in_ok-refill_empty.ensures.taken in
          subst (λ (rest : List ℕ). IsReading g.S.AnsweredSource.comes before first c.use_piece.new.line rest
          c.refill_empty.new.source) (sym used.1)
          (reading_more g.S.AnsweredSource.comes before c.refill_empty.new.self first c.refill_empty.new.source
          c.pieces.line c.use_piece.new.line here used.0 used.2);
      ok = c.in_ok-refill_empty.ensures.ok ∙ c.await_bytes.ensures.same ∙ c.pieces.invariant.ok;
    }
