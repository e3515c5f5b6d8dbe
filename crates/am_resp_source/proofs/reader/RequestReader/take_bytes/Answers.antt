use Rattle.std.proofs.Common.{◌≡◌, ◌+◌, ◌-◌, ℕ, List, ◌++◌, length, sym, ap, ◌∙◌, arith, drop}
use Rattle.std.proofs.lemmas.List.{take-append-drop}
use Rattle.am_resp_source.specs.declared.reader.RequestReader.{RequestReader}
use Rattle.am_resp_source.proofs.Steps.{bytes_taken, line_inside}
use Rattle.am_resp_source.proofs.reader.RequestReader.take_bytes.Goals as goal

pub returns-clause-taken : goal.returns-clause-taken
returns-clause-taken c = λ came h.
    let front = c.split_at.result.0.now in
    let piece = c.args.piece.now in
    let count = c.min-count.result in
    let parts = sym (take-append-drop count piece) ∙ ap (λ (z : List ℕ). z ++ drop count piece)
    (sym c.split_at.ensures.front) ∙
    ap (λ (z : List ℕ). front ++ z) (sym c.split_at.ensures.back) in
    let size : length front + (c.args.left - count) ≡ c.args.left =
    omega (arith, c.split_at.ensures.front_len, c.min-count.ensures) in (
      front,
      parts,
      bytes_taken c.args.self.now c.keep.new.self came front c.args.left _ c.requires.stage h c.keep.ensures size,
      ap (λ (r : RequestReader). r.line) c.keep.ensures.rest ∙ line_inside c.args.self.now came c.args.left
          c.requires.stage h,
    )
