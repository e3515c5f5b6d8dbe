use Rattle.std.proofs.Common.{◌≡◌, ◌++◌, [], ◌∷◌, ◌∙◌, decimal, sym, ap, rules}
use Rattle.std.specs.Prelude.{codes}
use Rattle.am_trace_text.specs.Lines.{header_line}
use Rattle.am_trace_text.proofs.HeaderTexts.{limits_line}
use Rattle.am_trace_text.proofs.header.Header.line.Goals as goal

pub returns-in-Limits : goal.returns-in-Limits
returns-in-Limits c =
    let l = c.in-Limits.limits in
    let written : c.then-in-Limits-4.result ≡ (((((((((codes "TRACE 4 " ++ decimal l.runs) ++ 32 ∷ []) ++
    decimal l.key_bytes) ++ 32 ∷ []) ++ decimal l.value_bytes) ++ 32 ∷ []) ++ decimal l.locks) ++ 32 ∷ []) ++
    decimal l.operations) ++ 10 ∷ [] = search rules in
    written ∙ limits_line (decimal l.runs) (decimal l.key_bytes) (decimal l.value_bytes) (decimal l.locks)
    (decimal l.operations) ∙ ap header_line (sym c.in-Limits.is)
