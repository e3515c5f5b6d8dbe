use Rattle.std.proofs.Common.{◌≡◌, length, sym, ap, ◌∙◌, arith}
use Rattle.am_record.specs.OrderedKey.{key_of, bytes_of, bytes_of-key_of}
use Rattle.am_record.proofs.Widths.{narrowed, narrowed_front}
use Rattle.am_record.proofs.key.Key.short.Goals as goal

pub returns-then-self-gt-SHORT_LEN-clause-short : goal.returns-then-self-gt-SHORT_LEN-clause-short
returns-then-self-gt-SHORT_LEN-clause-short c =
    let many : length (bytes_of c.args.self.now) ≡ c.self.inside.len =
    ap (λ k. length (bytes_of k)) (sym c.self.view_is) ∙ ap length (bytes_of-key_of _) ∙ c.self.invariant.within in
    ((λ e. cc), λ le. absurd (omega arith))

pub invariant_of-result : goal.invariant_of-result
invariant_of-result c = narrowed 32 c.self.inside.bytes c.self.inside.len c.self.invariant 16 (omega arith)
    (omega arith) _ c.copy_from_slice.ensures.after

pub returns-clause-short : goal.returns-clause-short
returns-clause-short c =
    let many : length (bytes_of c.args.self.now) ≡ c.self.inside.len =
    ap (λ k. length (bytes_of k)) (sym c.self.view_is) ∙ ap length (bytes_of-key_of _) ∙ c.self.invariant.within in
    ((λ e. omega arith), λ le. cc)

pub returns-clause-value : goal.returns-clause-value
returns-clause-value c =
    ap key_of (narrowed_front 32 c.self.inside.bytes c.self.inside.len c.self.invariant 16 (omega arith) (omega arith) _
    c.copy_from_slice.ensures.after) ∙ c.self.view_is
