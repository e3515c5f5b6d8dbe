use Rattle.std.proofs.Common.{◌≡◌, ℕ, List, ◌+◌, ◌-◌, ◌++◌, length, take, arith, ◌∙◌, sym, ap}
use Rattle.std.specs.Prelude.{min}
use Rattle.std.proofs.lemmas.List.{take_min}
use Rattle.std.proofs.Math.Seq.{take-append-add}
use Rattle.am_line_source.proofs.line.LineBuffer.add.Goals as goal

pub returns : goal.returns
returns c =
    let old = c.args.self.now in
    let bytes = c.args.bytes.now in
    let count : c.min-count.result ≡ min (4097 - length old) (length bytes) =
    omega (arith, c.min-count.ensures, c.len.ensures.len) in
    let part : take c.min-count.result bytes ≡ take (4097 - length old) bytes =
    ap (λ n. take n bytes) count ∙ take_min (4097 - length old) bytes in
    let split : length old + (4097 - length old) ≡ 4097 = omega (arith, c.len.ensures.most, c.len.ensures.len) in
    c.push.ensures ∙ ap (λ (xs : List ℕ). old ++ xs) part ∙
    sym (take-append-add old bytes (4097 - length old)) ∙ ap (λ n. take n (old ++ bytes)) split
