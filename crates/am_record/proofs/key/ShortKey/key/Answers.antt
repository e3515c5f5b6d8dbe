use Rattle.std.proofs.Common.{◌≡◌, length, sym, ap, ◌∙◌, arith}
use Rattle.am_record.specs.OrderedKey.{bytes_of, bytes_of-key_of}
use Rattle.am_record.proofs.key.ShortKey.key.Goals as goal

pub returns-clause-short : goal.returns-clause-short
returns-clause-short c =
    let many : length (bytes_of c.args.self.now) ≡ c.self.inside.len =
    ap (λ k. length (bytes_of k)) (sym c.self.view_is) ∙ ap length (bytes_of-key_of _) ∙ c.self.invariant.within in
    omega (arith, many, c.self.invariant.short)
