use Rattle.std.proofs.Common.{◌≡◌, length, take, sym, ap, ◌∙◌, arith}
use Rattle.am_record.specs.OrderedKey.{bytes_of, bytes_of-key_of}
use Rattle.am_record.proofs.key.Key.bytes.Goals as goal

pub returns-clause-all : goal.returns-clause-all
returns-clause-all c = sym (bytes_of-key_of (take c.self.inside.len c.self.inside.bytes)) ∙ ap bytes_of c.self.view_is

pub returns-clause-short : goal.returns-clause-short
returns-clause-short c =
    let front = sym (bytes_of-key_of (take c.self.inside.len c.self.inside.bytes)) ∙ ap bytes_of c.self.view_is in
    let len : length (bytes_of c.args.self.now) ≡ c.self.inside.len = ap length (sym front) ∙ c.self.invariant.within in
    omega (arith, c.self.invariant.short)
