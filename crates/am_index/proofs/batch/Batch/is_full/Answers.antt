use Rattle.std.proofs.Common.{◌≡◌, length, nat_eq, ap, arith}
use Rattle.std.proofs.lemmas.Grind.{common_steps}
use Rattle.am_index.proofs.batch.Batch.is_full.Goals as goal

pub returns-clause-full : goal.returns-clause-full
returns-clause-full c =
    let same : c.self.inside.len ≡ length c.args.self.now = grind (arith, common_steps) in
    ap (λ n. nat_eq n 16) same
