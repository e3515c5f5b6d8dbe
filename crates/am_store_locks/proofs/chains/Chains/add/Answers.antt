use Rattle.std.proofs.Common.{rules, ◌≡◌, ◌+◌, ◌/◌, ◌<◌, [], ◌∷◌, ◌++◌, length, get_or, set, subst, sym, ap}
use Rattle.std.proofs.Common.{arith, refl}
use Rattle.am_store_locks.specs.Chains.{AreChainsOf}
use Rattle.am_store_locks.proofs.LockChains.{AreChainsOf-added}
use Rattle.am_store_locks.proofs.chains.Chains.add.Goals as goal

pub returns-clause-chains : goal.returns-clause-chains
returns-clause-chains c = λ locks lock is chains.
    let long : length c.args.self.now.ends ≡ 129 = search rules in
    let few : c.args.bucket / 256 < 129 = omega (arith, c.requires.bucket) in
    subst (AreChainsOf (locks ++ lock ∷ []) (set c.args.self.now.ends (c.args.bucket / 256) (c.len.result + 1)))
    (sym c.push_reserved.ensures.items)
    (AreChainsOf-added locks lock c.args.self.now.ends c.args.self.now.before.items (c.args.bucket / 256)
    (c.len.result + 1) (get_or c.args.self.now.ends (c.args.bucket / 256) 0) long
    (ap (λ b. b / 256) is) (omega (arith, c.len.ensures.value, chains.long)) refl few chains)
