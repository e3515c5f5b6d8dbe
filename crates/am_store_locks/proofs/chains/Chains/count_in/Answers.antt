use Rattle.std.proofs.Common.{◌-◌, ◌&&◌, Bool, get_or, arith}
use Rattle.am_record.specs.Interval.{within}
use Rattle.am_record.specs.Locks.{is_exclusive}
use Rattle.am_record.specs.declared.lock.Lock.{Lock}
use Rattle.am_store_locks.proofs.LockChains.{counted_from_end, counted_step, end_before}
use Rattle.am_store_locks.proofs.chains.Chains.count_in.Goals as goal

pub walk-init : goal.walk-init
walk-init c =
    let locks = c.args.locks.now in
    let chain = c.args.chain in
    let end = c.requires.chains.last chain 0 c.requires.chain in
    let n = get_or c.args.self.now.ends chain 0 in
    record {
      fits = end.among;
      there = end.last;
      all = omega (arith, counted_from_end locks chain (λ k. within k.range c.args.key) n end);
      exclusive = omega (
        arith,
        counted_from_end locks chain (λ k. is_exclusive k.mode && within k.range c.args.key) n end,
      );
    }

pub walk-smaller : goal.walk-smaller
walk-smaller c =
    let end = end_before c.args.locks.now c.args.self.now.ends c.args.self.now.before.items c.deref.result.now
    c.args.chain c.walk.upto c.index-locks-upto.result c.requires.chains c.deref.ensures c.walk.invariant.there
    c.walk-test.true c.walk.invariant.fits in
    omega (arith, end.among)

pub walk-preserved : goal.walk-preserved
walk-preserved c =
    let locks = c.args.locks.now in
    let chain = c.args.chain in
    let lock : Lock = c.index-locks-upto.result in
    let upto = c.walk.upto in
    let next = get_or c.deref.result.now (upto - 1) 0 in
    let end = end_before locks c.args.self.now.ends c.args.self.now.before.items c.deref.result.now chain upto lock
    c.requires.chains c.deref.ensures c.walk.invariant.there c.walk-test.true c.walk.invariant.fits in
    let counted = λ (test : Lock → Bool). counted_step locks chain test upto next lock c.walk-test.true
    c.walk.invariant.fits c.index-locks-upto.is c.walk.invariant.there end in
    record {
      fits = omega (arith, end.among, c.walk.invariant.fits);
      there = end.last;
      all = omega (
        arith,
        c.walk.invariant.all,
        c.add_at.ensures.all,
        counted (λ k. within k.range c.args.key),
      );
      exclusive = omega (
        arith,
        c.walk.invariant.exclusive,
        c.add_at.ensures.exclusive,
        counted (λ k. is_exclusive k.mode && within k.range c.args.key),
      );
    }
