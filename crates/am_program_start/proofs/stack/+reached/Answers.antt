use Rattle.std.proofs.Common.{◌<◌, arith}
use Rattle.std.proofs.lemmas.List.{get_or-replicate}
use Rattle.am_program_start.proofs.stack.+reached.Goals as goal

pub returns : goal.returns
returns t c =
    let here : c.from-last.result < 4096 = omega (
      arith,
      c.from-last.ensures,
      c.reached.ensures,
      c.in-Some.ensures,
      c.ranges.pages.fits,
    ) in
    get_or-replicate 4096 c.from-last.result c.args.pages 0 here
