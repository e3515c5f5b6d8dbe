use Rattle.std.proofs.Common.{arith}
use Rattle.am_c_steps.proofs.Sources.{starts_count}
use Rattle.am_c_steps.proofs.lines.GivenLinesRecordSource.len.Goals as goal

pub returns : goal.returns
returns c = omega (
  arith,
  c.len.ensures,
  c.self.inside.starts.ok.0,
  starts_count c.self.inside.text.now c.self.inside.starts.items c.self.invariant.0 c.self.invariant.1 _ c.self.view_is,
)
