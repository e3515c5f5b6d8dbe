use Rattle.std.proofs.Common.{[], arith, ◌∙◌}
use Rattle.am_record.specs.OrderedKey.{key_least}
use Rattle.am_c_steps.proofs.Sources.{start_is, start_within, line_is}
use Rattle.am_c_steps.proofs.lines.GivenLinesRecordSource.get.Goals as goal

pub index-requires : goal.index-requires
index-requires c = omega (
  arith,
  c.self.inside.starts.ok.0,
  start_is c.self.inside.text.now c.self.inside.starts.items c.self.invariant.0 c.self.invariant.1 _ c.self.view_is
      c.args.at c.requires,
)

pub line_from-line-requires : goal.line_from-line-requires
line_from-line-requires c = start_within c.self.inside.text.now c.self.inside.starts.items c.self.invariant.0
    c.self.invariant.1 _ c.self.view_is c.args.at c.requires c.index.result.now c.index.ensures

pub unreachable-requires : goal.unreachable-requires
unreachable-requires c =
    let there = c.line_pair.ensures ∙ line_is c.self.inside.text.now c.self.inside.starts.items c.self.invariant.0
    c.self.invariant.1 _ c.self.view_is c.args.at c.requires c.index.result.now c.index.ensures
    c.line_from-line.result.now c.line_from-line.ensures.0 c.line_from-line.ensures.1 (key_least, []) in cc

pub returns : goal.returns
returns c =
    let there = c.line_pair.ensures ∙ line_is c.self.inside.text.now c.self.inside.starts.items c.self.invariant.0
    c.self.invariant.1 _ c.self.view_is c.args.at c.requires c.index.result.now c.index.ensures
    c.line_from-line.result.now c.line_from-line.ensures.0 c.line_from-line.ensures.1 (key_least, []) in cc
