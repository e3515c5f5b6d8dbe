use Rattle.std.proofs.Common.{[], arith}
use Rattle.am_record.specs.OrderedKey.{key_least}
use Rattle.am_c_steps.proofs.Sources.{start_is, start_within, key_is}
use Rattle.am_c_steps.proofs.lines.GivenLinesRecordSource.key.Goals as goal

pub index-requires : goal.index-requires
index-requires c = omega (
  arith,
  c.self.inside.starts.ok.0,
  start_is c.self.inside.text.now c.self.inside.starts.items c.self.invariant.0 c.self.invariant.1 _ c.self.view_is
      c.args.at c.requires,
)

pub key_from-requires : goal.key_from-requires
key_from-requires c = start_within c.self.inside.text.now c.self.inside.starts.items c.self.invariant.0
    c.self.invariant.1 _ c.self.view_is c.args.at c.requires c.index.result.now c.index.ensures

pub unreachable-requires : goal.unreachable-requires
unreachable-requires c =
    let there = key_is c.self.inside.text.now c.self.inside.starts.items c.self.invariant.0 c.self.invariant.1 _
    c.self.view_is c.args.at c.requires c.index.result.now c.index.ensures c.key_from.result c.key_from.ensures
    (key_least, []) in cc

pub returns : goal.returns
returns c =
    let there = key_is c.self.inside.text.now c.self.inside.starts.items c.self.invariant.0 c.self.invariant.1 _
    c.self.view_is c.args.at c.requires c.index.result.now c.index.ensures c.key_from.result c.key_from.ensures
    (key_least, []) in cc
