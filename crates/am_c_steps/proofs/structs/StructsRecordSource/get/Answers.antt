use Rattle.std.proofs.Common.{[]}
use Rattle.am_record.specs.OrderedKey.{key_least}
use Rattle.am_c_steps.proofs.Wholes.{lies_there, record_at}
use Rattle.am_c_steps.proofs.structs.StructsRecordSource.get.Goals as goal

pub struct_at-requires : goal.struct_at-requires
struct_at-requires c = lies_there _ _ _ c.self.invariant _ c.self.view_is c.args.at c.requires

pub unreachable-requires : goal.unreachable-requires
unreachable-requires c =
    let there = record_at _ _ _ c.self.invariant _ c.self.view_is c.args.at c.requires (key_least, []) in cc

pub returns : goal.returns
returns c =
    let there = record_at _ _ _ c.self.invariant _ c.self.view_is c.args.at c.requires (key_least, []) in cc
