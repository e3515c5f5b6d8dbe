use Rattle.std.proofs.Common.{◌<◌, length, sym, arith}
use Rattle.am_record.specs.EntryOrder.{Place}
use Rattle.am_record.proofs.Lists.{some_item}
use Rattle.am_index_leaf.proofs.RisingEntries.{below_here, above_here}
use Rattle.am_index_leaf.proofs.leaf.RawLeaf.stands_at.Goals as goal

pub returns : goal.returns
returns c = λ _.
    let es = c.args.self.now.entries in let at = c.args.at in let p : Place = (c.args.part, c.args.key) in
    let rise = c.len.ensures.rising in
    let within : at < length es = omega (arith, c.if-at-len.false, c.len.ensures.all) in
    let d = some_item es at within in
    record {
      in_range = within;
      below = below_here p es at d rise within (sym (c.in-Equal.ensures d));
      here = λ e. sym (c.in-Equal.ensures e);
      above = above_here p es at d rise within (sym (c.in-Equal.ensures d));
    }
