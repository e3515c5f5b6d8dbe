use Rattle.std.proofs.Common.{ℕ, suc, ◌≡◌, ◌-◌, ◌<◌, length, take, sym, subst, arith}
use Rattle.am_record.specs.EntryOrder.{Place}
use Rattle.am_record.proofs.Lists.{some_item}
use Rattle.am_index.specs.Places.{AllBelow}
use Rattle.am_index_leaf.proofs.RisingEntries.{all_below, all_above}
use Rattle.am_index_leaf.proofs.leaf.RawLeaf.is_gap.Goals as goal

pub returns : goal.returns
returns c = λ _.
    let es = c.args.self.now.entries in let at : ℕ = c.args.at in let p : Place = (c.args.part, c.args.key) in
    let rise = c.len.ensures.rising in
    let within : at < length es = omega (arith, c.if-at-len.false, c.len.ensures.all) in
    let before : at - 1 < length es = omega (arith, within) in
    let next : suc (at - 1) ≡ at = omega (arith, c.if-at-eq0.false) in
    let d = some_item es at within in let e = some_item es (at - 1) before in
    record {
      in_range = omega (arith, within);
      below = subst (λ (n : ℕ). AllBelow p (take n es)) next
          (all_below p es (at - 1) e rise before (sym (c.in-Less.ensures e)));
      above = all_above p es at d rise within (sym (c.in-Greater.ensures d));
    }
