use Rattle.std.proofs.Common.{◌++◌, List, drop, refl, subst}
use Rattle.am_record.specs.declared.entry.Entry.{Entry}
use Rattle.am_index_parts.specs.Catalogs.{IsCatalog}
use Rattle.am_index_parts.proofs.Neighbours.{rising_left, next_found, next_live, next_out}
use Rattle.am_index_parts.proofs.way_home.forget_all.Goals as goal

pub take-requires : goal.take-requires
take-requires c =
    let xs = c.args.entries.now in let at = c.loop-entry.entry-index in let x = c.entry-item.result in
    let front = c.requires.0 in let back = c.requires.1 in
    let es : List Entry = front ++ (drop at xs ++ back) in
    let rise = rising_left at front xs back c.requires.2 in
    record {
      entries = es;
      key = x.key;
      catalog = c.loop-entry.invariant front back c.requires.2 c.requires.3;
      stands = next_found xs at x c.entry-item.is c.loop-entry-test.true front back es refl rise;
      mark = next_live xs at x c.entry-item.is c.loop-entry-test.true front back es refl rise;
    }

pub loop-entry-preserved : goal.loop-entry-preserved
loop-entry-preserved c = λ front back rises are.
    let xs = c.args.entries.now in let at = c.loop-entry.entry-index in let x = c.entry-item.result in
    let es : List Entry = front ++ (drop at xs ++ back) in
    let rise = rising_left at front xs back rises in
    subst (λ (l : List Entry). IsCatalog l c.take.new.self)
    (next_out xs at x c.entry-item.is c.loop-entry-test.true front back es refl rise)
    (c.take.ensures es x.key (c.loop-entry.invariant front back rises are)
    (next_found xs at x c.entry-item.is c.loop-entry-test.true front back es refl rise)
    (next_live xs at x c.entry-item.is c.loop-entry-test.true front back es refl rise))
