use Rattle.std.proofs.Common.{refl, arith}
use Rattle.am_record.specs.KeyNumber.{key_number}
use Rattle.am_record.specs.OrderedKey.{key_least}
use Rattle.am_record.specs.declared.entry.Entry.{Entry}
use Rattle.am_index.specs.Entries.{all_from}
use Rattle.am_index_parts.proofs.RunNumbers.{numbers_on, batch_on, all_numbered}
use Rattle.am_index_parts.proofs.run_numbers.run_numbers.Goals as goal

pub read-preserved : goal.read-preserved
read-preserved g c = record {
  numbers = numbers_on (λ (e : Entry). key_number c.args.hash e.key)
      (all_from (g.I.PartIndex.entries c.args.index.now) c.args.part key_least) 16 c.read.numbers.items c.read.batch
      c.read.invariant.numbers c.read.invariant.batch c.entries-in-Some.result.now c.entries-in-Some.ensures.all
      c.push_numbers.new.numbers.items c.in_ok-push_numbers.ensures;
  batch = batch_on (λ (e : Entry). key_number c.args.hash e.key)
      (all_from (g.I.PartIndex.entries c.args.index.now) c.args.part key_least) 16 c.read.numbers.items c.read.batch
      c.read.invariant.numbers c.read.invariant.batch c.entries-in-Some.result.now c.entries-in-Some.ensures.all
      (g.I.PartIndex.entries c.args.index.now) c.read_on.ensures.rising c.args.part key_least refl
      c.push_numbers.new.numbers.items c.in_ok-push_numbers.ensures c.entries.result.now c.entries.ensures.all
      c.in-Some.entry.now c.in-Some.ensures.value _ c.read_on.new.batch c.clear.ensures c.read_on.ensures.read;
}

pub returns : goal.returns
returns g c =
    all_numbered (λ (e : Entry). key_number c.args.hash e.key)
    (all_from (g.I.PartIndex.entries c.args.index.now) c.args.part key_least) 16 c.read.numbers.items c.read.batch
    c.read.invariant.numbers c.read.invariant.batch c.entries.result.now c.entries.ensures.all (omega arith)
    c.in_default.ensures.value
