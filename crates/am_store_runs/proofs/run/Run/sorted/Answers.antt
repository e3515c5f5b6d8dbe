use Rattle.std.proofs.Common.{◌-◌, length, arith, subst}
use Rattle.std.specs.List.Sorted.{IsPermutation}
use Rattle.std.proofs.lemmas.List.{take_all}
use Rattle.am_record.specs.Plain.{Records}
use Rattle.am_store_runs.specs.RecordPlaces.{records_at}
use Rattle.am_store_runs.proofs.Sorts.{rising_apart}
use Rattle.am_store_runs.proofs.run.Run.sorted.Goals as goal

pub returns-clause-apart : goal.returns-clause-apart
returns-clause-apart c =
    let records = c.args.records.now in
    let run = records_at records c.in-Ok.order.items in
    rising_apart records run
    (subst (λ (l : Records). IsPermutation l run) (take_all (length records - 0) records (omega arith))
    c.in-Ok.ensures.same) c.in-Ok.ensures.order.rising
