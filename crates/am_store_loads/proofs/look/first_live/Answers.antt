use Rattle.std.proofs.Common.{◌≡◌, Option, Some, None, take, ap, ◌∙◌, subst, arith}
use Rattle.std.specs.Prelude.{MatchOption}
use Rattle.std.proofs.lemmas.List.{take_all}
use Rattle.am_record.specs.OrderedKey.{OrderedKey}
use Rattle.am_record.specs.Plain.{Records}
use Rattle.am_store_loads.specs.Looks.{NoneInRuns, IsLeastInRuns}
use Rattle.am_store_loads.proofs.LeastLive.{IsRunsAnswer, none_in_final, final_is_least, run_is_least}
use Rattle.am_store_loads.proofs.PartedRecords.{is_below, kept}
use Rattle.am_store_loads.proofs.look.first_live.Given.{Over}
use Rattle.am_store_loads.proofs.look.first_live.Goals as goal
use Rattle.am_store_loads.proofs.look.first_live.Goals.{After-place_of-below}

pub returns-in_default : goal.returns-in_default
returns-in_default g c =
    let es = c.args.parts.now.entries in
    let rs = g.S.RecordSource.records c.args.records.now in
    none_in_final c.least_in_final.ensures.sound rs c.in_default.ensures.found c.first_in_runs.result
    (subst (λ (l : Records). IsRunsAnswer es l c.first_in_runs.result)
    (take_all c.len.result rs (omega (arith, c.len.ensures)))
    (answer c.first_in_runs.result (take c.len.result rs) c.first_in_runs.ensures))
  where
    answer : (o : Option OrderedKey) (rs : Records) → MatchOption o (NoneInRuns c.args.parts.now.entries rs)
        (IsLeastInRuns c.args.parts.now.entries rs) → IsRunsAnswer c.args.parts.now.entries rs o
    answer None rs h = h
    answer (Some k) rs h = h

-- the records below the key
below_are : (g : Over) (c : After-place_of-below g) →
    take c.place_of-below.result (g.S.RecordSource.records c.args.records.now) ≡
    kept (is_below c.in-Some.key) (g.S.RecordSource.records c.args.records.now)
below_are g c =
    let rs = g.S.RecordSource.records c.args.records.now in
    ap (λ n. take n rs) (omega arith) ∙ c.place_of-below.ensures.below

pub returns-in-Some-first_in_runs : goal.returns-in-Some-first_in_runs
returns-in-Some-first_in_runs g c =
    let rs = g.S.RecordSource.records c.args.records.now in
    run_is_least c.least_in_final.ensures.sound rs c.in-Some.key c.in-Some.ensures.found
    (take c.place_of-below.result rs)
    (below_are g (goal.at.returns-in-Some-first_in_runs g c).After-place_of-below) c.in-Some-first_in_runs.lower
    c.in-Some-first_in_runs.ensures

pub returns : goal.returns
returns g c =
    let rs = g.S.RecordSource.records c.args.records.now in
    final_is_least c.least_in_final.ensures.sound rs c.in-Some.key c.in-Some.ensures.found
    (take c.place_of-below.result rs) (below_are g (goal.at.returns g c).After-place_of-below)
    c.in_default-first_in_runs.ensures
