use Rattle.std.proofs.Common.{◌≡◌, inl, false, sym, ap, ◌∙◌}
use Rattle.std.specs.Prelude.{is_err, not, ◌==◌}
use Rattle.std.proofs.lemmas.Bool.{ne_eqb, cond-false}
use Rattle.am_record.specs.Plain.{least_taken, exists_or_done}
use Rattle.am_record.specs.declared.step.Reply.TheVariants.{Refused}
use Rattle.am_record.specs.declared.step.Refusal.TheVariants.{TooManyRuns}
use Rattle.am_record.proofs.Outcomes.{on_ok}
use Rattle.am_index.specs.Content.{content}
use Rattle.am_store_loads.specs.Loads.{load_due}
use Rattle.am_store_loads.proofs.LeastTaken.{least_from_none}
use Rattle.am_store_loads.proofs.LoadProgress.{loaded, nothing_above-loaded}
use Rattle.am_store_loads.proofs.run_load.load.Goals as goal
use Rattle.am_store_loads.proofs.run_load.load.Given.{Over}
use Rattle.am_store_loads.proofs.run_load.load.Goals.{Then-is_ok}

-- the run was appended
is_appended : (g : Over) (c : Then-is_ok g) → is_err c.append_run.result ≡ false
is_appended g c = c.is_ok.ensures.negation ∙ ap not c.if-is_ok.true

pub returns-then-is_ok-clause-answer : goal.returns-then-is_ok-clause-answer
returns-then-is_ok-clause-answer g c =
    let m = content c.args.parts.now.entries in
    let rs = g.S.RecordSource.records c.args.run.now in
    let none = least_from_none m rs (on_ok c.append_run.result (is_appended g c) c.append_run.ensures.dead) in
    let due : load_due c.args.parts.now rs ≡ exists_or_done (least_taken rs m) =
    cond-false (c.args.parts.now.runs == 4294967294) (Refused TooManyRuns) (exists_or_done (least_taken rs m))
    (ne_eqb c.args.parts.now.runs 4294967294 (λ e. c.if-runs-eq-LAST_RUN.false (c.runs.ensures.runs ∙ e))) in
    inl (sym (due ∙ ap exists_or_done none))

pub returns-then-is_ok-clause-done : goal.returns-then-is_ok-clause-done
returns-then-is_ok-clause-done g c =
    λ done. loaded c.args.parts.now c.append_run.new.self (g.S.RecordSource.records c.args.run.now)
    c.append_run.result (is_appended g c) c.requires.above c.requires.rising c.append_run.ensures.entries
    c.append_run.ensures.runs c.append_run.ensures.content

pub returns-then-is_ok-clause-nothing_above : goal.returns-then-is_ok-clause-nothing_above
returns-then-is_ok-clause-nothing_above g c =
    nothing_above-loaded c.args.parts.now c.append_run.new.self (g.S.RecordSource.records c.args.run.now)
    c.append_run.result (is_appended g c) c.requires.above c.requires.rising c.append_run.ensures.entries
    c.append_run.ensures.runs
