use Rattle.std.proofs.Common.{◌≡◌, ◌<◌, ◌^◌, ◌++◌, length, subst, arith, rules}
use Rattle.std.proofs.lemmas.Bool.Decides.{nat_tests}
use Rattle.std.proofs.lemmas.List.{nil_from_length}
use Rattle.am_record.specs.declared.step.Step.{Step}
use Rattle.am_record.specs.declared.step.Reply.{Reply}
use Rattle.am_trace_text.specs.Headers.{most_runs_of}
use Rattle.am_trace_text.specs.Lines.{IsEvent, with_lf, event_words}
use Rattle.am_trace_text.specs.declared.version.Version.{Version}
use Rattle.am_program_audit.proofs.TextAudits.{is_short, can_judge, one_more, is_whole}
use Rattle.am_program_audit.proofs.judgement.audit_text.Goals as goal

pub judge-requires : goal.judge-requires
judge-requires c = can_judge c.args.text.now c.in-Some.header c.lines.rest.now c.lines.line c.lines.audit
    (search rules) c.lines.invariant

pub overflow_add-line : goal.overflow_add-line
overflow_add-line c =
    let short = is_short c.args.text.now c.in-Some.header c.lines.rest.now c.lines.line c.lines.audit
    c.lines.invariant in
    let bytes : length c.args.text.now < 2 ^ 63 = search rules in
    omega arith

pub lines-preserved : goal.lines-preserved
lines-preserved c =
    let event : Step × Reply = (c.in-Ok-read_line.read.0.0, c.in-Ok-read_line.read.0.1) in
    let read = subst (λ (v : Version). IsEvent v event × (c.lines.rest.now ≡
    with_lf (event_words v event) ++ c.in-Ok-read_line.read.1.now)) c.version.ensures
    c.in-Ok-read_line.ensures.event in
    one_more c.args.text.now c.in-Some.header c.lines.rest.now c.in-Ok-read_line.read.1.now c.lines.line
    c.in-Ok-read_line.read.0.0 c.in-Ok-read_line.read.0.1 c.lines.audit c.judge.new.self c.lines.invariant
    read.0 read.1 (c.judge.ensures (most_runs_of c.in-Some.header))

pub returns-clause-judged : goal.returns-clause-judged
returns-clause-judged c =
    let none : length c.lines.rest.now ≡ 0 = grind (arith, nat_tests, c.is_empty.ensures, c.lines-test.false) in
    is_whole c.args.text.now c.in-Some.header c.lines.rest.now c.lines.line c.lines.audit c.lines.invariant
    (nil_from_length c.lines.rest.now none)
