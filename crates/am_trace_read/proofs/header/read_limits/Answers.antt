use Rattle.std.proofs.Common.{◌≡◌, ◌∙◌, Some, None, sym, rules}
use Rattle.std.specs.Prelude.{option_and_then}
use Rattle.std.specs.Option.{option_zip}
use Rattle.am_trace_text.specs.FieldReadings.{run_in}
use Rattle.am_trace_text.specs.Headers.{limits_for, two_numbers_in}
use Rattle.am_trace_read.proofs.LimitFields.{limits_as}
use Rattle.am_trace_read.proofs.header.read_limits.Goals as goal

pub returns-in_err-bytes : goal.returns-in_err-bytes
returns-in_err-bytes c =
    let r = c.in_ok-runs_field.runs_field.now in
    let k = c.in_ok-key_field.key_field.now in
    let v = c.in_ok-value_field.value_field.now in
    let m = c.in_ok-locks_field.locks_field.now in
    let o = c.in_ok-locks_field.operations_field.now in
    let all = limits_as c.args.fields c.next.new.fields c.next-2.new.fields c.next-3.new.fields r k v m o
    (search rules) (search rules) (search rules) (search rules) in
    let runs : run_in r ≡ Some c.in_ok-runs.runs = search rules in
    let bytes : two_numbers_in k v ≡ None = search rules in
    c.from_residual-in_err-bytes.ensures ∙ sym (all ∙
    (λ i. option_and_then limits_for (option_zip (runs i) (option_zip (bytes i) (two_numbers_in m o)))))

pub returns-in_err-others : goal.returns-in_err-others
returns-in_err-others c =
    let r = c.in_ok-runs_field.runs_field.now in
    let k = c.in_ok-key_field.key_field.now in
    let v = c.in_ok-value_field.value_field.now in
    let m = c.in_ok-locks_field.locks_field.now in
    let o = c.in_ok-locks_field.operations_field.now in
    let all = limits_as c.args.fields c.next.new.fields c.next-2.new.fields c.next-3.new.fields r k v m o
    (search rules) (search rules) (search rules) (search rules) in
    let runs : run_in r ≡ Some c.in_ok-runs.runs = search rules in
    let bytes : two_numbers_in k v ≡ Some c.in_ok-bytes.bytes = search rules in
    let others : two_numbers_in m o ≡ None = search rules in
    c.from_residual-in_err-others.ensures ∙ sym (all ∙
    (λ i. option_and_then limits_for (option_zip (runs i) (option_zip (bytes i) (others i)))))

pub returns : goal.returns
returns c =
    let r = c.in_ok-runs_field.runs_field.now in
    let k = c.in_ok-key_field.key_field.now in
    let v = c.in_ok-value_field.value_field.now in
    let m = c.in_ok-locks_field.locks_field.now in
    let o = c.in_ok-locks_field.operations_field.now in
    let all = limits_as c.args.fields c.next.new.fields c.next-2.new.fields c.next-3.new.fields r k v m o
    (search rules) (search rules) (search rules) (search rules) in
    let runs : run_in r ≡ Some c.in_ok-runs.runs = search rules in
    let bytes : two_numbers_in k v ≡ Some c.in_ok-bytes.bytes = search rules in
    let others : two_numbers_in m o ≡ Some c.in_ok-others.others = search rules in
    c.limits_for.ensures ∙ sym (all ∙
    (λ i. option_and_then limits_for (option_zip (runs i) (option_zip (bytes i) (others i)))))
