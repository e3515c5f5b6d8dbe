use Rattle.std.proofs.Common.{◌≡◌, [], ◌∷◌, ◌++◌, take, sym, ap, ◌∙◌}
use Rattle.am_record.specs.Plain.{scan_rows}
use Rattle.am_record.specs.declared.step.Reply.{Reply}
use Rattle.am_record.specs.declared.step.Reply.TheVariants.{Rows}
use Rattle.am_replica_records.specs.Records.{page_len}
use Rattle.am_replica_records.proofs.Rows.{none_above, rows_told, scanned}
use Rattle.am_replica_records.proofs.pages.page.Goals as goal

pub returns-in_default-clause-rows : goal.returns-in_default-clause-rows
returns-in_default-clause-rows g c =
    c.new-in_default.ensures
    ∙ c.new.ensures.items
    ∙ sym (ap (take page_len) (none_above c.args.from (g.M.Machine.map c.args.machine.now) c.in_default.ensures.none))

pub returns-clause-rows : goal.returns-clause-rows
returns-clause-rows g c =
    let m = g.M.Machine.map c.args.machine.now in
    let told : c.in_ok-replies.replies.items ≡ Rows (scan_rows c.in-Some.range page_len m) ∷ [] =
    c.in_ok-replies.ensures.answers in
    let front = c.pop.new.self.items in
    rows_told front (scan_rows c.in-Some.range page_len m) c.in-Some-Rows.rows
    (sym told ∙ c.in-Some-Rows.ensures.items ∙ ap (λ (r : Reply). front ++ r ∷ []) c.in-Some-Rows.field-0-is)
    ∙ ap (λ range. scan_rows range page_len m) c.in-Some.ensures.from
    ∙ scanned c.args.from m
