use Rattle.std.proofs.Common.{◌≡◌, ◌++◌, true, refl, sym, ap, subst, ◌∙◌, append-nil}
use Rattle.std.specs.FinMap.{is_sorted}
use Rattle.am_record.specs.OrderedKey.{key_cmp}
use Rattle.am_record.specs.Plain.{Records}
use Rattle.am_replica_records.specs.Records.{all_rows, rows_from, left_from}
use Rattle.am_replica_records.proofs.Rows.{from_least, rows_sorted}
use Rattle.am_replica_records.proofs.pages.records.Goals as goal

pub loop-next-init : goal.loop-next-init
loop-next-init g c =
    let m = g.M.Machine.map c.args.machine.now in
    record {
      idle = c.requires;
      same = refl;
      so_far =
          ap (λ (rows : Records). rows ++ rows_from c.least.result m) c.new-all.ensures.items
          ∙ ap (λ key. rows_from key m) c.least.ensures.value
          ∙ from_least m;
    }

pub returns-clause-rising : goal.returns-clause-rising
returns-clause-rising g c =
    let m = g.M.Machine.map c.args.machine.now in
    let all = c.loop-next.all.items in
    let whole : c.new.result ≡ all_rows m =
    c.new.ensures
    ∙ sym (append-nil all)
    ∙ ap (λ next. all ++ left_from next m) (sym c.in_default.is)
    ∙ c.loop-next.invariant.so_far in
    subst (λ (rows : Records). is_sorted key_cmp rows ≡ true) (sym whole) (rows_sorted m)
