use Rattle.std.proofs.Common.{◌≡◌, ◌<◌, ◌≤◌, [], ◌∷◌, ◌++◌, length, arith, sym, ap, ◌∙◌}
use Rattle.am_record.specs.Plain.{Records}
use Rattle.am_replica_records.specs.Records.{page_len, rows_from}
use Rattle.am_replica_records.proofs.Rows.{GoesOn, last_page, page_goes_on}
use Rattle.am_replica_records.proofs.pages.add_page.Goals as goal

pub returns-then-len-lt-PAGE_LEN-clause-so_far : goal.returns-then-len-lt-PAGE_LEN-clause-so_far
returns-then-len-lt-PAGE_LEN-clause-so_far g c =
    let m = g.M.Machine.map c.args.machine.now in
    let all = c.args.all.now.items in
    let page = c.into_vec-rows.result.items in
    let few : length page < page_len = omega (arith, c.len.ensures) in
    ap (λ (rows : Records). rows ++ []) (c.in_ok-extend_from_slice.ensures.items ∙ ap (λ rows. all ++ rows)
    c.deref.ensures.value)
    ∙ last_page m c.args.from all page c.requires.so_far (c.into_vec-rows.ensures ∙ c.in_ok-page.ensures.rows) few

pub returns-clause-so_far : goal.returns-clause-so_far
returns-clause-so_far g c =
    let m = g.M.Machine.map c.args.machine.now in
    let all = c.args.all.now.items in
    let page = c.into_vec-rows.result.items in
    let full : page_len ≤ length page = omega (arith, c.len.ensures) in
    let on : GoesOn m c.args.from c.in-Some.last.0 (all ++ c.pop.new.self.items) =
    page_goes_on m c.args.from all page c.pop.new.self.items c.in-Some.last c.requires.so_far
    (c.into_vec-rows.ensures ∙ c.in_ok-page.ensures.rows) c.in-Some.ensures.items full in
    ap (λ (rows : Records). rows ++ rows_from c.in-Some.last.0 m) (c.in_ok-extend_from_slice-2.ensures.items
    ∙ ap (λ (rows : Records). all ++ rows) c.deref-2.ensures.value)
    ∙ on.so_far

pub returns-clause-fewer : goal.returns-clause-fewer
returns-clause-fewer g c =
    let m = g.M.Machine.map c.args.machine.now in
    let all = c.args.all.now.items in
    let page = c.into_vec-rows.result.items in
    let full : page_len ≤ length page = omega (arith, c.len.ensures) in
    let on : GoesOn m c.args.from c.in-Some.last.0 (all ++ c.pop.new.self.items) =
    page_goes_on m c.args.from all page c.pop.new.self.items c.in-Some.last c.requires.so_far
    (c.into_vec-rows.ensures ∙ c.in_ok-page.ensures.rows) c.in-Some.ensures.items full in
    on.fewer
