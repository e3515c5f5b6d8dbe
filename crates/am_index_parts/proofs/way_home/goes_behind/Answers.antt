use Rattle.std.proofs.Common.{◌-◌, length, sym, ap, ◌∙◌, arith}
use Rattle.std.specs.Ordering.{is_lt}
use Rattle.am_record.proofs.Orderings.{is_less}
use Rattle.am_index_parts.proofs.SettledEntries.{behind_last, rising_push}
use Rattle.am_index_parts.proofs.way_home.goes_behind.Goals as goal

pub returns-clause-exact : goal.returns-clause-exact
returns-clause-exact c =
    let xs = c.args.entries.now in
    c.is_lt.ensures ∙ ap is_lt c.cmp_place.ensures ∙
    sym (behind_last xs (length xs - 1) c.index-entries-len.result c.args.entry.now
    (omega (arith, c.if-len-eq0.false)) c.index-entries-len.is)

pub returns-clause-rising : goal.returns-clause-rising
returns-clause-rising c = λ yes rise.
    let xs = c.args.entries.now in
    rising_push xs (length xs - 1) c.index-entries-len.result c.args.entry.now
    (omega (arith, c.if-len-eq0.false)) c.index-entries-len.is rise
    (is_less _ (ap is_lt (sym c.cmp_place.ensures) ∙ sym c.is_lt.ensures ∙ yes))
