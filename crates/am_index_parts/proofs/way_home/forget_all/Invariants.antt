use Rattle.std.proofs.Common.{◌++◌, List, drop}
use Rattle.am_record.specs.declared.entry.Entry.{Entry}
use Rattle.am_index.specs.Entries.{IsRising}
use Rattle.am_index_parts.specs.Catalogs.{IsCatalog}
use Rattle.am_index_parts.proofs.way_home.forget_all.Given as goal

abbrev pub invariant-loop-entry : goal.invariant-loop-entry
invariant-loop-entry l = (front back : List Entry) → IsRising (front ++ (l.entries ++ back)) →
    IsCatalog (front ++ (l.entries ++ back)) l.fn.catalog →
    IsCatalog (front ++ (drop l.entry-index l.entries ++ back)) l.catalog
