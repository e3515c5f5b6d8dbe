use Rattle.std.proofs.Common.{◌≡◌, ◌++◌, ◌∷◌, List, ℕ, drop, take}
use Rattle.std.specs.List.{flat_map}
use Rattle.am_record.specs.OrderedKey.{OrderedKey}
use Rattle.am_trace_text.specs.Words.{record_word}
use Rattle.am_trace_text.specs.Bounds.{AreRecords}
use Rattle.am_trace_text.specs.declared.version.Version.TheVariants.{Three}
use Rattle.am_trace_print.proofs.print.Page.put_records.Given as goal

abbrev pub invariant-loop-pair : goal.invariant-loop-pair
invariant-loop-pair l = record {
  written : l.self ++ flat_map (λ (r : OrderedKey × List ℕ). 32 ∷ record_word Three r) (drop l.pair-index l.records) ≡
      l.fn.self ++ flat_map (λ (r : OrderedKey × List ℕ). 32 ∷ record_word Three r) l.records;
  records : AreRecords Three (take l.pair-index l.records);
}
