-- Operations that write nothing leave the map as it was.
use Rattle.std.proofs.Common.{◌≡◌, List, [], ◌∷◌, true, refl}
use Rattle.std.specs.List.{AllByRecursion}
use Rattle.std.proofs.lemmas.Bool.{false≢true}
use Rattle.am_record.specs.Plain.{PlainMap, Draft, fresh, draft_after, draft_back, left_on, left}
use Rattle.am_record.specs.declared.step.Op.{Op}
use Rattle.am_record.specs.declared.step.Op.TheVariants.{Get, Scan, ScanBack, Lock, Mark, Back}
use Rattle.am_replica.specs.Told.{only_reads}

-- a draft of that map, all of whose saved maps are it too
abbrev AreAll : PlainMap → Draft → Type 0
AreAll m d = (d.map ≡ m) × AllByRecursion (λ saved. saved ≡ m) d.saved

back_same : (m : PlainMap) (saved : List PlainMap) (d : Draft) → AllByRecursion (λ s. s ≡ m) saved → AreAll m d →
    AreAll m (draft_back saved d)
back_same m [] d all same = same
back_same m (s ∷ saved) d all same = (all.0, all.1)

read_same : (m : PlainMap) (op : Op) (d : Draft) → only_reads op ≡ true → AreAll m d → AreAll m (draft_after op d)
read_same m (Get k) d reads same = same
read_same m (Scan range max) d reads same = same
read_same m (ScanBack range max) d reads same = same
read_same m (Lock lock) d reads same = same
read_same m Mark d reads same = (same.0, (same.0, same.1))
read_same m Back d reads same = back_same m d.saved d same.1 same
read_same m op d reads same = absurd (false≢true reads)

reads_same : (m : PlainMap) (ops : List Op) (d : Draft) → AllByRecursion (λ op. only_reads op ≡ true) ops → AreAll m d →
    AreAll m (left_on ops d)
reads_same m [] d reads same = same
reads_same m (op ∷ ops) d reads same = reads_same m ops (draft_after op d) reads.1 (read_same m op d reads.0 same)

pub reads_leave : (ops : List Op) (m : PlainMap) → AllByRecursion (λ op. only_reads op ≡ true) ops → left ops m ≡ m
reads_leave ops m reads = (reads_same m ops (fresh m) reads (refl, tt)).0
