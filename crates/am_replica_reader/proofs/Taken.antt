-- What the log's own call promises, by how it ended.
use Rattle.std.proofs.Common.{◌≡◌, ℕ, ◌≤◌, ◌∷◌, true, false, refl, ap}
use Rattle.std.proofs.lemmas.Bool.{false_from_ne_true}
use Rattle.std.specs.Prelude.{Option, None, Some, Result, Ok, Err, IfOk, OnOk}
use Rattle.am_replica_log.specs.declared.pieces.Entry.{Entry}
use Rattle.am_replica_log.specs.declared.log.LogFault.{LogFault}
use Rattle.am_replica_log.specs.declared.log.LogFault.TheVariants.{WentBack}
use Rattle.am_replica_log.specs.History.{History, Change, Told, shown, revision_of}
use Rattle.am_replica_log.specs.LogState.{LogState}
use Rattle.am_replica_log.specs.Readers.{IsAt, counted_for, is_known, is_stray}
use Rattle.am_replica_reader.specs.Reading.{ReadsFrom}

abbrev ended_well : Option Entry → Result (Option Entry) LogFault
ended_well entry = Ok entry

abbrev ended_by : LogFault → Result (Option Entry) LogFault
ended_by why = Err why

none_is : (entry : Option Entry) → ended_well entry ≡ Ok None → entry ≡ None
none_is entry e = cc

never_ok : (why : LogFault) → ended_by why ≡ Ok None → ⊥
never_ok why e = cc

abbrev read_on : LogState → Result LogState LogFault
read_on log = Ok log

pub same_log : (a b : LogState) → read_on a ≡ read_on b → a ≡ b
same_log a b e = cc

pub reads : (told : Told) (old : LogState) (result : Result (Option Entry) LogFault) (new : LogState) →
    ((from : ℕ) (before : History) (change : Change) → from ≤ revision_of before → IsAt from old before →
    shown change before ≡ Some told →
    OnOk result (IsAt from new (change ∷ before)) × IfOk result (λ entry. entry ≡ counted_for from change before)) →
    (is_known old told.revision told.event ≡ true → (new ≡ old) × (result ≡ Ok None)) →
    OnOk result (is_stray old told.revision told.event ≡ false) →
    (result ≡ Err WentBack → is_stray old told.revision told.event ≡ true) →
    ReadsFrom told (Ok old) result (Ok new)
reads told old (Ok entry) new goes_on known followed went_back = (
  new,
  (
    refl,
    record {
      goes_on = goes_on;
      known = λ is. ((known is).0, none_is entry (known is).1);
      followed = followed;
    },
  ),
)
reads told old (Err why) new goes_on known followed went_back = record {
  unknown = false_from_ne_true (is_known old told.revision told.event) (λ is. never_ok why (known is).1);
  stray = λ is. went_back (ap Err is);
}
