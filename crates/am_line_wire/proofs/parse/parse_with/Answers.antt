use Rattle.std.proofs.Common.{◌≡◌, ℕ, List, true, Some, Result, Ok, Err, inl, inr, refl, sym, ap, subst, ◌∙◌, rules}
use Rattle.std.specs.Prelude.{IsOk}
use Rattle.am_record.specs.Records.{Records}
use Rattle.am_line_wire.specs.Shapes.{some_records}
use Rattle.am_line_wire.specs.Grammar.{request_with, brings_records}
use Rattle.am_line_wire.specs.LineReadings.{values_in, map_ok, verb_reading, MayBeRefused, MayRead}
use Rattle.am_line_text.specs.declared.verb.Verb.{Verb}
use Rattle.am_line_text.specs.declared.verb.Verb.TheVariants as verb
use Rattle.am_line_wire.specs.declared.request.Request.{Request}
use Rattle.am_line_text.specs.declared.fault.LineFault.{LineFault}
use Rattle.am_line_wire.proofs.parse.parse_with.Goals as goal

at : (v w : Verb) (fs : List (List ℕ)) (r : Result Request LineFault) → w ≡ v → MayRead (verb_reading (Some v) fs) r →
    MayRead (verb_reading (Some w) fs) r
at v w fs r e h = subst (λ (x : Verb). MayRead (verb_reading (Some x) fs) r) (sym e) h

due : (v w : Verb) (fs : List (List ℕ)) (r : Result Request LineFault) → w ≡ v → r ≡ verb_reading (Some v) fs →
    MayRead (verb_reading (Some w) fs) r
due v w fs r e f = at v w fs r e (inl f)

-- a request made of the records that the line brings
module _ (request : Records → Request) (brings : (records : Records) → brings_records (request records) ≡ true) where
  refused : (values : Result Records LineFault) → IsOk values → (asked : Request) × (map_ok request values ≡ Ok asked) ×
      (brings_records asked ≡ true)
  refused (Ok records) h = (request records, refl, brings records)
  refused (Err e) h = cc

  brought : (values read : Result Records LineFault) (r : Result Request LineFault) → MayBeRefused values read →
      r ≡ map_ok request read → MayRead (map_ok request values) r
  brought values read r (inl same) e = inl (e ∙ ap (map_ok request) same)
  brought values read r (inr none) e = inr (e ∙ ap (map_ok request) none.0, refused values none.1)

pub returns-in-Begin : goal.returns-in-Begin
returns-in-Begin c = due verb.Begin c.args.verb c.args.fields _ c.in-Begin.is c.parse_bare.ensures

pub returns-in_err-parse_one_key-in-Get : goal.returns-in_err-parse_one_key-in-Get
returns-in_err-parse_one_key-in-Get c = due verb.Get c.args.verb c.args.fields _ c.in-Get.is (search rules)

pub returns-in_ok-parse_one_key-in-Get : goal.returns-in_ok-parse_one_key-in-Get
returns-in_ok-parse_one_key-in-Get c = due verb.Get c.args.verb c.args.fields _ c.in-Get.is (search rules)

pub returns-in_err-range-in-Scan : goal.returns-in_err-range-in-Scan
returns-in_err-range-in-Scan c = due verb.Scan c.args.verb c.args.fields _ c.in-Scan.is (search rules)

pub returns-in_ok-range-in-Scan : goal.returns-in_ok-range-in-Scan
returns-in_ok-range-in-Scan c = due verb.Scan c.args.verb c.args.fields _ c.in-Scan.is (search rules)

pub returns-in_err-range-in-ScanBack : goal.returns-in_err-range-in-ScanBack
returns-in_err-range-in-ScanBack c = due verb.ScanBack c.args.verb c.args.fields _ c.in-ScanBack.is (search rules)

pub returns-in_ok-range-in-ScanBack : goal.returns-in_ok-range-in-ScanBack
returns-in_ok-range-in-ScanBack c = due verb.ScanBack c.args.verb c.args.fields _ c.in-ScanBack.is (search rules)

pub returns-in_err-key-in-Insert : goal.returns-in_err-key-in-Insert
returns-in_err-key-in-Insert c = due verb.Insert c.args.verb c.args.fields _ c.in-Insert.is (search rules)

pub returns-in_ok-key-in-Insert : goal.returns-in_ok-key-in-Insert
returns-in_ok-key-in-Insert c = due verb.Insert c.args.verb c.args.fields _ c.in-Insert.is (search rules)

pub returns-in_err-key-in-Replace : goal.returns-in_err-key-in-Replace
returns-in_err-key-in-Replace c = due verb.Replace c.args.verb c.args.fields _ c.in-Replace.is (search rules)

pub returns-in_ok-key-in-Replace : goal.returns-in_ok-key-in-Replace
returns-in_ok-key-in-Replace c = due verb.Replace c.args.verb c.args.fields _ c.in-Replace.is (search rules)

pub returns-in_err-key-in-Set : goal.returns-in_err-key-in-Set
returns-in_err-key-in-Set c = due verb.Set c.args.verb c.args.fields _ c.in-Set.is (search rules)

pub returns-in_ok-key-in-Set : goal.returns-in_ok-key-in-Set
returns-in_ok-key-in-Set c = due verb.Set c.args.verb c.args.fields _ c.in-Set.is (search rules)

pub returns-in_err-parse_one_key-in-Delete : goal.returns-in_err-parse_one_key-in-Delete
returns-in_err-parse_one_key-in-Delete c = due verb.Delete c.args.verb c.args.fields _ c.in-Delete.is (search rules)

pub returns-in_ok-parse_one_key-in-Delete : goal.returns-in_ok-parse_one_key-in-Delete
returns-in_ok-parse_one_key-in-Delete c = due verb.Delete c.args.verb c.args.fields _ c.in-Delete.is (search rules)

pub returns-in_err-range-in-DeleteRange : goal.returns-in_err-range-in-DeleteRange
returns-in_err-range-in-DeleteRange c = due verb.DeleteRange c.args.verb c.args.fields _ c.in-DeleteRange.is
    (search rules)

pub returns-in_ok-range-in-DeleteRange : goal.returns-in_ok-range-in-DeleteRange
returns-in_ok-range-in-DeleteRange c = due verb.DeleteRange c.args.verb c.args.fields _ c.in-DeleteRange.is
    (search rules)

pub returns-in_err-parse_records-in-Load : goal.returns-in_err-parse_records-in-Load
returns-in_err-parse_records-in-Load c = at verb.Load c.args.verb c.args.fields _ c.in-Load.is
    (brought (request_with verb.Load) (λ records. refl) (values_in some_records c.args.fields) c.parse_records.result _
    c.parse_records.ensures (search rules))

pub returns-in_ok-parse_records-in-Load : goal.returns-in_ok-parse_records-in-Load
returns-in_ok-parse_records-in-Load c = at verb.Load c.args.verb c.args.fields _ c.in-Load.is
    (brought (request_with verb.Load) (λ records. refl) (values_in some_records c.args.fields) c.parse_records.result _
    c.parse_records.ensures (search rules))

pub returns-in_err-parse_records-in-Put : goal.returns-in_err-parse_records-in-Put
returns-in_err-parse_records-in-Put c = at verb.Put c.args.verb c.args.fields _ c.in-Put.is
    (brought (request_with verb.Put) (λ records. refl) (values_in some_records c.args.fields)
    c.parse_records-in-Put.result _
    c.parse_records-in-Put.ensures (search rules))

pub returns-in_ok-parse_records-in-Put : goal.returns-in_ok-parse_records-in-Put
returns-in_ok-parse_records-in-Put c = at verb.Put c.args.verb c.args.fields _ c.in-Put.is
    (brought (request_with verb.Put) (λ records. refl) (values_in some_records c.args.fields)
    c.parse_records-in-Put.result _
    c.parse_records-in-Put.ensures (search rules))

pub returns-in_err-parse_records-in-Stage : goal.returns-in_err-parse_records-in-Stage
returns-in_err-parse_records-in-Stage c = at verb.Stage c.args.verb c.args.fields _ c.in-Stage.is
    (brought (request_with verb.Stage) (λ records. refl) (values_in some_records c.args.fields)
    c.parse_records-in-Stage.result _ c.parse_records-in-Stage.ensures (search rules))

pub returns-in_ok-parse_records-in-Stage : goal.returns-in_ok-parse_records-in-Stage
returns-in_ok-parse_records-in-Stage c = at verb.Stage c.args.verb c.args.fields _ c.in-Stage.is
    (brought (request_with verb.Stage) (λ records. refl) (values_in some_records c.args.fields)
    c.parse_records-in-Stage.result _ c.parse_records-in-Stage.ensures (search rules))

pub returns-in_err-parse_mode_and_range-in-Lock : goal.returns-in_err-parse_mode_and_range-in-Lock
returns-in_err-parse_mode_and_range-in-Lock c = due verb.Lock c.args.verb c.args.fields _ c.in-Lock.is (search rules)

pub returns-in_ok-parse_mode_and_range-in-Lock : goal.returns-in_ok-parse_mode_and_range-in-Lock
returns-in_ok-parse_mode_and_range-in-Lock c = due verb.Lock c.args.verb c.args.fields _ c.in-Lock.is (search rules)

pub returns-in-Mark : goal.returns-in-Mark
returns-in-Mark c = due verb.Mark c.args.verb c.args.fields _ c.in-Mark.is c.parse_bare-in-Mark.ensures

pub returns-in-Back : goal.returns-in-Back
returns-in-Back c = due verb.Back c.args.verb c.args.fields _ c.in-Back.is c.parse_bare-in-Back.ensures

pub returns-in-Commit : goal.returns-in-Commit
returns-in-Commit c = due verb.Commit c.args.verb c.args.fields _ c.in-Commit.is c.parse_bare-in-Commit.ensures

pub returns-in-Abort : goal.returns-in-Abort
returns-in-Abort c = due verb.Abort c.args.verb c.args.fields _ c.in-Abort.is c.parse_bare-in-Abort.ensures

pub returns-in_err-parse_one_number-in-Merge : goal.returns-in_err-parse_one_number-in-Merge
returns-in_err-parse_one_number-in-Merge c = due verb.Merge c.args.verb c.args.fields _ c.in-Merge.is (search rules)

pub returns-in_ok-parse_one_number-in-Merge : goal.returns-in_ok-parse_one_number-in-Merge
returns-in_ok-parse_one_number-in-Merge c = due verb.Merge c.args.verb c.args.fields _ c.in-Merge.is (search rules)

pub returns-in_err-range-in-Clean : goal.returns-in_err-range-in-Clean
returns-in_err-range-in-Clean c = due verb.Clean c.args.verb c.args.fields _ c.in-Clean.is (search rules)

pub returns-in_ok-range-in-Clean : goal.returns-in_ok-range-in-Clean
returns-in_ok-range-in-Clean c = due verb.Clean c.args.verb c.args.fields _ c.in-Clean.is (search rules)

pub returns-in-Seen : goal.returns-in-Seen
returns-in-Seen c = due verb.Seen c.args.verb c.args.fields _ c.in-Seen.is c.parse_bare-in-Seen.ensures

pub returns-in_err-parse_one_number-in-Hold : goal.returns-in_err-parse_one_number-in-Hold
returns-in_err-parse_one_number-in-Hold c = due verb.Hold c.args.verb c.args.fields _ c.in-Hold.is (search rules)

pub returns-in_ok-parse_one_number-in-Hold : goal.returns-in_ok-parse_one_number-in-Hold
returns-in_ok-parse_one_number-in-Hold c = due verb.Hold c.args.verb c.args.fields _ c.in-Hold.is (search rules)

pub returns-in_err-parse_which_sessions-in-Who : goal.returns-in_err-parse_which_sessions-in-Who
returns-in_err-parse_which_sessions-in-Who c = due verb.Who c.args.verb c.args.fields _ c.in-Who.is (search rules)

pub returns-in_ok-parse_which_sessions-in-Who : goal.returns-in_ok-parse_which_sessions-in-Who
returns-in_ok-parse_which_sessions-in-Who c = due verb.Who c.args.verb c.args.fields _ c.in-Who.is (search rules)

pub returns-in_err-parse_one_number-in-End : goal.returns-in_err-parse_one_number-in-End
returns-in_err-parse_one_number-in-End c = due verb.End c.args.verb c.args.fields _ c.in-End.is (search rules)

pub returns-in_ok-parse_one_number-in-End : goal.returns-in_ok-parse_one_number-in-End
returns-in_ok-parse_one_number-in-End c = due verb.End c.args.verb c.args.fields _ c.in-End.is (search rules)

pub returns-in-Quit : goal.returns-in-Quit
returns-in-Quit c = due verb.Quit c.args.verb c.args.fields _ c.in-Quit.is c.parse_bare-in-Quit.ensures
