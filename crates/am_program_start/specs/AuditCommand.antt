-- What a command line of `amaudit` asks for, by clap's meaning of its words.
use Rattle.std.specs.Prelude.{◌≡◌, ◌↔◌, IsTrue, List, [], Some, codes, option_map, true}
use Rattle.clap.specs.Words.{App, Row, Text, fault_of, first_of, matches_of, new_app, new_rule, with_rule}
use Rattle.am_program_start.specs.Arguments.{flag_rule}
use Rattle.am_program_start.specs.declared.choice.Audited.{Audited}

-- `amaudit [--records] [--open] [FILE]`, which has a version
abbrev pub amaudit_app : App
amaudit_app =
    let plain = new_app (codes "amaudit") in
    let with_version = record plain { top = record plain.top { has_version = true } } in
    let with_file = with_rule with_version (record (new_rule (codes "file")) { value_names = 1 }) in
    let with_records = with_rule with_file (flag_rule (codes "records")) in
    with_rule with_records (flag_rule (codes "open"))

-- the rows name this file, or none, and say whether records are to be told, and whether the run isn't ended
pub record AsksToAudit (rows : List Row) (audited : Audited) : Type 0 where
  pub file_named : option_map (λ file. file.now) audited.file ≡ first_of (codes "file") rows
  pub records_told : IsTrue audited.tells_records ↔ (first_of (codes "records") rows ≡ Some (codes "true"))
  pub open_told : IsTrue audited.is_open ↔ (first_of (codes "open") rows ≡ Some (codes "true"))

-- clap finds no fault in the words, and they ask for this
abbrev pub NamesAudited : List Text → Audited → Type 0
NamesAudited words audited = (fault_of amaudit_app words ≡ []) × AsksToAudit (matches_of amaudit_app words) audited
