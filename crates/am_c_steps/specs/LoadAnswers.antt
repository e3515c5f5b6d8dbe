-- What a load of records in any order is answered.
use Rattle.std.specs.Prelude.{Result, Ok, Err}
use Rattle.am_record.specs.declared.step.Reply.{Reply}
use Rattle.am_record.specs.declared.step.Reply.TheVariants.{Exists}
use Rattle.am_store_runs.specs.declared.fault.LoadFault.{LoadFault}
use Rattle.am_store_runs.specs.declared.fault.LoadFault.TheVariants as due
use Rattle.am_c_steps.specs.declared.load_answers.LoadFailure.{LoadFailure}
use Rattle.am_c_steps.specs.declared.load_answers.LoadFailure.TheVariants.{Twice, Other}
use Rattle.am_c_steps.specs.declared.status.Status.{Status}
use Rattle.am_c_steps.specs.declared.status.Status.TheVariants as is
use Rattle.am_c_steps.specs.declared.text.KeyText.{KeyText}
use Rattle.am_c_steps.specs.Texts.{key_text}

-- why a cut into runs of 65,536 failed
abbrev pub failure_of : LoadFault → LoadFailure
failure_of (due.Twice key) = Twice key
failure_of why = Other is.NoMemory

-- the answer without the key that stands twice
abbrev pub without_key : Result Reply LoadFailure → Result Reply Status
without_key (Ok reply) = Ok reply
without_key (Err (Twice key)) = Err is.Twice
without_key (Err (Other why)) = Err why

-- the key that has a record already or stands twice, or what was there
abbrev pub load_key_told : Result Reply LoadFailure → KeyText → KeyText
load_key_told (Ok (Exists k)) old = key_text k
load_key_told (Err (Twice k)) old = key_text k
load_key_told answer old = old
