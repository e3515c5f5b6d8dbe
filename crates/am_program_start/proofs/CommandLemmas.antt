-- From clap's clauses to what words name.
use Rattle.std.proofs.Common.{◌≡◌, ◌∙◌, ◌⊎◌, List, [], refl, sym, subst, ap, ap₂, inl, inr, true, false, ◌||◌}
use Rattle.std.proofs.lemmas.Bool.{true≢false}
use Rattle.clap.specs.Words.{AddsArg, App, HasMatchesOf, Rule, Text, fault_of, found_of}
use Rattle.clap.specs.Words.{is_simple, is_simple_and_free, kind_of, matches_of, rows_of, rule_of, with_rule}
use Rattle.clap.specs.Kinds.{IsAmong}
use Rattle.clap.specs.declared.builder.arg.Arg.{Arg}
use Rattle.clap.specs.declared.builder.command.Command.{Command}
use Rattle.clap.specs.declared.error.Error.{Error}
use Rattle.clap.specs.declared.error.kind.ErrorKind.TheVariants.{OutOfMemory}
use Rattle.clap.specs.declared.parser.matches.ArgMatches.{ArgMatches}
use Rattle.clap.proofs.OnLiterals.{clap_on_literals}
use Rattle.am_program_start.specs.Arguments.{IsCommand}
use Rattle.am_program_start.specs.Faults.{IsFaultOf, Refuses, is_request}
use Rattle.am_program_start.specs.AuditCommand.{AsksToAudit, NamesAudited, amaudit_app}
use Rattle.am_program_start.specs.declared.choice.Audited.{Audited}
use Rattle.am_program_start.specs.declared.fault.OptionsFault.{OptionsFault}
use Rattle.am_program_start.specs.declared.fault.OptionsFault.TheVariants.{Asked, Wrong, Unserved, NotText}
use Rattle.am_program_start.specs.declared.fault.OptionsFault.TheVariants.{NoStack, NoMemory}

pub arg_added : (before after : Command) (argument : Arg) (app : App) (rule : Rule) → IsCommand app before
    → (rule_of argument ≡ rule) × (argument.global ≡ false) → AddsArg before argument after →
    IsCommand (with_rule app rule) after
arg_added before after argument app rule is_app is_rule adds =
    (adds.shape is_rule.1 ∙ ap₂ with_rule is_app.0 is_rule.0, adds.globals ∙ ap₂ (λ a b. a || b) is_app.1 is_rule.1)

amaudit_plain : is_simple amaudit_app ≡ true
unfolding clap_on_literals
amaudit_plain = refl

pub amaudit_free : is_simple_and_free amaudit_app ≡ true
unfolding clap_on_literals
amaudit_free = refl

pub names_audited : (app : App) (m : ArgMatches) (words : List Text) (audited : Audited) → app ≡ amaudit_app →
    HasMatchesOf app words m → (is_simple_and_free app ≡ true → fault_of app words ≡ []) →
    AsksToAudit (rows_of (found_of m)) audited → NamesAudited words audited
names_audited app m words audited app_is rows faults asks = (
  ap (λ a. fault_of a words) (sym app_is) ∙ faults (ap is_simple_and_free app_is ∙ amaudit_free),
  subst (λ found. AsksToAudit found audited) ((rows (ap is_simple app_is ∙ amaudit_plain)).0 ∙
      ap (λ a. matches_of a words) app_is) asks,
)

-- a fault of clap, at the words of an app without rules between arguments
pub refused_by_clap : {Named : Type 0} (names : List Text → Named → Type 0) (its app : App) →
    is_simple_and_free its ≡ true → (e : Error) (words : List Text) (fault : OptionsFault) → app ≡ its
    → (is_simple_and_free app ≡ true → (kind_of e ≡ OutOfMemory) ⊎ IsAmong (kind_of e) (fault_of app words))
    → IsFaultOf (kind_of e) fault → Refuses its names words fault
refused_by_clap names its app free e words fault app_is kinds said =
    by_fault fault (kinds (ap is_simple_and_free app_is ∙ free)) said
  where
    among : IsAmong (kind_of e) (fault_of app words) → IsAmong (kind_of e) (fault_of its words)
    among h = subst (λ a. IsAmong (kind_of e) (fault_of a words)) app_is h

    by_fault : (f : OptionsFault) → ((kind_of e ≡ OutOfMemory) ⊎ IsAmong (kind_of e) (fault_of app words)) →
        IsFaultOf (kind_of e) f → Refuses its names words f
    by_fault (Asked text) (inl memory) asked = absurd (true≢false (sym asked ∙ ap is_request memory))
    by_fault (Asked text) (inr h) asked = (kind_of e, among h, asked)
    by_fault (Wrong text) (inl memory) wrong = absurd (wrong.1 memory)
    by_fault (Wrong text) (inr h) wrong = (kind_of e, among h, wrong.0)
    by_fault (Unserved why) k h = absurd h
    by_fault NotText k h = absurd h
    by_fault NoStack k h = absurd h
    by_fault NoMemory k h = tt
