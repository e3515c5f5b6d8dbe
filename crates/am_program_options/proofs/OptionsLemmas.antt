-- From clap's clauses to what words of `amserve` name.
use Rattle.std.proofs.Common.{◌≡◌, ◌∙◌, ℕ, Option, Some, None, List, [], refl, sym, subst, ap, ap₂, true}
use Rattle.std.specs.Prelude.{IsSomeAnd}
use Rattle.clap.specs.Words.{AddsSubcommand, App, HasMatchesOf, Text, fault_of}
use Rattle.clap.specs.Words.{is_simple, is_simple_and_free, subcommand_of}
use Rattle.clap.specs.Words.{subcommand_rows_of, with_subcommand, app_of}
use Rattle.clap.specs.declared.builder.command.Command.{Command}
use Rattle.clap.specs.declared.parser.matches.ArgMatches.{ArgMatches}
use Rattle.clap.proofs.OnLiterals.{clap_on_literals}
use Rattle.am_program_start.specs.Arguments.{IsCommand}
use Rattle.am_program_options.specs.Options.{Names, Selects, Sets, SetsIfGiven, amserve_app}
use Rattle.am_program_options.specs.declared.amserve.Setting.{Setting}
use Rattle.am_program_options.specs.declared.choice.Options.{Options}

pub subcommand_added : (before entered after : Command) (app its : App) → app_of before ≡ app → IsCommand its entered →
    AddsSubcommand before entered after
    → app_of after ≡ with_subcommand app its.top
subcommand_added before entered after app its is_app is_its adds = adds.shape is_its.1 ∙
    ap₂ with_subcommand is_app (ap (λ (a : App). a.top) is_its.0)

amserve_plain : is_simple amserve_app ≡ true
unfolding clap_on_literals
amserve_plain = refl

pub amserve_free : is_simple_and_free amserve_app ≡ true
unfolding clap_on_literals
amserve_free = refl

-- what a parse entered is what the words name
entered_as : (app : App) (m : ArgMatches) (words : List Text) → app ≡ amserve_app → HasMatchesOf app words m
    → subcommand_rows_of m ≡ subcommand_of amserve_app words
entered_as app m words app_is rows = (rows (ap is_simple app_is ∙ amserve_plain)).1 ∙
    ap (λ a. subcommand_of a words) app_is

pub accepted : (app : App) (m : ArgMatches) (words : List Text) (options : Options) → app ≡ amserve_app →
    HasMatchesOf app words m
    → (is_simple_and_free app ≡ true → fault_of app words ≡ []) →
    IsSomeAnd (subcommand_rows_of m) (λ entered. Selects entered options)
    → Names words options
accepted app m words options app_is rows faults named = (
  ap (λ a. fault_of a words) (sym app_is) ∙ faults (ap is_simple_and_free app_is ∙ amserve_free),
  subst (λ e. IsSomeAnd e (λ entered. Selects entered options)) (entered_as app m words app_is rows) named,
)

pub refused_as_nothing : (app : App) (m : ArgMatches) (words : List Text) → app ≡ amserve_app → HasMatchesOf app words m
    → (is_simple_and_free app ≡ true → fault_of app words ≡ [])
    → ((options : Options) → IsSomeAnd (subcommand_rows_of m) (λ entered. Selects entered options) → ⊥)
    → (fault_of amserve_app words ≡ []) × ((options : Options) → Names words options → ⊥)
refused_as_nothing app m words app_is rows faults none = (
  ap (λ a. fault_of a words) (sym app_is) ∙ faults (ap is_simple_and_free app_is ∙ amserve_free),
  λ options named. none options (subst (λ e. IsSomeAnd e (λ entered. Selects entered options))
      (sym (entered_as app m words app_is rows)) named.1),
)

none_set : (setting : Setting) (text : Text) → ((n : ℕ) → Sets setting (Some text) n → ⊥) → (number : Option ℕ) →
    SetsIfGiven setting (Some text) number → ⊥
none_set setting text never None h = h
none_set setting text never (Some n) h = never n h

-- no number is set by the text that was given, so none is set at all
pub none_given : (setting : Setting) (given : Option Text) (text : Text) → given ≡ Some text →
    ((n : ℕ) → Sets setting (Some text) n → ⊥) → (number : Option ℕ) → SetsIfGiven setting given number → ⊥
none_given setting given text is never number h =
    none_set setting text never number (subst (λ (g : Option Text). SetsIfGiven setting g number) is h)
