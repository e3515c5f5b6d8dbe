-- Records in any order: the runs that they are cut into, and bringing these in in turn.
use Rattle.std.specs.Prelude.{◌≡◌, ◌⊎◌, ◌+◌, ℕ, List, [], ◌∷◌, length, Option, None, Some, Result, Ok, Err, true}
use Rattle.am_record.specs.Limits.{max_run_records}
use Rattle.am_record.specs.Plain.{Records}
use Rattle.am_record.specs.declared.step.Step.TheVariants.{Do}
use Rattle.am_record.specs.declared.step.Reply.{Reply}
use Rattle.am_record.specs.declared.step.Reply.TheVariants.{Done, Refused}
use Rattle.am_record.specs.declared.step.Refusal.TheVariants.{NoMemory}
use Rattle.am_store_runs.specs.Cuts.{keys_of, IsCut, IsLeastTwice}
use Rattle.am_law_sound.specs.StoreState.{StoreState}
use Rattle.am_c_steps.specs.declared.bringing.Bringing.{Bringing}
use Rattle.am_c_steps.specs.declared.load_answers.LoadFailure.{LoadFailure}
use Rattle.am_c_steps.specs.declared.load_answers.LoadFailure.TheVariants.{Twice, Other}
use Rattle.am_c_steps.specs.declared.status.Status.{Status}
use Rattle.am_c_steps.specs.declared.status.Status.TheVariants as is
use Rattle.am_c_steps.specs.Bringings.{brings, copies}
use Rattle.am_c_steps.specs.Lines.{IsRead}
use Rattle.am_c_store.specs.StoreSteps.{Takes}

-- the records of what was given, where nothing is wrong with it
abbrev pub given_by : {S : Type 0} → (S → Records) → Result S Status → Result Records Status
given_by records (Ok source) = Ok (records source)
given_by records (Err why) = Err why

-- the runs of the records: of 65,536 each, and of no records one of none, which the store refuses
abbrev pub AreRuns : Records → List Records → Type 0
AreRuns [] runs = runs ≡ [] ∷ []
AreRuns (p ∷ records) runs = IsCut max_run_records (p ∷ records) runs

-- the runs of what was given, where nothing is wrong with it
abbrev pub AreRunsGiven : Result Records Status → List Records → Type 0
AreRunsGiven (Ok records) runs = AreRuns records runs
AreRunsGiven (Err why) runs = ⊥

-- why none is loaded: what is wrong with what was given, or the least key that stands twice, or memory was refused
abbrev pub IsFailure : Result Records Status → LoadFailure → Type 0
IsFailure (Ok records) (Twice key) = IsLeastTwice (keys_of records) key
IsFailure (Ok records) (Other why) = why ≡ is.NoMemory
IsFailure (Err wrong) (Twice key) = ⊥
IsFailure (Err wrong) (Other why) = (why ≡ wrong) ⊎ (why ≡ is.NoMemory)

-- after the reply to the first run: where it is Done the others are loaded too, and else nothing is done any more
abbrev pub LoadGoesOn : Records → (StoreState → ℕ → Reply → StoreState → Type 0) → Reply → StoreState → ℕ → Reply →
    StoreState → Type 0
LoadGoesOn run Others Done p loaded reply new = (more : ℕ) × (loaded ≡ length run + more) × Others p more reply new
LoadGoesOn run Others first p loaded reply new = (loaded ≡ 0) × (reply ≡ first) × (new ≡ p)

-- the run was brought in by a step of its own; or it is to be copied first, and memory was refused for that, and
-- nothing is done
abbrev pub Brings : StoreState → ℕ → Bringing → Records → Reply → StoreState → Type 0
Brings old tx bringing run reply new =
    Takes old (Do tx (brings bringing run)) reply new
    ⊎ ((copies bringing ≡ true) × (reply ≡ Refused NoMemory) × (new ≡ old))

-- the next run is to be copied first, and memory was refused for that, so that nothing is done any more
abbrev pub HasNoRoom : Bringing → StoreState → ℕ → Reply → StoreState → Type 0
HasNoRoom bringing old loaded reply new =
    (copies bringing ≡ true) × (loaded ≡ 0) × (reply ≡ Refused NoMemory) × (new ≡ old)

-- the store took the next run by a step of its own, and what comes after that
abbrev pub TakesRun : ℕ → Bringing → Records → (StoreState → ℕ → Reply → StoreState → Type 0) → StoreState → ℕ → Reply →
    StoreState → Type 0
TakesRun tx bringing run Others old loaded reply new =
    (first : Reply) × (p : StoreState) × Takes old (Do tx (brings bringing run)) first p
    × LoadGoesOn run Others first p loaded reply new

-- the runs are brought in in turn, until one is refused or has no room: `loaded` records stand in front of that one,
-- and the reply is the last
abbrev pub LoadInTurn : ℕ → Bringing → List Records → StoreState → ℕ → Reply → StoreState → Type 0
LoadInTurn tx bringing [] old loaded reply new = (loaded ≡ 0) × (reply ≡ Done) × (new ≡ old)
LoadInTurn tx bringing (run ∷ runs) old loaded reply new =
    HasNoRoom bringing old loaded reply new
    ⊎ TakesRun tx bringing run (LoadInTurn tx bringing runs) old loaded reply new

-- the runs of what was given were loaded so
pub record LoadsRuns (old : StoreState) (tx : ℕ) (bringing : Bringing) (given : Result Records Status) (loaded : ℕ)
    (reply : Reply) (held : Option StoreState) : Type 0 where
  pub runs : List Records
  pub are : AreRunsGiven given runs
  pub new : StoreState
  pub stands : held ≡ Some new
  pub turns : LoadInTurn tx bringing runs old loaded reply new

-- without a store, or with a failure, nothing is done
abbrev pub Loads : Option StoreState → ℕ → Bringing → Result Records Status → ℕ → Result Reply LoadFailure →
    Option StoreState → Type 0
Loads None tx bringing given loaded answer held = (loaded ≡ 0) × (answer ≡ Err (Other is.NoStore)) × (held ≡ None)
Loads (Some p) tx bringing given loaded (Err failure) held =
    (loaded ≡ 0) × IsFailure given failure × (held ≡ Some p)
Loads (Some p) tx bringing given loaded (Ok reply) held = LoadsRuns p tx bringing given loaded reply held

-- what was given was brought in, and what C has of it is so
pub record TellsRuns (old : Option StoreState) (tx : ℕ) (bringing : Bringing) (given : Result Records Status)
    (new : Option StoreState) (So : ℕ → Result Reply LoadFailure → Type 0) : Type 0 where
  pub loaded : ℕ
  pub answer : Result Reply LoadFailure
  pub loads : Loads old tx bringing given loaded answer new
  pub so : So loaded answer

-- what was read of the text was brought in, and what C has of it is so
pub record TellsText (old : Option StoreState) (tx : ℕ) (bringing : Bringing) (text : List ℕ) (line : ℕ)
    (new : Option StoreState) (So : ℕ → Result Reply LoadFailure → Type 0) : Type 0 where
  pub read : Result Records Status
  pub is_read : IsRead text read line
  pub tells : TellsRuns old tx bringing read new So
