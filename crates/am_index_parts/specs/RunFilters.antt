-- What filters say of the keys of runs.
use Rattle.std.specs.Prelude.{◌≡◌, ◌⊎◌, ◌<◌, ◌≤◌, ◌&&◌, ℕ, Bool, List, [], ◌∷◌, true, Option, Some, None}
use Rattle.std.specs.Prelude.{if◌then◌else◌}
use Rattle.std.specs.List.{list_any}
use Rattle.am_record.specs.OrderedKey.{OrderedKey}
use Rattle.am_record.specs.declared.entry.Entry.{Entry}
use Rattle.am_index.specs.Content.{IsLiveAt}
use Rattle.am_index_filter.specs.Covers.{is_marked}
use Rattle.am_index_parts.specs.declared.run_filters.RunFilter.{RunFilter}
use Rattle.am_index_parts.specs.declared.run_filters.Generation.{Generation}

-- the key is live in the run
pub record LivesInRun (es : List Entry) (key : OrderedKey) (part : ℕ) : Type 0 where
  pub is_run : 0 < part
  pub value : List ℕ
  pub live : IsLiveAt es part key value

-- a filter of the run covers the number; that of a live entry is awake
abbrev pub IsNamed : Bool → List RunFilter → ℕ → ℕ → Type 0
IsNamed live [] run n = ⊥
IsNamed live (f ∷ fs) run n =
    ((f.part ≡ run) × (is_marked f.filter n ≡ true) × (live ≡ true → f.is_awake ≡ true)) ⊎ IsNamed live fs run n

-- so it is in the generation, whose filter of all keys covers it too
pub record IsNamedIn (live : Bool) (g : Generation) (run n : ℕ) : Type 0 where
  pub from : g.first ≤ run
  pub to : run ≤ g.last
  pub awake : live ≡ true → g.is_awake ≡ true
  pub covered : is_marked g.all n ≡ true
  pub named : IsNamed live g.runs.items run n

-- as one of the generations says, the key of that number may be in the run, live or as a ghost
abbrev pub MayBeIn : Bool → List Generation → ℕ → ℕ → Type 0
MayBeIn live [] run n = ⊥
MayBeIn live (g ∷ gs) run n = IsNamedIn live g run n ⊎ MayBeIn live gs run n

-- by one of the generations, the key of one of the numbers may be live in a run
abbrev pub may_have_any : List Generation → List ℕ → Bool
may_have_any gs numbers = list_any (λ (g : Generation). g.is_awake && list_any (λ n. is_marked g.all n) numbers) gs

-- the first of two answers that there is
abbrev pub first_some : Option ℕ → Option ℕ → Option ℕ
first_some None other = other
first_some (Some run) other = Some run

-- the last of the runs that are awake whose filter covers the number
abbrev pub newest_of : List RunFilter → ℕ → Option ℕ
newest_of [] n = None
newest_of (f ∷ fs) n = first_some (newest_of fs n) (if f.is_awake && is_marked f.filter n then Some f.part else None)

-- the last such of the last generation that has one
abbrev pub newest_run : List Generation → ℕ → Option ℕ
newest_run [] n = None
newest_run (g ∷ gs) n =
    first_some (newest_run gs n) (if g.is_awake && is_marked g.all n then newest_of g.runs.items n else None)
