-- How many sessions and workers a server has, by the command line's own bounds.
use Rattle.std.proofs.Common.{ℕ, ◌≤◌, Bool, true, false, cond, List, Option, None, Some}
use Rattle.std.specs.Option.{IsSomeAnd}
use Rattle.am_program_options.specs.declared.choice.Listening.{Listening}
use Rattle.am_program_options.specs.declared.choice.Options.TheVariants.{Listen}
use Rattle.am_program_options.specs.Options.{Selects, Sets, Names, sessions, staying_sessions}

-- what follows from whatever value is there
from_some : {A Q : Type 0} {P : A → Type 0} (o : Option A) → IsSomeAnd o P → ((x : A) → P x → Q) → Q
from_some None h f = absurd h
from_some (Some x) h f = f x h

of_sessions : (stays : Bool) (text : Option (List ℕ)) (n : ℕ) → Sets (cond stays staying_sessions sessions) text n →
    (1 ≤ n) × (n ≤ 256)
of_sessions true text n h = (h.0, h.1)
of_sessions false text n h = (h.0, h.1)

pub in_bounds : (words : List (List ℕ)) (listening : Listening) → Names words (Listen listening) →
    (1 ≤ listening.sessions) × (listening.sessions ≤ 256) × (listening.workers ≤ 16)
in_bounds words listening named = from_some {P = λ entered. Selects entered (Listen listening)} _ named.1
    (λ entered selected.
    let most = of_sessions listening.stays _ listening.sessions selected.1.sessions_set in
    (most.0, most.1, selected.1.workers_set.1))
