-- Traces: what a list of steps with their replies says of its transactions, and when it is serial and steady.
use Rattle.std.specs.Prelude.{◌≡◌, ℕ, ◌+◌, ◌==◌, List, [], ◌∷◌, ◌++◌, Bool, true, cond, not, map, filter, Option, Some}
use Rattle.std.specs.Prelude.{None}
use Rattle.std.specs.List.{filter_map}
use Rattle.std.specs.FinMap.{empty}
use Rattle.am_record.specs.declared.lock.Lock.{Lock}
use Rattle.am_record.specs.declared.step.Op.{Op}
use Rattle.am_record.specs.declared.step.Op.TheVariants.{Load, Put}
use Rattle.am_record.specs.declared.step.Step.{Step}
use Rattle.am_record.specs.declared.step.Step.TheVariants.{Begin, Do, Commit, Abort}
use Rattle.am_record.specs.declared.step.Reply.{Reply}
use Rattle.am_record.specs.declared.step.Reply.TheVariants.{Done, Begun, Committed, Aborted, Refused}
use Rattle.am_record.specs.Plain.{PlainMap, has_new, answers, left}
use Rattle.am_record.specs.Events.{Event}
use Rattle.am_record.specs.ByNumber.{has_number}
use Rattle.am_record.specs.Asks.{locks_of}

abbrev pub Trace : Type 0
Trace = List Event

-- an operation with the reply that answered it
abbrev pub Answered : Type 0
Answered = Op × Reply

-- what an event does to the transactions
pub data Effect : Type 0 where
  Begins : ℕ → Effect
  Answers : ℕ → Op → Reply → Effect
  Commits : ℕ → Effect
  Aborts : ℕ → Effect
  Nothing : Effect

-- an operation that is refused does nothing
abbrev pub effect_of_do : ℕ → Op → Reply → Effect
effect_of_do t op (Refused why) = Nothing
effect_of_do t op reply = Answers t op reply

abbrev pub effect : Step → Reply → Effect
effect Begin (Begun t) = Begins t
effect (Do t op) reply = effect_of_do t op reply
effect (Commit t) (Committed c) = Commits t
effect (Abort t) Aborted = Aborts t
effect _ _ = Nothing

abbrev pub begins : Effect → Option ℕ
begins (Begins t) = Some t
begins _ = None

abbrev pub commits : Effect → Option ℕ
commits (Commits t) = Some t
commits _ = None

abbrev pub ends : Effect → Option ℕ
ends (Commits t) = Some t
ends (Aborts t) = Some t
ends _ = None

abbrev pub answered_to : ℕ → Effect → Option Answered
answered_to t (Answers u op reply) = cond (u == t) (Some (op, reply)) None
answered_to t _ = None

-- how many runs the operation made that found this map: a put makes one where a key is new
abbrev pub runs_made : PlainMap → Op → Reply → ℕ
runs_made m (Load records) Done = 1
runs_made m (Put records) Done = cond (has_new records m) 1 0
runs_made m _ _ = 0

abbrev pub effects : Trace → List Effect
effects trace = map (λ (e : Event). effect e.0 e.1) trace

-- the transactions that were begun; those that committed or were aborted; those that committed, in order of commit
abbrev pub begun : List Effect → List ℕ
begun es = filter_map begins es

abbrev pub ended : List Effect → List ℕ
ended es = filter_map ends es

abbrev pub committers : List Effect → List ℕ
committers es = filter_map commits es

-- begun, and neither committed nor aborted
abbrev pub active : List Effect → List ℕ
active es = filter (λ t. not (has_number (λ u. u) (ended es) t)) (begun es)

abbrev pub is_active : List Effect → ℕ → Bool
is_active es t = has_number (λ u. u) (active es) t

-- the answered operations of a transaction with their replies, in order
abbrev pub body : List Effect → ℕ → List Answered
body es t = filter_map (answered_to t) es

abbrev pub ops_of : List Answered → List Op
ops_of done = map (λ (a : Answered). a.0) done

abbrev pub replies_of : List Answered → List Reply
replies_of done = map (λ (a : Answered). a.1) done

-- the map that whole bodies leave, one after another
abbrev pub left_by_bodies : List (List Answered) → PlainMap → PlainMap
left_by_bodies [] m = m
left_by_bodies (b ∷ bs) m = left_by_bodies bs (left (ops_of b) m)

abbrev pub committed_bodies : List Effect → List (List Answered)
committed_bodies es = map (body es) (committers es)

abbrev pub committed : List Effect → PlainMap
committed es = left_by_bodies (committed_bodies es) empty

-- what a transaction sees: its body alone on the committed map
abbrev pub seen_by : List Effect → ℕ → PlainMap
seen_by es t = left (ops_of (body es t)) (committed es)

-- how many runs an event made after these; how many they all made
abbrev pub makes : List Effect → Effect → ℕ
makes past (Answers t op reply) = runs_made (seen_by past t) op reply
makes past _ = 0

abbrev pub runs_after : List Effect → List Effect → ℕ
runs_after past [] = 0
runs_after past (e ∷ es) = makes past e + runs_after (past ++ e ∷ []) es

abbrev pub runs : List Effect → ℕ
runs es = runs_after [] es

-- the replies recorded in the body are those that it gets alone from the map
abbrev pub IsAnsweredAlone : List Answered → PlainMap → Type 0
IsAnsweredAlone done m = replies_of done ≡ answers (ops_of done) m

-- the same of whole bodies, one after another
abbrev pub AreAnsweredInTurn : List (List Answered) → PlainMap → Type 0
AreAnsweredInTurn [] m = Unit {0}
AreAnsweredInTurn (b ∷ bs) m = IsAnsweredAlone b m × AreAnsweredInTurn bs (left (ops_of b) m)

-- serializable in the order of commit
abbrev pub IsSerial : List Effect → Type 0
IsSerial es = AreAnsweredInTurn (committed_bodies es) empty

-- what is active has read only the committed map and its own writes
abbrev pub IsSteady : List Effect → Type 0
IsSteady es = (t : ℕ) → is_active es t ≡ true → IsAnsweredAlone (body es t) (committed es)

-- the locks that a transaction holds
abbrev pub held_by : List Effect → ℕ → List Lock
held_by es t = locks_of (ops_of (body es t))

-- the bodies of what is active, over the committed map
abbrev pub overlay : List Effect → PlainMap
overlay es = left_by_bodies (map (body es) (active es)) (committed es)

-- a fact at each moment of a trace from these effects on
abbrev pub AtEachMoment : (List Effect → Type 0) → List Effect → Trace → Type 0
AtEachMoment P es [] = P es
AtEachMoment P es (e ∷ trace) = P es × AtEachMoment P (es ++ effect e.0 e.1 ∷ []) trace
