-- Worked traces with savepoints.
use Rattle.std.specs.Prelude.{ℕ, List, [], ◌∷◌, codes}
use Rattle.am_record.specs.OrderedKey.{OrderedKey, key_of}
use Rattle.am_record.specs.declared.step.Refusal.TheVariants.{Busy}
use Rattle.am_record.specs.declared.step.Op.TheVariants.{Get, Insert, Replace, Delete, Mark, Back}
use Rattle.am_record.specs.declared.step.Step.TheVariants.{Begin, Do, Commit}
use Rattle.am_record.specs.declared.step.Reply.TheVariants.{Begun, Done, Found, Absent, Committed, NoMark, Refused}
use Rattle.am_law_serial.specs.Trace.{Trace}

abbrev pub key_a : OrderedKey
key_a = key_of (codes "a")

abbrev pub key_b : OrderedKey
key_b = key_of (codes "b")

-- the text of a digit
abbrev pub one : List ℕ
one = 49 ∷ []

abbrev pub two : List ℕ
two = 50 ∷ []

abbrev pub three : List ℕ
three = 51 ∷ []

-- savepoints are nested: each Back goes to the newest that stands, and the last finds none
abbrev pub nested_marks : Trace
nested_marks =
    (Begin, Begun 1)
    ∷ (Do 1 (Insert key_a one), Done)
    ∷ (Do 1 Mark, Done)
    ∷ (Do 1 (Replace key_a two), Done)
    ∷ (Do 1 (Insert key_b three), Done)
    ∷ (Do 1 Mark, Done)
    ∷ (Do 1 (Delete key_a), Done)
    ∷ (Do 1 Back, Done)
    ∷ (Do 1 (Get key_a), Found two)
    ∷ (Do 1 Back, Done)
    ∷ (Do 1 (Get key_a), Found one)
    ∷ (Do 1 (Get key_b), Absent)
    ∷ (Do 1 Back, NoMark)
    ∷ (Commit 1, Committed 1)
    ∷ []

-- Back keeps the locks: the key stays locked until the commit
abbrev pub back_keeps_locks : Trace
back_keeps_locks =
    (Begin, Begun 1)
    ∷ (Begin, Begun 2)
    ∷ (Do 1 Mark, Done)
    ∷ (Do 1 (Insert key_a one), Done)
    ∷ (Do 1 Back, Done)
    ∷ (Do 2 (Get key_a), Refused (Busy 1))
    ∷ (Commit 1, Committed 1)
    ∷ (Do 2 (Get key_a), Absent)
    ∷ []

-- what was taken back is read
abbrev pub back_forgotten : Trace
back_forgotten =
    (Begin, Begun 1)
    ∷ (Do 1 Mark, Done)
    ∷ (Do 1 (Insert key_a one), Done)
    ∷ (Do 1 Back, Done)
    ∷ (Do 1 (Get key_a), Found one)
    ∷ []
