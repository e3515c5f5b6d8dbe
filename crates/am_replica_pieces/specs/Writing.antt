-- What holds of an entry that is on its way.
use Rattle.std.specs.Prelude.{◌≡◌, ℕ, ◌+◌, ◌<◌, ◌≤◌, ◌==◌, ltb, List, [], ◌∷◌, ◌++◌, Bool, true, false, ◌&&◌}
use Rattle.std.specs.Prelude.{◌||◌, cond, Option, Some, None}
use Rattle.am_replica_log.specs.declared.event.Name.{Name}
use Rattle.am_replica_log.specs.declared.event.Part.{Part}
use Rattle.am_replica_log.specs.declared.event.Part.TheVariants.{Piece}
use Rattle.am_replica_log.specs.declared.pieces.Entry.{Entry}
use Rattle.am_replica_log.specs.History.{Puts, History, same, generation}
use Rattle.am_replica_log.specs.Writers.{KeepsPremise, NeverCounted}
use Rattle.am_replica_pieces.specs.Cut.{before_head, part_at, bytes_at}
use Rattle.am_replica_pieces.specs.Turns.{was_put}
use Rattle.am_replica_pieces.specs.WriterState.{WriterState}

-- whether the log told of the entry
abbrev pub tells : Option Entry → Name → Bool
tells None name = false
tells (Some e) name = same name e.name

-- a part was put under the generation; so many pieces come before the head
abbrev pub state_answered : ℕ → ℕ → WriterState → WriterState
state_answered generation last w =
    record w { next = cond ((generation == w.generation) && ltb w.next last) (w.next + 1) w.next }

-- the log has this generation now, and told of an entry, if it did
abbrev pub state_heard : ℕ → Option Entry → WriterState → WriterState
state_heard generation told w = record w {
  generation = generation;
  next = cond (w.generation == generation) w.next 0;
  is_seen = w.is_seen || tells told w.name;
}

-- The log was read up to a history, and more was done in the cluster since: of what is read the writer knows whether
-- the entry counted, and all pieces before the next part were put.
pub record IsOnWay (most : ℕ) (text : List ℕ) (w : WriterState) (since read : History) : Type 0 where
  pub here : w.next ≤ before_head most text
  pub began : w.generation ≤ generation read
  pub in_turn : (n : ℕ) → n < w.next → was_put w.generation w.name (Piece n) (since ++ read) ≡ true
  pub unseen : w.is_seen ≡ false → NeverCounted w.name read

-- The part is one that a writer of that text puts, where it stands or stood: late puts have more done since.
pub record IsByWriter (most : ℕ) (text : List ℕ) (g : ℕ) (name : Name) (part : Part) (bytes : List ℕ) (before : History)
    : Type 0 where
  pub writer : WriterState
  pub since : History
  pub read : History
  pub before_is : since ++ read ≡ before
  pub on_way : IsOnWay most text writer since read
  pub unseen : writer.is_seen ≡ false
  pub generation_is : writer.generation ≡ g
  pub name_is : writer.name ≡ name
  pub part_is : part ≡ part_at most text writer.next
  pub bytes_are : bytes ≡ bytes_at most text writer.next

-- each part was put by a writer of the text of that name, and all else is as it may be
abbrev pub AreByWriters : ℕ → (Name → List ℕ) → History → Type 0
AreByWriters most texts [] = Unit {0}
AreByWriters most texts (Puts g name part bytes ∷ before) =
    IsByWriter most (texts name) g name part bytes before × AreByWriters most texts before
AreByWriters most texts (change ∷ before) = KeepsPremise change before × AreByWriters most texts before
