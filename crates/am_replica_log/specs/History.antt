-- What was done in the cluster that keeps the log, and what of it counts. Histories have the newest change first.
use Rattle.std.specs.Prelude.{ℕ, ◌+◌, ◌-◌, ◌==◌, ltb, min, List, [], ◌∷◌, ◌++◌, Bool, true, false, ◌&&◌, ◌||◌, not}
use Rattle.std.specs.Prelude.{cond, filter, Option, Some, None, option_to_list}
use Rattle.am_replica_log.specs.declared.event.Name.{Name}
use Rattle.am_replica_log.specs.declared.event.Snapshot.{Snapshot}
use Rattle.am_replica_log.specs.declared.event.Part.{Part}
use Rattle.am_replica_log.specs.declared.event.Part.TheVariants.{Piece as PiecePart, Head}
use Rattle.am_replica_log.specs.declared.event.Floor.{Floor}
use Rattle.am_replica_log.specs.declared.event.Event.{Event}
use Rattle.am_replica_log.specs.declared.event.Event.TheVariants.{Put, Moved}
use Rattle.am_replica_log.specs.declared.pieces.Piece.{Piece}
use Rattle.am_replica_log.specs.declared.pieces.Entry.{Entry}
use Rattle.am_replica_log.specs.declared.deletion.Deletion.{Deletion}

-- A part of an entry is put under a generation, with its bytes; the last piece of a snapshot is there as it was put;
-- the floor names a snapshot, whose generation begins; a deletion is done; or something else is.
pub data Change : Type 0 where
  Puts : ℕ → Name → Part → List ℕ → Change
  Writes : Snapshot → Change
  Moves : Floor → Change
  Deletes : Deletion → Change
  Others : Change

abbrev pub History : Type 0
History = List Change

-- ---- names

abbrev pub same : Name → Name → Bool
same a b = (a.writer == b.writer) && (a.number == b.number)

abbrev pub same_snapshot : Snapshot → Snapshot → Bool
same_snapshot s t = (s.generation == t.generation) && (s.writer == t.writer)

abbrev pub is_same_part : Part → Part → Bool
is_same_part (PiecePart n) (PiecePart m) = n == m
is_same_part Head Head = true
is_same_part _ _ = false

-- ---- the floor

-- each change has a revision, one above that of the change before
abbrev pub revision_of : History → ℕ
revision_of [] = 0
revision_of (change ∷ before) = revision_of before + 1

-- the newest floor's revision
abbrev pub floor : History → ℕ
floor [] = 0
floor (Moves f ∷ before) = revision_of before + 1
floor (change ∷ before) = floor before

-- the generation that the next change has its place in
abbrev pub generation : History → ℕ
generation [] = 0
generation (Moves f ∷ before) = f.snapshot.generation
generation (change ∷ before) = generation before

abbrev pub names : Snapshot → History → Bool
names s [] = false
names s (Moves f ∷ before) = same_snapshot s f.snapshot
names s (change ∷ before) = names s before

-- ---- deletions

-- whether a deletion is done that is compared with the snapshot that the floor names, if it is with any
abbrev pub is_done_over : Option Snapshot → History → Bool
is_done_over None before = true
is_done_over (Some s) before = names s before

abbrev pub is_done : Deletion → History → Bool
is_done d before = is_done_over d.only_at before

-- whether it is of that snapshot's pieces too
abbrev pub lets_go : Deletion → Snapshot → Bool
lets_go d s = not (ltb d.through s.generation) && not (same_snapshot d.but s)

-- whether the cluster has the key of an entry's part under the generation
abbrev pub is_there : ℕ → Name → Part → History → Bool
is_there g name part [] = false
is_there g name part (Puts h other p text ∷ before) =
    ((g == h) && (same name other && is_same_part part p)) || is_there g name part before
is_there g name part (Deletes d ∷ before) = not (is_done d before && ltb g d.generation) && is_there g name part before
is_there g name part (change ∷ before) = is_there g name part before

-- whether it has all pieces of the snapshot
abbrev pub is_whole : Snapshot → History → Bool
is_whole s [] = false
is_whole s (Writes t ∷ before) = same_snapshot s t || is_whole s before
is_whole s (Deletes d ∷ before) = not (is_done d before && lets_go d s) && is_whole s before
is_whole s (change ∷ before) = is_whole s before

-- ---- entries

-- a put counts where its key wasn't there, under the generation that it has its place in
abbrev pub counts : ℕ → Name → Part → History → Bool
counts g name part before = (g == generation before) && not (is_there g name part before)

-- the pieces whose heads haven't come, in their order
abbrev pub pieces_behind : Name → Part → ℕ → List ℕ → List Piece → List Piece
pieces_behind name (PiecePart n) at text pieces =
    pieces ++ record { entry = name; number = n; revision = at; text = text } ∷ []
pieces_behind name Head at text pieces = filter (λ p. not (same p.entry name)) pieces

abbrev pub open_pieces : History → List Piece
open_pieces [] = []
open_pieces (Puts g name part text ∷ before) =
    cond (counts g name part before)
    (pieces_behind name part (revision_of before + 1) text (open_pieces before)) (open_pieces before)
open_pieces (Moves f ∷ before) = []
open_pieces (change ∷ before) = open_pieces before

-- the bytes of an entry's pieces, one after another
abbrev pub whole_text : Name → List Piece → List ℕ
whole_text name [] = []
whole_text name (p ∷ pieces) = cond (same p.entry name) (p.text ++ whole_text name pieces) (whole_text name pieces)

-- whether the numbers of an entry's pieces are this one and those that follow it, in their order
abbrev pub are_in_turn : ℕ → Name → List Piece → Bool
are_in_turn next name [] = true
are_in_turn next name (p ∷ pieces) =
    cond (same p.entry name) ((p.number == next) && are_in_turn (next + 1) name pieces) (are_in_turn next name pieces)

-- the bytes of the entry that a head ends: none where not all pieces before it came in their turn
abbrev pub joined : Name → List Piece → List ℕ → Option (List ℕ)
joined name pieces head = cond (are_in_turn 0 name pieces) (Some (whole_text name pieces ++ head)) None

-- the entry that a put ends, where it has its head and counts
abbrev pub ended_by : Name → Part → List ℕ → List Piece → Option Entry
ended_by name (PiecePart n) text pieces = None
ended_by name Head text pieces = Some (record { name = name; text = joined name pieces text })

abbrev pub counted_by : Change → History → Option Entry
counted_by (Puts g name part text) before =
    cond (counts g name part before) (ended_by name part text (open_pieces before)) None
counted_by change before = None

abbrev pub same_entry : Entry → Entry → Bool
same_entry a b = same a.name b.name

-- the entries that count, the newest first
abbrev pub counted_entries : History → List Entry
counted_entries [] = []
counted_entries (change ∷ before) = option_to_list (counted_by change before) ++ counted_entries before

-- ---- what is told

-- of a change a reader is told its revision, what it was, and the bytes of what was put
pub record Told : Type 0 where
  pub revision : ℕ
  pub event : Event
  pub text : List ℕ

abbrev pub shown : Change → History → Option Told
shown (Puts g name part text) before =
    Some (record {
      revision = revision_of before + 1;
      event = Put g name part (not (is_there g name part before));
      text = text;
    })
shown (Moves f) before = Some (record { revision = revision_of before + 1; event = Moved f; text = [] })
shown change before = None

-- After which revision a reader has to begin who knows all up to the given one: pieces whose heads haven't come may
-- have come before.
abbrev pub first_behind : ℕ → List Piece → ℕ
first_behind revision [] = revision
first_behind revision (p ∷ pieces) = first_behind (min revision (p.revision - 1)) pieces
