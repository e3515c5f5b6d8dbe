-- Revisions of floors and pieces.
use Rattle.std.proofs.Common.{◌≡◌, ℕ, ◌+◌, ◌-◌, ◌<◌, ◌≤◌, List, [], ◌∷◌, ◌++◌, Bool, true, false, not, cond, arith}
use Rattle.std.proofs.Common.{refl}
use Rattle.std.specs.Prelude.{min}
use Rattle.std.specs.List.{AllByRecursion}
use Rattle.am_replica_log.specs.declared.event.Name.{Name}
use Rattle.am_replica_log.specs.declared.event.Part.{Part}
use Rattle.am_replica_log.specs.declared.event.Part.TheVariants.{Piece as PiecePart, Head}
use Rattle.am_replica_log.specs.declared.pieces.Piece.{Piece}
use Rattle.am_replica_log.specs.History.{Puts, Moves, History, floor, generation, revision_of, same, counts}
use Rattle.am_replica_log.specs.History.{pieces_behind}
use Rattle.am_replica_log.specs.History.{open_pieces, first_behind}
use Rattle.am_replica_log.proofs.Filters.{each_push, each_weaker, each_filter}

pub floor_came : (h : History) → floor h ≤ revision_of h
floor_came [] = omega arith
floor_came (Moves f ∷ b) = omega arith
floor_came (change ∷ b) = let before : floor b ≤ revision_of b = floor_came b in omega arith

pub revisions_rise : (read b : History) → revision_of b ≤ revision_of (read ++ b)
revisions_rise [] b = omega arith
revisions_rise (change ∷ read) b = let rest : revision_of b ≤ revision_of (read ++ b) = revisions_rise read b in
    omega arith

-- a piece came after the floor, at this revision or before it
abbrev pub Came : ℕ → ℕ → Piece → Type 0
Came floor revision p = (floor < p.revision) × (p.revision ≤ revision)

one_more : (low high : ℕ) (pieces : List Piece) → AllByRecursion (Came low high) pieces →
    AllByRecursion (Came low (high + 1)) pieces
one_more low high pieces all = each_weaker (Came low high) (Came low (high + 1)) (λ p came.
    let below : low < p.revision = came.0 in
    let above : p.revision ≤ high = came.1 in
    (below, omega arith)) pieces all

part_came : (low high : ℕ) (name : Name) (part : Part) (text : List ℕ) (pieces : List Piece) → low ≤ high
    → AllByRecursion (Came low high) pieces → AllByRecursion (Came low (high + 1))
    (pieces_behind name part (high + 1) text pieces)
part_came low high name (PiecePart n) text pieces order all =
    each_push (Came low (high + 1)) pieces _ (one_more low high pieces all) (omega arith, omega arith)
part_came low high name Head text pieces order all =
    each_filter (Came low (high + 1)) (λ p. not (same p.entry name)) pieces (one_more low high pieces all)

either_came : (low high : ℕ) (test : Bool) (xs ys : List Piece) → AllByRecursion (Came low high) xs →
    AllByRecursion (Came low high) ys
    → AllByRecursion (Came low high) (cond test xs ys)
either_came low high true xs ys p q = p
either_came low high false xs ys p q = q

-- the pieces whose heads haven't come came after the floor
pub pieces_came : (h : History) → AllByRecursion (Came (floor h) (revision_of h)) (open_pieces h)
pieces_came [] = tt
pieces_came (Puts g name part text ∷ b) =
    either_came (floor b) (revision_of b + 1) (counts g name part b) _ _
    (part_came (floor b) (revision_of b) name part text (open_pieces b) (floor_came b) (pieces_came b))
    (one_more (floor b) (revision_of b) (open_pieces b) (pieces_came b))
pieces_came (Moves f ∷ b) = tt
pieces_came (change ∷ b) = one_more (floor b) (revision_of b) (open_pieces b) (pieces_came b)

-- the floor stands where it stood at a revision that it isn't above
pub same_floor : (read b : History) → floor (read ++ b) ≤ revision_of b → floor (read ++ b) ≡ floor b
same_floor [] b low = refl
same_floor (Moves f ∷ read) b low =
    let rest : revision_of b ≤ revision_of (read ++ b) = revisions_rise read b in
    let here : revision_of (read ++ b) + 1 ≤ revision_of b = low in
    absurd (omega arith)
same_floor (change ∷ read) b low = same_floor read b low

pub same_generation : (read b : History) → floor (read ++ b) ≤ revision_of b → generation (read ++ b) ≡ generation b
same_generation [] b low = refl
same_generation (Moves f ∷ read) b low =
    let rest : revision_of b ≤ revision_of (read ++ b) = revisions_rise read b in
    let here : revision_of (read ++ b) + 1 ≤ revision_of b = low in
    absurd (omega arith)
same_generation (change ∷ read) b low = same_generation read b low

-- ---- the revision that a reader begins after

pub first_is_low : (low revision : ℕ) (pieces : List Piece) (high : ℕ) → low ≤ revision →
    AllByRecursion (Came low high) pieces
    → low ≤ first_behind revision pieces
first_is_low low revision [] high under all = under
first_is_low low revision (p ∷ pieces) high under all =
    let here : low < p.revision = all.0.0 in
    first_is_low low (min revision (p.revision - 1)) pieces high (omega arith) all.1

first_is_under : (revision : ℕ) (pieces : List Piece) → first_behind revision pieces ≤ revision
first_is_under revision [] = omega arith
first_is_under revision (p ∷ pieces) =
    let rest : first_behind (min revision (p.revision - 1)) pieces ≤ min revision (p.revision - 1) =
    first_is_under (min revision (p.revision - 1)) pieces in
    omega arith

pub all_behind_first : (low revision : ℕ) (pieces : List Piece) (high : ℕ) → AllByRecursion (Came low high) pieces
    → (from : ℕ) → from ≤ first_behind revision pieces → AllByRecursion (λ p. from < p.revision) pieces
all_behind_first low revision [] high all from under = tt
all_behind_first low revision (p ∷ pieces) high all from under =
    let here : low < p.revision = all.0.0 in
    let rest : first_behind (min revision (p.revision - 1)) pieces ≤ min revision (p.revision - 1) =
    first_is_under (min revision (p.revision - 1)) pieces in
    let order : from ≤ first_behind (min revision (p.revision - 1)) pieces = under in
    (omega arith, all_behind_first low (min revision (p.revision - 1)) pieces high all.1 from under)
