-- What those keep to who put entries in parts.
use Rattle.std.specs.Prelude.{◌≡◌, ℕ, ◌<◌, ◌≤◌, ◌==◌, List, [], ◌∷◌, Bool, true, false, ◌&&◌, ◌||◌, filter}
use Rattle.am_replica_log.specs.declared.event.Name.{Name}
use Rattle.am_replica_log.specs.declared.event.Part.{Part}
use Rattle.am_replica_log.specs.declared.event.Part.TheVariants.{Piece as PiecePart}
use Rattle.am_replica_log.specs.declared.pieces.Piece.{Piece}
use Rattle.am_replica_log.specs.History.{Puts, History, same, is_same_part}
use Rattle.am_replica_pieces.specs.Cut.{before_head, part_at, bytes_at}

-- whether the part was put under the generation
abbrev pub was_put : ℕ → Name → Part → History → Bool
was_put g name part [] = false
was_put g name part (Puts h other p bytes ∷ before) =
    ((g == h) && (same name other && is_same_part part p)) || was_put g name part before
was_put g name part (change ∷ before) = was_put g name part before

-- A part of the text is put once all pieces before it were put under its generation.
pub record IsPart (most : ℕ) (text : List ℕ) (g : ℕ) (name : Name) (part : Part) (bytes : List ℕ) (before : History)
    : Type 0 where
  pub number : ℕ
  pub here : number ≤ before_head most text
  pub part_is : part ≡ part_at most text number
  pub bytes_are : bytes ≡ bytes_at most text number
  pub in_turn : (n : ℕ) → n < number → was_put g name (PiecePart n) before ≡ true

-- each part that is put is one of the text that was handed over under its name
abbrev pub AreParts : ℕ → (Name → List ℕ) → History → Type 0
AreParts most texts [] = Unit {0}
AreParts most texts (Puts g name part bytes ∷ before) =
    IsPart most (texts name) g name part bytes before × AreParts most texts before
AreParts most texts (change ∷ before) = AreParts most texts before

-- what a reader keeps of one entry
abbrev pub pieces_under : Name → List Piece → List Piece
pieces_under name pieces = filter (λ p. same p.entry name) pieces
