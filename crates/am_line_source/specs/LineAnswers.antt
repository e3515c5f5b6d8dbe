-- What a reader of lines is told.
use Rattle.std.specs.Prelude.{ℕ, List, [], Bool, true, false, Option, Some, None}
use Rattle.am_line_source.specs.Lines.{IsReading, TookLine}
use Rattle.am_line_source.specs.SourceReads.{TookAhead, IsAtEnd}
use Rattle.am_line_source.specs.declared.line.LineKind.{LineKind}
use Rattle.am_line_source.specs.declared.line.LineKind.TheVariants.{Text, Long}
use Rattle.am_line_source.specs.declared.line.Coming.{Coming}
use Rattle.am_line_source.specs.declared.line.Coming.TheVariants.{Line, End, Late}

-- what a line is by its kind and its bytes: None where it is too long
abbrev pub line_by : LineKind → List ℕ → Option (List ℕ)
line_by Text line = Some line
line_by Long line = None

abbrev pub is_late : Coming → Bool
is_late Late = true
is_late coming = false

-- What came of waiting for a line, of which these bytes are kept then: the line, the end, or a part of a line.
abbrev pub CameOf : {S : Type 0} → (S → List ℕ → Type 0) → List ℕ → S → Coming → List ℕ → List ℕ → S → Type 0
CameOf comes before old (Line found) line waiting new =
    TookLine comes before old (line_by found.kind line) found.is_ended waiting new
CameOf comes before old End line waiting new =
    TookAhead comes before old [] waiting new × IsAtEnd comes waiting new
CameOf comes before old Late line waiting new = IsReading comes before old line waiting new
