-- What a session on a store of its own did, by its end.
use Rattle.std.specs.Prelude.{◌≡◌, ℕ, List, [], ◌++◌, Option}
use Rattle.am_line_source.specs.SourceReads.{Took}
use Rattle.am_line_sink.specs.SinkWrites.{Gave}
use Rattle.am_line_session.specs.ServedSessions.{EndsBy}
use Rattle.am_line_alone.specs.Solo.{IsSpoken}
use Rattle.am_line_session.specs.declared.end.End.{End}

-- over any source and sink
abbrev pub Spoke : {S K : Type 0} → (S → List ℕ → Type 0) → (K → Option (List ℕ)) → ℕ → S → K → S → K → End → Type 0
Spoke comes holds auto s k s' k' end =
    EndsBy (λ bytes. Took comes s bytes s') (λ text. Gave holds k text k') (λ text. Unit {0}) (comes s' [])
    (IsSpoken auto) (Unit {0}) end

-- over bytes in memory, of which some are left, and what was written stands after what stood there before
abbrev pub WroteFor : ℕ → List ℕ → List ℕ → List ℕ → List ℕ → End → Type 0
WroteFor auto bytes left before after end =
    EndsBy (λ taken. bytes ≡ taken ++ left) (λ text. after ≡ before ++ text) (λ text. Unit {0}) (left ≡ [])
    (IsSpoken auto) (Unit {0}) end
