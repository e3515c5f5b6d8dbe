-- The line that tells how a server does.
use Rattle.std.specs.Prelude.{ℕ, List, [], ◌∷◌, ◌++◌, codes, decimal, Bool, if◌then◌else◌}
use Rattle.std.specs.List.{flat_map}
use Rattle.am_serve_drain.specs.declared.counts.ServerCounts.{ServerCounts}

-- a count with its name, and a space after it
abbrev pub count_words : List ℕ × ℕ → List ℕ
count_words count = ((count.0 ++ codes "=") ++ decimal count.1) ++ codes " "

-- each count by its name, and how many bytes of the trace wait to be written
abbrev pub counts_told : ServerCounts → ℕ → List (List ℕ × ℕ)
counts_told c waiting =
    (codes "sessions", c.sessions.begun) ∷ (codes "open", c.sessions.open) ∷ (codes "steps", c.trace.events) ∷
    (codes "commits", c.trace.of.commits) ∷ (codes "busy", c.trace.of.busy) ∷
    (codes "too_many", c.trace.of.too_many) ∷ (codes "wrong", c.trace.of.wrong) ∷
    (codes "in_final", c.index.in_final) ∷ (codes "in_runs", c.index.in_runs) ∷ (codes "runs", c.index.runs) ∷
    (codes "ghosts", c.index.ghosts) ∷ (codes "kept", c.trace.kept) ∷ (codes "waiting", waiting) ∷
    (codes "unaccepted", c.sessions.refused_by_system) ∷ []

-- the line that tells them, and whether the trace is whole
abbrev pub log_text : ServerCounts → ℕ → Bool → List ℕ
log_text c waiting is_cut =
    (flat_map count_words (counts_told c waiting) ++ (if is_cut then codes "trace=cut" else codes "trace=whole")) ++
    10 ∷ []
