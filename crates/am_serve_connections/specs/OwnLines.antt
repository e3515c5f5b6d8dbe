-- What a connection passes on: lines of the protocol alone.
use Rattle.std.specs.Prelude.{◌≡◌, ◌⊎◌, ◌≤◌, ◌<◌, ◌+◌, ℕ, List, [], ◌∷◌, ◌++◌, length, take, ◌==◌, ◌||◌, if◌then◌else◌}
use Rattle.std.specs.Prelude.{Bool, true, false, Option, Some, None, MatchOption}
use Rattle.std.specs.Char.{is_ascii_graphic, is_ascii_whitespace}
use Rattle.am_line_source.specs.SourceReads.{Took}
use Rattle.am_serve_connections.specs.Http.{is_of_http}
use Rattle.am_serve_connections.specs.declared.own_lines.OwnLines.{OwnLines}
use Rattle.am_serve_connections.specs.declared.own_lines.Stage.{Stage}
use Rattle.am_serve_connections.specs.declared.own_lines.Stage.TheVariants.{First, Open, Closed}

-- a place, so many bytes later
abbrev pub moved_on : ℕ → Option ℕ → Option ℕ
moved_on count None = None
moved_on count (Some place) = Some (count + place)

-- where bytes end a line of HTTP that go on with a line which has begun so
abbrev pub http_end : List ℕ → List ℕ → Option ℕ
http_end line [] = None
http_end line (byte ∷ bytes) =
    if byte == 10 then (if is_of_http line then Some 0 else moved_on 1 (http_end [] bytes))
    else moved_on 1 (http_end (line ++ byte ∷ []) bytes)

-- how the line has begun that they leave open
abbrev pub line_behind : List ℕ → List ℕ → List ℕ
line_behind line [] = line
line_behind line (byte ∷ bytes) =
    if byte == 10 then line_behind [] bytes else line_behind (line ++ byte ∷ []) bytes

-- whether the first byte, where there is one, begins a line of text: it is one that is printed, or a blank
abbrev pub begins_line : List ℕ → Bool
begins_line [] = true
begins_line (byte ∷ bytes) = is_ascii_graphic byte || is_ascii_whitespace byte

-- Where bytes cease to be lines of the protocol: at the first of all, where that begins none of them; else where they
-- end a line of HTTP.
abbrev pub own_end : Stage → List ℕ → List ℕ → Option ℕ
own_end First line bytes = if begins_line bytes then http_end line bytes else Some 0
own_end Open line bytes = http_end line bytes
own_end Closed line bytes = Some 0

-- how the line has begun that a connection has passed on in part, the first 4,097 bytes of it
abbrev pub line_begun : {S : Type 0} → OwnLines S → List ℕ
line_begun s = s.line.bytes.items

-- the bytes that may come are a front of the source's, and none once it is closed
abbrev pub may_come_at : {S : Type 0} → (S → List ℕ → Type 0) → Stage → S → List ℕ → Type 0
may_come_at comes Closed source bytes = (bytes ≡ []) × ((rest : List ℕ) × comes source rest)
may_come_at comes stage source bytes = (rest : List ℕ) × comes source (bytes ++ rest)

abbrev pub may_come : {S : Type 0} → (S → List ℕ → Type 0) → OwnLines S → List ℕ → Type 0
may_come comes s bytes = may_come_at comes s.stage s.source bytes

-- where a connection stands that passed these bytes on
abbrev pub stage_behind : Stage → List ℕ → Stage
stage_behind stage [] = stage
stage_behind stage (byte ∷ bytes) = Open

-- Of a source's next bytes those are passed on that are lines of the protocol: all of them, or those up to where they
-- cease to be, without the LF that would end a line of HTTP, and the connection is closed then. That no more bytes come
-- is passed on, unless a line of HTTP would end there.
pub record Passed {S : Type 0} (comes : S → List ℕ → Type 0) (old : OwnLines S) (room : ℕ) (passed : List ℕ)
    (new : OwnLines S) : Type 0 where
  pub came : List ℕ
  pub took : Took comes old.source came new.source
  pub fits : length came ≤ room
  pub ended : came ≡ [] → 0 < room → is_of_http (line_begun old) ≡ false
  pub judged : MatchOption (own_end old.stage (line_begun old) came)
      ((passed ≡ came) × (line_begun new ≡ take 4097 (line_behind (line_begun old) came)) ×
      (new.stage ≡ stage_behind old.stage came))
      (λ place. (0 < place) × (passed ≡ take place came) × (new.stage ≡ Closed))

-- what came has ceased to be lines of the protocol before anything of it could be passed on
abbrev pub HasCeased : {S : Type 0} → (S → List ℕ → Type 0) → OwnLines S → OwnLines S → Type 0
HasCeased comes old new = (came : List ℕ) × Took comes old.source came new.source ×
    ((own_end old.stage (line_begun old) came ≡ Some 0) ⊎ ((came ≡ []) × (is_of_http (line_begun old) ≡ true)))

-- Nothing is passed on: the source failed, and all is as it was, or the connection is closed since that has ceased.
abbrev pub Refused : {S : Type 0} → (S → List ℕ → Type 0) → (S → ℕ) → OwnLines S → OwnLines S → Type 0
Refused comes failures old new =
    ((failures new.source ≡ failures old.source + 1) × (new.stage ≡ old.stage) × (line_begun new ≡ line_begun old))
    ⊎ ((new.stage ≡ Closed) × HasCeased comes old new)
