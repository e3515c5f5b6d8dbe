-- How far a request came.
use Rattle.std.specs.Prelude.{◌≡◌, ℕ, ◌+◌, ◌≤◌, ◌<◌, Ok, Err, List, [], ◌∷◌, ◌++◌, length, false}
use Rattle.am_resp_text.specs.Limits.{max_words, max_word_bytes}
use Rattle.am_resp_text.specs.Counts.{count_line}
use Rattle.am_resp_text.specs.Requests.{words_text, request_text, IsRequest, HasShortWords, IsCountLine, IsRequestText}
use Rattle.am_resp_text.specs.Gaps.{IsBeginning, BeginsNone, ReadsAs}
use Rattle.am_resp_text.specs.declared.fault.Gap.{Gap}
use Rattle.am_resp_text.specs.declared.fault.Gap.TheVariants.{Incomplete, Bad}
use Rattle.am_resp_source.specs.Heard.{heard_words}
use Rattle.am_resp_source.specs.declared.heard.HeardWord.TheVariants.{Kept, Long}
use Rattle.am_resp_source.specs.declared.heard.Heard.{Heard}
use Rattle.am_resp_source.specs.declared.heard.Heard.TheVariants as heard
use Rattle.am_resp_source.specs.declared.reader.RequestReader.{RequestReader}
use Rattle.am_resp_source.specs.declared.stage.Stage.{Stage}
use Rattle.am_resp_source.specs.declared.stage.Stage.TheVariants.{Count, Length, Inside, AfterCr, Failed}

-- the most bytes of a word that the reader keeps
abbrev pub most_kept : RequestReader → ℕ
most_kept p = p.most

-- the word under way is kept, as far as it came
abbrev pub KeepsWord : RequestReader → List ℕ → Type 0
KeepsWord p body = p.is_refused ≡ false → p.len ≤ p.most → p.word ≡ body

-- these bytes came of the next word
abbrev pub IsAtWord : Stage → RequestReader → List ℕ → Type 0
IsAtWord Count p bytes = ⊥
IsAtWord Failed p bytes = ⊥
IsAtWord Length p bytes = (bytes ≡ p.line) × IsBeginning (IsCountLine 36 max_word_bytes) bytes
IsAtWord (Inside left) p bytes = (body : List ℕ) × (bytes ≡ count_line 36 p.len ++ body) × (length body + left ≡ p.len)
    × (p.len ≤ max_word_bytes) × (0 < p.due) × (p.line ≡ []) × KeepsWord p body
IsAtWord AfterCr p bytes = (body : List ℕ) × (bytes ≡ count_line 36 p.len ++ (body ++ 13 ∷ [])) × (length body ≡ p.len)
    × (p.len ≤ max_word_bytes) × (0 < p.due) × (p.line ≡ []) × KeepsWord p body

-- these whole words came, and then these bytes
abbrev pub IsBehind : RequestReader → List (List ℕ) → List ℕ → List ℕ → Type 0
IsBehind p words rest bytes = (bytes ≡ count_line 42 (length words + p.due) ++ (words_text words ++ rest))
    × (length words + p.due ≤ max_words) × HasShortWords words
    × (p.is_refused ≡ false → p.words ≡ heard_words p.most words)

abbrev pub CameSoFarAt : Stage → RequestReader → List ℕ → Type 0
CameSoFarAt Count p bytes = (bytes ≡ p.line) × IsBeginning (IsCountLine 42 max_words) bytes
    × (p.words ≡ []) × (p.is_refused ≡ false)
CameSoFarAt Failed p bytes = BeginsNone IsRequestText bytes
CameSoFarAt stage p bytes = (words : List (List ℕ)) × (rest : List ℕ)
    × IsBehind p words rest bytes × IsAtWord stage p rest

-- words are due
abbrev pub IsOpenAt : Stage → RequestReader → Type 0
IsOpenAt Length p = 0 < p.due
IsOpenAt stage p = Unit {0}

-- These bytes came of a request that isn't whole, or no request begins so.
abbrev pub CameSoFar : RequestReader → List ℕ → Type 0
CameSoFar p bytes = CameSoFarAt p.stage p bytes × IsOpenAt p.stage p

-- Bytes were added to the word under way, unless memory was refused.
pub record KeepsMore (old : RequestReader) (bytes : List ℕ) (new : RequestReader) : Type 0 where
  pub rest : new ≡ record old { word = new.word; words = new.words; is_refused = new.is_refused }
  pub before : new.is_refused ≡ false → old.is_refused ≡ false
  pub words : new.is_refused ≡ false → new.words ≡ old.words
  pub word : new.is_refused ≡ false → old.len ≤ old.most → new.word ≡ old.word ++ bytes

-- The word under way went to the others, unless memory was refused.
pub record KeepsWhole (old new : RequestReader) : Type 0 where
  pub stage : new.stage ≡ Length
  pub due : new.due + 1 ≡ old.due
  pub line : new.line ≡ old.line
  pub most : new.most ≡ old.most
  pub before : new.is_refused ≡ false → old.is_refused ≡ false
  pub kept : new.is_refused ≡ false → old.len ≤ old.most → new.words ≡ old.words ++ Kept old.word ∷ []
  pub long : new.is_refused ≡ false → old.most < old.len → new.words ≡ old.words ++ Long old.len ∷ []

-- A step used a beginning of a piece, and this rest is left.
abbrev pub UsedFront : List ℕ → List ℕ → List ℕ → RequestReader → Type 0
UsedFront came piece rest new = (taken : List ℕ) × (piece ≡ taken ++ rest) × CameSoFarAt new.stage new (came ++ taken)
    × (new.line ≡ [])

-- It used all of the piece, or no request begins so.
abbrev pub HasStopped : List ℕ → List ℕ → Gap → RequestReader → Type 0
HasStopped came piece Incomplete new = CameSoFar new (came ++ piece)
HasStopped came piece Bad new = BeginsNone IsRequestText (came ++ piece)

-- It was told that no request begins so.
abbrev pub HasFailed : RequestReader → Type 0
HasFailed p = p.stage ≡ Failed

-- Behind the bytes that came, this is what was heard of a piece, up to this rest of it.
abbrev pub HasHeard : RequestReader → List ℕ → List ℕ → Heard → List ℕ → RequestReader → Type 0
HasHeard old came piece (heard.Request words) rest new = (ws : List (List ℕ)) × IsRequest ws
    × (came ++ piece ≡ request_text ws ++ rest) × (words ≡ heard_words (most_kept old) ws) × CameSoFar new []
HasHeard old came piece heard.NoMemory rest new = (ws : List (List ℕ)) × IsRequest ws
    × (came ++ piece ≡ request_text ws ++ rest) × CameSoFar new []
HasHeard old came piece heard.Partial rest new = CameSoFar new (came ++ piece) × (rest ≡ [])
    × (HasFailed new → HasFailed old)
HasHeard old came piece heard.Bad rest new = CameSoFar new (came ++ piece) × HasFailed new × (HasFailed old → ⊥)

-- These bytes, all in one piece, would be read as this, up to this rest.
abbrev pub IsHeardAs : ℕ → List ℕ → Heard → List ℕ → Type 0
IsHeardAs most bytes (heard.Request words) rest = (ws : List (List ℕ)) × ReadsAs bytes (Ok (ws, rest))
    × (words ≡ heard_words most ws)
IsHeardAs most bytes heard.NoMemory rest = (ws : List (List ℕ)) × ReadsAs bytes (Ok (ws, rest))
IsHeardAs most bytes heard.Partial rest = ReadsAs bytes (Err Incomplete)
IsHeardAs most bytes heard.Bad rest = ReadsAs bytes (Err Bad)
