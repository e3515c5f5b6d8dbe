-- A line that is being read.
use Rattle.std.proofs.Common.{◌≡◌, ◌≢◌, ℕ, List, [], ◌∷◌, ◌++◌, append_assoc, append-nil, ap, sym, ◌∙◌, refl, length}
use Rattle.std.proofs.Common.{take, arith, true, false, Option, subst}
use Rattle.std.proofs.lemmas.List.{length-take}
use Rattle.am_line_source.specs.Lines.{HasNoLf, line_of, lines_of, IsReading, TookLine, TookPart}
use Rattle.am_line_source.specs.SourceReads.{Took, TookAhead, IsAtEnd}
use Rattle.am_line_source.proofs.Streams.{took_then, took_used, took_waiting_more}
use Rattle.am_line_source.proofs.CutLines.{line_of-front, take-append-front, lines_of-ended, lines_of-open}
use Rattle.am_line_source.proofs.CutLines.{no_lf-append}

-- none of them was taken yet
pub reading_none_yet : {S : Type 0} (comes : S → List ℕ → Type 0) (p : List ℕ) (a : S) (line : List ℕ) → line ≡ [] →
    IsReading comes p a line p a
reading_none_yet comes p a line e = ([], tt, e, λ rest h. h)

-- the source was awaited
pub reading_on : {S : Type 0} (comes : S → List ℕ → Type 0) (p q : List ℕ) (a b d : S) (line : List ℕ) →
    IsReading comes p a line q b → Took comes b [] d → IsReading comes p a line q d
reading_on comes p q a b d line h f = (
  h.0,
  h.1,
  h.2,
  λ rest ahead. h.3 rest (ahead.0, f ahead.0 ahead.1, ahead.2),
)

-- all that waited went onto the line
pub reading_more : {S : Type 0} (comes : S → List ℕ → Type 0) (p q : List ℕ) (a b : S) (line new : List ℕ) →
    IsReading comes p a line q b → HasNoLf q → new ≡ take 4097 (line ++ q) → IsReading comes p a new [] b
reading_more comes p q a b line new h n e = (
  h.0 ++ q,
  no_lf-append h.0 q h.1 n,
  e ∙ ap (λ z. take 4097 (z ++ q)) h.2 ∙ take-append-front 4097 h.0 q,
  took_waiting_more comes p q a b h.0 h.3,
)

-- what waited up to an LF did
pub reading_ended : {S : Type 0} (comes : S → List ℕ → Type 0) (p q r : List ℕ) (a b : S) (line new piece : List ℕ)
    (l : Option (List ℕ)) → IsReading comes p a line q b → HasNoLf piece → q ≡ piece ++ 10 ∷ r →
    new ≡ take 4097 (line ++ piece) → l ≡ line_of new → TookLine comes p a l true r b
reading_ended comes p q r a b line new piece l h n cut e is =
    let all : List ℕ = h.0 ++ piece in
    let none : HasNoLf all = no_lf-append h.0 piece h.1 n in
    let front : new ≡ take 4097 all = e ∙ ap (λ z. take 4097 (z ++ piece)) h.2 ∙ take-append-front 4097 h.0 piece in
    let same : line_of all ≡ l = sym (line_of-front all) ∙ ap line_of (sym front) ∙ sym is in
    let waits : q ≡ (piece ++ 10 ∷ []) ++ r = cut ∙ sym (append_assoc piece (10 ∷ []) r) in
    let taken : TookAhead comes p a (h.0 ++ (piece ++ 10 ∷ [])) r b =
    took_used comes p q r a b h.0 (piece ++ 10 ∷ []) h.3 waits in (
      all ++ 10 ∷ [],
      subst (λ (x : List ℕ). TookAhead comes p a x r b) (sym (append_assoc h.0 piece (10 ∷ []))) taken,
      (λ more. ap lines_of (append_assoc all (10 ∷ []) more) ∙ lines_of-ended all more none ∙
          ap (λ z. z ∷ lines_of more) same),
    )

-- more was taken from the source, and waits
pub reading_refilled : {S : Type 0} (comes : S → List ℕ → Type 0) (p q r : List ℕ) (a b d : S) (line : List ℕ) →
    IsReading comes p a line q b → TookAhead comes q b [] r d → IsReading comes p a line r d
reading_refilled comes p q r a b d line h f = (
  h.0,
  h.1,
  h.2,
  subst (λ (x : List ℕ). TookAhead comes p a x r d) (append-nil h.0) (took_then comes p q r a b d h.0 [] h.3 f),
)

pub reading_none : {S : Type 0} (comes : S → List ℕ → Type 0) (p q r : List ℕ) (a b d : S) (line : List ℕ) →
    IsReading comes p a line q b → TookAhead comes q b [] r d → line ≡ [] → TookAhead comes p a [] r d
reading_none comes p q r a b d line h f e =
    let n : length h.0 ≡ 0 = omega (arith, length-take 4097 h.0, ap length h.2, ap length e) in
    let t : TookAhead comes p a (h.0 ++ []) r d = took_then comes p q r a b d h.0 [] h.3 f in
    let z : h.0 ++ [] ≡ [] = append-nil h.0 ∙ empty h.0 n in
    subst (λ (x : List ℕ). TookAhead comes p a x r d) z t
  where
    empty : (xs : List ℕ) → length xs ≡ 0 → xs ≡ []
    empty [] e = refl
    empty (x ∷ xs) e = absurd (omega (arith, e))

pub reading_part : {S : Type 0} (comes : S → List ℕ → Type 0) (p q r : List ℕ) (a b d : S) (line : List ℕ) →
    IsReading comes p a line q b → TookAhead comes q b [] r d → TookPart comes p a r d
reading_part comes p q r a b d line h f = (
  h.0,
  h.1,
  subst (λ (x : List ℕ). TookAhead comes p a x r d) (append-nil h.0)
      (took_then comes p q r a b d h.0 [] h.3 f),
)

pub reading_open : {S : Type 0} (comes : S → List ℕ → Type 0) (p q r : List ℕ) (a b d : S) (line : List ℕ)
    (l : Option (List ℕ)) → IsReading comes p a line q b → TookAhead comes q b [] r d → IsAtEnd comes r d → line ≢ [] →
    l ≡ line_of line → TookLine comes p a l false r d
reading_open comes p q r a b d line l h f end n e =
    let same : line_of h.0 ≡ l = sym (line_of-front h.0) ∙ ap line_of (sym h.2) ∙ sym e in
    let some : h.0 ≢ [] = λ z. n (h.2 ∙ ap (take 4097) z) in (
      h.0,
      subst (λ (x : List ℕ). TookAhead comes p a x r d) (append-nil h.0) (took_then comes p q r a b d h.0 [] h.3 f),
      (lines_of-open h.0 h.1 some ∙ ap (λ z. z ∷ []) same, end),
    )
