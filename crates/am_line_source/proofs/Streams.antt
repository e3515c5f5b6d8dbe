-- Bytes that go on.
use Rattle.std.proofs.Common.{ℕ, List, [], ◌++◌, append_assoc, append-nil, sym, ◌∙◌, ap, ◌≡◌}
use Rattle.am_line_source.specs.SourceReads.{TookAhead}

pub took_then : {S : Type 0} (comes : S → List ℕ → Type 0) (p q r : List ℕ) (a b c : S) (x y : List ℕ) →
    TookAhead comes p a x q b → TookAhead comes q b y r c → TookAhead comes p a (x ++ y) r c
took_then comes p q r a b c x y f h = λ rest e. rw append_assoc (f (y ++ rest) (h rest e))

-- of what waits, some is used
pub took_waiting : {S : Type 0} (comes : S → List ℕ → Type 0) (p q r : List ℕ) (a b : S) (x : List ℕ) →
    TookAhead comes p a [] q b → q ≡ x ++ r → TookAhead comes p a x r b
took_waiting comes p q r a b x f e = λ rest h. f (x ++ rest) (
  h.0,
  h.1,
  ap (λ z. x ++ z) h.2 ∙
      sym (append_assoc x r h.0) ∙ ap (λ z. z ++ h.0) (sym e),
)

-- of what waits after some taken bytes, more is used
pub took_used : {S : Type 0} (comes : S → List ℕ → Type 0) (p q r : List ℕ) (a b : S) (x y : List ℕ) →
    TookAhead comes p a x q b → q ≡ y ++ r → TookAhead comes p a (x ++ y) r b
took_used comes p q r a b x y f e = took_then comes p q r a b b x y f (λ rest h. (
  h.0,
  h.1,
  ap (λ z. y ++ z) h.2 ∙
      sym (append_assoc y r h.0) ∙ ap (λ z. z ++ h.0) (sym e),
))

-- all of it is
pub took_waiting_more : {S : Type 0} (comes : S → List ℕ → Type 0) (p q : List ℕ) (a b : S) (x : List ℕ) →
    TookAhead comes p a x q b → TookAhead comes p a (x ++ q) [] b
took_waiting_more comes p q a b x f = took_used comes p q [] a b x q f (sym (append-nil q))
