-- Bytes that are written, one piece after another.
use Rattle.std.proofs.Common.{◌≡◌, ℕ, ◌+◌, List, [], ◌++◌, length, take, append_assoc, Option, Some, None, inl, inr, ap}
use Rattle.std.proofs.Common.{Result, Ok, Err, sym, subst, ◌∙◌, arith, append-nil}
use Rattle.std.proofs.lemmas.Result.{IfOk-from_err, on_ok_weaker, on_err_weaker}
use Rattle.std.specs.Prelude.{IsErr, OnOk, OnErr}
use Rattle.std.proofs.Math.Seq.{take-append_seam, take-append-add}
use Rattle.std.proofs.lemmas.Bool.{cases_lt}
use Rattle.std.proofs.lemmas.List.{take_all, take-append-le}
use Rattle.std.specs.Io.KnownBytes.{Appends}
use Rattle.am_line_sink.specs.SinkWrites.{Gave, GaveBeginning, Wrote}
use Rattle.am_line_sink.specs.declared.failed.Failed.{Failed}

appends_then : (a b c : Option (List ℕ)) (x y : List ℕ) → Appends a b x → Appends b c y → Appends a c (x ++ y)
appends_then None b c x y f h = tt
appends_then (Some a) None c x y f h = absurd f
appends_then (Some a) (Some b) None x y f h = absurd h
appends_then (Some a) (Some b) (Some c) x y f h = h ∙ ap (λ z. z ++ y) f ∙ append_assoc a x y

pub gave_then : {S : Type 0} (holds : S → Option (List ℕ)) (a b c : S) (x y : List ℕ) → Gave holds a x b →
    Gave holds b y c → Gave holds a (x ++ y) c
gave_then holds a b c x y f h = appends_then (holds a) (holds b) (holds c) x y f h

-- a beginning of the first of two pieces is one of both
pub beginning_of_first : {S : Type 0} (holds : S → Option (List ℕ)) (a b : S) (x y : List ℕ) →
    GaveBeginning holds a x b → GaveBeginning holds a (x ++ y) b
beginning_of_first holds a b x y h = elim (cases_lt h.0 (length x)) [
  | inl short ↦ (h.0, subst (λ (z : List ℕ). Gave holds a z b) (sym (take-append-le h.0 x y (omega arith))) h.1)
  | inr long ↦ (
    length x,
    subst (λ (z : List ℕ). Gave holds a z b) (take_all h.0 x long ∙ sym (take-append_seam x y))
        h.1,
  )
]

-- after the first piece, a beginning of the second
pub beginning_then : {S : Type 0} (holds : S → Option (List ℕ)) (a b c : S) (x y : List ℕ) → Gave holds a x b →
    GaveBeginning holds b y c → GaveBeginning holds a (x ++ y) c
beginning_then holds a b c x y f h = (
  length x + h.0,
  subst (λ (z : List ℕ). Gave holds a z c) (sym (take-append-add x y h.0))
      (gave_then holds a b c x (take h.0 y) f h.1),
)

-- after a first piece was written, what writing the second did is what writing both did
pub wrote_then : {S A B : Type 0} {holds : S → Option (List ℕ)} {failures : S → ℕ} {a b c : S} {x y : List ℕ}
    {v : A} {r : Result B Failed} → Wrote holds failures a x (Ok v) b → Wrote holds failures b y r c →
    Wrote holds failures a (x ++ y) r c
wrote_then {holds} {a} {b} {c} {x} {y} {r} f w = record {
  given = on_ok_weaker r (gave_then holds a b c x y f.given) w.given;
  ok = on_ok_weaker r (λ h. h ∙ f.ok) w.ok;
  failed = on_err_weaker r (λ h. h ∙ ap (λ n. n + 1) f.ok) w.failed;
  torn = on_err_weaker r (beginning_then holds a b c x y f.given) w.torn;
}

-- what always holds, holds at an error
at_error : {A P : Type 0} (r : Result A Failed) → P → OnErr r P
at_error (Ok x) p = tt
at_error (Err e) p = p

-- where writing a front of a text failed, writing the text did, whatever `Err` says so
pub wrote_torn : {S A B : Type 0} {holds : S → Option (List ℕ)} {failures : S → ℕ} {a b : S} {x z : List ℕ}
    {e : Failed} (y : List ℕ) (r : Result B Failed) → IsErr r → x ++ y ≡ z →
    Wrote {A = A} holds failures a x (Err e) b → Wrote holds failures a z r b
wrote_torn {holds} {a} {b} {x} y r is all w = record {
  given = IfOk-from_err r _ is;
  ok = IfOk-from_err r _ is;
  failed = at_error r w.failed;
  torn = at_error r (subst (λ (z : List ℕ). GaveBeginning holds a z b) all (beginning_of_first holds a b x y w.torn));
}

-- what was written is sent on, or that fails
pub wrote_flushed : {S A B : Type 0} {holds : S → Option (List ℕ)} {failures : S → ℕ} {a b c : S} {x : List ℕ}
    {v : A} (r : Result B Failed) → Wrote holds failures a x (Ok v) b → Gave holds b [] c →
    OnOk r (failures c ≡ failures b) → OnErr r (failures c ≡ failures b + 1) → Wrote holds failures a x r c
wrote_flushed {holds} {failures} {a} {b} {c} {x} r f none ok failed =
    let flushed : Wrote holds failures b [] r c = record {
      given = on_ok_weaker r (λ _. none) ok;
      ok = ok;
      failed = failed;
      torn = on_err_weaker r (λ _. (0, none)) failed;
    } in
    subst (λ (z : List ℕ). Wrote holds failures a z r c) (append-nil x) (wrote_then f flushed)
