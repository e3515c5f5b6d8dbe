-- Of operations that are kept none is refused.
use Rattle.std.proofs.Common.{◌≡◌, List, [], ◌∷◌, ◌++◌, refl, sym, ap, subst, ◌∙◌, append_assoc, append-nil, Option}
use Rattle.std.proofs.Common.{Some, None}
use Rattle.am_record.specs.declared.step.Op.{Op}
use Rattle.am_record.specs.declared.step.Refusal.{Refusal}
use Rattle.am_replica.specs.Bodies.{refusal_behind, own_by, own_behind, kept_behind, kept_ops}

-- no operation is refused after these and those before it
abbrev AreTaken : List Op → List Op → Type 0
AreTaken own [] = Unit {0}
AreTaken own (op ∷ ops) = (refusal_behind own op ≡ None) × AreTaken (own ++ op ∷ []) ops

taken_are_kept : (own ops : List Op) → AreTaken own ops → kept_behind own ops ≡ own ++ ops
taken_are_kept own [] taken = sym (append-nil own)
taken_are_kept own (op ∷ ops) taken =
    ap (λ why. kept_behind (own_by why own op) ops) taken.0
    ∙ taken_are_kept (own ++ op ∷ []) ops taken.1
    ∙ append_assoc own (op ∷ []) ops

taken_push : (own ops : List Op) (op : Op) → AreTaken own ops → refusal_behind (own ++ ops) op ≡ None →
    AreTaken own (ops ++ op ∷ [])
taken_push own [] op taken here = (subst (λ os. refusal_behind os op ≡ None) (append-nil own) here, tt)
taken_push own (o ∷ ops) op taken here = (
  taken.0,
  taken_push (own ++ o ∷ []) ops op taken.1
      (subst (λ os. refusal_behind os op ≡ None) (sym (append_assoc own (o ∷ []) ops)) here),
)

own_taken : (own : List Op) (op : Op) (why : Option Refusal) → refusal_behind own op ≡ why → AreTaken [] own →
    AreTaken [] (own_by why own op)
own_taken own op None due taken = taken_push [] own op taken due
own_taken own op (Some why) due taken = taken

kept_taken : (own ops : List Op) → AreTaken [] own → AreTaken [] (kept_behind own ops)
kept_taken own [] taken = taken
kept_taken own (op ∷ ops) taken = kept_taken (own_behind own op) ops
    (own_taken own op (refusal_behind own op) refl taken)

pub kept_twice : (ops : List Op) → kept_ops (kept_ops ops) ≡ kept_ops ops
kept_twice ops = taken_are_kept [] (kept_ops ops) (kept_taken [] ops tt)

pub kept_push : (own ops : List Op) (op : Op) → kept_behind own (ops ++ op ∷ []) ≡ own_behind (kept_behind own ops) op
kept_push own [] op = refl
kept_push own (o ∷ ops) op = kept_push (own_behind own o) ops op

-- nor of them and one more that is kept
pub kept_one_more : (own : List Op) (op : Op) → kept_ops own ≡ own → kept_ops (own_behind own op) ≡ own_behind own op
kept_one_more own op kept = subst (λ os. kept_ops (own_behind os op) ≡ own_behind os op) kept
    (subst (λ os. kept_ops os ≡ os) (kept_push [] own op) (kept_twice (own ++ op ∷ [])))
