use Rattle.std.proofs.Common.{◌≡◌, ◌∷◌, [], List, ℕ, length, refl, sym, ◌∙◌, arith}
use Rattle.am_trace_text.proofs.CutLemmas.{parts_by_cut, last_byte, some_byte}
use Rattle.am_trace_read.proofs.event.split.Goals.{else-space-eq32-via-then-space-eq32+else-other-eq32}
use Rattle.am_trace_read.proofs.event.split.Goals.{else-space-eq32-via-else-space-eq32}
use Rattle.am_trace_read.proofs.event.split.Goals as goal

empty : (xs : List ℕ) → length xs ≡ 0 → [] ≡ xs
empty [] e = refl
empty (x ∷ xs) e = absurd (omega (arith, e))

pub returns-in_err-space-clause-none : goal.returns-in_err-space-clause-none
returns-in_err-space-clause-none c =
    rw c.from_residual-in_err-space.ensures (λ step reply h.
    let parts = parts_by_cut c.args.line.now c.in_ok-before.before.now c.in_ok-before.after.now step reply
    c.in_ok-before.ensures.cut c.in_ok-before.ensures.first h in
    some_byte step (empty c.in_ok-before.before.now c.in_err-space.ensures.cases ∙ parts.0))

pub returns-in_err-other-clause-none : goal.returns-in_err-other-clause-none
returns-in_err-other-clause-none c =
    rw c.from_residual-in_err-other.ensures (λ step reply h.
    let parts = parts_by_cut c.args.line.now c.in_ok-before.before.now c.in_ok-before.after.now step reply
    c.in_ok-before.ensures.cut c.in_ok-before.ensures.first h in
    let none : [] ≡ 32 ∷ reply = empty c.in_ok-before.after.now c.in_err-other.ensures.cases ∙ parts.1 in
    cc)

pub returns-else-space-eq32-clause-none : goal.returns-else-space-eq32-clause-none
returns-else-space-eq32-clause-none c = λ step reply h.
    let parts = parts_by_cut c.args.line.now c.in_ok-before.before.now c.in_ok-before.after.now step reply
    c.in_ok-before.ensures.cut c.in_ok-before.ensures.first h in
    let space : c.in_ok-space.space.now ≡ 32 = last_byte step c.in_ok-space.step.now c.in_ok-space.space.now
    (sym c.in_ok-space.ensures.cases.0 ∙ parts.0) in
    let both : c.in_ok-other.other.now ∷ c.in_ok-other.reply.now ≡ 32 ∷ reply = sym c.in_ok-other.ensures.cases.0 ∙
    parts.1 in
    let other : c.in_ok-other.other.now ≡ 32 = cc in
    elim c.else-space-eq32.branch [
      | else-space-eq32-via-then-space-eq32+else-other-eq32 w ↦ w.if-other-eq32.false other
      | else-space-eq32-via-else-space-eq32 w ↦ w.if-space-eq32.false space
    ]
