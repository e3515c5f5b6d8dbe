-- The engine and its token after a step.
use Rattle.std.proofs.Common.{◌≡◌, ℕ, suc, ◌+◌, ◌<◌, ◌==◌, List, [], ◌∷◌, ◌++◌, length, Bool, true, false, MatchBool}
use Rattle.std.proofs.Common.{if◌then◌else◌, refl, sym, ap, ◌∙◌, subst, arith, append-nil, append_assoc}
use Rattle.am_record.specs.declared.step.Step.{Step}
use Rattle.am_record.specs.declared.step.Reply.{Reply}
use Rattle.am_latch_ties.specs.declared.call_id.CallId.{CallId}
use Rattle.am_latch_engine.specs.Changes.{is_stored}
use Rattle.am_latch_ties.specs.CallLogs.{CallLog, log_with}
use Rattle.am_latch_engine.specs.Traces.{StoresCall, AreMadeBelow}
use Rattle.am_latch_ties.specs.Receipts.{receipt, receipts_from}
use Rattle.am_latch.specs.Ties.{calls_of, AreNumbered}

pub grown : (e e' : CallLog) (m : CallId) (st : Step) (r : Reply) → is_stored r ≡ true → StoresCall e m st r e' →
    e' ≡ log_with e m st r
grown e e' m st r stored step = subst (λ b. MatchBool b (e' ≡ log_with e m st r) (e' ≡ e)) stored step

pub below-snoc : (n : ℕ) (ms : List CallId) (m : CallId) → AreMadeBelow n ms → m.seat < n →
    AreMadeBelow n (ms ++ m ∷ [])
below-snoc n [] m h lt = (lt, tt)
below-snoc n (x ∷ xs) m h lt = (h.0, below-snoc n xs m h.1 lt)

pub numbered-snoc : (before ms : List CallId) (m : CallId) → AreNumbered before ms →
    m.call ≡ calls_of m.seat (before ++ ms) → AreNumbered before (ms ++ m ∷ [])
numbered-snoc before [] m h e = (e ∙ ap (calls_of m.seat) (append-nil before), tt)
numbered-snoc before (x ∷ xs) m h e = (
  h.0,
  numbered-snoc (before ++ x ∷ []) xs m h.1 (e ∙ ap (calls_of m.seat) (sym (append_assoc before (x ∷ []) xs))),
)

-- a seat has as many receipts as calls
pub receipts_long : (k position call : ℕ) (ps : List (Step × Reply)) (ms : List CallId) → length ms ≡ length ps →
    length (receipts_from k position call ps ms) ≡ calls_of k ms
receipts_long k position call [] [] even = refl
receipts_long k position call [] (m ∷ ms) even = absurd (omega arith)
receipts_long k position call (p ∷ ps) [] even = absurd (omega arith)
receipts_long k position call (p ∷ ps) (m ∷ ms) even = go (m.seat == k)
    (receipts_long k (suc position) (suc call) ps ms (omega arith))
    (receipts_long k (suc position) call ps ms (omega arith))
  where
    go : (b : Bool) → length (receipts_from k (suc position) (suc call) ps ms) ≡ calls_of k ms →
        length (receipts_from k (suc position) call ps ms) ≡ calls_of k ms →
        length (if b then receipt k call p.0 p.1 position ∷ receipts_from k (suc position) (suc call) ps ms else
        receipts_from k (suc position) call ps ms) ≡ (if b then 1 else 0) + calls_of k ms
    go true own other = omega (arith, own)
    go false own other = omega (arith, other)

pub only : {V : Type 0} (v w : V) → v ∷ [] ≡ w ∷ [] → v ≡ w
only v w e = cc
