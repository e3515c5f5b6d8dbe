-- The receipts of a seat, where the trace is one pair longer.
use Rattle.std.proofs.Common.{◌≡◌, ◌≢◌, ℕ, suc, ◌+◌, ◌==◌, Bool, true, false, if◌then◌else◌, List, [], ◌∷◌, ◌++◌}
use Rattle.std.proofs.Common.{length, refl, sym, ap, ◌∙◌, subst, eq-eqb, ne_eqb, add-zero, arith}
use Rattle.am_record.specs.declared.step.Step.{Step}
use Rattle.am_record.specs.declared.step.Reply.{Reply}
use Rattle.am_latch_ties.specs.declared.receipt.Receipt.{Receipt}
use Rattle.am_latch_ties.specs.declared.call_id.CallId.{CallId}
use Rattle.am_latch_ties.specs.Receipts.{receipt, receipts_from}

mine_head : (k call position : ℕ) (st : Step) (r : Reply) (b : Bool) (x : Receipt) (A A' B B' : List Receipt) →
    A' ≡ A ++ receipt k (suc call + length A) st r position ∷ [] → B' ≡ B ++ receipt k (call + length B) st r position ∷
    []
    → (if b then x ∷ A' else B') ≡ (if b then x ∷ A else B) ++ receipt k (call + length (if b then x ∷ A else B)) st r
    position ∷ []
mine_head k call position st r true x A A' B B' a b =
    ap (λ l. x ∷ l) (a ∙ ap (λ (n : ℕ). A ++ receipt k n st r position ∷ []) (omega arith))
mine_head k call position st r false x A A' B B' a b = b

pub mine_more : (k from call position : ℕ) (ps : List (Step × Reply)) (ms : List CallId) (st : Step) (r : Reply)
    (m : CallId) → length ms ≡ length ps → m.seat ≡ k → position ≡ from + length ps
    → receipts_from k from call (ps ++ (st, r) ∷ []) (ms ++ m ∷ []) ≡ receipts_from k from call ps ms ++
    receipt k (call + length (receipts_from k from call ps ms)) st r position ∷ []
mine_more k from call position [] [] st r m even here at =
    subst (λ b. (if b then receipt k call st r from ∷ [] else []) ≡ receipt k (call + 0) st r position ∷ [])
    (sym (eq-eqb m.seat k here))
    (λ i. receipt k (sym (add-zero call) i) st r ((sym (add-zero from) ∙ sym at) i) ∷ [])
mine_more k from call position [] (n ∷ ns) st r m even here at = absurd (omega arith)
mine_more k from call position (p ∷ ps) [] st r m even here at = absurd (omega arith)
mine_more k from call position (p ∷ ps) (n ∷ ns) st r m even here at =
    mine_head k call position st r (n.seat == k) (receipt k call p.0 p.1 from) _ _ _ _
    (mine_more k (suc from) (suc call) position ps ns st r m (omega arith) here (omega arith))
    (mine_more k (suc from) call position ps ns st r m (omega arith) here (omega arith))

other_head : (b : Bool) (x : Receipt) (A A' B B' : List Receipt) → A' ≡ A → B' ≡ B →
    (if b then x ∷ A' else B') ≡ (if b then x ∷ A else B)
other_head true x A A' B B' a b = ap (λ l. x ∷ l) a
other_head false x A A' B B' a b = b

pub others_same : (k from call : ℕ) (ps : List (Step × Reply)) (ms : List CallId) (st : Step) (r : Reply) (m : CallId) →
    length ms ≡ length ps → m.seat ≢ k
    → receipts_from k from call (ps ++ (st, r) ∷ []) (ms ++ m ∷ []) ≡ receipts_from k from call ps ms
others_same k from call [] [] st r m even apart = subst (λ b. (if b then receipt k call st r from ∷ [] else []) ≡ [])
    (sym (ne_eqb m.seat k apart)) refl
others_same k from call [] (n ∷ ns) st r m even apart = absurd (omega arith)
others_same k from call (p ∷ ps) [] st r m even apart = absurd (omega arith)
others_same k from call (p ∷ ps) (n ∷ ns) st r m even apart =
    other_head (n.seat == k) (receipt k call p.0 p.1 from) _ _ _ _
    (others_same k (suc from) (suc call) ps ns st r m (omega arith) apart)
    (others_same k (suc from) call ps ns st r m (omega arith) apart)
