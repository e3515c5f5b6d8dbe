-- Where each seat has the receipts that the trace has of it, receipts and trace are the same.
use Rattle.std.proofs.Common.{◌≡◌, ℕ, zero, suc, ◌+◌, ◌<◌, ◌==◌, Bool, true, false, if◌then◌else◌, List, [], ◌∷◌, ◌++◌}
use Rattle.std.proofs.Common.{length, get_or, set, take, drop, take_all, drop_of_length-le, append-nil, le_refl, Some}
use Rattle.std.proofs.Common.{refl, sym, ap, ◌∙◌, subst, arith, eq-eqb, below_more, add-zero}
use Rattle.std.specs.Prelude.{slice_get}
use Rattle.std.proofs.lemmas.Bool.{eqb-true}
use Rattle.std.proofs.lemmas.Option.{slice_get_within, slice_get-get_or}
use Rattle.std.proofs.lemmas.List.{set-get_or}
use Rattle.am_record.specs.declared.step.Step.{Step}
use Rattle.am_record.specs.declared.step.Reply.{Reply}
use Rattle.am_latch_ties.specs.declared.receipt.Receipt.{Receipt}
use Rattle.am_latch_ties.specs.declared.call_id.CallId.{CallId}
use Rattle.am_latch_ties.specs.CallLogs.{CallLog}
use Rattle.am_latch_engine.specs.Traces.{AreMadeBelow}
use Rattle.am_latch_ties.specs.Receipts.{receipt, receipts_from, receipts_of}
use Rattle.am_latch.specs.Receipts.{SeatState, AreReceiptsOf, AreAllSeats}
use Rattle.am_latch.specs.Receipts.{HaveReceiptsIn}

-- the receipt r is at j, and q is its position
record Placed (k from call : ℕ) (ps : List (Step × Reply)) (ms : List CallId) (j : ℕ) (r : Receipt) : Type 0 where
  q : ℕ
  m : CallId
  position : r.position ≡ from + q
  there : slice_get ps q ≡ Some (r.step, r.reply)
  made : slice_get ms q ≡ Some m
  by : m.seat ≡ k
  seat : r.seat ≡ k
  call_is : r.call ≡ call + j

placed : (k from call : ℕ) (ps : List (Step × Reply)) (ms : List CallId) (j : ℕ) (r : Receipt) →
    slice_get (receipts_from k from call ps ms) j ≡ Some r → Placed k from call ps ms j r
placed k from call [] ms j r e = absurd (cc)
placed k from call (p ∷ ps) [] j r e = absurd (cc)
placed k from call (p ∷ ps) (n ∷ ns) j r e = go (λ i. placed k (suc from) (suc call) ps ns i r)
    (λ i. placed k (suc from) call ps ns i r) (n.seat == k) refl j e
  where
    go : ((i : ℕ) → slice_get (receipts_from k (suc from) (suc call) ps ns) i ≡ Some r →
        Placed k (suc from) (suc call) ps ns i r) → ((i : ℕ) → slice_get (receipts_from k (suc from) call ps ns) i ≡
        Some r → Placed k (suc from) call ps ns i r) → (b : Bool) → (n.seat == k) ≡ b → (i : ℕ) →
        slice_get (if b then receipt k call p.0 p.1 from ∷ receipts_from k (suc from) (suc call) ps ns else
        receipts_from k (suc from) call ps ns) i ≡ Some r → Placed k from call (p ∷ ps) (n ∷ ns) i r
    go receipts other true is zero e' = let same : receipt k call p.0 p.1 from ≡ r = cc in
        subst (Placed k from call (p ∷ ps) (n ∷ ns) zero) same record {
          q = 0;
          m = n;
          position = omega arith;
          there = refl;
          made = refl;
          by = eqb-true n.seat k is;
          seat = refl;
          call_is = omega arith;
        }
    go receipts other true is (suc i) e' = let f = receipts i e' in record {
      q = suc f.q;
      m = f.m;
      position = f.position ∙ omega arith;
      there = f.there;
      made = f.made;
      by = f.by;
      seat = f.seat;
      call_is = f.call_is ∙ omega arith;
    }
    go receipts other false is i e' = let f = other i e' in record {
      q = suc f.q;
      m = f.m;
      position = f.position ∙ omega arith;
      there = f.there;
      made = f.made;
      by = f.by;
      seat = f.seat;
      call_is = f.call_is;
    }

rises : (k from call : ℕ) (ps : List (Step × Reply)) (ms : List CallId) (i j : ℕ) (r q : Receipt) →
    slice_get (receipts_from k from call ps ms) i ≡ Some r → slice_get (receipts_from k from call ps ms) j ≡ Some q →
    i < j → r.position < q.position
rises k from call [] ms i j r q e f lt = absurd (cc)
rises k from call (p ∷ ps) [] i j r q e f lt = absurd (cc)
rises k from call (p ∷ ps) (n ∷ ns) i j r q e f lt = go (λ i j. rises k (suc from) (suc call) ps ns i j r q)
    (λ i j. rises k (suc from) call ps ns i j r q) (n.seat == k) i j e f lt
  where
    go : ((i j : ℕ) → slice_get (receipts_from k (suc from) (suc call) ps ns) i ≡ Some r →
        slice_get (receipts_from k (suc from) (suc call) ps ns) j ≡ Some q → i < j → r.position < q.position) →
        ((i j : ℕ) → slice_get (receipts_from k (suc from) call ps ns) i ≡ Some r →
        slice_get (receipts_from k (suc from) call ps ns) j ≡ Some q → i < j → r.position < q.position) →
        (b : Bool) (i j : ℕ) → slice_get (if b then receipt k call p.0 p.1 from ∷ receipts_from k (suc from) (suc call)
        ps
        ns else receipts_from k (suc from) call ps ns) i ≡ Some r
        → slice_get (if b then receipt k call p.0 p.1 from ∷ receipts_from k (suc from) (suc call) ps ns else
        receipts_from k (suc from) call ps ns) j ≡ Some q → i < j → r.position < q.position
    go receipts other true zero zero e' f' lt' = absurd (omega arith)
    go receipts other true zero (suc j') e' f' lt' =
        let same : receipt k call p.0 p.1 from ≡ r = cc in
        let later = placed k (suc from) (suc call) ps ns j' q f' in
        subst (λ (u : Receipt). u.position < q.position) same (omega (arith, later.position))
    go receipts other true (suc i') zero e' f' lt' = absurd (omega arith)
    go receipts other true (suc i') (suc j') e' f' lt' = receipts i' j' e' f' (omega arith)
    go receipts other false i' j' e' f' lt' = other i' j' e' f' lt'

found : (k from call : ℕ) (ps : List (Step × Reply)) (ms : List CallId) (q : ℕ) (m : CallId) → length ms ≡ length ps →
    slice_get ms q ≡ Some m → m.seat ≡ k
    → (j : ℕ) × (r : Receipt) × (slice_get (receipts_from k from call ps ms) j ≡ Some r) × (r.position ≡ from + q)
found k from call [] [] q m even e by = absurd (cc)
found k from call [] (n ∷ ns) q m even e by = absurd (omega arith)
found k from call (p ∷ ps) [] q m even e by = absurd (omega arith)
found k from call (p ∷ ps) (n ∷ ns) zero m even e by =
    let same : n ≡ m = cc in
    let is = eq-eqb n.seat k (ap (λ (x : CallId). x.seat) same ∙ by) in (
      0,
      receipt k call p.0 p.1 from,
      subst (λ b. slice_get
          (if b then receipt k call p.0 p.1 from ∷ receipts_from k (suc from) (suc call) ps ns else
          receipts_from k (suc from) call ps ns) 0 ≡ Some (receipt k call p.0 p.1 from)) (sym is) refl,
      sym (add-zero from),
    )
found k from call (p ∷ ps) (n ∷ ns) (suc q) m even e by =
    go (found k (suc from) (suc call) ps ns q m (omega arith) e by)
    (found k (suc from) call ps ns q m (omega arith) e by)
    (n.seat == k)
  where
    go : ((j : ℕ) × (r : Receipt) × (slice_get (receipts_from k (suc from) (suc call) ps ns) j ≡ Some r) ×
        (r.position ≡ suc from + q)) → ((j : ℕ) × (r : Receipt) ×
        (slice_get (receipts_from k (suc from) call ps ns) j ≡ Some r) × (r.position ≡ suc from + q)) → (b : Bool) →
        (j : ℕ) × (r : Receipt) × (slice_get (if b then receipt k call p.0 p.1 from ∷ receipts_from k (suc from)
        (suc call) ps ns else receipts_from k (suc from) call ps ns) j ≡ Some r) × (r.position ≡ from + suc q)
    go f g true = (suc f.0, f.1, f.2, f.3 ∙ omega arith)
    go f g false = (g.0, g.1, g.2, g.3 ∙ omega arith)

below_at : (n : ℕ) (ms : List CallId) (q : ℕ) (m : CallId) → AreMadeBelow n ms → slice_get ms q ≡ Some m → m.seat < n
below_at n [] q m h e = absurd (cc)
below_at n (x ∷ xs) zero m h e = let same : x ≡ m = cc in subst (λ (y : CallId). y.seat < n) same h.0
below_at n (x ∷ xs) (suc q) m h e = below_at n xs q m h.1 e

pub there_is : {A : Type 0} (xs : List A) (i : ℕ) → i < length xs → (x : A) × (slice_get xs i ≡ Some x)
there_is [] i lt = absurd (omega arith)
there_is (x ∷ xs) zero lt = (x, refl)
there_is (x ∷ xs) (suc i) lt = there_is xs i (omega arith)

one_place : (k l a b : ℕ) → (k < l → a < b) → (l < k → b < a) → a ≡ b → k ≡ l
one_place k l a b up down same = grind arith

-- a seat that was audited stays as it was
pub audited_more : (e : CallLog) (seats start : List SeatState) (i : ℕ) (x y : SeatState) → seats ≡ start →
    HaveReceiptsIn e seats i → i < length seats → y ≡ get_or seats i x → (get_or seats i x).receipts ≡ receipts_of
    (get_or seats i x).number e
    → (set seats i y ≡ start) × HaveReceiptsIn e (set seats i y) (i + 1)
audited_more e seats start i x y began known lt stays right =
    let same : set seats i y ≡ seats = ap (λ (z : SeatState). set seats i z) stays ∙ set-get_or seats i x in
    let at : slice_get seats i ≡ Some (get_or seats i x) = slice_get-get_or seats i x lt in
    let more : HaveReceiptsIn e seats (i + 1) = λ j s lt' at'. below_more
    (λ k. (t : SeatState) → slice_get seats k ≡ Some t → t.receipts ≡ receipts_of t.number e) i
    (λ k m t f. known k t m f)
    (λ t f. let one : get_or seats i x ≡ t = cc in subst (λ (z : SeatState). z.receipts ≡ receipts_of z.number e) one
    right) j lt' s at' in
    (same ∙ began, subst (λ (l : List SeatState). HaveReceiptsIn e l (i + 1)) (sym same) more)

pub kept : (e : CallLog) (n : ℕ) (seats : List SeatState) → length e.calls ≡ length e.trace → AreMadeBelow n e.calls →
    AreAllSeats n seats → HaveReceiptsIn e seats (length seats) → AreReceiptsOf seats e.trace
kept e n seats even below all known = record {
  stand = λ i k s r at at'. let f = at_receipt i k s r at at' in record {
    seat = f.seat;
    call = f.call_is ∙ omega arith;
    there = subst (λ (p : ℕ). slice_get e.trace p ≡ Some (r.step, r.reply)) (sym (f.position ∙ omega arith)) f.there;
  };
  rise = λ i k l s r q at at' at'' lt. let is = known i s (slice_get_within seats i s at) at in
      rises s.number 0 0 e.trace e.calls k l r q (subst (λ l. slice_get l k ≡ Some r) is at')
      (subst (λ rs. slice_get rs l ≡ Some q) is at'') lt;
  found = λ p lt. let call_id = there_is e.calls p (omega arith) in
      let low = below_at n e.calls p call_id.0 below call_id.1 in
      let seat = there_is seats call_id.0.seat (omega (arith, all.0)) in
      let number = all.1 call_id.0.seat seat.0 low seat.1 in
      let is = known call_id.0.seat seat.0 (slice_get_within seats call_id.0.seat seat.0 seat.1) seat.1 in
      let f = found seat.0.number 0 0 e.trace e.calls p call_id.0 even call_id.1 (sym number) in (
        call_id.0.seat,
        f.0,
        seat.0,
        f.1,
        seat.1,
        subst (λ rs. slice_get rs f.0 ≡ Some f.1) (sym is) f.2,
        f.3 ∙
            omega arith,
      );
  once = λ i k j l s t r q at at' bt bt' same_place. let f = at_receipt i k s r at at' in
      let h = at_receipt j l t q bt bt' in
      let same : f.q ≡ h.q = omega (arith, f.position, h.position) in
      let made : Some f.m ≡ Some h.m = sym f.made ∙ ap (slice_get e.calls) same ∙ h.made in
      let call_id : f.m ≡ h.m = cc in
      let number : s.number ≡ t.number = sym f.by ∙ ap (λ (x : CallId). x.seat) call_id ∙ h.by in
      let position : i ≡ j = sym (all.1 i s (subst (λ (z : ℕ). i < z) all.0 (slice_get_within seats i s at)) at) ∙
      number ∙ all.1 j t (subst (λ (z : ℕ). j < z) all.0 (slice_get_within seats j t bt)) bt in
      let seat : Some s ≡ Some t = sym at ∙ ap (slice_get seats) position ∙ bt in
      let same_seat : s ≡ t = cc in
      let is = known i s (slice_get_within seats i s at) at in
      let here = subst (λ l. slice_get l k ≡ Some r) is at' in
      let there = subst (λ rs. slice_get rs l ≡ Some q) is
      (subst (λ (z : SeatState). slice_get z.receipts l ≡ Some q) (sym same_seat) bt') in
      let up : k < l → r.position < q.position = rises s.number 0 0 e.trace e.calls k l r q here there in
      let down : l < k → q.position < r.position = rises s.number 0 0 e.trace e.calls l k q r there here in
      (position, one_place k l r.position q.position up down same_place);
}
  where
    at_receipt : (i k : ℕ) (s : SeatState) (r : Receipt) → slice_get seats i ≡ Some s →
        slice_get s.receipts k ≡ Some r → Placed s.number 0 0 e.trace e.calls k r
    at_receipt i k s r at at' = placed s.number 0 0 e.trace e.calls k r
        (subst (λ l. slice_get l k ≡ Some r) (known i s (slice_get_within seats i s at) at) at')

pub whole_again : (n : ℕ) (now seats : List SeatState) → now ≡ seats → length now ≡ n →
    take n (now ++ drop (length now) seats) ≡ seats
whole_again n now seats same long =
    subst (λ (l : List SeatState). length l ≡ n → take n (l ++ drop (length l) seats) ≡ seats) (sym same)
    (λ e. ap (λ l. take n (seats ++ l)) (drop_of_length-le seats (le_refl (length seats))) ∙
    ap (take n) (append-nil seats) ∙ take_all n seats (omega arith)) long
