-- What turns leave of a seat and of all seats, and what they gain.
use Rattle.std.proofs.Common.{◌≡◌, ℕ, suc, ◌+◌, ◌<◌, ◌≤◌, List, [], ◌∷◌, ◌++◌, length, get_or, refl, sym, ap, ◌∙◌}
use Rattle.std.proofs.Common.{arith, append_assoc, append-nil, length-append, Bool, true, false, MatchBool, subst}
use Rattle.std.proofs.Common.{Option, Some, None}
use Rattle.std.specs.List.{AllZip}
use Rattle.std.specs.Prelude.{IsSome}
use Rattle.std.proofs.lemmas.Grind.{flat_map-append}
use Rattle.std.proofs.lemmas.List.Sums.{sum_by-cons, sum_by-append}
use Rattle.am_record.specs.Interval.{Interval}
use Rattle.am_record.specs.declared.step.Step.{Step}
use Rattle.am_record.specs.declared.step.Step.TheVariants.{Begin, Do, Merge, Clean}
use Rattle.am_record.specs.Sessions.{IsAllowed}
use Rattle.am_record.specs.declared.step.Op.{Op}
use Rattle.am_record.specs.declared.step.Op.TheVariants.{Scan}
use Rattle.am_record.specs.declared.step.Reply.{Reply}
use Rattle.am_record.specs.declared.step.Reply.TheVariants.{Begun, Idle, Rows}
use Rattle.am_record.proofs.Lists.{AllByRecursion-append}
use Rattle.am_latch_engine.specs.declared.change.Change.{Change}
use Rattle.am_latch_engine.specs.declared.change.Change.TheVariants.{Ends, Nothing}
use Rattle.am_latch_ties.specs.declared.receipt.Receipt.{Receipt}
use Rattle.am_latch_engine.specs.Changes.{change, end_of, is_stored, open_after}
use Rattle.am_latch_ties.specs.Receipts.{receipt}
use Rattle.am_latch.specs.Receipts.{SeatState, seat_state, moved_in, GetsReceipt, HasReceiptOf}
use Rattle.am_latch.specs.Holds.{IsCalledOn, StandsNext, StaysHeld}
use Rattle.am_latch.specs.Ties.{open_of}
use Rattle.am_latch_engine.proofs.Replies.{did_nothing}
use Rattle.am_latch.proofs.SeatTransactions.{open_from-snoc}
use Rattle.am_serve_connections.specs.declared.turns.Upkeep.{Upkeep}
use Rattle.am_serve_connections.specs.declared.turns.Upkeep.TheVariants.{MergeOnly, MergeAndClean}
use Rattle.am_serve_connections.specs.declared.turns.Outlook.{Outlook}
use Rattle.am_serve_workers.specs.declared.clean_turn.Place.{Place}
use Rattle.am_serve_workers.specs.declared.read_turn.ReadPlace.{ReadPlace}
use Rattle.am_serve_workers.specs.declared.turns.Places.{Places}
use Rattle.am_serve_workers.specs.Turns.{IsTurn, ComesAfter, MayHaveCleaned, MayHaveRead, AreOfTurns}
use Rattle.am_serve_workers.specs.Turns.{HasTakenTurns, all_moved}
use Rattle.am_serve_workers.specs.ReadTurns.{HasRead, ReadsRange, ReadNothing, Scans, ThenScans, end_after, is_read}
use Rattle.am_law_serial.specs.Trace.{Trace}
use Rattle.am_record.specs.declared.entry.Entry.{Entry}
use Rattle.am_serve_workers.specs.CleanTurns.{HasCleaned, IsSeen}
use Rattle.am_serve_workers.specs.WorkerTurns.{HasLetGo, after_merge, GoesOn, TakesTurn, TakesTurns}

-- the seat has these receipts more, and what is open in it stays open
record LeavesOpen (s t : SeatState) (more : List Receipt) : Type 0 where
  pub number : t.number ≡ s.number
  pub longer : t.receipts ≡ s.receipts ++ more
  pub open_tx : open_of t.receipts ≡ open_of s.receipts

-- a seat that lets receipts go keeps them in what contracts see
let_go : (s t : SeatState) → t.number ≡ s.number → t.receipts ≡ s.receipts → LeavesOpen s t []
let_go s t number receipts = record {
  number = number;
  longer = receipts ∙ sym (append-nil s.receipts);
  open_tx = ap open_of receipts;
}

went_on : (s t : SeatState) (step : Step) (r : Reply) → change step r ≡ Nothing → (c : GetsReceipt s step r t) →
    LeavesOpen s t (receipt s.number (length s.receipts) step r c.0 ∷ [])
went_on s t step r no_change c =
    let x : Receipt = receipt s.number (length s.receipts) step r c.0 in
    let receipts : t.receipts ≡ s.receipts ++ x ∷ [] = ap (λ (v : SeatState). v.receipts) c.1 in record {
      number = ap (λ (v : SeatState). v.number) c.1;
      longer = receipts;
      open_tx = ap open_of receipts ∙ open_from-snoc None s.receipts x ∙
          ap (λ (ch : Change). open_after (open_of s.receipts) ch) no_change;
    }

then_on : (s t u : SeatState) (xs ys : List Receipt) → LeavesOpen s t xs → LeavesOpen t u ys → LeavesOpen s u (xs ++ ys)
then_on s t u xs ys f h = record {
  number = h.number ∙ f.number;
  longer = h.longer ∙ ap (λ (l : List Receipt). l ++ ys) f.longer ∙ append_assoc s.receipts xs ys;
  open_tx = h.open_tx ∙ f.open_tx;
}

by_turns : (upkeep : Upkeep) (limit n : ℕ) (s t : SeatState) (more : List Receipt) → LeavesOpen s t more →
    AreOfTurns upkeep limit n more → HasTakenTurns upkeep limit n s t
by_turns upkeep limit n s t more f h = record {
  number = f.number;
  more = more;
  longer = f.longer;
  turns = h;
  open_tx = f.open_tx;
}

no_turn : (upkeep : Upkeep) (limit n : ℕ) → AreOfTurns upkeep limit n []
no_turn upkeep limit n = record { turns = []; each = tt; few = omega arith; joined = refl }

one_turn : (upkeep : Upkeep) (limit : ℕ) (turn : List Receipt) → IsTurn upkeep limit turn →
    AreOfTurns upkeep limit 1 turn
one_turn upkeep limit turn h =
    record { turns = turn ∷ []; each = (h, tt); few = omega arith; joined = sym (append-nil turn) }

both_turns : (upkeep : Upkeep) (limit m n : ℕ) (xs ys : List Receipt) → AreOfTurns upkeep limit m xs →
    AreOfTurns upkeep limit n ys → AreOfTurns upkeep limit (m + n) (xs ++ ys)
both_turns upkeep limit m n xs ys f h = record {
  turns = f.turns ++ h.turns;
  each = AllByRecursion-append (IsTurn upkeep limit) f.turns h.turns f.each h.each;
  few = omega (arith, f.few, h.few, length-append f.turns h.turns);
  joined = (λ i. f.joined i ++ h.joined i) ∙ sym (flat_map-append (λ (turn : List Receipt). turn) f.turns h.turns);
}

-- so many turns are no more than more of them
pub at_most : (upkeep : Upkeep) (limit m n : ℕ) (s t : SeatState) → m ≤ n → HasTakenTurns upkeep limit m s t →
    HasTakenTurns upkeep limit n s t
at_most upkeep limit m n s t le h = record {
  number = h.number;
  more = h.more;
  longer = h.longer;
  turns = record {
    turns = h.turns.turns;
    each = h.turns.each;
    few = omega (arith, le, h.turns.few);
    joined = h.turns.joined;
  };
  open_tx = h.open_tx;
}

pub unturned : (upkeep : Upkeep) (limit n : ℕ) (s : SeatState) → HasTakenTurns upkeep limit n s s
unturned upkeep limit n s = by_turns upkeep limit n s s [] (let_go s s refl refl) (no_turn upkeep limit n)

-- turns, and then further ones
pub turned_on : (upkeep : Upkeep) (limit m n : ℕ) (s t u : SeatState) → HasTakenTurns upkeep limit m s t →
    HasTakenTurns upkeep limit n t u → HasTakenTurns upkeep limit (m + n) s u
turned_on upkeep limit m n s t u f h =
    by_turns upkeep limit (m + n) s u (f.more ++ h.more)
    (then_on s t u f.more h.more record { number = f.number; longer = f.longer; open_tx = f.open_tx }
    record { number = h.number; longer = h.longer; open_tx = h.open_tx })
    (both_turns upkeep limit m n f.more h.more f.turns h.turns)

-- a merge may stand alone
nothing_after : (upkeep : Upkeep) (r : Reply) → ComesAfter upkeep r []
nothing_after (MergeAndClean runs) Idle = ([], [], refl, tt, tt, λ none. refl)
nothing_after upkeep r = refl

either_way : (upkeep : Upkeep) (limit : ℕ) (s t u : SeatState) (r : Reply) (b : Bool) → LeavesOpen s t [] →
    MatchBool b (GetsReceipt t (Merge limit) r u) (u ≡ t) → HasTakenTurns upkeep limit 1 s u
either_way upkeep limit s t u r true f c =
    let x : Receipt = receipt t.number (length t.receipts) (Merge limit) r c.0 in
    by_turns upkeep limit 1 s u (x ∷ []) (then_on s t u [] (x ∷ []) f (went_on t u (Merge limit) r refl c))
    (one_turn upkeep limit (x ∷ []) (refl, nothing_after upkeep r))
either_way upkeep limit s t u r false f e =
    subst (λ (v : SeatState). HasTakenTurns upkeep limit 1 s v) (sym e)
    (by_turns upkeep limit 1 s t [] f (no_turn upkeep limit 1))

-- receipts were let go, and a Merge taken
pub merged : (upkeep : Upkeep) (limit : ℕ) (s t u : SeatState) (r : Reply) → t.number ≡ s.number →
    t.receipts ≡ s.receipts → HasReceiptOf t (Merge limit) r u → HasTakenTurns upkeep limit 1 s u
merged upkeep limit s t u r number receipts c =
    either_way upkeep limit s t u r (is_stored r) (let_go s t number receipts) c

-- ---- a clean

-- the receipts that a clean leaves
record Cleans (s t : SeatState) : Type 0 where
  pub more : List Receipt
  pub open_tx : LeavesOpen s t more
  pub may : MayHaveCleaned more

not_cleaned : (s t : SeatState) → t ≡ s → Cleans s t
not_cleaned s t e = record {
  more = [];
  open_tx = let_go s t (ap (λ (v : SeatState). v.number) e) (ap (λ (v : SeatState). v.receipts) e);
  may = tt;
}

cleaned_either_way : (s t : SeatState) (range : Interval) (r : Reply) (b : Bool) →
    MatchBool b (GetsReceipt s (Clean range 64) r t) (t ≡ s) → Cleans s t
cleaned_either_way s t range r true c = record {
  more = receipt s.number (length s.receipts) (Clean range 64) r c.0 ∷ [];
  open_tx = went_on s t (Clean range 64) r refl c;
  may = (range, refl);
}
cleaned_either_way s t range r false e = not_cleaned s t e

-- one receipt is there more, or none
cleaned : (seats : ℕ) (from to : Place) (s t : SeatState) (works : Bool) (reply : Option Reply) →
    HasCleaned seats from s works reply to t → Cleans s t
cleaned seats from to s t works (Some r) h = cleaned_either_way s t h.range r (is_stored r) h.called
cleaned seats from to s t works None h = not_cleaned s t h.same

-- ---- a read

-- the receipts that a read leaves
record Reads (s t : SeatState) : Type 0 where
  pub more : List Receipt
  pub open_tx : LeavesOpen s t more
  pub may : MayHaveRead more

-- one receipt more, of a call that stands there
abbrev Adds : SeatState → Step → Reply → ℕ → SeatState → Type 0
Adds s st r position t = t ≡ seat_state s.number (s.receipts ++ receipt s.number (length s.receipts) st r position ∷ [])
    s.let_go

added_open : (s t : SeatState) (st : Step) (r : Reply) (position : ℕ) → Adds s st r position t →
    open_of t.receipts ≡ open_after (open_of s.receipts) (change st r)
added_open s t st r position e =
    ap (λ (v : SeatState). open_of v.receipts) e ∙
    open_from-snoc None s.receipts (receipt s.number (length s.receipts) st r position)

-- after a Begin its transaction is open
pub begun_open : (s t : SeatState) (tx : ℕ) → HasReceiptOf s Begin (Begun tx) t → open_of t.receipts ≡ Some tx
begun_open s t tx c = added_open s t Begin (Begun tx) c.0 c.1

done_either_way : (s t : SeatState) (tx : ℕ) (op : Op) (r : Reply) (b : Bool) →
    MatchBool b (GetsReceipt s (Do tx op) r t) (t ≡ s) → open_of t.receipts ≡ open_of s.receipts
done_either_way s t tx op r true c =
    added_open s t (Do tx op) r c.0 c.1 ∙ ap (open_after (open_of s.receipts)) (did_nothing tx op r)
done_either_way s t tx op r false e = ap (λ (v : SeatState). open_of v.receipts) e

-- after an operation what was open is
pub done_open : (s t : SeatState) (tx : ℕ) (op : Op) (r : Reply) → HasReceiptOf s (Do tx op) r t →
    open_of t.receipts ≡ open_of s.receipts
done_open s t tx op r c = done_either_way s t tx op r (is_stored r) c

-- who has a transaction may end it
pub may_end : (o : Option ℕ) (tx : ℕ) (reads : Bool) → o ≡ Some tx → IsAllowed o (end_after tx reads)
may_end o tx true e = e
may_end o tx false e = e

pub some_end : (tx : ℕ) (reads : Bool) → IsSome (end_of (end_after tx reads))
some_end tx true = refl
some_end tx false = refl

end_of_end : (tx : ℕ) (reads : Bool) → end_of (end_after tx reads) ≡ Some tx
end_of_end tx true = refl
end_of_end tx false = refl

-- what isn't stored wasn't read
unread : (r : Reply) → is_stored r ≡ false → is_read r ≡ false
unread (Rows rows) e = absurd (cc)
unread r e = refl

-- after an end nothing is open, as before the beginning
closed : (s v t : SeatState) (st : Step) (r : Reply) (position tx : ℕ) → open_of s.receipts ≡ None →
    Adds v st r position t → change st r ≡ Ends tx → open_of t.receipts ≡ open_of s.receipts
closed s v t st r position tx idle added ends =
    added_open v t st r position added ∙ ap (open_after (open_of v.receipts)) ends ∙ sym idle

two_receipts : (s u t : SeatState) (a b : Receipt) → u.receipts ≡ s.receipts ++ a ∷ [] →
    t.receipts ≡ u.receipts ++ b ∷ [] → t.receipts ≡ s.receipts ++ a ∷ b ∷ []
two_receipts s u t a b f h =
    h ∙ ap (λ (l : List Receipt). l ++ b ∷ []) f ∙ append_assoc s.receipts (a ∷ []) (b ∷ [])

-- a Begin, and the Abort right after it
read_in_vain : (s u t : SeatState) (begun ended : Reply) (tx n m : ℕ) → open_of s.receipts ≡ None →
    Adds s Begin begun n u → Adds u (end_after tx false) ended m t → m ≡ n + 1 →
    change (end_after tx false) ended ≡ Ends tx → Reads s t
read_in_vain s u t begun ended tx n m idle first last next ends =
    let a : Receipt = receipt s.number (length s.receipts) Begin begun n in
    let b : Receipt = receipt u.number (length u.receipts) (end_after tx false) ended m in record {
      more = a ∷ b ∷ [];
      open_tx = record {
        number = ap (λ (v : SeatState). v.number) last ∙ ap (λ (v : SeatState). v.number) first;
        longer = two_receipts s u t a b (ap (λ (v : SeatState). v.receipts) first)
            (ap (λ (v : SeatState). v.receipts) last);
        open_tx = closed s u t (end_after tx false) ended m tx idle last ends;
      };
      may = (refl, (tx, refl, next));
    }

-- a Begin, a scan, and the end, one right after another
read_through : (s u v t : SeatState) (range : Interval) (begun read ended : Reply) (tx n m k : ℕ) (reads : Bool) →
    open_of s.receipts ≡ None → Adds s Begin begun n u → Adds u (Do tx (Scan range 1)) read m v →
    Adds v (end_after tx reads) ended k t → m ≡ n + 1 → k ≡ n + 2 → change (end_after tx reads) ended ≡ Ends tx →
    Reads s t
read_through s u v t range begun read ended tx n m k reads idle first middle last next behind ends =
    let a : Receipt = receipt s.number (length s.receipts) Begin begun n in
    let b : Receipt = receipt u.number (length u.receipts) (Do tx (Scan range 1)) read m in
    let c : Receipt = receipt v.number (length v.receipts) (end_after tx reads) ended k in
    let two : v.receipts ≡ s.receipts ++ a ∷ b ∷ [] = two_receipts s u v a b
    (ap (λ (w : SeatState). w.receipts) first) (ap (λ (w : SeatState). w.receipts) middle) in record {
      more = a ∷ b ∷ c ∷ [];
      open_tx = record {
        number = ap (λ (w : SeatState). w.number) last ∙ ap (λ (w : SeatState). w.number) middle ∙
            ap (λ (w : SeatState). w.number) first;
        longer = ap (λ (w : SeatState). w.receipts) last ∙ ap (λ (l : List Receipt). l ++ c ∷ []) two ∙
            append_assoc s.receipts (a ∷ b ∷ []) (c ∷ []);
        open_tx = closed s v t (end_after tx reads) ended k tx idle last ends;
      };
      may = (refl, (tx, range, reads, refl, next, refl, behind));
    }

-- by whether the scan is stored, which finds the trace that the Begin left
scanned : (s u v t : SeatState) (range : Interval) (found : Trace) (between later : Option Trace) (read ended : Reply)
    (tx : ℕ) (reads b : Bool) → is_stored read ≡ b → open_of s.receipts ≡ None →
    Adds s Begin (Begun tx) (length found) u →
    MatchBool b (GetsReceipt u (Do tx (Scan range 1)) read v) (v ≡ u) →
    MatchBool b (StandsNext (Some (found ++ (Begin, Begun tx) ∷ [])) u (Do tx (Scan range 1)) read between v)
    (StaysHeld (Some (found ++ (Begin, Begun tx) ∷ [])) between) →
    reads ≡ is_read read → StandsNext between v (end_after tx reads) ended later t →
    change (end_after tx reads) ended ≡ Ends tx → Reads s t
scanned s u v t range found between later read ended tx reads true stored idle first got there answer last ends =
    let held = found ++ (Begin, Begun tx) ∷ [] in
    let one : length held ≡ length found + 1 = length-append found ((Begin, Begun tx) ∷ []) in
    let after = subst (λ (o : Option Trace). StandsNext o v (end_after tx reads) ended later t) there.2 last in
    let two : length after.0 ≡ length there.0 + 1 = ap length after.1 ∙
    length-append there.0 ((Do tx (Scan range 1), read) ∷ []) in
    let same : length there.0 ≡ length held = ap length there.1 in
    read_through s u v t range (Begun tx) read ended tx (length found) (length there.0) (length after.0) reads idle
    first there.3 after.3 (same ∙ one) (omega (arith, one, two, same)) ends
scanned s u v t range found between later read ended tx reads false stored idle first got there answer last ends =
    let held = found ++ (Begin, Begun tx) ∷ [] in
    let one : length held ≡ length found + 1 = length-append found ((Begin, Begun tx) ∷ []) in
    let none : reads ≡ false = answer ∙ unread read stored in
    let after = subst (λ (o : Option Trace). StandsNext o v (end_after tx reads) ended later t) there last in
    let here : Adds u (end_after tx false) ended (length after.0) t =
    subst (λ (y : SeatState × Bool). Adds y.0 (end_after tx y.1) ended (length after.0) t) (λ j. (got j, none j))
    after.3 in
    read_in_vain s u t (Begun tx) ended tx (length found) (length after.0) idle first here (ap length after.1 ∙ one)
    (subst (λ (b : Bool). change (end_after tx b) ended ≡ Ends tx) none ends)

-- the transaction was begun, and its trace is found by the scan
then_scanned : (range : Interval) (tx : ℕ) (held : Option Trace) (s u t : SeatState) (reads : Bool) →
    open_of s.receipts ≡ None → StandsNext None s Begin (Begun tx) held u → Scans range tx held u reads t → Reads s t
then_scanned range tx held s u t reads idle first h =
    let z : Scans range tx (Some (first.0 ++ (Begin, Begun tx) ∷ [])) u reads t =
    subst (λ (o : Option Trace). Scans range tx o u reads t) first.2 h in
    let last = subst (λ (b : Bool). MatchBool b
    (StandsNext z.between z.middle (end_after tx reads) z.end_reply z.later t) (StaysHeld z.between z.later)) z.stored
    z.ended_there in
    scanned s u z.middle t range first.0 z.between z.later z.reply z.end_reply tx reads (is_stored z.reply) refl idle
    first.3 z.scanned z.scanned_there z.answer last (z.ended tx (end_of_end tx reads))

not_begun : (s u t : SeatState) (r : Reply) (b : Bool) → change Begin r ≡ Nothing →
    MatchBool b (GetsReceipt s Begin r u) (u ≡ s) → t ≡ u → Reads s t
not_begun s u t r true no_change c e = record {
  more = receipt s.number (length s.receipts) Begin r c.0 ∷ [];
  open_tx = subst (λ (v : SeatState). LeavesOpen s v (receipt s.number (length s.receipts) Begin r c.0 ∷ [])) (sym e)
      (went_on s u Begin r no_change c);
  may = (refl, tt);
}
not_begun s u t r false no_change c e = record {
  more = [];
  open_tx = let_go s t (ap (λ (v : SeatState). v.number) (e ∙ c)) (ap (λ (v : SeatState). v.receipts) (e ∙ c));
  may = tt;
}

then_read : (range : Interval) (r : Reply) (held : Option Trace) (s u t : SeatState) (reads : Bool) →
    open_of s.receipts ≡ None → HasReceiptOf s Begin r u → IsCalledOn None s Begin r held u →
    ThenScans r range held u reads t → Reads s t
then_read range (Begun tx) held s u t reads idle got there h = then_scanned range tx held s u t reads idle there h
then_read range r held s u t reads idle got there h = not_begun s u t r (is_stored r) refl got h.same

-- the receipts of a read
record ReadsOf (runs : ℕ) (s t : SeatState) : Type 0 where
  pub reads : Reads s t
  pub never : runs ≡ 0 → reads.more ≡ []

has_read : (seats runs : ℕ) (from to : ReadPlace) (s t : SeatState) (outlook : Option Outlook) →
    HasRead seats runs from s outlook to t → ReadsOf runs s t
has_read seats runs from to s t (Some outlook) h = record {
  reads = then_read h.range h.read.reply h.read.held s h.read.begun t h.reads h.idle h.read.begins h.read.begins_there
      h.read.scans;
  never = λ none. absurd (omega (arith, none, h.unasked));
}
has_read seats runs from to s t None h = record {
  reads = record {
    more = [];
    open_tx = let_go s t (ap (λ (v : SeatState). v.number) h.same) (ap (λ (v : SeatState). v.receipts) h.same);
    may = tt;
  };
  never = λ none. refl;
}

-- ---- a turn

-- and then perhaps a Clean and a read, since nothing was left to merge
then_cleaned : (limit runs : ℕ) (s t u v w : SeatState) → LeavesOpen s t [] → GetsReceipt t (Merge limit) Idle u →
    Cleans u v → ReadsOf runs v w → HasTakenTurns (MergeAndClean runs) limit 1 s w
then_cleaned limit runs s t u v w f c d r =
    let x : Receipt = receipt t.number (length t.receipts) (Merge limit) Idle c.0 in
    let more = d.more ++ r.reads.more in
    by_turns (MergeAndClean runs) limit 1 s w (x ∷ more)
    (then_on s u w (x ∷ []) more (then_on s t u [] (x ∷ []) f (went_on t u (Merge limit) Idle refl c))
    (then_on u v w d.more r.reads.more d.open_tx r.reads.open_tx))
    (one_turn (MergeAndClean runs) limit (x ∷ more)
    (refl, (d.more, r.reads.more, refl, d.may, r.reads.may, r.never)))

-- a turn has a merge, and perhaps a Clean and a read after it
goes_on : (upkeep : Upkeep) (limit seats : ℕ) (from to : Places) (s t u v : SeatState) (outlook : Outlook)
    (merge reply : Reply) →
    HasLetGo s t → HasReceiptOf t (Merge limit) merge u →
    GoesOn (after_merge upkeep merge) upkeep seats from u merge outlook reply to v →
    HasTakenTurns upkeep limit 1 s v
goes_on (MergeAndClean runs) limit seats from to s t u v outlook Idle reply f c h =
    then_cleaned limit runs s t u h.middle v (let_go s t f.number f.receipts) c
    (cleaned seats from.clean to.clean u h.middle h.works h.cleaned h.cleans)
    (has_read seats runs from.read to.read h.middle v h.read h.reads)
goes_on MergeOnly limit seats from to s t u v outlook Idle reply f c h =
    subst (λ (w : SeatState). HasTakenTurns MergeOnly limit 1 s w) (sym h.same)
    (merged MergeOnly limit s t u Idle f.number f.receipts c)
goes_on upkeep limit seats from to s t u v outlook merge reply f c h =
    subst (λ (w : SeatState). HasTakenTurns upkeep limit 1 s w) (sym h.same)
    (merged upkeep limit s t u merge f.number f.receipts c)

pub one_taken : (upkeep : Upkeep) (limit seats : ℕ) (from to : Places) (s t : SeatState) (outlook : Outlook)
    (reply : Reply) → TakesTurn upkeep limit seats from s outlook reply to t → HasTakenTurns upkeep limit 1 s t
one_taken upkeep limit seats from to s t outlook reply h =
    goes_on upkeep limit seats from to s h.free h.behind t outlook h.merged reply h.freed h.merges h.goes_on

pub one_turn_more : (upkeep : Upkeep) (limit seats n : ℕ) (s u t : SeatState) (from to : Places) (outlook : Outlook)
    (reply : Reply) → TakesTurns upkeep limit seats n s from u →
    TakesTurn upkeep limit seats from u outlook reply to t → TakesTurns upkeep limit seats (n + 1) s to t
one_turn_more upkeep limit seats n s u t from to outlook reply f h =
    let e : suc n ≡ n + 1 = omega arith in
    subst (λ (k : ℕ). TakesTurns upkeep limit seats k s to t) e (from, u, outlook, reply, f, h)

-- a look changes no seat
pub receipt_of_same : (s t u : SeatState) (step : Step) (r : Reply) → t ≡ s → HasReceiptOf t step r u →
    HasReceiptOf s step r u
receipt_of_same s t u step r same called = subst (λ (v : SeatState). HasReceiptOf v step r u) same called

-- what was seen is seen by another name of the ghost
pub seen_as : (from : Place) (trace : Trace) (ghost other : Option Entry) (works : Bool) → other ≡ ghost →
    IsSeen from trace ghost works → IsSeen from trace other works
seen_as from trace ghost other works e seen = subst (λ (x : Option Entry). IsSeen from trace x works) (sym e) seen

-- ---- all seats

pub all_turned : (upkeep : Upkeep) (limit n : ℕ) (xs ys : List SeatState) → length ys ≡ length xs →
    ((i : ℕ) (d : SeatState) → i < length xs → HasTakenTurns upkeep limit n (get_or xs i d) (get_or ys i d)) →
    AllZip (HasTakenTurns upkeep limit n) xs ys
all_turned upkeep limit n [] [] e h = tt
all_turned upkeep limit n [] (y ∷ ys) e h = absurd (omega (arith, e))
all_turned upkeep limit n (x ∷ xs) [] e h = absurd (omega (arith, e))
all_turned upkeep limit n (x ∷ xs) (y ∷ ys) e h = (
  h 0 x (omega arith),
  all_turned upkeep limit n xs ys (omega (arith, e))
      (λ i d lt. h (suc i) d (omega arith)),
)

all_unturned : (upkeep : Upkeep) (limit n : ℕ) (zs : List SeatState) → AllZip (HasTakenTurns upkeep limit n) zs zs
all_unturned upkeep limit n [] = tt
all_unturned upkeep limit n (z ∷ zs) = (unturned upkeep limit n z, all_unturned upkeep limit n zs)

-- the first seats had turns, and the others none
pub first_turned : (upkeep : Upkeep) (limit n : ℕ) (xs ys zs : List SeatState) → AllZip (HasTakenTurns upkeep limit n)
    xs ys →
    AllZip (HasTakenTurns upkeep limit n) (xs ++ zs) (ys ++ zs)
first_turned upkeep limit n [] [] zs h = all_unturned upkeep limit n zs
first_turned upkeep limit n [] (y ∷ ys) zs h = absurd h
first_turned upkeep limit n (x ∷ xs) [] zs h = absurd h
first_turned upkeep limit n (x ∷ xs) (y ∷ ys) zs h = (h.0, first_turned upkeep limit n xs ys zs h.1)

moved_in-append : (xs ys : List Receipt) → moved_in (xs ++ ys) ≡ moved_in xs + moved_in ys
moved_in-append [] ys = omega arith
moved_in-append (x ∷ xs) ys = omega (arith, moved_in-append xs ys)

gains : (upkeep : Upkeep) (limit n : ℕ) (s t : SeatState) → HasTakenTurns upkeep limit n s t →
    moved_in s.receipts ≤ moved_in t.receipts
gains upkeep limit n s t h = omega (arith, ap moved_in h.longer, moved_in-append s.receipts h.more)

-- turns take back no move
pub all_gain : (upkeep : Upkeep) (limit n : ℕ) (xs ys : List SeatState) → AllZip (HasTakenTurns upkeep limit n) xs ys →
    all_moved xs ≤ all_moved ys
all_gain upkeep limit n [] [] h = omega arith
all_gain upkeep limit n [] (y ∷ ys) h = absurd h
all_gain upkeep limit n (x ∷ xs) [] h = absurd h
all_gain upkeep limit n (x ∷ xs) (y ∷ ys) h =
    omega (
      arith,
      gains upkeep limit n x y h.0,
      all_gain upkeep limit n xs ys h.1,
      sum_by-cons (λ (s : SeatState). moved_in s.receipts) x xs,
      sum_by-cons (λ (s : SeatState). moved_in s.receipts)
          y ys,
    )

pub all_moved-append : (xs ys : List SeatState) → all_moved (xs ++ ys) ≡ all_moved xs + all_moved ys
all_moved-append xs ys = sum_by-append (λ (s : SeatState). moved_in s.receipts) xs ys
