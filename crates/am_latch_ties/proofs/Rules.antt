-- Each step keeps the rule over the views.
use Rattle.std.proofs.Common.{◌≡◌, ◌≢◌, ℕ, suc, ◌+◌, List, [], ◌∷◌, ◌++◌, length, set, refl, sym, ap, ◌∙◌, subst}
use Rattle.std.proofs.Common.{arith, length-append, length-set, zero-add}
use mathlib.Core.Option.{none, some, some-ne-none}
use lib.ListN.{get_elem?}
use Rattle.atomic_table.specs.Table.{State, Me, step, keeps, Allows, Splits, Joins, opening}
use Rattle.atomic_table.proofs.Lists.{set_else}
use Rattle.am_record.specs.declared.step.Step as what
use Rattle.am_record.specs.declared.step.Reply.{Reply}
use Rattle.am_latch_ties.specs.declared.call_id.CallId.{CallId}
use Rattle.am_latch_ties.specs.declared.views.SeatView.{SeatView}
use Rattle.am_latch_ties.specs.declared.views.View.{View}
use Rattle.am_latch_ties.specs.declared.views.View.TheVariants.{Nothing, Minting, Log, Receipts, Joint}
use Rattle.am_latch_ties.specs.CallLogs.{CallLog, empty_log, log_with}
use Rattle.am_latch_ties.specs.Receipts.{receipt, receipts_of}
use Rattle.am_latch_ties.specs.Views.{seat_in, log_in, IsSeatView, IsLogView, IsJointView, KnowsReceipts, IsViewOf}
use Rattle.am_latch_ties.specs.Views.{ViewsAgree, join_views, seat_part, log_part, one_more_minted, minted_seat}
use Rattle.am_latch_ties.specs.Views.{new_seat_view, seat_with, view_with_call, EndsMinting, AppendsCall, ReceiptsAgree}
use Rattle.am_latch_ties.proofs.Each.{each_of_set, each_of_end}
use Rattle.am_latch_ties.proofs.Places.{mine_more, others_same}

agreed : (s : State ℕ View) (holder count : ℕ) (e : CallLog) → length s.views ≡ count →
    length e.calls ≡ length e.trace →
    ((by : ℕ) (v : View) → get_elem? s.views by ≡ some v → IsViewOf holder e count by v) → ViewsAgree s
agreed s holder count e is even each = record {
  holder = holder;
  log = e;
  even = even;
  each = subst (λ (n : ℕ). (by : ℕ) (v : View) → get_elem? s.views by ≡ some v → IsViewOf holder e n by v) (sym is)
      each;
}

-- a view that isn't the holder's, where the log is held elsewhere, or has more calls of other seats
elsewhere : (holder holder' count count' by : ℕ) (e e' : CallLog) (v : View) → by ≢ holder →
    ((k : ℕ) → by ≡ suc k → receipts_of k e ≡ receipts_of k e') → IsViewOf holder e count by v →
    IsViewOf holder' e' count' by v
elsewhere holder holder' count count' by e e' Nothing far same h = tt
elsewhere holder holder' count count' by e e' (Minting n) far same h = absurd (far h.0)
elsewhere holder holder' count count' by e e' (Log d) far same h = absurd (far h.0)
elsewhere holder holder' count count' by e e' (Receipts k) far same h = (h.0, h.1 ∙ same k.seat h.0)
elsewhere holder holder' count count' by e e' (Joint k d) far same h = absurd (far h.0)

pub starts : ViewsAgree (opening (0 ∷ []) [] (Minting 0))
starts = record {
  holder = 0;
  log = empty_log;
  even = refl;
  each = each_of_end (IsViewOf 0 empty_log 1) [] (Minting 0) (λ i v f. absurd (some-ne-none v (sym f)))
      (refl, refl, refl);
}

pub mints : (id n : ℕ) (v : View) → v ≡ Minting n → Splits ViewsAgree id v (one_more_minted v) (minted_seat v)
mints id m (Minting n) _ s h at =
    let mine = h.each id (Minting n) at in
    let vs = set s.views id (Minting (n + 1)) in
    let count = suc (length s.views) in
    let same : length vs ≡ length s.views = length-set s.views id (Minting (n + 1)) in
    agreed _ h.holder count h.log (length-append vs (Receipts (new_seat_view n) ∷ []) ∙ omega (arith, same)) h.even
    (each_of_end (IsViewOf h.holder h.log count) vs (Receipts (new_seat_view n))
    (each_of_set (IsViewOf h.holder h.log count) s.views id (Minting (n + 1))
    (λ j u far f. elsewhere h.holder h.holder _ count j h.log h.log u (λ b. far (b ∙ sym mine.0)) (λ _ _. refl)
    (h.each j u f)) (mine.0, mine.1, omega (arith, mine.2)))
    (same ∙ mine.2, ap (receipts_of n) mine.1))
mints id m v is s h at = absurd (cc)

pub ends_minting : (slots id n : ℕ) (v : View) (state : List (ℕ × ℕ)) → v ≡ Minting n →
    Allows ViewsAgree slots id (v, state) 0 (λ k. k) (EndsMinting (step slots 0 0 0 none) (v, state))
ends_minting slots id m (Minting n) state _ s h long at fits =
    let mine = h.each id (Minting n) at in (
      Log empty_log,
      keeps,
      tt,
      agreed _ h.holder (length s.views) h.log (length-set s.views id (Log empty_log)) h.even
          (each_of_set (IsViewOf h.holder h.log (length s.views)) s.views id (Log empty_log)
          (λ j u _ f. h.each j u f) (mine.0, mine.1)),
      refl,
    )
ends_minting slots id m v state is s h long at fits = absurd (cc)

pub joins : (id other : ℕ) (v w : View) → IsSeatView v → IsLogView w →
    Joins ViewsAgree id v other w (join_views v w) Nothing
joins id other (Receipts k) (Log e) _ _ s h at apart there =
    let all = IsViewOf id h.log (length s.views) in
    let mine = h.each id (Receipts k) at in
    let theirs = h.each other (Log e) (sym (set_else s.views id other (Joint k e) apart) ∙ there) in
    let vs = set s.views id (Joint k e) in
    agreed _ id (length s.views) h.log (length-set vs other Nothing ∙ length-set s.views id (Joint k e)) h.even
    (each_of_set all vs other Nothing (λ i u far f. each_of_set (λ j x. j ≢ other → all j x) s.views id (Joint k e)
    (λ j x _ g away. elsewhere h.holder id _ (length s.views) j h.log h.log x (λ b. away (b ∙ sym theirs.0))
    (λ _ _. refl) (h.each j x g)) (λ _. (refl, theirs.1, mine.0, mine.1)) i u f far) tt)
joins id other v w seat log s h at apart there = absurd (cc)

-- the seat's token, once it has joined
pub joined : (me me' : Me ℕ View) (w : View) → IsSeatView me.0 → IsLogView w → me' ≡ (join_views me.0 w, me.1) →
    me' ≡ (Joint (seat_in me.0) (log_in w), me.1)
joined me me' w seat log is = is ∙ (λ i. (join_views (seat i) (log i), me.1))

pub splits : (id : ℕ) (v : View) (k : SeatView) (e : CallLog) → v ≡ Joint k e →
    Splits ViewsAgree id v (seat_part v) (log_part v)
splits id (Joint k e) _ _ _ s h at =
    let mine = h.each id (Joint k e) at in
    let vs = set s.views id (Receipts k) in
    let count = suc (length s.views) in
    let same : length vs ≡ length s.views = length-set s.views id (Receipts k) in
    agreed _ (length vs) count h.log (length-append vs (Log e ∷ []) ∙ omega (arith, same)) h.even
    (each_of_end (IsViewOf (length vs) h.log count) vs (Log e)
    (each_of_set (IsViewOf (length vs) h.log count) s.views id (Receipts k)
    (λ j u far f. elsewhere h.holder (length vs) _ count j h.log h.log u (λ b. far (b ∙ sym mine.0)) (λ _ _. refl)
    (h.each j u f)) (mine.2, mine.3))
    (refl, mine.1))
splits id v k e is s h at = absurd (cc)

pub appends : (slots id : ℕ) (v : View) (state : List (ℕ × ℕ)) (st : what.Step) (r : Reply) (m : CallId) →
    IsJointView v → m.seat ≡ (seat_in v).seat →
    Allows ViewsAgree slots id (v, state) 0 (λ n. n) (AppendsCall st r m (step slots 0 0 0 none) (v, state))
appends slots id (Joint k e) state st r m _ made s h long at fits =
    let mine = h.each id (Joint k e) at in
    let w = view_with_call st r m (Joint k e) in
    let more = mine_more k.seat 0 0 (length h.log.trace) h.log.trace h.log.calls st r m h.even made
    (sym (zero-add (length h.log.trace))) in
    let known : KnowsReceipts (log_with h.log m st r) (seat_with k st r (length e.trace)) = (λ i. mine.3 i ++
    receipt k.seat (length (mine.3 i)) st r (length (mine.1 i).trace) ∷ []) ∙
    ap (λ (n : ℕ). receipts_of k.seat h.log ++ receipt k.seat n st r (length h.log.trace) ∷ [])
    (sym (zero-add (length (receipts_of k.seat h.log)))) ∙ sym more in (
      w,
      keeps,
      tt,
      agreed _ h.holder (length s.views) (log_with h.log m st r) (length-set s.views id w)
          (omega (arith, length-append h.log.trace ((st, r) ∷ []), length-append h.log.calls (m ∷ []), h.even))
          (each_of_set (IsViewOf h.holder (log_with h.log m st r) (length s.views)) s.views id w
          (λ j u far f. elsewhere h.holder h.holder _ (length s.views) j h.log (log_with h.log m st r) u
          (λ b. far (b ∙ sym mine.0)) (λ l is. sym (others_same l 0 0 h.log.trace h.log.calls st r m h.even
          (λ z. far (is ∙ ap suc (sym z ∙ made) ∙ sym mine.2)))) (h.each j u f))
          (mine.0, ap (λ (d : CallLog). log_with d m st r) mine.1, mine.2, known)),
      refl,
    )
appends slots id v state st r m is made s h long at fits = absurd (cc)

pub compares : (slots id : ℕ) (v : View) (state : List (ℕ × ℕ)) (k : SeatView) (e : CallLog) → v ≡ Joint k e →
    Allows ViewsAgree slots id (v, state) 0 (λ n. n) (ReceiptsAgree (step slots 0 0 0 none) (v, state))
compares slots id (Joint k e) state _ _ _ s h long at fits =
    let mine = h.each id (Joint k e) at in (
      Joint k e,
      keeps,
      tt,
      agreed _ h.holder (length s.views) h.log (length-set s.views id (Joint k e)) h.even
          (each_of_set (IsViewOf h.holder h.log (length s.views)) s.views id (Joint k e) (λ j u _ f. h.each j u f)
          mine),
      (refl, mine.3 ∙ ap (receipts_of k.seat) (sym mine.1)),
    )
compares slots id v state k e is s h long at fits = absurd (cc)
