-- The laws of the overlay at the machine's states.
use Rattle.std.proofs.Common.{◌≡◌, ◌≢◌, ℕ, List, [], ◌∷◌, ◌++◌, map, Bool, true, false, cond, refl, sym, ap, ◌∙◌, subst}
use Rattle.std.proofs.Common.{None}
use Rattle.std.specs.Prelude.{◌==◌, not, filter}
use Rattle.std.specs.FinMap.{get, empty}
use Rattle.std.proofs.lemmas.Bool.{cond-true, cond-false, eq-eqb, ne_eqb, false_from_ne_true}
use Rattle.std.proofs.lemmas.List.{map-append}
use Rattle.am_record.specs.declared.step.Op.{Op}
use Rattle.am_record.specs.declared.step.Op.TheVariants.{Back}
use Rattle.am_record.specs.declared.step.Reply.{Reply}
use Rattle.am_record.specs.Plain.{PlainMap, Draft, fresh, answer, draft_after, map_answer, map_after, left_on, left}
use Rattle.am_record.specs.OrderedKey.{OrderedKey}
use Rattle.am_record.specs.Asks.{lock_of, with_asked, locks_of, holds, owns}
use Rattle.am_law_serial.specs.Agreement.{Agree, Alike, Has}
use Rattle.am_law_serial.specs.Trace.{Trace, Answered, Effect, Answers, Commits, effects, left_by_bodies, ops_of}
use Rattle.am_law_serial.specs.Trace.{runs_made}
use Rattle.am_law_serial.specs.Machine.{Transaction, start, Runs, after_run, is_open, view, due, without_transaction}
use Rattle.am_law_serial.specs.Machine.{next}
use Rattle.am_law_serial.specs.Machine.{overlay_in, owns_in, State, body_in, holds_in}
use Rattle.am_law_serial.specs.Laws.{is_back, GrantedOnOverlay, BackRestores, CommitKeepsOverlay, AbortRestores}
use Rattle.am_law_serial.specs.Laws.{OverlayLaws, ViewLaws, IsMachineOf}
use Rattle.am_law_serial.proofs.Bodies.{locks_of-push, view_frame, view_local, left_frame, scope_of}
use Rattle.am_law_serial.proofs.Maps.{agree_refl}
use Rattle.am_law_serial.proofs.Views.{View, view_of, push, among, active_in, committed_in, with_body, state_of}
use Rattle.am_law_serial.proofs.Views.{is_open-with_body, body_in-with_body, active_parts, active_from, among_push_none}
use Rattle.am_law_serial.proofs.Serial.{Inv, MayAnswer, push_inv, same_committed_bodies, commits_committed}
use Rattle.am_law_serial.proofs.Overlays.{Crowd, locks_by, answer_map, granted_answer, granted_made, granted_overlay}
use Rattle.am_law_serial.proofs.Overlays.{back_overlay}
use Rattle.am_law_serial.proofs.Overlays.{commits_overlay, aborts_overlay, AreDistinct-filter, crowd_held, crowd_frame}
use Rattle.am_law_serial.proofs.Runs.{from_start, without_transaction-with_body, view-state_of, may_answer}
use Rattle.am_law_serial.proofs.Runs.{state_of-push}

pub crowd_of : (v : View) → Inv v → Crowd v.body (active_in v)
crowd_of v inv = record {
  once = AreDistinct-filter (λ t. not (among v.ended t)) v.begun inv.once;
  orderly = inv.orderly;
  apart = inv.apart;
}

bodies-with_body : (f : ℕ → List Answered) (ts : List ℕ) → map (λ (x : Transaction). x.1) (map (with_body f) ts) ≡ map f
    ts
bodies-with_body f [] = refl
bodies-with_body f (t ∷ ts) = ap (λ xs. f t ∷ xs) (bodies-with_body f ts)

numbers-with_body : (f : ℕ → List Answered) (ts : List ℕ) → map (λ (x : Transaction). x.0) (map (with_body f) ts) ≡ ts
numbers-with_body f [] = refl
numbers-with_body f (t ∷ ts) = ap (λ xs. t ∷ xs) (numbers-with_body f ts)

pub overlay_by : (f : ℕ → List Answered) (ts : List ℕ) (m : PlainMap) →
    left_by_bodies (map (λ (x : Transaction). x.1) (map (with_body f) ts)) m ≡ left_by_bodies (map f ts) m
overlay_by f ts m = ap (λ bodies. left_by_bodies bodies m) (bodies-with_body f ts)

-- what is so where an operation is granted
module _ (v : View) (inv : Inv v) (t : ℕ) (op : Op) (none_due : due false (state_of v) t op ≡ None) where
  abbrev seen : Draft
  seen = view (state_of v) t

  abbrev reply : Reply
  reply = answer op seen

  abbrev e : Effect
  e = Answers t op reply

  abbrev f' : ℕ → List Answered
  f' = (push v e).body

  may : MayAnswer v t op reply
  may = may_answer v t op none_due

  is_seen : seen ≡ left_on (ops_of (v.body t)) (fresh (committed_in v))
  is_seen = view-state_of v t may.active

  crowd' : Crowd f' (active_in v)
  crowd' = crowd_of (push v e) (push_inv v e inv may)

  at_t : f' t ≡ v.body t ++ (op, reply) ∷ []
  at_t = cond-true (t == t) (v.body t ++ (op, reply) ∷ []) (v.body t) (eq-eqb t t refl)

  here : ops_of (f' t) ≡ ops_of (v.body t) ++ op ∷ []
  here = ap ops_of at_t ∙ map-append (λ (a : Answered). a.0) (v.body t) ((op, reply) ∷ [])

  locks_here : locks_by f' t ≡ with_asked (locks_by v.body t) (lock_of op)
  locks_here = ap locks_of here ∙ locks_of-push (ops_of (v.body t)) op

  there : (u : ℕ) → u ≢ t → f' u ≡ v.body u
  there u n = cond-false (t == u) (v.body u ++ (op, reply) ∷ []) (v.body u) (ne_eqb t u (λ k. n (sym k)))

  -- what stands after
  overlay_after : overlay_in (next (state_of v) e) ≡ left_by_bodies (map f' (active_in v)) (committed_in v)
  overlay_after =
      ap overlay_in (sym (state_of-push v e inv may))
      ∙ overlay_by f' (active_in v) (committed_in (push v e))
      ∙ ap (λ bodies. left_by_bodies (map f' (active_in v)) (left_by_bodies bodies empty))
      (same_committed_bodies v inv t op reply may.active)

  granted_law : is_back op ≡ false → GrantedOnOverlay (state_of v) t op
  granted_law plain =
      let ts = active_in v in
      let m = committed_in v in
      let crowd = crowd_of v inv in
      record {
        answered =
            answer_map op seen plain
            ∙ ap (λ (d : Draft). map_answer op d.map) is_seen
            ∙ sym (granted_answer v.body ts m t op plain crowd may.active may.orderly may.free)
            ∙ ap (map_answer op) (sym (overlay_by v.body ts m));
        changed =
            overlay_after
            ∙ granted_overlay v.body ts m t op plain crowd may.active may.orderly may.free f' crowd' here locks_here
            there
            ∙ ap (map_after op) (sym (overlay_by v.body ts m));
        made = λ r.
            ap (λ (d : Draft). runs_made d.map op r) is_seen
            ∙ sym (granted_made v.body ts m t op plain crowd may.active may.orderly may.free r)
            ∙ ap (λ n. runs_made n op r) (sym (overlay_by v.body ts m));
      }

back_law : (v : View) (inv : Inv v) (t : ℕ) → due false (state_of v) t Back ≡ None → BackRestores (state_of v) t
back_law v inv t none_due q =
    let ts = active_in v in
    let m = committed_in v in
    let on = (may v inv t Back none_due).active in
    ap (λ n. get n q) (overlay_after v inv t Back none_due)
    ∙ back_overlay v.body (f' v inv t Back none_due) ts m t (crowd_of v inv) (crowd' v inv t Back none_due) on
    (here v inv t Back none_due) (locks_here v inv t Back none_due) (there v inv t Back none_due) q
    ∙ ap (λ (d : Draft). cond (owns (locks_by v.body t) q) (get (draft_after Back d).map q)
    (get (left_by_bodies (map v.body ts) m) q)) (sym (is_seen v inv t Back none_due))
    ∙ ap (λ (done : List Answered). cond (owns (locks_of (ops_of done)) q)
    (get (draft_after Back (view (state_of v) t)).map q) (get (left_by_bodies (map v.body ts) m) q))
    (sym (body_in-with_body v.body ts t on))
    ∙ ap (λ n. cond (owns_in (state_of v) t q) (get (draft_after Back (view (state_of v) t)).map q) (get n q))
    (sym (overlay_by v.body ts m))

pub is_on : (v : View) (t : ℕ) → is_open (state_of v).active t ≡ true → among (active_in v) t ≡ true
is_on v t h = sym (is_open-with_body v.body (active_in v) t) ∙ h

without_by : (v : View) (t : ℕ) (m : PlainMap) →
    left_by_bodies (map (λ (x : Transaction). x.1) (without_transaction t (state_of v).active)) m ≡ left_by_bodies
    (map v.body (filter (λ x. not (x == t)) (active_in v))) m
without_by v t m = ap (λ txs. left_by_bodies (map (λ (x : Transaction). x.1) txs) m)
    (without_transaction-with_body t v.body (active_in v)) ∙
    overlay_by v.body (filter (λ x. not (x == t)) (active_in v))
    m

commits_law : (v : View) → Inv v → (t : ℕ) → is_open (state_of v).active t ≡ true → CommitKeepsOverlay (state_of v) t
commits_law v inv t h =
    let on = is_on v t h in
    without_by v t (view (state_of v) t).map
    ∙ ap (λ (d : Draft). left_by_bodies (map v.body (filter (λ x. not (x == t)) (active_in v))) d.map)
    (view-state_of v t on)
    ∙ commits_overlay v.body (active_in v) (committed_in v) t (crowd_of v inv) on
    ∙ sym (overlay_by v.body (active_in v) (committed_in v))

aborts_law : (v : View) → Inv v → (t : ℕ) → is_open (state_of v).active t ≡ true → AbortRestores (state_of v) t
aborts_law v inv t h q =
    let on = is_on v t h in
    let ts = active_in v in
    let m = committed_in v in
    ap (λ n. get n q) (without_by v t m)
    ∙ aborts_overlay v.body ts m t (crowd_of v inv) on q
    ∙ ap (λ (done : List Answered). cond (owns (locks_of (ops_of done)) q) (get m q)
    (get (left_by_bodies (map v.body ts) m) q)) (sym (body_in-with_body v.body ts t on))
    ∙ ap (λ n. cond (owns_in (state_of v) t q) (get m q) (get n q)) (sym (overlay_by v.body ts m))

laws : (v : View) → Inv v → OverlayLaws (state_of v)
laws v inv = record {
  granted = λ t op plain none_due. granted_law v inv t op none_due plain;
  goes_back = back_law v inv;
  commits = commits_law v inv;
  aborts = aborts_law v inv;
}

-- ---- what a transaction sees

module _ (v : View) (inv : Inv v) where
  abbrev s0 : State
  s0 = state_of v

  is_body : (t : ℕ) → is_open s0.active t ≡ true → body_in s0.active t ≡ v.body t
  is_body t on = body_in-with_body v.body (active_in v) t (is_on v t on)

  holds_here : (t : ℕ) (q : OrderedKey) → is_open s0.active t ≡ true → holds_in s0 t q ≡ true →
      holds (locks_by v.body t) q ≡ true
  holds_here t q on h = subst (λ (done : List Answered). holds (locks_of (ops_of done)) q ≡ true) (is_body t on) h

  apart_law : (t u : ℕ) (q : OrderedKey) → is_open s0.active t ≡ true → is_open s0.active u ≡ true → t ≢ u →
      holds_in s0 t q ≡ true → owns_in s0 u q ≡ false
  apart_law t u q on on' n h =
      subst (λ (done : List Answered). owns (locks_of (ops_of done)) q ≡ false) (sym (is_body u on'))
      (false_from_ne_true (owns (locks_by v.body u) q)
      (λ o. (inv.apart t u (is_on v t on) (is_on v u on') n).at q (holds_here t q on h) o))

  framed_law : (t : ℕ) (q : OrderedKey) → is_open s0.active t ≡ true → owns_in s0 t q ≡ false →
      Has q s0.committed (view s0 t)
  framed_law t q on h =
      let ops = ops_of (v.body t) in
      subst (λ d. Has q (committed_in v) d) (sym (view-state_of v t (is_on v t on)))
      (view_frame (holds (locks_of ops)) (owns (locks_of ops)) ops (committed_in v) q (scope_of ops (inv.orderly t))
      (subst (λ (done : List Answered). owns (locks_of (ops_of done)) q ≡ false) (is_body t on) h))

  stands_law : (t : ℕ) → is_open s0.active t ≡ true → Agree (holds_in s0 t) (overlay_in s0) (view s0 t).map
  stands_law t on =
      let ts = active_in v in
      let m = committed_in v in
      record {
        at = λ q h.
            ap (λ n. get n q) (overlay_by v.body ts m)
            ∙ (crowd_held v.body t ts m m (crowd_of v inv) (is_on v t on) (agree_refl m)).at q (holds_here t q on h)
            ∙ sym (ap (λ (d : Draft). get d.map q) (view-state_of v t (is_on v t on)));
      }

  unowned_law : (q : OrderedKey) → ((t : ℕ) → is_open s0.active t ≡ true → owns_in s0 t q ≡ false) →
      get (overlay_in s0) q ≡ get s0.committed q
  unowned_law q free =
      ap (λ n. get n q) (overlay_by v.body (active_in v) (committed_in v))
      ∙ crowd_frame v.body (active_in v) (committed_in v) q (crowd_of v inv) (λ u hu.
      let on : is_open s0.active u ≡ true = is_open-with_body v.body (active_in v) u ∙ hu in
      subst (λ (done : List Answered). owns (locks_of (ops_of done)) q ≡ false) (is_body u on) (free u on))

  rebased_law : (t u : ℕ) → is_open s0.active t ≡ true → is_open s0.active u ≡ true → t ≢ u →
      Alike (holds_in s0 t) (view s0 t) (view (next s0 (Commits u)) t)
  rebased_law t u on on' n =
      let ops = ops_of (v.body t) in
      let others = ops_of (v.body u) in
      let m = committed_in v in
      let was = active_parts v t (is_on v t on) in
      let still : among (active_in (push v (Commits u))) t ≡ true = active_from (push v (Commits u)) t was.0
      (among_push_none v.ended u t was.1 n) in
      let before = view-state_of v t (is_on v t on) in
      let after_it : view (next s0 (Commits u)) t ≡ left_on ops (fresh (left others m)) =
      ap (λ s. view s t) (sym (state_of-push v (Commits u) inv (is_on v u on')))
      ∙ view-state_of (push v (Commits u)) t still
      ∙ ap (λ n. left_on ops (fresh n)) (commits_committed v inv u (is_on v u on')) in
      let S : OrderedKey → Bool = holds (locks_of ops) in
      let agree : Agree S m (left others m) = record {
        at = λ q h. sym (left_frame (holds (locks_of others)) (owns (locks_of others)) others m q
            (scope_of others (inv.orderly u))
            (false_from_ne_true (owns (locks_of others) q)
            (λ o. (inv.apart t u (is_on v t on) (is_on v u on') n).at q h o)));
      } in
      let alike : Alike S (left_on ops (fresh m)) (left_on ops (fresh (left others m))) =
      view_local S (owns (locks_of ops)) ops m (left others m) (scope_of ops (inv.orderly t)) agree in
      subst (λ (done : List Answered). Alike (holds (locks_of (ops_of done))) (view s0 t)
      (view (next s0 (Commits u)) t)) (sym (is_body t on))
      (subst (λ d. Alike S d (view (next s0 (Commits u)) t)) (sym before)
      (subst (λ d. Alike S (left_on ops (fresh m)) d) (sym after_it) alike))

  views : ViewLaws s0
  views = record {
    apart = apart_law;
    framed = framed_law;
    stands = stands_law;
    unowned = unowned_law;
    rebased = rebased_law;
  }

pub view_laws : (most_runs : ℕ) (trace : Trace) → Runs most_runs start trace → ViewLaws (after_run start trace)
view_laws most_runs trace runs =
    let follows = from_start most_runs trace runs in
    subst ViewLaws (sym follows.is) (views (view_of (effects trace)) follows.kept)

pub overlay_laws : (most_runs : ℕ) (trace : Trace) → Runs most_runs start trace → OverlayLaws (after_run start trace)
overlay_laws most_runs trace runs =
    let follows = from_start most_runs trace runs in
    subst OverlayLaws (sym follows.is) (laws (view_of (effects trace)) follows.kept)

pub is_state_of : (most_runs : ℕ) (trace : Trace) → Runs most_runs start trace →
    IsMachineOf trace (after_run start trace)
is_state_of most_runs trace runs =
    let follows = from_start most_runs trace runs in
    let v = view_of (effects trace) in
    let of_view : IsMachineOf trace (state_of v) = record {
      committed_map = refl;
      active_numbers = numbers-with_body v.body (active_in v);
      overlay_map = overlay_by v.body (active_in v) (committed_in v);
    } in
    subst (IsMachineOf trace) (sym follows.is) of_view
