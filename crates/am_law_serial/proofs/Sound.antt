-- The machine's runs are the sound traces.
use Rattle.std.proofs.Common.{◌≡◌, ◌≢◌, ℕ, ◌<◌, ◌≤◌, List, [], ◌∷◌, ◌++◌, map, Bool, true, false, cond, refl, sym, ap}
use Rattle.std.proofs.Common.{◌∙◌, subst, ⊎_elim, inl, inr, ◌⊎◌, Option, Some, None, arith}
use Rattle.std.specs.Prelude.{◌&&◌, ◌==◌, ◌↔◌, not, filter, MatchOption}
use Rattle.std.specs.FinMap.{get, contains_key, entries, empty}
use Rattle.std.proofs.lemmas.Bool.{both_ways, and_from, and_parts, or_cases, or_left, or_right, not-false}
use Rattle.std.proofs.lemmas.Bool.{not_from_false, cond-true, eqb-true, eq-eqb, ne_eqb}
use Rattle.std.proofs.lemmas.List.{map-append, length-take}
use Rattle.am_record.specs.OrderedKey.{OrderedKey}
use Rattle.am_record.specs.Interval.{within}
use Rattle.am_record.specs.declared.step.Refusal.{Refusal}
use Rattle.am_record.specs.declared.step.Refusal.TheVariants.{NoSuchTx, Busy, TooManyLocks, TooManyOps, TooManyRuns}
use Rattle.am_record.specs.declared.step.Refusal.TheVariants.{NotRising, BadLimit, NoMemory}
use Rattle.am_record.specs.declared.lock.Lock.{Lock}
use Rattle.am_record.specs.declared.step.Op.{Op}
use Rattle.am_record.specs.declared.step.Op.TheVariants.{Get, Insert, Replace, Delete, DeleteRange, Load, Back}
use Rattle.am_record.specs.declared.step.Step.{Step}
use Rattle.am_record.specs.declared.step.Step.TheVariants.{Begin, Do}
use Rattle.am_record.specs.declared.step.Reply.{Reply}
use Rattle.am_record.specs.declared.step.Reply.TheVariants.{Done, Exists, Missing, Refused}
use Rattle.am_record.specs.Plain.{Records, PlainMap, Draft, fresh, answer, answers, left_on, found, exists_or_done}
use Rattle.am_record.specs.Plain.{first_key, went_back, rows_where, is_key_of}
use Rattle.am_record.specs.Asks.{clashes, lock_of, locks_of}
use Rattle.am_law_serial.specs.Trace.{Trace, Answered, Effect, Answers, Nothing, effect, effect_of_do, is_active, body}
use Rattle.am_law_serial.specs.Trace.{held_by, ops_of, replies_of, IsSteady, IsAnsweredAlone, left_by_bodies}
use Rattle.am_law_serial.specs.Trace.{AtEachMoment}
use Rattle.am_record.specs.Refusals.{or_else, lock_refusal, is_one_too_many}
use Rattle.am_law_serial.specs.Machine.{State, start, state_at, is_full, due_early, blocker, is_open, view, locks_in}
use Rattle.am_law_serial.specs.Machine.{May}
use Rattle.am_law_serial.specs.Machine.{next, Runs}
use Rattle.am_law_serial.specs.Sound.{IsLeastBlocker, BusyRightAt, IsAnswerOf, FormedDo, FormedAt, IsSoundFrom, IsSound}
use Rattle.am_law_serial.proofs.Bodies.{answers_push}
use Rattle.am_law_serial.proofs.Views.{View, view_of, view_of-push, push, among, active_in, committed_in, with_body}
use Rattle.am_law_serial.proofs.Views.{state_of, is_open-with_body}
use Rattle.am_law_serial.proofs.Serial.{Inv, IsRisingFrom, IsRisingFrom-filter, above_all, same_committed_bodies}
use Rattle.am_law_serial.proofs.Serial.{none_inv}
use Rattle.am_law_serial.proofs.Runs.{Follows, step_follows, answer_is_answer, no_blocker, none_of_first, view-state_of}

-- ---- an answer is no refusal, and has its form

answer_not_refused : (op : Op) (m : Draft) (why : Refusal) → answer op m ≡ Refused why → ⊥
answer_not_refused op m why e = apart (ap (effect_of_do 0 op) (sym e) ∙ answer_is_answer 0 op m)
  where
    apart : Nothing ≡ Answers 0 op (answer op m) → ⊥
    apart h = cc

abbrev IsKeyOfAll : Records → Records → Type 0
IsKeyOfAll records [] = Unit {0}
IsKeyOfAll records (row ∷ rows) = (is_key_of records row.0 ≡ true) × IsKeyOfAll records rows

taken_form : (records rows : Records) → IsKeyOfAll records rows →
    IsAnswerOf (Load records) (exists_or_done (first_key rows))
taken_form records [] h = tt
taken_form records (row ∷ rows) h = h.0

filtered_keys : (records rows : Records) → IsKeyOfAll records
    (filter (λ (e : OrderedKey × List ℕ). is_key_of records e.0) rows)
filtered_keys records [] = tt
filtered_keys records (row ∷ rows) = at (is_key_of records row.0) refl (filtered_keys records rows)
  where
    at : (b : Bool) → is_key_of records row.0 ≡ b →
        IsKeyOfAll records (filter (λ (e : OrderedKey × List ℕ). is_key_of records e.0) rows) →
        IsKeyOfAll records (cond b (row ∷ filter (λ (e : OrderedKey × List ℕ). is_key_of records e.0) rows)
        (filter (λ (e : OrderedKey × List ℕ). is_key_of records e.0) rows))
    at true e rest = (e, rest)
    at false e rest = rest

answer_form : (op : Op) (d : Draft) → IsAnswerOf op (answer op d)
answer_form (Get k) d = at (get d.map k)
  where
    at : (o : Option (List ℕ)) → IsAnswerOf (Get k) (found o)
    at None = tt
    at (Some v) = tt
answer_form (Insert k v) d = elim (contains_key d.map k) as (λ b. IsAnswerOf (Insert k v) (cond b (Exists k) Done))
    [ true ↦ refl | false ↦ tt ]
answer_form (Replace k v) d = elim (contains_key d.map k) as (λ b. IsAnswerOf (Replace k v) (cond b Done Missing))
    [ true ↦ tt | false ↦ tt ]
answer_form (Delete k) d = elim (contains_key d.map k) as (λ b. IsAnswerOf (Delete k) (cond b Done Missing))
    [ true ↦ tt | false ↦ tt ]
answer_form (DeleteRange range max) d =
    let few = length-take max (rows_where (within range) d.map) in
    omega (few, arith)
answer_form (Load records) d = taken_form records (rows_where (is_key_of records) d.map)
    (filtered_keys records (entries d.map))
answer_form Back d = at d.saved
  where
    at : (ms : List PlainMap) → IsAnswerOf Back (went_back ms)
    at [] = tt
    at (m ∷ ms) = tt
answer_form op d = tt

-- ---- the cases of a reply to an operation

-- the reply by the refusal that is due early, the blocker, and whether the lock is one too many
abbrev Replies : Option Refusal → Option ℕ → Bool → Op → Draft → Reply → Type 0
Replies early blocked full op m reply = MatchOption (or_else early (lock_refusal blocked full))
    ((reply ≡ answer op m) ⊎ (reply ≡ Refused NoMemory)) (λ why. reply ≡ Refused why)

pub same_refusal : (v w : Refusal) → Refused v ≡ Refused w → v ≡ w
same_refusal v w h = cc

busy_from : (early : Option Refusal) (blocked : Option ℕ) (full : Bool) (op : Op) (m : Draft) (reply : Reply) (h : ℕ) →
    (early ≡ Some (Busy h) → ⊥) → Replies early blocked full op m reply → reply ≡ Refused (Busy h) → (early ≡ None) ×
    (blocked ≡ Some h)
busy_from (Some why) blocked full op m reply h never d e =
    absurd (never (ap Some (same_refusal why (Busy h) (sym d ∙ e))))
busy_from None (Some h') full op m reply h never d e =
    let same : Busy h' ≡ Busy h = same_refusal (Busy h') (Busy h) (sym d ∙ e) in
    (refl, cc)
busy_from None None true op m reply h never d e =
    absurd (let same : TooManyLocks ≡ Busy h = same_refusal TooManyLocks (Busy h) (sym d ∙ e) in cc)
busy_from None None false op m reply h never d e =
    absurd (⊎_elim (λ a. answer_not_refused op m (Busy h) (sym a ∙ e))
    (λ a. let same : NoMemory ≡ Busy h = same_refusal NoMemory (Busy h) (sym a ∙ e) in cc) d)

busy_to : (early : Option Refusal) (blocked : Option ℕ) (full : Bool) (op : Op) (m : Draft) (reply : Reply) (h : ℕ) →
    Replies early blocked full op m reply → early ≡ None → blocked ≡ Some h → reply ≡ Refused (Busy h)
busy_to (Some why) blocked full op m reply h d e b = absurd (cc)
busy_to None (Some h') full op m reply h d e b = let same : h' ≡ h = cc in d ∙ ap (λ x. Refused (Busy x)) same
busy_to None None full op m reply h d e b = absurd (cc)

formed_from : (early : Option Refusal) (blocked : Option ℕ) (full : Bool) (op : Op) (m : Draft) (reply : Reply) →
    Replies early blocked full op m reply → FormedDo early full op reply
formed_from (Some why) blocked full op m reply d = d
formed_from None (Some h) full op m reply d = inl (h, d)
formed_from None None true op m reply d = inr d
formed_from None None false op m reply d = inr (⊎_elim (λ a. inr (subst (IsAnswerOf op) (sym a) (answer_form op m)))
    (λ a. inl a) d)

replies_from : (early : Option Refusal) (blocked : Option ℕ) (full : Bool) (op : Op) (m : Draft) (reply : Reply) →
    FormedDo early full op reply → ((h : ℕ) → reply ≡ Refused (Busy h) → (early ≡ None) × (blocked ≡ Some h)) →
    ((h : ℕ) → early ≡ None → blocked ≡ Some h → reply ≡ Refused (Busy h)) →
    (early ≡ None → IsAnswerOf op reply → reply ≡ answer op m) → Replies early blocked full op m reply
replies_from (Some why) blocked full op m reply f from to is = f
replies_from None (Some h) full op m reply f from to is = to h refl refl
replies_from None None true op m reply f from to is = ⊎_elim (λ b. absurd (let no = (from b.0 b.1).1 in cc)) (λ d. d) f
replies_from None None false op m reply f from to is = ⊎_elim (λ b. absurd (let no = (from b.0 b.1).1 in cc))
    (λ d. ⊎_elim (λ n. inr n) (λ a. inl (is refl a)) d) f

-- no refusal that is due early is Busy
early_not_busy : (full : Bool) (s : State) (t : ℕ) (op : Op) (h : ℕ) → due_early full s t op ≡ Some (Busy h) → ⊥
early_not_busy full s t op h = go _ _ _ _ _
  where
    go : (a b c d e : Bool) → cond a (Some NoSuchTx)
        (cond b (Some TooManyOps) (cond c (Some NotRising) (cond d (Some BadLimit) (cond e (Some TooManyRuns) None)))) ≡
        Some (Busy h) → ⊥
    go true b c d e k = cc
    go false true c d e k = cc
    go false false true d e k = cc
    go false false false true e k = cc
    go false false false false true k = cc
    go false false false false false k = cc

-- ---- the least blocker

abbrev clash : (ℕ → List Answered) → Option Lock → ℕ → Bool
clash f asked u = clashes asked (locks_of (ops_of (f u)))

record IsLeast (f : ℕ → List Answered) (ts : List ℕ) (t : ℕ) (asked : Option Lock) (h : ℕ) : Type 0 where
  on : among ts h ≡ true
  other : h ≢ t
  conflict : clash f asked h ≡ true
  least : (u : ℕ) → among ts u ≡ true → u ≢ t → clash f asked u ≡ true → h ≤ u

the_blocker : (f : ℕ → List Answered) (t : ℕ) (asked : Option Lock) (n : ℕ) (ts : List ℕ) → IsRisingFrom n ts →
    (h : ℕ) → blocker (map (with_body f) ts) t asked ≡ Some h → IsLeast f ts t asked h
the_blocker f t asked n [] r h e = absurd (cc)
the_blocker f t asked n (x ∷ ts) r h e = at (not (x == t) && clash f asked x) refl e
    (λ k. the_blocker f t asked x ts r.1 h k)
  where
    at : (b : Bool) → (not (x == t) && clash f asked x) ≡ b → cond b (Some x) (blocker (map (with_body f) ts) t asked) ≡
        Some h → (blocker (map (with_body f) ts) t asked ≡ Some h → IsLeast f ts t asked h) →
        IsLeast f (x ∷ ts) t asked h
    at true b k later_on =
        let e : x ≡ h = cc in
        let parts = and_parts (not (x == t)) (clash f asked x) b in
        let first : IsLeast f (x ∷ ts) t asked x = record {
          on = or_left (x == x) (among ts x) (eq-eqb x x refl);
          other = λ same. both_ways (not (x == t)) (ap not (eq-eqb x t same)) parts.0;
          conflict = parts.1;
          least = λ u hu n c. ⊎_elim
              (λ here. let same : x ≡ u = eqb-true x u here in omega arith)
              (λ later. let above : x < u = above_all x ts r.1 u later in omega arith)
              (or_cases (x == u) (among ts u) hu);
        } in
        subst (IsLeast f (x ∷ ts) t asked) e first
    at false b k later_on =
        let rest = later_on k in
        record {
          on = or_right (x == h) (among ts h) rest.on;
          other = rest.other;
          conflict = rest.conflict;
          least = λ u hu n c. ⊎_elim
              (λ here.
              let same : x ≡ u = eqb-true x u here in
              absurd (both_ways (not (x == t) && clash f asked x) b
              (and_from (not (x == t)) (clash f asked x) (not_from_false (x == t)
              (ne_eqb x t (λ k. n (sym same ∙ k)))) (subst (λ y. clash f asked y ≡ true) (sym same) c))))
              (λ later. rest.least u later n c)
              (or_cases (x == u) (among ts u) hu);
        }

module _ (es : List Effect) (begun_rise : IsRisingFrom 0 (view_of es).begun) (t : ℕ) (op : Op) where
  actives : List ℕ
  actives = active_in (view_of es)

  rising : IsRisingFrom 0 (active_in (view_of es))
  rising = IsRisingFrom-filter 0 (λ u. not (among (view_of es).ended u)) (view_of es).begun begun_rise

  pub blocker_is_least : (h : ℕ) → blocker (state_at es).active t (lock_of op) ≡ Some h → IsLeastBlocker es t op h
  blocker_is_least h e =
      let l = the_blocker (body es) t (lock_of op) 0 (active_in (view_of es)) rising h e in
      record {
        blocks = record { active = l.on; other = l.other; conflict = l.conflict };
        least = λ u b. l.least u b.active b.other b.conflict;
      }

  pub least_is_blocker : (h : ℕ) → IsLeastBlocker es t op h → blocker (state_at es).active t (lock_of op) ≡ Some h
  least_is_blocker h l = at (blocker (state_at es).active t (lock_of op)) refl
    where
      at : (o : Option ℕ) → blocker (state_at es).active t (lock_of op) ≡ o →
          blocker (state_at es).active t (lock_of op) ≡ Some h
      at None e = absurd (both_ways (clashes (lock_of op) (held_by es h))
          (no_blocker (body es) t (lock_of op) (active_in (view_of es)) e h l.blocks.active l.blocks.other)
          l.blocks.conflict)
      at (Some h') e =
          let l' = blocker_is_least h' e in
          let le : h ≤ h' = l.least h' l'.blocks in
          let ge : h' ≤ h = l'.least h l.blocks in
          let same : h' ≡ h = omega arith in
          e ∙ ap Some same

  abbrev s0 : State
  s0 = state_at es

  module _ (most_runs : ℕ) (reply : Reply) where
    abbrev early : Option Refusal
    early = due_early (is_full most_runs s0.runs reply) s0 t op

    abbrev Here : Type 0
    Here = Replies early (blocker s0.active t (lock_of op)) (is_one_too_many (locks_in s0.active t) (lock_of op)) op
        (view s0 t) reply

    pub busy_right : Here → BusyRightAt most_runs es (Do t op) reply
    busy_right d h = (
      (λ e. let b = busy_from _ _ _ op (view s0 t) reply h (early_not_busy (is_full most_runs s0.runs reply) s0 t op h)
          d e in
          (b.0, blocker_is_least h b.1)),
      (λ b. busy_to _ _ _ op (view s0 t) reply h d b.0 (least_is_blocker h b.1)),
    )

    pub from_sound : FormedAt most_runs es (Do t op) reply → BusyRightAt most_runs es (Do t op) reply →
        (early ≡ None → IsAnswerOf op reply → reply ≡ answer op (view s0 t)) → Here
    from_sound f b is = replies_from _ _ _ op (view s0 t) reply f
        (λ h e. let both = (b h).0 e in (both.0, least_is_blocker h both.1))
        (λ h e k. (b h).1 (e, blocker_is_least h k)) is

-- ---- from the machine to the trace

busy_at : (most_runs : ℕ) (es : List Effect) → Inv (view_of es) → (step : Step) (reply : Reply) →
    May most_runs (state_at es) step reply → BusyRightAt most_runs es step reply
busy_at most_runs es inv (Do t op) reply m = busy_right es inv.rising t op most_runs reply m
busy_at most_runs es inv _ reply m = tt

formed_at : (most_runs : ℕ) (es : List Effect) (step : Step) (reply : Reply) → May most_runs (state_at es) step reply →
    FormedAt most_runs es step reply
formed_at most_runs es (Do t op) reply m = formed_from _ _ _ op (view (state_at es) t) reply m
formed_at most_runs es step reply m = m

pub sound_from : (most_runs : ℕ) (trace : Trace) (es : List Effect) (s : State) → Follows es s →
    Runs most_runs s trace →
    IsSoundFrom most_runs es trace
sound_from most_runs [] es s f r = record { serial = f.kept.serial; steady = f.kept.steady; busy = tt; formed = tt }
sound_from most_runs (e ∷ trace) es s f r =
    let rest = sound_from most_runs trace (es ++ effect e.0 e.1 ∷ []) (next s (effect e.0 e.1))
    (step_follows most_runs es s e f r.0) r.1 in
    let may : May most_runs (state_at es) e.0 e.1 = subst (λ x. May most_runs x e.0 e.1) f.is r.0 in
    record {
      serial = (f.kept.serial, rest.serial);
      steady = (f.kept.steady, rest.steady);
      busy = (busy_at most_runs es f.kept e.0 e.1 may, rest.busy);
      formed = (formed_at most_runs es e.0 e.1 may, rest.formed);
    }

-- ---- from the trace to the machine

pub not_answer : (op : Op) (why : Refusal) → IsAnswerOf op (Refused why) → ⊥
not_answer (Get k) why a = a
not_answer op why a = a

answer_effect : (t : ℕ) (op : Op) (reply : Reply) → IsAnswerOf op reply → effect_of_do t op reply ≡ Answers t op reply
answer_effect t op (Refused why) a = absurd (not_answer op why a)
answer_effect t op _ a = refl

last : Reply → List Reply → Reply
last d [] = d
last d (x ∷ xs) = last x xs

last_push : (d x : Reply) (xs : List Reply) → last d (xs ++ x ∷ []) ≡ x
unfolding last
last_push d x [] = refl
last_push d x (y ∷ xs) = last_push y x xs

abbrev SteadyAt : View → Type 0
SteadyAt w = (t : ℕ) → among (active_in w) t ≡ true → IsAnsweredAlone (w.body t) (committed_in w)

-- the last answer of a steady body is that of the transaction's own view
steady_answer : (v : View) → Inv v → (t : ℕ) (op : Op) (reply : Reply) → among (active_in v) t ≡ true →
    SteadyAt (push v (Answers t op reply)) → reply ≡ answer op (view (state_of v) t)
steady_answer v inv t op reply on steady =
    let done = v.body t in
    let m = committed_in v in
    let at_t = cond-true (t == t) (done ++ (op, reply) ∷ []) done (eq-eqb t t refl) in
    let alone : IsAnsweredAlone (done ++ (op, reply) ∷ []) m =
    subst (λ bodies. IsAnsweredAlone (done ++ (op, reply) ∷ []) (left_by_bodies bodies empty))
    (same_committed_bodies v inv t op reply on)
    (subst (λ (b : List Answered). IsAnsweredAlone b (committed_in (push v (Answers t op reply)))) at_t
    (steady t on)) in
    let both : replies_of done ++ reply ∷ [] ≡ answers (ops_of done) m ++ answer op (left_on (ops_of done) (fresh m)) ∷
    [] =
    sym (map-append (λ (a : Answered). a.1) done ((op, reply) ∷ []))
    ∙ alone
    ∙ ap (λ ops. answers ops m) (map-append (λ (a : Answered). a.0) done ((op, reply) ∷ []))
    ∙ answers_push (ops_of done) op m in
    sym (last_push Done reply (replies_of done)) ∙ ap (last Done) both ∙
    last_push Done (answer op (left_on (ops_of done) (fresh m))) (answers (ops_of done) m)
    ∙ ap (answer op) (sym (view-state_of v t on))

pub active_early : (full : Bool) (es : List Effect) (t : ℕ) (op : Op) → due_early full (state_at es) t op ≡ None →
    is_active es t ≡ true
active_early full es t op e = sym (is_open-with_body (body es) (active_in (view_of es)) t) ∙
    not-false (is_open (state_at es).active t) (none_of_first (not (is_open (state_at es).active t)) NoSuchTx _ e).0

may_at : (most_runs : ℕ) (es : List Effect) → Inv (view_of es) → (step : Step) (reply : Reply) →
    FormedAt most_runs es step reply → BusyRightAt most_runs es step reply → IsSteady (es ++ effect step reply ∷ []) →
    May most_runs (state_at es) step reply
may_at most_runs es inv (Do t op) reply f b steady =
    from_sound es inv.rising t op most_runs reply f b (λ early a.
    let at_answers : SteadyAt (view_of (es ++ Answers t op reply ∷ [])) = subst (λ e. SteadyAt (view_of (es ++ e ∷ [])))
    (answer_effect t op reply a) steady in
    steady_answer (view_of es) inv t op reply (active_early (is_full most_runs (state_at es).runs reply) es t op early)
    (subst SteadyAt (view_of-push es (Answers t op reply)) at_answers))
may_at most_runs es inv Begin reply f b steady = f
may_at most_runs es inv step reply f b steady = f

first_moment : (P : List Effect → Type 0) (trace : Trace) (es : List Effect) → AtEachMoment P es trace → P es
first_moment P [] es h = h
first_moment P (e ∷ trace) es h = h.0

pub runs_from : (most_runs : ℕ) (trace : Trace) (es : List Effect) (s : State) → Follows es s →
    IsSoundFrom most_runs es trace →
    Runs most_runs s trace
runs_from most_runs [] es s f h = tt
runs_from most_runs (e ∷ trace) es s f h =
    let may = subst (λ x. May most_runs x e.0 e.1) (sym f.is)
    (may_at most_runs es f.kept e.0 e.1 h.formed.0 h.busy.0
    (first_moment IsSteady trace (es ++ effect e.0 e.1 ∷ []) h.steady.1)) in (
      may,
      runs_from most_runs trace (es ++ effect e.0 e.1 ∷ []) (next s (effect e.0 e.1))
          (step_follows most_runs es s e f may)
          (record { serial = h.serial.1; steady = h.steady.1; busy = h.busy.1; formed = h.formed.1 }),
    )

pub at_start : Follows [] start
at_start = record { kept = none_inv; is = refl }

-- the sound traces are the machine's runs
pub sound_is_run : (most_runs : ℕ) (trace : Trace) → IsSound most_runs trace ↔ Runs most_runs start trace
sound_is_run most_runs trace = (
  runs_from most_runs trace [] start at_start,
  sound_from most_runs trace [] start
      at_start,
)
