-- What of a trace the machine's state depends on, and how one more event changes it.
use Rattle.std.proofs.Common.{◌≡◌, ◌≢◌, ℕ, ◌+◌, List, [], ◌∷◌, ◌++◌, length, map, Bool, true, false, cond, refl, sym}
use Rattle.std.proofs.Common.{ap, ◌∙◌, subst, ⊎_elim, inl, inr, ◌⊎◌, Some, None, arith, append_assoc}
use Rattle.std.specs.Prelude.{◌==◌, not, filter}
use Rattle.std.specs.List.{cons_option}
use Rattle.std.specs.FinMap.{empty}
use Rattle.std.proofs.lemmas.Bool.{false≢true, both_ways, or_cases, or_left, or_right, cond_both, cond-false}
use Rattle.std.proofs.lemmas.Bool.{ne_eqb, not-true, not_from_false, eqb-true}
use Rattle.std.proofs.lemmas.List.{append-nil}
use Rattle.std.proofs.lemmas.List.Folds.{list_any-append}
use Rattle.std.proofs.lemmas.List.Elements.{filter_map-append}
use Rattle.am_record.specs.Plain.{PlainMap, left}
use Rattle.am_record.specs.ByNumber.{has_number}
use Rattle.am_record.proofs.ByNumber.{has_number-map, has_number-push_other, has_number-push_own, map-there}
use Rattle.am_record.proofs.ByNumber.{of_number-known, of_number-map}
use Rattle.am_law_serial.specs.Trace.{Answered, Effect, Begins, Answers, Commits, Aborts, Nothing, begins, ends}
use Rattle.am_law_serial.specs.Trace.{commits}
use Rattle.am_law_serial.specs.Trace.{answered_to, begun, ended, committers, body, ops_of, runs_made, left_by_bodies}
use Rattle.am_law_serial.specs.Trace.{makes}
use Rattle.am_law_serial.specs.Trace.{runs_after, runs}
use Rattle.am_law_serial.specs.Machine.{State, Transaction, is_open, body_in}

pub record View : Type 0 where
  pub begun : List ℕ
  pub ended : List ℕ
  pub committers : List ℕ
  pub runs : ℕ
  pub body : ℕ → List Answered

abbrev pub view_of : List Effect → View
view_of es = record { begun = begun es; ended = ended es; committers = committers es; runs = runs es; body = body es }

-- the map that is committed, and the one that a transaction sees
abbrev pub committed_in : View → PlainMap
committed_in v = left_by_bodies (map v.body v.committers) empty

abbrev pub seen_in : View → ℕ → PlainMap
seen_in v t = left (ops_of (v.body t)) (committed_in v)

abbrev pub push : View → Effect → View
push v (Begins t) = record v { begun = v.begun ++ t ∷ [] }
push v (Answers t op reply) = record v {
  runs = v.runs + runs_made (seen_in v t) op reply;
  body = λ u. cond (t == u) (v.body u ++ (op, reply) ∷ []) (v.body u);
}
push v (Commits t) = record v { ended = v.ended ++ t ∷ []; committers = v.committers ++ t ∷ [] }
push v (Aborts t) = record v { ended = v.ended ++ t ∷ [] }
push v Nothing = v

-- how many runs the event makes
abbrev made_in : View → Effect → ℕ
made_in v (Answers t op reply) = runs_made (seen_in v t) op reply
made_in v _ = 0

-- every part with what the event adds to it
abbrev with_all : View → Effect → View
with_all v e = record {
  begun = v.begun ++ cons_option (begins e) [];
  ended = v.ended ++ cons_option (ends e) [];
  committers = v.committers ++ cons_option (commits e) [];
  runs = v.runs + made_in v e;
  body = λ u. v.body u ++ cons_option (answered_to u e) [];
}

same_view : (b b' d d' c c' : List ℕ) (r r' : ℕ) (f f' : ℕ → List Answered) → b ≡ b' → d ≡ d' → c ≡ c' → r ≡ r' →
    ((u : ℕ) → f u ≡ f' u) →
    ◌≡◌ {A = View} (record { begun = b; ended = d; committers = c; runs = r; body = f }) (record {
      begun = b';
      ended = d';
      committers = c';
      runs = r';
      body = f';
    })
same_view b b' d d' c c' r r' f f' pb pd pc pr pf i = record {
  begun = pb i;
  ended = pd i;
  committers = pc i;
  runs = pr i;
  body = λ u. pf u i;
}

runs_after-push : (past es : List Effect) (e : Effect) →
    runs_after past (es ++ e ∷ []) ≡ runs_after past es + makes (past ++ es) e
runs_after-push past [] e =
    let here : makes (past ++ []) e ≡ makes past e = ap (λ es. makes es e) (append-nil past) in
    omega arith
runs_after-push past (x ∷ es) e =
    let rest = runs_after-push (past ++ x ∷ []) es e in
    let moved : makes ((past ++ x ∷ []) ++ es) e ≡ makes (past ++ x ∷ es) e =
    ap (λ es. makes es e) (append_assoc past (x ∷ []) es) in
    omega arith

-- an event at the end
pub runs-push : (es : List Effect) (e : Effect) → runs (es ++ e ∷ []) ≡ runs es + makes es e
runs-push es e = runs_after-push [] es e

makes_in : (es : List Effect) (e : Effect) → makes es e ≡ made_in (view_of es) e
makes_in es (Answers t op reply) = refl
makes_in es _ = refl

view_of-with_all : (es : List Effect) (e : Effect) → view_of (es ++ e ∷ []) ≡ with_all (view_of es) e
view_of-with_all es e = same_view _ _ _ _ _ _ _ _ _ _
    (filter_map-append begins es (e ∷ []))
    (filter_map-append ends es (e ∷ []))
    (filter_map-append commits es (e ∷ []))
    (runs-push es e ∙ ap (λ n. runs es + n) (makes_in es e))
    (λ u. filter_map-append (answered_to u) es (e ∷ []))

one_body : (b : Bool) (xs : List Answered) (x : Answered) → xs ++ cons_option (cond b (Some x) None) [] ≡ cond b
    (xs ++ x ∷ []) xs
one_body true xs x = refl
one_body false xs x = append-nil xs

with_all-push : (v : View) (e : Effect) → with_all v e ≡ push v e
with_all-push v (Begins t) = same_view _ _ _ _ _ _ _ _ _ _ refl (append-nil v.ended) (append-nil v.committers)
    (omega arith) (λ u. append-nil (v.body u))
with_all-push v (Answers t op reply) = same_view _ _ _ _ _ _ _ _ _ _ (append-nil v.begun) (append-nil v.ended)
    (append-nil v.committers) refl (λ u. one_body (t == u) (v.body u) (op, reply))
with_all-push v (Commits t) = same_view _ _ _ _ _ _ _ _ _ _ (append-nil v.begun) refl refl (omega arith)
    (λ u. append-nil (v.body u))
with_all-push v (Aborts t) = same_view _ _ _ _ _ _ _ _ _ _ (append-nil v.begun) refl (append-nil v.committers)
    (omega arith) (λ u. append-nil (v.body u))
with_all-push v Nothing = same_view _ _ _ _ _ _ _ _ _ _ (append-nil v.begun) (append-nil v.ended)
    (append-nil v.committers) (omega arith) (λ u. append-nil (v.body u))

-- one more event
pub view_of-push : (es : List Effect) (e : Effect) → view_of (es ++ e ∷ []) ≡ push (view_of es) e
view_of-push es e = view_of-with_all es e ∙ with_all-push (view_of es) e

-- ---- numbers in lists

abbrev pub among : List ℕ → ℕ → Bool
among ts t = has_number (λ u. u) ts t

pub among_filter : (p : ℕ → Bool) (t : ℕ) (ts : List ℕ) → among (filter p ts) t ≡ true → (among ts t ≡ true) ×
    (p t ≡ true)
among_filter p t [] h = absurd (false≢true h)
among_filter p t (x ∷ ts) h =
    let P : List ℕ → Type 0 = λ ys. among ys t ≡ true → (among (x ∷ ts) t ≡ true) × (p t ≡ true) in
    cond_both (p x) (x ∷ filter p ts) (filter p ts) P
    (λ px h. ⊎_elim
    (λ here. (or_left (x == t) (among ts t) here, subst (λ y. p y ≡ true) (eqb-true x t here) px))
    (λ later. let rest = among_filter p t ts later in (or_right (x == t) (among ts t) rest.0, rest.1))
    (or_cases (x == t) (among (filter p ts) t) h))
    (λ px h. let rest = among_filter p t ts h in (or_right (x == t) (among ts t) rest.0, rest.1))
    h

pub among_filter_from : (p : ℕ → Bool) (t : ℕ) (ts : List ℕ) → among ts t ≡ true → p t ≡ true →
    among (filter p ts) t ≡ true
among_filter_from p t [] h k = absurd (false≢true h)
among_filter_from p t (x ∷ ts) h k =
    cond_both (p x) (x ∷ filter p ts) (filter p ts) (λ ys. among ys t ≡ true)
    (λ px. ⊎_elim
    (λ here. or_left (x == t) (among (filter p ts) t) here)
    (λ later. or_right (x == t) (among (filter p ts) t) (among_filter_from p t ts later k))
    (or_cases (x == t) (among ts t) h))
    (λ px. ⊎_elim
    (λ here. absurd (both_ways (p x) px (subst (λ y. p y ≡ true) (sym (eqb-true x t here)) k)))
    (λ later. among_filter_from p t ts later k)
    (or_cases (x == t) (among ts t) h))

-- one more number at the end
pub among_push : (ts : List ℕ) (x t : ℕ) → among (ts ++ x ∷ []) t ≡ true → (among ts t ≡ true) ⊎ (t ≡ x)
among_push ts x t h =
    ⊎_elim (λ old. inl old) (λ new. ⊎_elim (λ e. inr (sym (eqb-true x t e))) (λ k. absurd (false≢true k))
    (or_cases (x == t) false new))
    (or_cases (among ts t) (among (x ∷ []) t) (sym (list_any-append (λ u. u == t) ts (x ∷ [])) ∙ h))

pub among_push_old : (ts : List ℕ) (x t : ℕ) → among ts t ≡ true → among (ts ++ x ∷ []) t ≡ true
among_push_old ts x t h = list_any-append (λ u. u == t) ts (x ∷ []) ∙ or_left (among ts t) (among (x ∷ []) t) h

pub among_push_last : (ts : List ℕ) (x : ℕ) → among (ts ++ x ∷ []) x ≡ true
among_push_last = has_number-push_own (λ u. u)

pub among_push_none : (ts : List ℕ) (x t : ℕ) → among ts t ≡ false → t ≢ x → among (ts ++ x ∷ []) t ≡ false
among_push_none ts x t h n = has_number-push_other (λ u. u) ts x t (λ e. n (sym e)) ∙ h

-- one more answer of a transaction leaves the bodies of others
pub same_bodies : (v : View) (t0 : ℕ) (a : Answered) (ts : List ℕ) → among ts t0 ≡ false →
    map (λ t. cond (t0 == t) (v.body t ++ a ∷ []) (v.body t)) ts ≡ map v.body ts
same_bodies v t0 a ts off = map-there (λ u. u) (λ t. cond (t0 == t) (v.body t ++ a ∷ []) (v.body t)) v.body ts
    (λ t on. cond-false (t0 == t) (v.body t ++ a ∷ []) (v.body t)
    (ne_eqb t0 t (λ e. both_ways (among ts t0) off (ap (among ts) e ∙ on))))

-- ---- what is active

abbrev pub active_in : View → List ℕ
active_in v = filter (λ t. not (among v.ended t)) v.begun

pub active_parts : (v : View) (t : ℕ) → among (active_in v) t ≡ true → (among v.begun t ≡ true) ×
    (among v.ended t ≡ false)
active_parts v t h = let parts = among_filter (λ u. not (among v.ended u)) t v.begun h in
    (parts.0, not-true (among v.ended t) parts.1)

pub active_from : (v : View) (t : ℕ) → among v.begun t ≡ true → among v.ended t ≡ false → among (active_in v) t ≡ true
active_from v t b e = among_filter_from (λ u. not (among v.ended u)) t v.begun b (not_from_false (among v.ended t) e)

-- ---- the machine's state

abbrev pub with_body : (ℕ → List Answered) → ℕ → Transaction
with_body f t = (t, f t)

abbrev pub state_of : View → State
state_of v = record {
  begun = length v.begun;
  commits = length v.committers;
  runs = v.runs;
  committed = committed_in v;
  active = map (with_body v.body) (active_in v);
}

pub is_open-with_body : (f : ℕ → List Answered) (ts : List ℕ) (t : ℕ) → is_open (map (with_body f) ts) t ≡ among ts t
is_open-with_body f = has_number-map (λ u. u) (λ (x : Transaction). x.0) (with_body f) (λ x. refl)

pub body_in-with_body : (f : ℕ → List Answered) (ts : List ℕ) (t : ℕ) → among ts t ≡ true →
    body_in (map (with_body f) ts) t ≡ f t
body_in-with_body f ts t on =
    of_number-map (λ u. u) (λ (x : Transaction). x.0) (with_body f) (λ x. refl) f (λ (x : Transaction). x.1) []
    (λ x. refl) ts t
    ∙ of_number-known (λ u. u) f [] (λ done. done ≡ f t) t (λ u e. ap f e) ts on
