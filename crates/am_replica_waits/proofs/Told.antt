-- What holds after each step of a queue.
use Rattle.std.proofs.Common.{◌≡◌, ℕ, ◌+◌, ◌<◌, ◌==◌, List, [], ◌∷◌, ◌++◌, Bool, true, false, ◌||◌, not, cond}
use Rattle.std.proofs.Common.{refl, arith, sym, ap, subst, ◌∙◌, inl, inr, drop, length, append_assoc}
use Rattle.std.specs.Prelude.{Option, Some, None}
use Rattle.std.specs.List.{AllByRecursion, IsDistinct}
use Rattle.std.proofs.lemmas.Bool.{or_left, or_right, or_parts, or_from, or_cases, eqb-true, eq-eqb, ne_eqb, both_ways}
use Rattle.std.proofs.lemmas.Bool.{cases_Bool, cond-true, cond-false}
use Rattle.std.proofs.lemmas.List.{take-append-drop, append-nil}
use Rattle.std.proofs.lemmas.Map.Keys.{IsDistinct-cons}
use Rattle.am_record.proofs.Lists.{AllByRecursion-map, AllByRecursion-append}
use Rattle.am_replica_waits.specs.declared.queue.Waiting.{Waiting}
use Rattle.am_replica_waits.specs.declared.queue.Expired.{Expired}
use Rattle.am_replica_waits.specs.declared.queue.Expired.TheVariants.{Unreachable, Unknown}
use Rattle.am_replica_waits.specs.Queues.{QueueState, is_of, all_but, handed_together, with_handed, with_settled}
use Rattle.am_replica_waits.specs.Queues.{with_entered, expires_as, with_expired}
use Rattle.am_replica_waits.specs.QueueHistory.{QueueStep, Enters, Hands, Settles, Expires, queue_after, all_handed}
use Rattle.am_replica_waits.specs.QueueHistory.{NumbersRise, Telling, told_settled, told_expired, all_told}
use Rattle.am_replica_waits.specs.QueueHistory.{is_unreachable, same_teller}
use Rattle.am_replica_waits.proofs.Rising.{Rise, of-append, under_high, rise_push, rise_front, is_behind, but_rises}
use Rattle.am_replica_waits.proofs.Rising.{but_gone, but_each, but_absent, but_in_front, but_behind}
use Rattle.am_replica_waits.proofs.Handing.{handed_front, settled_none, expired_none}

abbrev pub everyone : QueueState → List Waiting
everyone q = q.on_way ++ q.waiting

-- whoever was told is gone, and was handed over unless it was told otherwise
pub record Gone (q : QueueState) (hs : List Waiting) (t : Telling) : Type 0 where
  pub below : t.number < q.next
  pub absent : is_of t.number (everyone q) ≡ false
  pub handed : is_of t.number hs ≡ not (is_unreachable t.expired)

pub record Holds (q : QueueState) (hs : List Waiting) (ts : List Telling) : Type 0 where
  pub everyone : Rise 0 q.next (q.on_way ++ q.waiting)
  pub handed : Rise 0 q.next (hs ++ q.waiting)
  pub way : AllByRecursion (λ w. is_of w.number hs ≡ true) q.on_way
  pub gone : AllByRecursion (Gone q hs) ts
  pub once : IsDistinct same_teller ts

none_told : IsDistinct same_teller []
unfolding IsDistinct
none_told = tt

way_of : (hs ws : List Waiting) (n : ℕ) → AllByRecursion (λ w. is_of w.number hs ≡ true) ws → is_of n ws ≡ true →
    is_of n hs ≡ true
way_of hs [] n all is = absurd (both_ways false refl is)
way_of hs (w ∷ ws) n all is = elim (or_cases (w.number == n) (is_of n ws) is) [
  | inl e ↦ subst (λ m. is_of m hs ≡ true) (eqb-true w.number n e) all.0
  | inr e ↦ way_of hs ws n all.1 e
]

each_of_itself : (ws : List Waiting) → AllByRecursion (λ w. is_of w.number ws ≡ true) ws
each_of_itself [] = tt
each_of_itself (w ∷ ws) = (
  or_left (w.number == w.number) (is_of w.number ws) (eq-eqb w.number w.number refl),
  AllByRecursion-map (λ v. is_of v.number ws ≡ true) (λ v. is_of v.number (w ∷ ws) ≡ true)
      (λ v e. or_right (w.number == v.number) (is_of v.number ws) e) ws (each_of_itself ws),
)

or_none : (a b : Bool) → b ≡ false → (a || b) ≡ a
or_none true b e = refl
or_none false b e = e

-- ---- blocks come

enters : (bytes : ℕ) (q : QueueState) (hs : List Waiting) (ts : List Telling) → Holds q hs ts →
    Holds (with_entered bytes q) hs ts
enters bytes q hs ts h =
    let one : Waiting = record { number = q.next; bytes = bytes } in
    let behind : (q.on_way ++ q.waiting) ++ one ∷ [] ≡ q.on_way ++ (q.waiting ++ one ∷ []) =
    append_assoc q.on_way q.waiting (one ∷ []) in
    record {
      everyone = subst (Rise 0 (q.next + 1)) behind (rise_push 0 q.next bytes (everyone q) h.everyone);
      handed = subst (Rise 0 (q.next + 1)) (append_assoc hs q.waiting (one ∷ []))
          (rise_push 0 q.next bytes (hs ++ q.waiting) h.handed);
      way = h.way;
      gone = AllByRecursion-map (Gone q hs) (Gone (with_entered bytes q) hs) (λ t g.
          let below : t.number < q.next = g.below in
          let other : (q.next == t.number) ≡ false =
          ne_eqb q.next t.number (λ e. let same : q.next ≡ t.number = e in omega arith) in
          let rest : is_of t.number (one ∷ []) ≡ false = or_from (q.next == t.number) false other refl in
          record {
            below = omega arith;
            absent = ap (is_of t.number) (sym behind) ∙ of-append t.number (everyone q) (one ∷ [])
                ∙ or_from (is_of t.number (everyone q)) (is_of t.number (one ∷ [])) g.absent rest;
            handed = g.handed;
          }) ts h.gone;
      once = h.once;
    }

-- ---- some are handed over

hands : (limit most : ℕ) (q : QueueState) (hs : List Waiting) (ts : List Telling) → Holds q hs ts →
    Holds (with_handed limit most q) (hs ++ handed_together limit most q) ts
hands limit most q hs ts h =
    let more : List Waiting = handed_together limit most q in
    let rest : List Waiting = drop (length more) q.waiting in
    let split : more ++ rest ≡ q.waiting =
    ap (λ (ws : List Waiting). ws ++ rest) (sym (handed_front limit most q.waiting))
    ∙ take-append-drop (length more) q.waiting in
    let all : (q.on_way ++ more) ++ rest ≡ everyone q =
    append_assoc q.on_way more rest ∙ ap (λ ws. q.on_way ++ ws) split in
    record {
      everyone = subst (Rise 0 q.next) (sym all) h.everyone;
      handed = subst (Rise 0 q.next) (sym (append_assoc hs more rest ∙ ap (λ ws. hs ++ ws) split)) h.handed;
      way = AllByRecursion-append (λ w. is_of w.number (hs ++ more) ≡ true) q.on_way more
          (AllByRecursion-map (λ w. is_of w.number hs ≡ true) (λ w. is_of w.number (hs ++ more) ≡ true) (λ w e.
          of-append w.number hs more ∙ or_left (is_of w.number hs) (is_of w.number more) e) q.on_way h.way)
          (AllByRecursion-map (λ w. is_of w.number more ≡ true) (λ w. is_of w.number (hs ++ more) ≡ true) (λ w e.
          of-append w.number hs more ∙ or_right (is_of w.number hs) (is_of w.number more) e) more
          (each_of_itself more));
      gone = AllByRecursion-map (Gone q hs) (Gone (with_handed limit most q) (hs ++ more)) (λ t g.
          let waits : is_of t.number q.waiting ≡ false =
          (or_parts (is_of t.number q.on_way) (is_of t.number q.waiting)
          (sym (of-append t.number q.on_way q.waiting) ∙ g.absent)).1 in
          let stays : is_of t.number more ≡ false =
          (or_parts (is_of t.number more) (is_of t.number rest)
          (sym (of-append t.number more rest) ∙ ap (is_of t.number) split ∙ waits)).0 in
          record {
            below = g.below;
            absent = ap (is_of t.number) all ∙ g.absent;
            handed = of-append t.number hs more ∙ or_none (is_of t.number hs) (is_of t.number more) stays ∙ g.handed;
          }) ts h.gone;
      once = h.once;
    }

-- ---- one is told

module _ (q : QueueState) (hs : List Waiting) (ts : List Telling) (h : Holds q hs ts) (n : ℕ) where
  leaves : (how : Option Expired) (way waiting : List Waiting) → is_of n (everyone q) ≡ true →
      way ++ waiting ≡ all_but n (everyone q) → Rise 0 q.next (hs ++ waiting) →
      AllByRecursion (λ w. is_of w.number hs ≡ true) way → is_of n hs ≡ not (is_unreachable how) →
      Holds (record { next = q.next; on_way = way; waiting = waiting }) hs
      (record { number = n; expired = how } ∷ ts)
  leaves how way waiting is left handed ways was =
      let new : QueueState = record { next = q.next; on_way = way; waiting = waiting } in
      let t : Telling = record { number = n; expired = how } in
      let here : Gone new hs t = record {
        below = under_high n 0 q.next (everyone q) h.everyone is;
        absent = ap (is_of n) left ∙ but_gone n 0 q.next (everyone q) h.everyone;
        handed = was;
      } in
      record {
        everyone = subst (Rise 0 q.next) (sym left) (but_rises n 0 q.next (everyone q) h.everyone);
        handed = handed;
        way = ways;
        gone = (
          here,
          AllByRecursion-map (Gone q hs) (Gone new hs) (λ u g. record {
            below = g.below;
            absent = ap (is_of u.number) left ∙ but_absent n u.number (everyone q) g.absent;
            handed = g.handed;
          }) ts h.gone,
        );
        once = IsDistinct-cons same_teller t ts
            (AllByRecursion-map (Gone q hs) (λ u. same_teller t u ≡ false) (λ u g. ne_eqb n u.number (λ e.
            both_ways (is_of u.number (everyone q)) g.absent (subst (λ m. is_of m (everyone q) ≡ true) e is)))
            ts h.gone) h.once;
      }

  -- one that was on its way
  leaves_way : (how : Option Expired) → is_unreachable how ≡ false → is_of n q.on_way ≡ true →
      Holds (with_settled n q) hs (record { number = n; expired = how } ∷ ts)
  leaves_way how known is =
      leaves how (all_but n q.on_way) q.waiting
      (of-append n q.on_way q.waiting ∙ or_left (is_of n q.on_way) (is_of n q.waiting) is)
      (sym (but_in_front n q.on_way q.waiting is)) h.handed
      (but_each n (λ w. is_of w.number hs ≡ true) q.on_way h.way)
      (way_of hs q.on_way n h.way is ∙ sym (ap not known))

  leaves_waiting : is_of n q.on_way ≡ false → is_of n q.waiting ≡ true →
      Holds (record { next = q.next; on_way = q.on_way; waiting = all_but n q.waiting }) hs
      (record { number = n; expired = Some Unreachable } ∷ ts)
  leaves_waiting stays is =
      let never : is_of n hs ≡ false = is_behind n 0 q.next hs q.waiting h.handed is in
      leaves (Some Unreachable) q.on_way (all_but n q.waiting)
      (of-append n q.on_way q.waiting ∙ or_right (is_of n q.on_way) (is_of n q.waiting) is)
      (sym (but_behind n q.on_way q.waiting stays))
      (subst (Rise 0 q.next) (but_behind n hs q.waiting never)
      (but_rises n 0 q.next (hs ++ q.waiting) h.handed))
      h.way never

  settles : Holds (with_settled n q) hs (told_settled n q ++ ts)
  settles = elim (cases_Bool (is_of n q.on_way)) [
    | inl is ↦
        subst (λ us. Holds (with_settled n q) hs (us ++ ts))
        (sym (cond-true (is_of n q.on_way) (record { number = n; expired = None } ∷ []) [] is))
        (leaves_way None refl is)
    | inr stays ↦
        subst (λ us. Holds (with_settled n q) hs (us ++ ts))
        (sym (cond-false (is_of n q.on_way) (record { number = n; expired = None } ∷ []) [] stays))
        (subst (λ r. Holds r hs ts) (settled_none n q stays) h)
  ]

  ends_so : (r : QueueState) (how : Option Expired) → with_expired n q ≡ r → expires_as n q ≡ how →
      Holds r hs (told_expired n how ++ ts) → Holds (with_expired n q) hs (told_expired n (expires_as n q) ++ ts)
  ends_so r how left told holds =
      subst (λ v. Holds v hs (told_expired n (expires_as n q) ++ ts)) (sym left)
      (subst (λ o. Holds r hs (told_expired n o ++ ts)) (sym told) holds)

  expires : Holds (with_expired n q) hs (told_expired n (expires_as n q) ++ ts)
  expires =
      let left : QueueState = record { next = q.next; on_way = q.on_way; waiting = all_but n q.waiting } in
      let otherwise : Option Expired = cond (is_of n q.waiting) (Some Unreachable) None in
      elim (cases_Bool (is_of n q.on_way)) [
        | inl is ↦
            ends_so (with_settled n q) (Some Unknown) (cond-true (is_of n q.on_way) (with_settled n q) left is)
            (cond-true (is_of n q.on_way) (Some Unknown) otherwise is) (leaves_way (Some Unknown) refl is)
        | inr stays ↦ elim (cases_Bool (is_of n q.waiting)) [
          | inl is ↦
              ends_so left (Some Unreachable) (cond-false (is_of n q.on_way) (with_settled n q) left stays)
              (cond-false (is_of n q.on_way) (Some Unknown) otherwise stays
              ∙ cond-true (is_of n q.waiting) (Some Unreachable) None is) (leaves_waiting stays is)
          | inr never ↦
              ends_so q None (sym (expired_none n q stays never))
              (cond-false (is_of n q.on_way) (Some Unknown) otherwise stays
              ∙ cond-false (is_of n q.waiting) (Some Unreachable) None never) h
        ]
      ]

-- ---- all steps

nobody_handed : (q : QueueState) (hs : List Waiting) (ts : List Telling) → Holds q hs ts → Holds q (hs ++ []) ts
nobody_handed q hs ts h = subst (λ ws. Holds q ws ts) (sym (append-nil hs)) h

holds : (steps : List QueueStep) → Holds (queue_after steps) (all_handed steps) (all_told steps)
holds [] = record { everyone = omega arith; handed = omega arith; way = tt; gone = tt; once = none_told }
holds (Enters bytes ∷ b) =
    let q = queue_after b in
    nobody_handed (with_entered bytes q) (all_handed b) (all_told b)
    (enters bytes q (all_handed b) (all_told b) (holds b))
holds (Hands limit most ∷ b) = hands limit most (queue_after b) (all_handed b) (all_told b) (holds b)
holds (Settles n ∷ b) =
    let q = queue_after b in
    nobody_handed (with_settled n q) (all_handed b) (told_settled n q ++ all_told b)
    (settles q (all_handed b) (all_told b) (holds b) n)
holds (Expires n ∷ b) =
    let q = queue_after b in
    nobody_handed (with_expired n q) (all_handed b) (told_expired n (expires_as n q) ++ all_told b)
    (expires q (all_handed b) (all_told b) (holds b) n)

-- ---- laws

pub unreachable : (steps : List QueueStep) →
    AllByRecursion (λ t. is_unreachable t.expired ≡ true → is_of t.number (all_handed steps) ≡ false) (all_told steps)
unreachable steps = AllByRecursion-map (Gone (queue_after steps) (all_handed steps))
    (λ t. is_unreachable t.expired ≡ true → is_of t.number (all_handed steps) ≡ false) (λ t g e. g.handed ∙ ap not e)
    (all_told steps) (holds steps).gone

pub others : (steps : List QueueStep) →
    AllByRecursion (λ t. is_unreachable t.expired ≡ false → is_of t.number (all_handed steps) ≡ true) (all_told steps)
others steps = AllByRecursion-map (Gone (queue_after steps) (all_handed steps))
    (λ t. is_unreachable t.expired ≡ false → is_of t.number (all_handed steps) ≡ true) (λ t g e. g.handed ∙ ap not e)
    (all_told steps) (holds steps).gone

pub once : (steps : List QueueStep) → IsDistinct same_teller (all_told steps)
once steps = (holds steps).once

numbers_rise : (low high : ℕ) (ws : List Waiting) → Rise low high ws → NumbersRise low ws
numbers_rise low high [] r = tt
numbers_rise low high (w ∷ ws) r = (r.0, numbers_rise (w.number + 1) high ws r.1)

pub in_order : (steps : List QueueStep) → NumbersRise 0 (all_handed steps)
in_order steps =
    let q = queue_after steps in
    numbers_rise 0 q.next (all_handed steps) (rise_front 0 q.next (all_handed steps) q.waiting (holds steps).handed)
