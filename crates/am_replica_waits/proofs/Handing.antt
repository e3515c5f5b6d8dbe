-- A queue's parts as its code keeps them: one list, and how many of it are on their way.
use Rattle.std.proofs.Common.{◌≡◌, ℕ, ◌+◌, ◌-◌, ◌<◌, ◌≤◌, ◌==◌, List, [], ◌∷◌, ◌++◌, Bool, true, false, cond, refl}
use Rattle.std.proofs.Common.{arith, sym, ap, subst, ◌∙◌, map, take, drop, length, set, get_or, min, zero, suc}
use Rattle.std.proofs.lemmas.Bool.{lt-leb, cond-false, eq-eqb, or_left, or_right, or_parts}
use Rattle.std.proofs.lemmas.List.{at_drop_more, take-take, drop-drop}
use Rattle.std.proofs.Math.Seq.{take-add}
use Rattle.std.specs.Prelude.{leb}
use Rattle.std.specs.List.{remove}
use Rattle.am_replica_waits.specs.declared.queue.Waiting.{Waiting}
use Rattle.am_replica_waits.specs.Queues.{QueueState, is_of, all_but, keeps_within, first_within, with_handed}
use Rattle.am_replica_waits.specs.Queues.{with_settled, with_expired}
use Rattle.am_replica_waits.proofs.Rising.{but_here, but_later, but_none}

-- ---- who goes on the way

abbrev pub blank : Waiting
blank = record { number = 0; bytes = 0 }

-- the next one doesn't go
pub keeps_none : (limit size i : ℕ) (ws : List Waiting) → i < length ws →
    limit < size + (get_or ws i blank).bytes → keeps_within limit size (drop i ws) ≡ []
keeps_none limit size i ws within over =
    let w : Waiting = get_or ws i blank in
    at_drop_more (keeps_within limit size) ws i blank within
    ∙ cond-false (leb (size + w.bytes) limit) (w ∷ keeps_within limit (size + w.bytes) (drop (i + 1) ws)) []
    (lt-leb (size + w.bytes) limit over)

front_cond : (w : Waiting) (ws hs : List Waiting) (test : Bool) → hs ≡ take (length hs) ws →
    cond test (w ∷ hs) [] ≡ take (length (cond test (w ∷ hs) [])) (w ∷ ws)
front_cond w ws hs true is = ap (λ vs. w ∷ vs) is
front_cond w ws hs false is = refl

keeps_front : (limit size : ℕ) (ws : List Waiting) →
    keeps_within limit size ws ≡ take (length (keeps_within limit size ws)) ws
keeps_front limit size [] = refl
keeps_front limit size (w ∷ ws) =
    front_cond w ws (keeps_within limit (size + w.bytes) ws) (leb (size + w.bytes) limit)
    (keeps_front limit (size + w.bytes) ws)

first_front : (limit : ℕ) (ws : List Waiting) → first_within limit ws ≡ take (length (first_within limit ws)) ws
first_front limit [] = refl
first_front limit (w ∷ ws) = ap (λ vs. w ∷ vs) (keeps_front limit w.bytes ws)

short_cond : (w : Waiting) (ws hs : List Waiting) (test : Bool) → length hs ≤ length ws →
    length (cond test (w ∷ hs) []) ≤ length (w ∷ ws)
short_cond w ws hs true le = omega arith
short_cond w ws hs false le = omega arith

keeps_short : (limit size : ℕ) (ws : List Waiting) → length (keeps_within limit size ws) ≤ length ws
keeps_short limit size [] = omega arith
keeps_short limit size (w ∷ ws) =
    short_cond w ws (keeps_within limit (size + w.bytes) ws) (leb (size + w.bytes) limit)
    (keeps_short limit (size + w.bytes) ws)

pub first_short : (limit : ℕ) (ws : List Waiting) → length (first_within limit ws) ≤ length ws
first_short limit [] = omega arith
first_short limit (w ∷ ws) = let rest = keeps_short limit w.bytes ws in omega (arith, rest)

take_least : (most : ℕ) (ws : List Waiting) → take (min (length ws) most) ws ≡ take most ws
take_least zero [] = refl
take_least (suc m) [] =
    let none : min (length {A = Waiting} []) (suc m) ≡ 0 = omega arith in ap (λ n. take {A = Waiting} n []) none
take_least zero (w ∷ ws) = let none : min (length (w ∷ ws)) 0 ≡ 0 = omega arith in ap (λ n. take n (w ∷ ws)) none
take_least (suc m) (w ∷ ws) =
    let one : min (length (w ∷ ws)) (suc m) ≡ suc (min (length ws) m) = omega arith in
    ap (λ n. take n (w ∷ ws)) one ∙ ap (λ vs. w ∷ vs) (take_least m ws)

take_short : (most : ℕ) (ws : List Waiting) → length (take most ws) ≤ most
take_short zero ws = omega arith
take_short (suc m) [] = omega arith
take_short (suc m) (w ∷ ws) = let rest : length (take m ws) ≤ m = take_short m ws in omega arith

-- those that go are a front of those that wait
pub handed_front : (limit most : ℕ) (ws : List Waiting) →
    take (length (first_within limit (take most ws))) ws ≡ first_within limit (take most ws)
handed_front limit most ws =
    let hs = first_within limit (take most ws) in
    let short : length hs ≤ length (take most ws) = first_short limit (take most ws) in
    let few : length (take most ws) ≤ most = take_short most ws in
    sym (take-take (length hs) most ws (omega arith)) ∙ sym (first_front limit (take most ws))

pub handed_count : (limit most least count : ℕ) (ws : List Waiting) → least ≡ min (length ws) most →
    count ≡ length (first_within limit (take least ws)) → count ≡ length (first_within limit (take most ws))
handed_count limit most least count ws l c =
    c ∙ ap (λ n. length (first_within limit (take n ws))) l
    ∙ ap (λ vs. length (first_within limit vs)) (take_least most ws)

pub handed_slice : (limit most count : ℕ) (ws : List Waiting) → count ≡ length (first_within limit (take most ws)) →
    take count ws ≡ first_within limit (take most ws)
handed_slice limit most count ws is = ap (λ n. take n ws) is ∙ handed_front limit most ws

-- ---- the parts of a queue

abbrev pub parts : ℕ → ℕ → List Waiting → QueueState
parts next way all = record { next = next; on_way = take way all; waiting = drop way all }

pub parts_handed : (limit most next way count : ℕ) (all : List Waiting) →
    count ≡ length (first_within limit (take most (drop way all))) →
    parts next (way + count) all ≡ with_handed limit most (parts next way all)
parts_handed limit most next way count all is =
    let hs = first_within limit (take most (drop way all)) in
    let slice : take count (drop way all) ≡ hs = handed_slice limit most count (drop way all) is in
    let front : take (way + count) all ≡ take way all ++ hs =
    take-add way count all ∙ ap (λ vs. take way all ++ vs) slice in
    let rest : drop (way + count) all ≡ drop (length hs) (drop way all) =
    sym (drop-drop count way all) ∙ ap (λ n. drop n (drop way all)) is in
    let at : QueueState = record { next = next; on_way = take way all ++ hs; waiting = drop (way + count) all } in
    ap (λ (vs : List Waiting). record at { on_way = vs }) front
    ∙ ap (λ (vs : List Waiting). record at { waiting = vs }) rest

-- one is gone from those on their way
remove_nil : (at : ℕ) → remove {X = Waiting} [] at ≡ []
remove_nil zero = refl
remove_nil (suc n) = refl

pub remove_front : (all : List Waiting) (at way : ℕ) → at ≤ way →
    take way (remove all at) ≡ remove (take (suc way) all) at
remove_front [] at zero le = sym (remove_nil at)
remove_front [] at (suc m) le = ap (take (suc m)) (remove_nil at) ∙ sym (remove_nil at)
remove_front (x ∷ xs) zero way le = refl
remove_front (x ∷ xs) (suc a) zero le = absurd (omega arith)
remove_front (x ∷ xs) (suc a) (suc m) le = ap (λ vs. x ∷ vs) (remove_front xs a m (omega arith))

drop_nil : (n : ℕ) → drop {A = Waiting} n [] ≡ []
drop_nil zero = refl
drop_nil (suc n) = refl

pub remove_rest : (all : List Waiting) (at way : ℕ) → at ≤ way → drop way (remove all at) ≡ drop (suc way) all
remove_rest [] at way le = ap (drop way) (remove_nil at) ∙ drop_nil way
remove_rest (x ∷ xs) zero way le = refl
remove_rest (x ∷ xs) (suc a) zero le = absurd (omega arith)
remove_rest (x ∷ xs) (suc a) (suc m) le = remove_rest xs a m (omega arith)

pub parts_settled : (next way at : ℕ) (all : List Waiting) → at < way →
    parts next (way - 1) (remove all at) ≡ record {
      next = next;
      on_way = remove (take way all) at;
      waiting = drop way all;
    }
parts_settled next zero at all lt = absurd (omega arith)
parts_settled next (suc m) at all lt =
    let one : suc m - 1 ≡ m = omega arith in
    let now : QueueState = parts next m (remove all at) in
    ap (λ n. parts next n (remove all at)) one
    ∙ ap (λ (vs : List Waiting). record now { on_way = vs }) (remove_front all at m (omega arith))
    ∙ ap (λ (vs : List Waiting). record now { on_way = remove (take (suc m) all) at; waiting = vs })
    (remove_rest all at m (omega arith))

-- one is gone from those that wait
take_before : (all : List Waiting) (way at : ℕ) → take way (remove all (way + at)) ≡ take way all
take_before all zero at = refl
take_before [] (suc m) at = ap (take (suc m)) (remove_nil (suc m + at))
take_before (x ∷ xs) (suc m) at =
    let more : suc m + at ≡ suc (m + at) = omega arith in
    ap (λ n. take (suc m) (remove (x ∷ xs) n)) more ∙ ap (λ vs. x ∷ vs) (take_before xs m at)

drop_before : (all : List Waiting) (way at : ℕ) → drop way (remove all (way + at)) ≡ remove (drop way all) at
drop_before all zero at = let none : 0 + at ≡ at = omega arith in ap (remove all) none
drop_before [] (suc m) at = ap (drop (suc m)) (remove_nil (suc m + at)) ∙ sym (remove_nil at)
drop_before (x ∷ xs) (suc m) at =
    let more : suc m + at ≡ suc (m + at) = omega arith in
    ap (λ n. drop (suc m) (remove (x ∷ xs) n)) more ∙ drop_before xs m at

pub parts_expired : (next way at : ℕ) (all : List Waiting) →
    parts next way (remove all (way + at)) ≡ record {
      next = next;
      on_way = take way all;
      waiting = remove (drop way all) at;
    }
parts_expired next way at all =
    let now : QueueState = parts next way (remove all (way + at)) in
    ap (λ (vs : List Waiting). record now { on_way = vs }) (take_before all way at)
    ∙ ap (λ (vs : List Waiting). record now { on_way = take way all; waiting = vs }) (drop_before all way at)

pub settled_parts : (number next way at : ℕ) (all seen : List Waiting) → seen ≡ take way all → at < length seen →
    all_but number seen ≡ remove seen at →
    parts next (way - 1) (remove all at) ≡ with_settled number (parts next way all)
settled_parts number next way at all seen same lt but =
    let short : length (take way all) ≤ way = take_short way all in
    let long : length seen ≡ length (take way all) = ap length same in
    let here : all_but number (take way all) ≡ remove (take way all) at =
    subst (λ vs. all_but number vs ≡ remove vs at) same but in
    let now : QueueState = parts next way all in
    parts_settled next way at all (omega arith) ∙ ap (λ (vs : List Waiting). record now { on_way = vs }) (sym here)

pub expired_parts : (number next way at : ℕ) (all seen : List Waiting) → seen ≡ drop way all →
    all_but number seen ≡ remove seen at → is_of number (take way all) ≡ false →
    parts next way (remove all (way + at)) ≡ with_expired number (parts next way all)
expired_parts number next way at all seen same but gone =
    let here : all_but number (drop way all) ≡ remove (drop way all) at =
    subst (λ vs. all_but number vs ≡ remove vs at) same but in
    let now : QueueState = parts next way all in
    let left : QueueState = record now { waiting = all_but number (drop way all) } in
    parts_expired next way at all ∙ ap (λ (vs : List Waiting). record now { waiting = vs }) (sym here)
    ∙ sym (cond-false (is_of number (take way all)) (with_settled number now) left gone)

-- who isn't there stays away
pub settled_none : (number : ℕ) (q : QueueState) → is_of number q.on_way ≡ false → q ≡ with_settled number q
settled_none number q gone = ap (λ (vs : List Waiting). record q { on_way = vs }) (sym (but_none number q.on_way gone))

pub expired_none : (number : ℕ) (q : QueueState) → is_of number q.on_way ≡ false → is_of number q.waiting ≡ false →
    q ≡ with_expired number q
expired_none number q gone never =
    ap (λ (vs : List Waiting). record q { waiting = vs }) (sym (but_none number q.waiting never))
    ∙ sym (cond-false (is_of number q.on_way) (with_settled number q)
    (record q { waiting = all_but number q.waiting }) gone)

-- where it is found
pub found : (n : ℕ) (ws : List Waiting) (i : ℕ) → i < length ws → is_of n (take i ws) ≡ false →
    (get_or ws i blank).number ≡ n → (is_of n ws ≡ true) × (all_but n ws ≡ remove ws i)
found n [] i lt before here = absurd (omega arith)
found n (w ∷ ws) zero lt before here =
    let is : (w.number == n) ≡ true = eq-eqb w.number n here in
    (or_left (w.number == n) (is_of n ws) is, but_here n w ws is)
found n (w ∷ ws) (suc i) lt before here =
    let p = or_parts (w.number == n) (is_of n (take i ws)) before in
    let rest = found n ws i (omega arith) p.1 here in (
      or_right (w.number == n) (is_of n ws) rest.0,
      but_later n w ws p.0 ∙ ap (λ vs. w ∷ vs) rest.1,
    )

-- ---- numbers go out

abbrev pub numbers_of : List Waiting → List ℕ
numbers_of ws = map (λ (w : Waiting). w.number) ws

tells_next : (hs : List Waiting) (ns : List ℕ) (i : ℕ) → i < length hs → i < length ns →
    set (numbers_of (take i hs) ++ drop i ns) i (get_or hs i blank).number ≡
    numbers_of (take (suc i) hs) ++ drop (suc i) ns
tells_next [] ns i lt room = absurd (omega arith)
tells_next (h ∷ hs) [] i lt room = absurd (omega arith)
tells_next (h ∷ hs) (n ∷ ns) zero lt room = refl
tells_next (h ∷ hs) (n ∷ ns) (suc i) lt room = ap (λ vs. h.number ∷ vs) (tells_next hs ns i (omega arith) (omega arith))

pub tells_more : (hs : List Waiting) (ns : List ℕ) (i : ℕ) → i < length hs → i < length ns →
    set (numbers_of (take i hs) ++ drop i ns) i (get_or hs i blank).number ≡
    numbers_of (take (i + 1) hs) ++ drop (i + 1) ns
tells_more hs ns i lt room =
    let one : suc i ≡ i + 1 = omega arith in
    tells_next hs ns i lt room ∙ ap (λ n. numbers_of (take n hs) ++ drop n ns) one
