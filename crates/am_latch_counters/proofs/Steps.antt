-- Each step keeps the rule of the two words.
use Rattle.std.proofs.Common.{◌≡◌, ◌≢◌, ℕ, zero, suc, ◌+◌, ◌*◌, ◌%◌, ◌^◌, ◌<◌, ◌≤◌, ◌==◌, max, cond, List, [], ◌∷◌}
use Rattle.std.proofs.Common.{◌++◌, length, set, refl, sym, ap, ◌∙◌, subst, ⊎_elim, arith, length-append, mod-eq_of_lt}
use Rattle.std.specs.Prelude.{slice_index, slice_set}
use Rattle.std.proofs.lemmas.Bool.Decides.{nat_tests}
use mathlib.Core.Option.{none, some, some-ne-none, some-injective}
use lib.ListN.{get_elem?}
use Rattle.atomic_table.specs.Table.{Me, step, keeps, Allows, Splits, opening}
use Rattle.atomic_table.proofs.Lists.{at_set, at_snoc}
use Rattle.am_latch_counters.specs.declared.rule.View.{View}
use Rattle.am_latch_counters.specs.Counters.{most_draws, all_seats, one_seat, without_one_seat, total, count_of}
use Rattle.am_latch_counters.specs.Counters.{once_below}
use Rattle.am_latch_counters.specs.Counters.{greatest}
use Rattle.am_latch_counters.specs.Counters.{IsRuleOfCounters, DrawsNumber, RaisesWatch, SeesWatch}

pub total_set : (f : View → ℕ) (vs : List View) (k : ℕ) (v w : View) → get_elem? vs k ≡ some v →
    total f (set vs k w) + f v ≡ total f vs + f w
total_set f [] k v w e = absurd (some-ne-none v (sym e))
total_set f (x ∷ xs) zero v w e = let same : f x ≡ f v = ap f (some-injective x v e) in omega arith
total_set f (x ∷ xs) (suc k) v w e = omega (arith, total_set f xs k v w e)

pub total-snoc : (f : View → ℕ) (vs : List View) (w : View) → total f (vs ++ w ∷ []) ≡ total f vs + f w
total-snoc f [] w = omega arith
total-snoc f (x ∷ xs) w = omega (arith, total-snoc f xs w)

pub total_bound : (c : ℕ) (f g : View → ℕ) (vs : List View) →
    ((k : ℕ) (v : View) → get_elem? vs k ≡ some v → f v ≤ c * g v) → total f vs ≤ c * total g vs
total_bound c f g [] each = omega arith
total_bound c f g (x ∷ xs) each = omega (arith, each 0 x refl, total_bound c f g xs (λ k v e. each (suc k) v e))

pub count_of-snoc : (x : ℕ) (ys : List ℕ) (y : ℕ) → count_of x (ys ++ y ∷ []) ≡ count_of x ys + cond (y == x) 1 0
count_of-snoc x [] y = omega arith
count_of-snoc x (z ∷ zs) y = omega (arith, count_of-snoc x zs y)

pub once_step : (x n : ℕ) → once_below x (n + 1) ≡ once_below x n + cond (n == x) 1 0
once_step x n = grind (arith, nat_tests)

pub greatest_set : (vs : List View) (k n : ℕ) (v w : View) → get_elem? vs k ≡ some v → w.published ≡ max v.published n →
    greatest (set vs k w) ≡ max (greatest vs) n
greatest_set [] k n v w e p = absurd (some-ne-none v (sym e))
greatest_set (x ∷ xs) zero n v w e p = let same : x.published ≡ v.published =
    ap (λ (u : View). u.published) (some-injective x v e) in omega arith
greatest_set (x ∷ xs) (suc k) n v w e p = omega (arith, greatest_set xs k n v w e p)

pub greatest-snoc : (vs : List View) (w : View) → greatest (vs ++ w ∷ []) ≡ max (greatest vs) w.published
greatest-snoc [] w = omega arith
greatest-snoc (x ∷ xs) w = omega (arith, greatest-snoc xs w)

pub greatest_above : (vs : List View) (k : ℕ) (v : View) → get_elem? vs k ≡ some v → v.published ≤ greatest vs
greatest_above [] k v e = absurd (some-ne-none v (sym e))
greatest_above (x ∷ xs) zero v e = let same : x.published ≡ v.published =
    ap (λ (u : View). u.published) (some-injective x v e) in omega arith
greatest_above (x ∷ xs) (suc k) v e = omega (arith, greatest_above xs k v e)

-- what holds of each view still does after one is set
each_set : (P : View → Type 0) (vs : List View) (id : ℕ) (w : View) →
    ((k : ℕ) (v : View) → get_elem? vs k ≡ some v → P v) → P w → (k : ℕ) (v : View) →
    get_elem? (set vs id w) k ≡ some v →
    P v
each_set P vs id w each mine k v e =
    ⊎_elim (λ (t : (k ≡ id) × (w ≡ v)). subst P t.1 mine) (λ (t : (k ≢ id) × (get_elem? vs k ≡ some v)). each k v t.1)
    (at_set vs id k w v e)

each_snoc : (P : View → Type 0) (vs : List View) (w : View) → ((k : ℕ) (v : View) → get_elem? vs k ≡ some v → P v) →
    P w → (k : ℕ) (v : View) → get_elem? (vs ++ w ∷ []) k ≡ some v → P v
each_snoc P vs w each mine k v e = ⊎_elim (λ (t : get_elem? vs k ≡ some v). each k v t) (λ (t : w ≡ v). subst P t mine)
    (at_snoc vs w v k e)

each_one : (P : View → Type 0) (w : View) → P w → (k : ℕ) (v : View) → get_elem? (w ∷ []) k ≡ some v → P v
each_one P w mine zero v e = subst P (some-injective w v e) mine
each_one P w mine (suc k) v e = absurd (some-ne-none v (sym e))

pub starts : IsRuleOfCounters (opening (0 ∷ 0 ∷ []) [] all_seats)
starts = record {
  next = 0;
  watch = 0;
  words = refl;
  seats = omega arith;
  few = each_one (λ v. length v.drawn ≤ most_draws * v.seats) all_seats (omega arith);
  count = refl;
  each_once = λ x. grind (arith, nat_tests);
  top = refl;
  seen = each_one (λ v. v.saw ≤ 0) all_seats (omega arith);
}

pub draws : (slots id : ℕ) (me : Me ℕ View) → length me.0.drawn < most_draws → 1 ≤ me.0.seats
    → Allows IsRuleOfCounters slots id me 0 (λ n. (n + 1) % 2 ^ 64) (DrawsNumber (step slots 0 1 0 none) me)
draws slots id me few some_seat s h long at fits =
    let v = me.0 in
    let n : ℕ = slice_index s.words 0 in
    let found : n ≡ h.next = ap (λ ws. slice_index ws 0) h.words in
    let w : View = record { seats = v.seats; drawn = v.drawn ++ n ∷ []; saw = v.saw; published = v.published } in
    let bound = total_bound most_draws (λ u. length u.drawn) (λ u. u.seats) s.views h.few in
    let small : n + 1 < 2 ^ 64 = omega (arith, bound, h.count, h.seats) in
    let sum : (n + 1) % 2 ^ 64 ≡ h.next + 1 = mod-eq_of_lt small ∙ ap (λ k. k + 1) found in
    let longer : length w.drawn ≡ length v.drawn + 1 = length-append v.drawn (n ∷ []) in (
      w,
      keeps,
      tt,
      record {
        next = h.next + 1;
        watch = h.watch;
        words = λ i. slice_set (h.words i) 0 (sum i);
        seats = omega (arith, total_set (λ u. u.seats) s.views id v w at, h.seats);
        few = each_set (λ u. length u.drawn ≤ most_draws * u.seats) s.views id w h.few (omega arith);
        count = omega (arith, total_set (λ u. length u.drawn) s.views id v w at, h.count, longer);
        each_once = λ x. let here : count_of x w.drawn ≡ count_of x v.drawn + cond (h.next == x) 1 0 =
            count_of-snoc x v.drawn n ∙ ap (λ k. count_of x v.drawn + cond (k == x) 1 0) found in
            omega (
              arith,
              total_set (λ u. count_of x u.drawn) s.views id v w at,
              h.each_once x,
              once_step x h.next,
              here,
            );
        top = let t = greatest_set s.views id 0 v w at (omega arith) in omega (arith, t, h.top);
        seen = each_set (λ u. u.saw ≤ h.watch) s.views id w h.seen (h.seen id v at);
      },
      refl,
    )

pub publishes : (slots id k : ℕ) (me : Me ℕ View) → Allows IsRuleOfCounters slots id me 1 (λ n. max n k)
    (RaisesWatch (step slots 1 k 0 none) me)
publishes slots id k me s h long at fits =
    let v = me.0 in
    let found : slice_index s.words 1 ≡ h.watch = ap (λ ws. slice_index ws 1) h.words in
    let w : View = record { seats = v.seats; drawn = v.drawn; saw = v.saw; published = max v.published k } in (
      w,
      keeps,
      tt,
      record {
        next = h.next;
        watch = max h.watch k;
        words = λ i. slice_set (h.words i) 1 (max (found i) k);
        seats = omega (arith, total_set (λ u. u.seats) s.views id v w at, h.seats);
        few = each_set (λ u. length u.drawn ≤ most_draws * u.seats) s.views id w h.few (h.few id v at);
        count = omega (arith, total_set (λ u. length u.drawn) s.views id v w at, h.count);
        each_once = λ x. omega (arith, total_set (λ u. count_of x u.drawn) s.views id v w at, h.each_once x);
        top = ap (λ m. max m k) h.top ∙ sym (greatest_set s.views id k v w at refl);
        seen = each_set (λ u. u.saw ≤ max h.watch k) s.views id w (λ j u e. omega (arith, h.seen j u e))
            (omega (arith, h.seen id v at));
      },
      refl,
    )

pub sees : (slots id : ℕ) (me : Me ℕ View) → Allows IsRuleOfCounters slots id me 1 (λ n. n)
    (SeesWatch (step slots 1 0 0 none) me)
sees slots id me s h long at fits =
    let v = me.0 in
    let n : ℕ = slice_index s.words 1 in
    let found : n ≡ h.watch = ap (λ ws. slice_index ws 1) h.words in
    let w : View = record { seats = v.seats; drawn = v.drawn; saw = n; published = v.published } in (
      w,
      keeps,
      tt,
      record {
        next = h.next;
        watch = h.watch;
        words = λ i. slice_set (h.words i) 1 (found i);
        seats = omega (arith, total_set (λ u. u.seats) s.views id v w at, h.seats);
        few = each_set (λ u. length u.drawn ≤ most_draws * u.seats) s.views id w h.few (h.few id v at);
        count = omega (arith, total_set (λ u. length u.drawn) s.views id v w at, h.count);
        each_once = λ x. omega (arith, total_set (λ u. count_of x u.drawn) s.views id v w at, h.each_once x);
        top = let t = greatest_set s.views id 0 v w at (omega arith) in omega (arith, t, h.top);
        seen = each_set (λ u. u.saw ≤ h.watch) s.views id w h.seen (omega arith);
      },
      (refl, omega (arith, h.seen id v at), omega (arith, greatest_above s.views id v at, h.top)),
    )

pub splits : (id : ℕ) (v : View) → 1 ≤ v.seats → v.drawn ≡ [] → Splits IsRuleOfCounters id v (without_one_seat v)
    one_seat
splits id v some_seat none_drawn s h at =
    let w = without_one_seat v in
    let vs = set s.views id w in
    let mine : length w.drawn ≤ most_draws * w.seats = omega (arith, ap length none_drawn) in
    record {
      next = h.next;
      watch = h.watch;
      words = h.words;
      seats = omega (arith, total_set (λ u. u.seats) s.views id v w at, total-snoc (λ u. u.seats) vs one_seat, h.seats);
      few = each_snoc (λ u. length u.drawn ≤ most_draws * u.seats) vs one_seat
          (each_set (λ u. length u.drawn ≤ most_draws * u.seats) s.views id w h.few mine) (omega arith);
      count = omega (
        arith,
        total_set (λ u. length u.drawn) s.views id v w at,
        total-snoc (λ u. length u.drawn) vs
            one_seat,
        h.count,
      );
      each_once = λ x. omega (
        arith,
        total_set (λ u. count_of x u.drawn) s.views id v w at,
        total-snoc (λ u. count_of x u.drawn) vs one_seat,
        h.each_once x,
      );
      top = let t = greatest_set s.views id 0 v w at (omega arith) in
          omega (arith, t, greatest-snoc vs one_seat, h.top);
      seen = each_snoc (λ u. u.saw ≤ h.watch) vs one_seat
          (each_set (λ u. u.saw ≤ h.watch) s.views id w h.seen (h.seen id v at)) (omega arith);
    }
