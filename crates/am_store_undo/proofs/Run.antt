-- A walk along one partition that makes a ghost of each of its entries.
use Rattle.std.proofs.Common.{◌≡◌, ◌≢◌, ℕ, suc, ◌<◌, ◌≤◌, List, [], ◌∷◌, Bool, true, false, cond, Option, Some, None}
use Rattle.std.proofs.Common.{refl, sym, ap, ◌∙◌, subst, arith, ⊎_elim}
use Rattle.std.specs.Prelude.{IsSome, is_some, ◌==◌, ◌&&◌}
use Rattle.std.proofs.lemmas.Bool.{cases_Bool, cond-true, cond-false, both_ways, true≢false, false≢true, eqb-true}
use Rattle.std.proofs.lemmas.Bool.{and_from}
use Rattle.std.proofs.lemmas.Option.{none-some, same_Some}
use Rattle.std.specs.declared.cmp.Ordering.{Ordering}
use Rattle.std.specs.declared.cmp.Ordering.TheVariants.{Less, Equal, Greater}
use Rattle.std.specs.Ordering.{is_eq, is_lt, is_gt, is_ge, ordering_reverse}
use Rattle.std.specs.Option.{option_map}
use Rattle.std.proofs.lemmas.Cmp.{nat_eq_equiv}
use Rattle.am_record.specs.OrderedKey.{OrderedKey, key_cmp, key_cmp-total, key_cmp-exact, key_cmp-itself, IsLeast}
use Rattle.am_record.specs.EntryOrder.{Place, place_of, place_cmp, place_cmp-same, place_cmp-total}
use Rattle.am_record.specs.declared.entry.Entry.{Entry}
use Rattle.am_record.proofs.PlaceOrder.{turned_greater}
use Rattle.am_record.proofs.Orderings.{is_less, is_greater}
use Rattle.am_index.specs.Entries.{slot_of, first_such, entry_at, find, next_from, after, set_entry, IsRising}
use Rattle.am_index.specs.Edits.{same_place}
use Rattle.am_index.proofs.Edits.{one_place, place_cmp-itself, other_part, first_such_all, first_such_passes}
use Rattle.am_index.proofs.Edits.{entry_at_place, find_reset, entry_at_beside_reset, turned_apart}
use Rattle.am_index.proofs.Content.{all_found}
use Rattle.am_index_parts.proofs.Looks.{none_pass, first_of_both, entry_of}
use Rattle.am_store_undo.specs.Notes.{ghosted}

-- ---- one entry

-- what a place has after a value and a mark were set at a present place
pub find_after_set : (es : List Entry) (part : ℕ) (key : OrderedKey) (value : List ℕ) (is_ghost : Bool) →
    IsSome (find es part key) → (p : ℕ) (k : OrderedKey)
    → find (set_entry es part key value is_ghost) p k ≡ cond (same_place p k part key) (Some (value, is_ghost))
    (find es p k)
find_after_set es part key value is_ghost there p k =
    let es' = set_entry es part key value is_ghost in
    ⊎_elim
    (λ yes. ap (λ (q : Place). find es' q.0 q.1) (one_place (p, k) (part, key) yes) ∙
    find_reset es part key value is_ghost there
    ∙ sym (cond-true (same_place p k part key) (Some (value, is_ghost)) (find es p k) yes))
    (λ no. ap (option_map slot_of) (entry_at_beside_reset es part key value is_ghost p k
    (turned_apart (p, k) (part, key) no))
    ∙ sym (cond-false (same_place p k part key) (Some (value, is_ghost)) (find es p k) no))
    (cases_Bool (same_place p k part key))

-- an entry that is marked with the value that it has
pub buried : (es : List Entry) (part : ℕ) (key : OrderedKey) (value : List ℕ) (was_ghost : Bool) →
    find es part key ≡ Some (value, was_ghost) → (p : ℕ) (k : OrderedKey)
    → find (set_entry es part key value true) p k ≡ cond (same_place p k part key) (ghosted (find es p k)) (find es p k)
buried es part key value was_ghost there p k =
    ⊎_elim
    (λ yes.
    let here : find es p k ≡ Some (value, was_ghost) = ap (λ (q : Place). find es q.0 q.1)
    (one_place (p, k) (part, key) yes) ∙ there in
    find_after_set es part key value true (ap is_some there) p k ∙ cond-true (same_place p k part key)
    (Some (value, true)) (find es p k) yes
    ∙ sym (ap ghosted here) ∙ sym (cond-true (same_place p k part key) (ghosted (find es p k)) (find es p k) yes))
    (λ no. find_after_set es part key value true (ap is_some there) p k ∙ cond-false (same_place p k part key)
    (Some (value, true)) (find es p k) no
    ∙ sym (cond-false (same_place p k part key) (ghosted (find es p k)) (find es p k) no))
    (cases_Bool (same_place p k part key))

-- ---- keys

flipped : (a b : OrderedKey) (o : Ordering) → key_cmp b a ≡ o → key_cmp a b ≡ ordering_reverse o
flipped a b o h = key_cmp-total.antisymm a b ∙ ap ordering_reverse h

-- whether the key is below the next entry
abbrev pub is_passed : Option Entry → OrderedKey → Bool
is_passed None key = true
is_passed (Some e) key = is_lt (key_cmp key e.key)

-- ---- a look along a partition, by a test of places

module _ (run : ℕ) (es : List Entry) (rising : IsRising es) (test : Entry → Bool) (in_run : (x : Entry) →
    test x ≡ true → x.part ≡ run) where
  -- nothing that passes the test stands below what is found
  none_before : (r : Option Entry) → r ≡ first_such test es → (k : OrderedKey) → is_passed r k ≡ true →
      ((x : Entry) → place_of x ≡ (run, k) → test x ≡ true) → find es run k ≡ None
  none_before r found k passed tests = by_cases (entry_at es run k) refl
    where
      meets : (x : Entry) → entry_at es run k ≡ Some x → (r : Option Entry) → r ≡ first_such test es →
          is_passed r k ≡ true → ⊥
      meets x at None found passed =
          true≢false (sym (tests x (entry_at_place es run k x at)) ∙
          none_pass test (λ e. is_eq (place_cmp (place_of e) (run, k))) es x (sym found) at)
      meets x at (Some e) found passed =
          let place : place_of x ≡ (run, k) = entry_at_place es run k x at in
          let less : key_cmp k e.key ≡ Less = is_less (key_cmp k e.key) passed in
          let part : e.part ≡ run = in_run e (first_such_passes test es e (sym found)) in
          ⊎_elim
          (λ same. let equal : key_cmp k e.key ≡ Equal = ap (λ (q : Place). key_cmp k q.1) (ap place_of same ∙ place) ∙
          key_cmp-itself k in absurd (cc (sym equal ∙ less)))
          (λ below.
          let keys : key_cmp e.key k ≡ Less = sym (place_cmp-same run e.key k) ∙ ap (λ p. place_cmp (p, e.key) (run, k))
          (sym part) ∙ ap (place_cmp (place_of e)) (sym place) ∙ below in
          absurd (cc (sym (flipped k e.key Less keys) ∙ less)))
          (first_of_both test (λ f. is_eq (place_cmp (place_of f) (run, k))) es e x rising (sym found) at
          (tests x place))

      by_cases : (o : Option Entry) → entry_at es run k ≡ o → find es run k ≡ None
      by_cases None at = ap (option_map slot_of) at
      by_cases (Some x) at = absurd (meets x at r found passed)

  found_there : (e : Entry) → Some e ≡ first_such test es → (e.part ≡ run) × (entry_at es run e.key ≡ Some e)
  found_there e found =
      let part = in_run e (first_such_passes test es e (sym found)) in (
        part,
        ap (λ p. entry_at es p e.key) (sym part) ∙ first_such_all (λ x. entry_at es x.part x.key ≡ Some x) test es
            e (all_found es rising) (sym found),
      )

-- ---- the walk

-- in the run the entries below the next are ghosts of what was, and all else is as it was
pub record Buries (was es : List Entry) (run : ℕ) (next : Option Entry) : Type 0 where
  pub rising : IsRising es
  pub others : (p : ℕ) (k : OrderedKey) → (p == run) ≡ false → find es p k ≡ find was p k
  pub here : (k : OrderedKey) → find es run k ≡ cond (is_passed next k) (ghosted (find was run k)) (find was run k)
  pub ahead : (e : Entry) → next ≡ Some e → (e.part ≡ run) × (entry_at es run e.key ≡ Some e)

abbrev from_test : ℕ → OrderedKey → Entry → Bool
from_test run key e = e.part == run && is_ge (place_cmp (place_of e) (run, key))

abbrev above_test : ℕ → OrderedKey → Entry → Bool
above_test run key e = e.part == run && is_gt (place_cmp (place_of e) (run, key))

first_of : (a b : Bool) → (a && b) ≡ true → a ≡ true
first_of true b h = refl
first_of false b h = absurd (false≢true h)

second_of : (a b : Bool) → (a && b) ≡ true → b ≡ true
second_of true b h = h
second_of false b h = absurd (false≢true h)

in_from : (run : ℕ) (key : OrderedKey) (x : Entry) → from_test run key x ≡ true → x.part ≡ run
in_from run key x h = eqb-true x.part run (first_of (x.part == run) (is_ge (place_cmp (place_of x) (run, key))) h)

in_above : (run : ℕ) (key : OrderedKey) (x : Entry) → above_test run key x ≡ true → x.part ≡ run
in_above run key x h = eqb-true x.part run (first_of (x.part == run) (is_gt (place_cmp (place_of x) (run, key))) h)

not_lt : (o : Ordering) → is_lt o ≡ false → is_ge o ≡ true
not_lt Less h = absurd (true≢false h)
not_lt Equal h = refl
not_lt Greater h = refl

pub starts : (es : List Entry) (run : ℕ) (least : OrderedKey) (r : Option Entry) → IsRising es → IsLeast least →
    r ≡ next_from es run least → Buries es es run r
starts es run least r rising is_least found = record {
  rising = rising;
  others = λ p k n. refl;
  here = λ k. ⊎_elim
      (λ yes.
      let none : find es run k ≡ None = none_before run es rising (from_test run least) (in_from run least) r found k
      yes (λ x place.
      let part : x.part ≡ run = ap (λ (q : Place). q.0) place in
      and_from (x.part == run) (is_ge (place_cmp (place_of x) (run, least)))
      (ap (λ p. p == run) part ∙ nat_eq_equiv.refl run)
      (ap (λ (q : Place). is_ge (place_cmp q (run, least))) place ∙ ap is_ge (place_cmp-same run k least) ∙
      not_lt (key_cmp k least) (is_least k))) in
      none ∙ sym (ap ghosted none) ∙ sym (cond-true (is_passed r k) (ghosted (find es run k)) (find es run k) yes))
      (λ no. sym (cond-false (is_passed r k) (ghosted (find es run k)) (find es run k) no))
      (cases_Bool (is_passed r k));
  ahead = λ e is. found_there run es rising (from_test run least) (in_from run least) e (sym is ∙ found);
}

-- at the end of the partition all its entries are ghosts
pub ends : (was es : List Entry) (run : ℕ) (r : Option Entry) → Buries was es run r → r ≡ None →
    (p : ℕ) (k : OrderedKey) → find es p k ≡ cond (p == run) (ghosted (find was p k)) (find was p k)
ends was es run r b none p k =
    ⊎_elim
    (λ yes.
    let part : p ≡ run = eqb-true p run yes in
    ap (λ q. find es q k) part ∙ b.here k ∙ cond-true (is_passed r k) (ghosted (find was run k)) (find was run k)
    (ap (λ o. is_passed o k) none)
    ∙ ap (λ q. ghosted (find was q k)) (sym part) ∙
    sym (cond-true (p == run) (ghosted (find was p k)) (find was p k) yes))
    (λ no. b.others p k no ∙ sym (cond-false (p == run) (ghosted (find was p k)) (find was p k) no))
    (cases_Bool (p == run))

module _ (was es : List Entry) (run : ℕ) (e : Entry) (b : Buries was es run (Some e)) where
  pub stands : find es run e.key ≡ Some (slot_of e)
  stands = ap (option_map slot_of) (b.ahead e refl).1

  pub is_there : IsSome (find es run e.key)
  is_there = ap is_some stands

  module _ (es' : List Entry) (r : Option Entry) (set : es' ≡ set_entry es run e.key e.value true)
      (rising' : IsRising es') (found : r ≡ after es' run e.key) where
    at : (p : ℕ) (k : OrderedKey) → find es' p k ≡ cond (same_place p k run e.key) (ghosted (find es p k)) (find es p k)
    at p k = ap (λ l. find l p k) set ∙ buried es run e.key e.value e.is_ghost stands p k

    -- what stands at or below the entry is passed
    passed_on : (k : OrderedKey) → key_cmp e.key k ≢ Less → is_passed r k ≡ true
    passed_on k h = by_cases r found
      where
        below : (x : Entry) (o : Ordering) → key_cmp e.key k ≡ o → key_cmp e.key x.key ≡ Less →
            is_lt (key_cmp k x.key) ≡ true
        below x Less o less = absurd (h o)
        below x Equal o less = let same : e.key ≡ k = key_cmp-exact e.key k o in
            ap (λ q. is_lt (key_cmp q x.key)) (sym same) ∙ ap is_lt less
        below x Greater o less = ap is_lt (key_cmp-total.trans k e.key x.key (flipped k e.key Greater o) less)

        by_cases : (r : Option Entry) → r ≡ after es' run e.key → is_passed r k ≡ true
        by_cases None found = refl
        by_cases (Some x) found =
            let passes = first_such_passes (above_test run e.key) es' x (sym found) in
            let part : x.part ≡ run = in_above run e.key x passes in
            let above : place_cmp (place_of x) (run, e.key) ≡ Greater = is_greater (place_cmp (place_of x) (run, e.key))
            (second_of (x.part == run) (is_gt (place_cmp (place_of x) (run, e.key))) passes) in
            let keys : key_cmp x.key e.key ≡ Greater = sym (place_cmp-same run x.key e.key) ∙
            ap (λ p. place_cmp (p, x.key) (run, e.key)) (sym part) ∙ above in
            below x (key_cmp e.key k) refl (flipped e.key x.key Greater keys)

    here_after : (k : OrderedKey) (o : Ordering) → key_cmp e.key k ≡ o → find es' run k ≡ cond (is_passed r k)
        (ghosted (find was run k)) (find was run k)
    here_after k Equal o =
        let same : e.key ≡ k = key_cmp-exact e.key k o in
        let in_place : same_place run k run e.key ≡ true =
        ap is_eq (place_cmp-same run k e.key ∙ ap (λ q. key_cmp q e.key) (sym same) ∙ key_cmp-itself e.key) in
        let ahead : is_passed (Some e) k ≡ false = ap is_lt (ap (λ q. key_cmp q e.key) (sym same) ∙
        key_cmp-itself e.key) in
        at run k ∙ cond-true (same_place run k run e.key) (ghosted (find es run k)) (find es run k) in_place
        ∙ ap ghosted (b.here k ∙ cond-false (is_passed (Some e) k) (ghosted (find was run k)) (find was run k) ahead)
        ∙ sym (cond-true (is_passed r k) (ghosted (find was run k)) (find was run k)
        (passed_on k (λ less. absurd (cc (sym o ∙ less)))))
    here_after k Greater o =
        let less : key_cmp k e.key ≡ Less = flipped k e.key Greater o in
        let beside : same_place run k run e.key ≡ false = ap is_eq (place_cmp-same run k e.key ∙ less) in
        at run k ∙ cond-false (same_place run k run e.key) (ghosted (find es run k)) (find es run k) beside
        ∙ b.here k ∙ cond-true (is_passed (Some e) k) (ghosted (find was run k)) (find was run k) (ap is_lt less)
        ∙ sym (cond-true (is_passed r k) (ghosted (find was run k)) (find was run k)
        (passed_on k (λ less. absurd (cc (sym o ∙ less)))))
    here_after k Less o =
        let more : key_cmp k e.key ≡ Greater = flipped k e.key Less o in
        let beside : same_place run k run e.key ≡ false = ap is_eq (place_cmp-same run k e.key ∙ more) in
        let kept : find es' run k ≡ find was run k =
        at run k ∙ cond-false (same_place run k run e.key) (ghosted (find es run k)) (find es run k) beside
        ∙ b.here k ∙ cond-false (is_passed (Some e) k) (ghosted (find was run k)) (find was run k) (ap is_lt more) in
        ⊎_elim
        (λ yes.
        let none : find es' run k ≡ None = none_before run es' rising' (above_test run e.key) (in_above run e.key) r
        found k yes (λ x place.
        let part : x.part ≡ run = ap (λ (q : Place). q.0) place in
        and_from (x.part == run) (is_gt (place_cmp (place_of x) (run, e.key)))
        (ap (λ p. p == run) part ∙ nat_eq_equiv.refl run)
        (ap (λ (q : Place). is_gt (place_cmp q (run, e.key))) place ∙ ap is_gt (place_cmp-same run k e.key ∙ more))) in
        none ∙ ap ghosted (sym none ∙ kept) ∙ sym (cond-true (is_passed r k) (ghosted (find was run k)) (find was run k)
        yes))
        (λ no. kept ∙ sym (cond-false (is_passed r k) (ghosted (find was run k)) (find was run k) no))
        (cases_Bool (is_passed r k))

    pub goes_on : Buries was es' run r
    goes_on = record {
      rising = rising';
      others = λ p k n.
          at p k ∙ cond-false (same_place p k run e.key) (ghosted (find es p k)) (find es p k)
          (other_part p run k e.key (λ same. both_ways (p == run) n
          (ap (λ q. q == run) same ∙ nat_eq_equiv.refl run)))
          ∙ b.others p k n;
      here = λ k. here_after k (key_cmp e.key k) refl;
      ahead = λ x is. found_there run es' rising' (above_test run e.key) (in_above run e.key) x (sym is ∙ found);
    }

-- ---- the work that is left

abbrev pub count : (Entry → Bool) → List Entry → ℕ
count test [] = 0
count test (e ∷ es) = cond (test e) (suc (count test es)) (count test es)

-- how many of the entries are not below the next
abbrev pub work : List Entry → Option Entry → ℕ
work es None = 0
work es (Some e) = count (λ x. is_ge (place_cmp (place_of x) (place_of e))) es

module _ (a b : Entry → Bool) (implies : (e : Entry) → b e ≡ true → a e ≡ true) where
  count_le : (es : List Entry) → count b es ≤ count a es
  count_le [] = omega arith
  count_le (e ∷ es) =
      let rest = count_le es in
      ⊎_elim
      (λ yes. let in_b = cond-true (b e) (suc (count b es)) (count b es) yes in
      let in_a = cond-true (a e) (suc (count a es)) (count a es) (implies e yes) in omega (arith, in_a, in_b))
      (λ no.
      let out_b = cond-false (b e) (suc (count b es)) (count b es) no in
      ⊎_elim
      (λ yes. let in_a = cond-true (a e) (suc (count a es)) (count a es) yes in omega (arith, in_a, out_b))
      (λ not. let out_a = cond-false (a e) (suc (count a es)) (count a es) not in omega (arith, out_a, out_b))
      (cases_Bool (a e)))
      (cases_Bool (b e))

  -- an entry passes the one test and not the other
  count_lt : (other : Entry → Bool) (es : List Entry) (x : Entry) → first_such other es ≡ Some x → a x ≡ true →
      b x ≡ false → count b es < count a es
  count_lt other [] x h in_a not_b = absurd (none-some x h)
  count_lt other (e ∷ es) x h in_a not_b =
      ⊎_elim
      (λ it.
      let same : e ≡ x = same_Some _ _ (sym (cond-true (other e) (Some e) (first_such other es) it) ∙ h) in
      let more = cond-true (a e) (suc (count a es)) (count a es) (subst (λ (y : Entry). a y ≡ true) (sym same) in_a) in
      let less = cond-false (b e) (suc (count b es)) (count b es)
      (subst (λ (y : Entry). b y ≡ false) (sym same) not_b) in
      let rest = count_le es in
      omega (arith, more, less, rest))
      (λ later.
      let rest = count_lt other es x (sym (cond-false (other e) (Some e) (first_such other es) later) ∙ h) in_a not_b in
      ⊎_elim
      (λ yes. let in_b = cond-true (b e) (suc (count b es)) (count b es) yes in
      let also = cond-true (a e) (suc (count a es)) (count a es) (implies e yes) in omega (arith, also, in_b, rest))
      (λ no.
      let out_b = cond-false (b e) (suc (count b es)) (count b es) no in
      ⊎_elim
      (λ yes. let also = cond-true (a e) (suc (count a es)) (count a es) yes in omega (arith, also, out_b, rest))
      (λ not. let out_a = cond-false (a e) (suc (count a es)) (count a es) not in omega (arith, out_a, out_b, rest))
      (cases_Bool (a e)))
      (cases_Bool (b e)))
      (cases_Bool (other e))

-- what is at or above a place is at or above a lower one
ge_down : (p low high : Place) → place_cmp low high ≡ Less → is_ge (place_cmp p high) ≡ true →
    is_ge (place_cmp p low) ≡ true
ge_down p low high less h = by_cases (place_cmp p low) refl
  where
    by_cases : (o : Ordering) → place_cmp p low ≡ o → is_ge (place_cmp p low) ≡ true
    by_cases Less o = absurd (false≢true (sym (ap is_ge (place_cmp-total.trans p low high o less)) ∙ h))
    by_cases Equal o = ap is_ge o
    by_cases Greater o = ap is_ge o

module _ (was es : List Entry) (run : ℕ) (e : Entry) (b : Buries was es run (Some e)) where
  pub goes_down : (es' : List Entry) (r : Option Entry) → r ≡ after es' run e.key → work was r < work was (Some e)
  goes_down es' r found = by_cases r found
    where
      place : place_of e ≡ (run, e.key)
      place = ap (λ p. (p, e.key)) (b.ahead e refl).0

      stood : find was run e.key ≡ Some (slot_of e)
      stood =
          sym (b.here e.key ∙ cond-false (is_passed (Some e) e.key) (ghosted (find was run e.key)) (find was run e.key)
          (ap is_lt (key_cmp-itself e.key)))
          ∙ stands was es run e b

      -- in the list of before an entry stands at the same place
      first : (x : Entry) × (entry_at was run e.key ≡ Some x) × (slot_of x ≡ slot_of e)
      first = entry_of (entry_at was run e.key) (slot_of e) stood

      same : place_of first.0 ≡ place_of e
      same = entry_at_place was run e.key first.0 first.1 ∙ sym place

      counted : is_ge (place_cmp (place_of first.0) (place_of e)) ≡ true
      counted = ap is_ge (ap (λ q. place_cmp q (place_of e)) same ∙ place_cmp-itself (place_of e))

      by_cases : (r : Option Entry) → r ≡ after es' run e.key → work was r < work was (Some e)
      by_cases None found =
          let less = count_lt (λ x. is_ge (place_cmp (place_of x) (place_of e))) (λ x. false)
          (λ x h. absurd (false≢true h))
          (λ x. is_eq (place_cmp (place_of x) (run, e.key))) was first.0 first.1 counted refl in
          omega (arith, less)
      by_cases (Some x) found =
          let passes = first_such_passes (above_test run e.key) es' x (sym found) in
          let above : place_cmp (place_of x) (run, e.key) ≡ Greater = is_greater (place_cmp (place_of x) (run, e.key))
          (second_of (x.part == run) (is_gt (place_cmp (place_of x) (run, e.key))) passes) in
          let below : place_cmp (place_of e) (place_of x) ≡ Less = turned_greater (place_of x) (place_of e)
          (ap (place_cmp (place_of x)) place ∙ above) in
          count_lt (λ f. is_ge (place_cmp (place_of f) (place_of e))) (λ f. is_ge (place_cmp (place_of f) (place_of x)))
          (λ f h. ge_down (place_of f) (place_of e) (place_of x) below h)
          (λ f. is_eq (place_cmp (place_of f) (run, e.key))) was first.0 first.1 counted
          (ap is_ge (ap (λ q. place_cmp q (place_of x)) same ∙ below))
