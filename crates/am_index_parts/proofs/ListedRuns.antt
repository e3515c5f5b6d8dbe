-- The runs that are listed, after each change.
use Rattle.std.proofs.Common.{◌≡◌, ◌≢◌, ℕ, zero, suc, ◌+◌, ◌-◌, ◌<◌, ◌≤◌, Bool, true, false, cond, List, [], ◌∷◌, ◌++◌}
use Rattle.std.proofs.Common.{length, get_or, set, take, drop, not, refl, sym, ap, ◌∙◌, subst, ⊎_elim, arith}
use Rattle.std.specs.Prelude.{IsSome, Some, slice_get, ◌==◌}
use Rattle.std.proofs.lemmas.Bool.{or_left, or_right, or_cases, cases_eq, cases_lt, eqb-true, eq-eqb, false≢true}
use Rattle.std.proofs.lemmas.List.{length-map}
use Rattle.std.proofs.lemmas.Option.{get_or_from_slice_get, none-some}
use Rattle.std.specs.List.{AllByRecursion, insert, remove}
use Rattle.am_record.specs.OrderedKey.{OrderedKey}
use Rattle.am_record.specs.Plain.{Records}
use Rattle.am_record.specs.declared.entry.Entry.{Entry}
use Rattle.am_record.proofs.Lists.{AllByRecursion-map, AllByRecursion-append, AllByRecursion-at}
use Rattle.am_index.specs.Entries.{find, insert_entry, set_entry, remove_entry}
use Rattle.am_index.specs.Runs.{run_entries}
use Rattle.am_index_parts.specs.declared.catalog.OpenRun.{OpenRun}
use Rattle.am_index_parts.specs.Catalogs.{left_in, live_of, IsOpenRun, parts_of, PartsRise, is_one_of, AreListed}
use Rattle.am_index_parts.specs.Catalogs.{IsRunAt}
use Rattle.am_index_parts.specs.Catalogs.{IsGapAt}
use Rattle.am_index_parts.specs.Catalogs.{HasMore, HasTurned, IsNext, HasRuns}
use Rattle.am_index_parts.proofs.Alive.{one, was_live, alive_inserted, alive_removed, alive_set, alive_append}
use Rattle.am_index_parts.proofs.Alive.{alive_run, alive_at_most}
use Rattle.am_index_parts.proofs.Counts.{all_if, nothing_if, one_if, none_if, all_inserted, all_removed, all_set}
use Rattle.am_index_parts.proofs.Counts.{count_inserted}
use Rattle.am_index_parts.proofs.Counts.{count_removed}
use Rattle.am_index_parts.proofs.Counts.{count_set, count_append, count_run, none_in_run, none_counted, none_left}

-- ---- rising partitions

pub below_at : (p : ℕ) (rs : List OpenRun) (i : ℕ) (d : OpenRun) → AllByRecursion (λ q. p < q) (parts_of rs) →
    i < length rs → p < (get_or rs i d).part
below_at p [] i d up lt = absurd (omega arith)
below_at p (r ∷ rs) zero d up lt = up.0
below_at p (r ∷ rs) (suc i) d up lt = below_at p rs i d up.1 (omega arith)

pub one_at : (rs : List OpenRun) (i : ℕ) (d : OpenRun) → i < length rs → is_one_of (parts_of rs) (get_or rs i d).part ≡
    true
one_at [] i d lt = absurd (omega arith)
one_at (r ∷ rs) zero d lt = or_left (r.part == r.part) (is_one_of (parts_of rs) r.part) (eq-eqb r.part r.part refl)
one_at (r ∷ rs) (suc i) d lt = or_right (r.part == (get_or rs i d).part) (is_one_of (parts_of rs) (get_or rs i d).part)
    (one_at rs i d (omega arith))

-- the last run's partition is one of these
pub last_stands : (runs : List OpenRun) (r : OpenRun) → slice_get runs (length runs - 1) ≡ Some r →
    is_one_of (0 ∷ parts_of runs) r.part ≡ true
last_stands [] r is = absurd (none-some r is)
last_stands (q ∷ runs) r is = let all = q ∷ runs in let at = length all - 1 in
    or_right (0 == r.part) (is_one_of (parts_of all) r.part)
    (subst (λ (o : OpenRun). is_one_of (parts_of all) o.part ≡ true) (get_or_from_slice_get all at r r is)
    (one_at all at r (omega arith)))

pub not_one : (p : ℕ) (rs : List OpenRun) → AllByRecursion (λ (r : OpenRun). r.part ≢ p) rs →
    is_one_of (parts_of rs) p ≡ true → ⊥
not_one p [] others one = false≢true one
not_one p (r ∷ rs) others one = ⊎_elim (λ here. others.0 (eqb-true r.part p here))
    (λ later. not_one p rs others.1 later) (or_cases (r.part == p) (is_one_of (parts_of rs) p) one)

pub parts_set : (rs : List OpenRun) (i : ℕ) (s : OpenRun) → i < length rs → s.part ≡ (get_or rs i s).part →
    parts_of (set rs i s) ≡ parts_of rs
parts_set [] i s lt same = absurd (omega arith)
parts_set (r ∷ rs) zero s lt same = ap (λ (p : ℕ). p ∷ parts_of rs) same
parts_set (r ∷ rs) (suc i) s lt same = ap (λ l. r.part ∷ l) (parts_set rs i s (omega arith) same)

-- ---- one run in place of another, none in its place, or one more

module _ (part : ℕ) (P Q : OpenRun → Type 0) (move : (r : OpenRun) → r.part ≢ part → P r → Q r) where
  later_moved : (p : ℕ) (rs : List OpenRun) → part ≤ p → AllByRecursion (λ q. p < q) (parts_of rs) →
      AllByRecursion P rs → AllByRecursion Q rs
  later_moved p [] le up a = tt
  later_moved p (r ∷ rs) le up a = (
    let lt : p < r.part = up.0 in move r (λ same. absurd (omega (arith, same, le, lt)))
        a.0,
    later_moved p rs le up.1 a.1,
  )

  pub moved : (rs : List OpenRun) → AllByRecursion (λ (r : OpenRun). r.part ≢ part) rs → AllByRecursion P rs →
      AllByRecursion Q rs
  moved [] others a = tt
  moved (r ∷ rs) others a = (move r others.0 a.0, moved rs others.1 a.1)

  pub replaced : (rs : List OpenRun) (i : ℕ) (s : OpenRun) → PartsRise (parts_of rs) → i < length rs →
      (get_or rs i s).part ≡ part → Q s → AllByRecursion P rs → AllByRecursion Q (set rs i s)
  replaced [] i s up lt here q a = absurd (omega arith)
  replaced (r ∷ rs) zero s up lt here q a = (q, later_moved r.part rs (omega (arith, here)) up.0 a.1)
  replaced (r ∷ rs) (suc i) s up lt here q a =
      let under : r.part < (get_or rs i s).part = below_at r.part rs i s up.0 (omega arith) in
      (move r (λ same. absurd (omega (arith, same, under, here))) a.0, replaced rs i s up.1 (omega arith) here q a.1)

  pub taken_out : (rs : List OpenRun) (i : ℕ) (d : OpenRun) → PartsRise (parts_of rs) → i < length rs →
      (get_or rs i d).part ≡ part → AllByRecursion P rs → AllByRecursion Q (remove rs i)
  taken_out [] i d up lt here a = absurd (omega arith)
  taken_out (r ∷ rs) zero d up lt here a = later_moved r.part rs (omega (arith, here)) up.0 a.1
  taken_out (r ∷ rs) (suc i) d up lt here a =
      let under : r.part < (get_or rs i d).part = below_at r.part rs i d up.0 (omega arith) in
      (move r (λ same. absurd (omega (arith, same, under, here))) a.0, taken_out rs i d up.1 (omega arith) here a.1)

all_put : {X : Type 0} (Q : X → Type 0) (xs : List X) (i : ℕ) (s : X) → Q s → AllByRecursion Q xs →
    AllByRecursion Q (insert xs i s)
all_put Q [] zero s q a = (q, tt)
all_put Q [] (suc i) s q a = (q, tt)
all_put Q (x ∷ xs) zero s q a = (q, a)
all_put Q (x ∷ xs) (suc i) s q a = (a.0, all_put Q xs i s q a.1)

all_out : (p : ℕ) (rs : List OpenRun) (i : ℕ) → AllByRecursion (λ q. p < q) (parts_of rs) →
    AllByRecursion (λ q. p < q) (parts_of (remove rs i))
all_out p [] zero a = tt
all_out p [] (suc i) a = tt
all_out p (r ∷ rs) zero a = a.1
all_out p (r ∷ rs) (suc i) a = (a.0, all_out p rs i a.1)

rises_out : (rs : List OpenRun) (i : ℕ) → PartsRise (parts_of rs) → PartsRise (parts_of (remove rs i))
rises_out [] zero up = tt
rises_out [] (suc i) up = tt
rises_out (r ∷ rs) zero up = up.1
rises_out (r ∷ rs) (suc i) up = (all_out r.part rs i up.0, rises_out rs i up.1)

one_left : (p : ℕ) (rs : List OpenRun) (i : ℕ) (d : OpenRun) → i < length rs → (get_or rs i d).part ≢ p →
    is_one_of (parts_of rs) p ≡ true → is_one_of (parts_of (remove rs i)) p ≡ true
one_left p [] i d lt other one = absurd (omega arith)
one_left p (r ∷ rs) zero d lt other one = ⊎_elim (λ here. absurd (other (eqb-true r.part p here))) (λ later. later)
    (or_cases (r.part == p) (is_one_of (parts_of rs) p) one)
one_left p (r ∷ rs) (suc i) d lt other one =
    ⊎_elim
    (λ here. or_left (r.part == p) (is_one_of (parts_of (remove rs i)) p) here)
    (λ later. or_right (r.part == p) (is_one_of (parts_of (remove rs i)) p)
    (one_left p rs i d (omega arith) other later))
    (or_cases (r.part == p) (is_one_of (parts_of rs) p) one)

one_put : (p : ℕ) (rs : List OpenRun) (i : ℕ) (s : OpenRun) → is_one_of (parts_of rs) p ≡ true →
    is_one_of (parts_of (insert rs i s)) p ≡ true
one_put p [] i s one = absurd (false≢true one)
one_put p (r ∷ rs) zero s one = or_right (s.part == p) (is_one_of (parts_of (r ∷ rs)) p) one
one_put p (r ∷ rs) (suc i) s one =
    ⊎_elim
    (λ here. or_left (r.part == p) (is_one_of (parts_of (insert rs i s)) p) here)
    (λ later. or_right (r.part == p) (is_one_of (parts_of (insert rs i s)) p) (one_put p rs i s later))
    (or_cases (r.part == p) (is_one_of (parts_of rs) p) one)

put_one : (rs : List OpenRun) (i : ℕ) (s : OpenRun) → is_one_of (parts_of (insert rs i s)) s.part ≡ true
put_one [] zero s = or_left (s.part == s.part) false (eq-eqb s.part s.part refl)
put_one [] (suc i) s = or_left (s.part == s.part) false (eq-eqb s.part s.part refl)
put_one (r ∷ rs) zero s = or_left (s.part == s.part) (is_one_of (parts_of (r ∷ rs)) s.part) (eq-eqb s.part s.part refl)
put_one (r ∷ rs) (suc i) s = or_right (r.part == s.part) (is_one_of (parts_of (insert rs i s)) s.part) (put_one rs i s)

under_put : (p : ℕ) (rs : List OpenRun) (i : ℕ) (s : OpenRun) → p < s.part → AllByRecursion (λ q. p < q) (parts_of rs) →
    AllByRecursion (λ q. p < q) (parts_of (insert rs i s))
under_put p [] zero s lt a = (lt, tt)
under_put p [] (suc i) s lt a = (lt, tt)
under_put p (r ∷ rs) zero s lt a = (lt, a)
under_put p (r ∷ rs) (suc i) s lt a = (a.0, under_put p rs i s lt a.1)

over_parts : (p : ℕ) (rs : List OpenRun) → AllByRecursion (λ (r : OpenRun). p < r.part) rs →
    AllByRecursion (λ q. p < q) (parts_of rs)
over_parts p [] a = tt
over_parts p (r ∷ rs) a = (a.0, over_parts p rs a.1)

rises_put : (rs : List OpenRun) (i : ℕ) (s : OpenRun) → PartsRise (parts_of rs) →
    AllByRecursion (λ (r : OpenRun). r.part < s.part) (take i rs) → AllByRecursion (λ (r : OpenRun). s.part < r.part)
    (drop i rs) → PartsRise (parts_of (insert rs i s))
rises_put [] zero s up below above = (tt, tt)
rises_put [] (suc i) s up below above = (tt, tt)
rises_put (r ∷ rs) zero s up below above = (over_parts s.part (r ∷ rs) above, up)
rises_put (r ∷ rs) (suc i) s up below above =
    (under_put r.part rs i s below.0 up.0, rises_put rs i s up.1 below.1 above)

pub no_run_at_gap : (p : ℕ) (rs : List OpenRun) (i : ℕ) → AllByRecursion (λ (r : OpenRun). r.part < p) (take i rs) →
    AllByRecursion (λ (r : OpenRun). p < r.part) (drop i rs) → AllByRecursion (λ (r : OpenRun). r.part ≢ p) rs
no_run_at_gap p [] i below above = tt
no_run_at_gap p (r ∷ rs) zero below above = let lt : p < r.part = above.0 in
    ((λ same. absurd (omega (arith, same, lt))), no_run_at_gap p rs zero (nothing rs) above.1)
  where
    nothing : (rs : List OpenRun) → AllByRecursion (λ (r : OpenRun). r.part < p) (take 0 rs)
    nothing [] = tt
    nothing (r ∷ rs) = tt
no_run_at_gap p (r ∷ rs) (suc i) below above = let lt : r.part < p = below.0 in
    ((λ same. absurd (omega (arith, same, lt))), no_run_at_gap p rs i below.1 above)

-- a run that isn't listed has no entry
pub none_at_gap : {es : List Entry} {n : ℕ} {runs : List OpenRun} → AreListed es n runs → (part i : ℕ) →
    IsGapAt runs part i → 0 < part → AllByRecursion (λ (e : Entry). e.part ≢ part) es
none_at_gap {es} {n} {runs} h part i gap lt =
    AllByRecursion-map (λ e. 0 < e.part → is_one_of (parts_of runs) e.part ≡ true) (λ e. e.part ≢ part)
    (λ e was same. not_one part runs (no_run_at_gap part runs i gap.below gap.above)
    (ap (is_one_of (parts_of runs)) (sym same) ∙ was (omega (arith, same, lt)))) es h.every

-- ---- an entry more

module _ (es : List Entry) (x : Entry) where
  untouched : (r : OpenRun) → r.part ≢ x.part → IsOpenRun es r → IsOpenRun (insert_entry es x) r
  untouched r other h = record {
    is_run = h.is_run;
    some = h.some;
    exact = omega (arith, h.exact, count_inserted r.part es x, none_if x.part r.part (λ same. other (sym same)));
    live = omega (
      arith,
      h.live,
      alive_inserted r.part es x,
      nothing_if x.part r.part (one (not x.is_ghost)) (λ same. other (sym same)),
    );
  }

  grown : (r s : OpenRun) → r.part ≡ x.part → HasMore r (not x.is_ghost) s → IsOpenRun es r →
      IsOpenRun (insert_entry es x) s
  grown r s here more h = record {
    is_run = omega (arith, more.part, h.is_run);
    some = omega (arith, more.left);
    exact =
        let e : r.left + 1 ≡ left_in r.part (insert_entry es x) =
        omega (arith, h.exact, count_inserted r.part es x, one_if x.part r.part (sym here)) in
        more.left ∙ e ∙ ap (λ (p : ℕ). left_in p (insert_entry es x)) (sym more.part);
    live =
        let e : r.live + one (not x.is_ghost) ≡ live_of r.part (insert_entry es x) =
        omega (
          arith,
          h.live,
          alive_inserted r.part es x,
          all_if x.part r.part (one (not x.is_ghost)) (sym here),
        ) in
        more.live ∙ e ∙ ap (λ (p : ℕ). live_of p (insert_entry es x)) (sym more.part);
  }

module _ {es : List Entry} {n : ℕ} {runs : List OpenRun} (h : AreListed es n runs) (x : Entry)
  where
    pub final_more : x.part ≡ 0 → AreListed (insert_entry es x) (n + 1) runs
    final_more final = record {
      counted = omega (arith, h.counted, count_inserted 0 es x, one_if x.part 0 final);
      each = AllByRecursion-map (IsOpenRun es) (IsOpenRun (insert_entry es x))
          (λ r it. untouched es x r (λ same. let some : 0 < r.part = it.is_run in
          absurd (omega (arith, same, final, some)))
          it) runs h.each;
      every = all_inserted (λ e. 0 < e.part → is_one_of (parts_of runs) e.part ≡ true) es x
          (λ lt. absurd (omega (arith, lt, final))) h.every;
      rising = h.rising;
    }

    module _ (lt : 0 < x.part) where
      not_final : ◌≡◌ {A = ℕ} (cond (x.part == 0) 1 0) 0
      not_final = none_if x.part 0 (λ same. absurd (omega (arith, same, lt)))

      pub run_more : (i : ℕ) (s : OpenRun) → IsRunAt runs x.part i → HasMore (get_or runs i s) (not x.is_ghost) s →
          AreListed (insert_entry es x) n (set runs i s)
      run_more i s at more =
          let same : parts_of (set runs i s) ≡ parts_of runs = parts_set runs i s at.in_range more.part in
          record {
            counted = omega (arith, h.counted, count_inserted 0 es x, not_final);
            each = replaced x.part (IsOpenRun es) (IsOpenRun (insert_entry es x)) (untouched es x) runs i s
                h.rising at.in_range (at.here s)
                (grown es x (get_or runs i s) s (at.here s) more
                (AllByRecursion-at (IsOpenRun es) runs i s h.each at.in_range)) h.each;
            every = subst (λ ps. AllByRecursion (λ (e : Entry). 0 < e.part → is_one_of ps e.part ≡ true)
                (insert_entry es x)) (sym same)
                (all_inserted (λ e. 0 < e.part → is_one_of (parts_of runs) e.part ≡ true) es x
                (λ _. ap (is_one_of (parts_of runs)) (sym (at.here s)) ∙ one_at runs i s at.in_range) h.every);
            rising = subst PartsRise (sym same) h.rising;
          }

      pub opened : (i : ℕ) (s : OpenRun) → IsGapAt runs x.part i → s.part ≡ x.part → s.left ≡ 1 →
          s.live ≡ one (not x.is_ghost) → AreListed (insert_entry es x) n (insert runs i s)
      opened i s gap here single lives =
          let others = no_run_at_gap x.part runs i gap.below gap.above in
          let absent = none_at_gap h x.part i gap lt in
          record {
            counted = omega (arith, h.counted, count_inserted 0 es x, not_final);
            each = all_put (IsOpenRun (insert_entry es x)) runs i s
                (record {
                  is_run = omega (arith, here, lt);
                  some = omega (arith, single);
                  exact =
                      let none : left_in x.part es ≡ 0 = none_counted x.part es absent in
                      let now : ◌≡◌ {A = ℕ} 1 (left_in x.part (insert_entry es x)) =
                      omega (arith, none, count_inserted x.part es x, one_if x.part x.part refl) in
                      single ∙ now ∙ ap (λ (p : ℕ). left_in p (insert_entry es x)) (sym here);
                  live =
                      let now : one (not x.is_ghost) ≡ live_of x.part (insert_entry es x) =
                      omega (
                        arith,
                        none_counted x.part es absent,
                        alive_at_most x.part es,
                        alive_inserted x.part es x,
                        all_if x.part x.part (one (not x.is_ghost)) refl,
                      ) in
                      lives ∙ now ∙ ap (λ (p : ℕ). live_of p (insert_entry es x)) (sym here);
                })
                (moved x.part (IsOpenRun es) (IsOpenRun (insert_entry es x)) (untouched es x) runs others
                h.each);
            every = all_inserted (λ e. 0 < e.part → is_one_of (parts_of (insert runs i s)) e.part ≡ true) es x
                (λ _. ap (is_one_of (parts_of (insert runs i s))) (sym here) ∙ put_one runs i s)
                (AllByRecursion-map (λ e. 0 < e.part → is_one_of (parts_of runs) e.part ≡ true)
                (λ e. 0 < e.part → is_one_of (parts_of (insert runs i s)) e.part ≡ true)
                (λ e was some. one_put e.part runs i s (was some)) es h.every);
            rising =
                rises_put runs i s h.rising (AllByRecursion-map (λ (r : OpenRun). r.part < x.part)
                (λ (r : OpenRun). r.part < s.part) (λ r less. omega (arith, less, here)) (take i runs) gap.below)
                (AllByRecursion-map (λ (r : OpenRun). x.part < r.part) (λ (r : OpenRun). s.part < r.part)
                (λ r less. omega (arith, less, here)) (drop i runs) gap.above);
          }

-- ---- an entry less

module _ {es : List Entry} {n : ℕ} {runs : List OpenRun} (h : AreListed es n runs) where
  -- where an entry stands, the partition is counted
  pub some_left : (part : ℕ) (key : OrderedKey) → IsSome (find es part key) → 0 < left_in part es
  some_left part key stands = omega (arith, count_removed part part key es stands, one_if part part refl)

  pub is_listed : (part : ℕ) (key : OrderedKey) → 0 < part → IsSome (find es part key) →
      is_one_of (parts_of runs) part ≡ true
  is_listed part key lt stands = from es h.every (some_left part key stands)
    where
      from : (fs : List Entry) → AllByRecursion (λ (e : Entry). 0 < e.part → is_one_of (parts_of runs) e.part ≡ true)
          fs → 0 < left_in part fs → is_one_of (parts_of runs) part ≡ true
      from [] every some = absurd (omega arith)
      from (e ∷ fs) every some =
          ⊎_elim
          (λ (same : e.part ≡ part). ap (is_one_of (parts_of runs)) (sym same) ∙ every.0 (omega (arith, same, lt)))
          (λ (other : e.part ≢ part). from fs every.1 (omega (arith, some, none_if e.part part other)))
          (cases_eq e.part part)

  module _ (part : ℕ) (key : OrderedKey) (stands : IsSome (find es part key)) where
    left_alone : (r : OpenRun) → r.part ≢ part → IsOpenRun es r → IsOpenRun (remove_entry es part key) r
    left_alone r other it = record {
      is_run = it.is_run;
      some = it.some;
      exact = omega (
        arith,
        it.exact,
        count_removed r.part part key es stands,
        none_if part r.part (λ same. other (sym same)),
      );
      live = omega (
        arith,
        it.live,
        alive_removed r.part part key es stands,
        nothing_if part r.part (one (was_live part key es)) (λ same. other (sym same)),
      );
    }

    every_left : AllByRecursion (λ (e : Entry). 0 < e.part → is_one_of (parts_of runs) e.part ≡ true)
        (remove_entry es part key)
    every_left = all_removed (λ e. 0 < e.part → is_one_of (parts_of runs) e.part ≡ true) part key es h.every

    pub final_less : part ≡ 0 → AreListed (remove_entry es part key) (n - 1) runs
    final_less final = record {
      counted = omega (arith, h.counted, count_removed 0 part key es stands, one_if part 0 final);
      each = AllByRecursion-map (IsOpenRun es) (IsOpenRun (remove_entry es part key))
          (λ r it. left_alone r (λ same. let some : 0 < r.part = it.is_run in absurd (omega (arith, same, final, some)))
          it) runs h.each;
      every = every_left;
      rising = h.rising;
    }

    module _ (lt : 0 < part) (i : ℕ) (at : IsRunAt runs part i) where
      as_counted : n ≡ left_in 0 (remove_entry es part key)
      as_counted = omega (
        arith,
        h.counted,
        count_removed 0 part key es stands,
        none_if part 0 (λ same. absurd (omega (arith, same, lt))),
      )

      -- the run has others left
      pub run_less : (s : OpenRun) → HasMore s (was_live part key es) (get_or runs i s) → 0 < s.left →
          AreListed (remove_entry es part key) n (set runs i s)
      run_less s less some =
          let was = AllByRecursion-at (IsOpenRun es) runs i s h.each at.in_range in
          let same : parts_of (set runs i s) ≡ parts_of runs = parts_set runs i s at.in_range (sym less.part) in
          let its : s.part ≡ part = sym less.part ∙ at.here s in
          let exact : (get_or runs i s).left ≡ left_in part es = was.exact ∙ ap (λ (p : ℕ). left_in p es) (at.here s) in
          let alive : (get_or runs i s).live ≡ live_of part es = was.live ∙ ap (λ (p : ℕ). live_of p es) (at.here s) in
          record {
            counted = as_counted;
            each = replaced part (IsOpenRun es) (IsOpenRun (remove_entry es part key)) left_alone runs i s
                h.rising at.in_range (at.here s)
                (record {
                  is_run = omega (arith, its, lt);
                  some = some;
                  exact =
                      let now : s.left ≡ left_in part (remove_entry es part key) =
                      omega (arith, less.left, exact, count_removed part part key es stands, one_if part part refl) in
                      now ∙ ap (λ (p : ℕ). left_in p (remove_entry es part key)) (sym its);
                  live =
                      let now : s.live ≡ live_of part (remove_entry es part key) =
                      omega (
                        arith,
                        less.live,
                        alive,
                        alive_removed part part key es stands,
                        all_if part part (one (was_live part key es)) refl,
                      ) in
                      now ∙ ap (λ (p : ℕ). live_of p (remove_entry es part key)) (sym its);
                }) h.each;
            every = subst (λ ps. AllByRecursion (λ (e : Entry). 0 < e.part → is_one_of ps e.part ≡ true)
                (remove_entry es part key)) (sym same) every_left;
            rising = subst PartsRise (sym same) h.rising;
          }

      -- it was the last one
      pub run_gone : (d : OpenRun) → (get_or runs i d).left ≤ 1 → AreListed (remove_entry es part key) n
          (remove runs i)
      run_gone d last =
          let was = AllByRecursion-at (IsOpenRun es) runs i d h.each at.in_range in
          let exact : (get_or runs i d).left ≡ left_in part es = was.exact ∙ ap (λ (p : ℕ). left_in p es) (at.here d) in
          let none : left_in part (remove_entry es part key) ≡ 0 =
          omega (arith, last, exact, count_removed part part key es stands, one_if part part refl) in
          record {
            counted = as_counted;
            each = taken_out part (IsOpenRun es) (IsOpenRun (remove_entry es part key)) left_alone runs i d
                h.rising at.in_range (at.here d) h.each;
            every = all_both (remove_entry es part key) every_left (none_left part (remove_entry es part key) none) d;
            rising = rises_out runs i h.rising;
          }
        where
          all_both : (fs : List Entry) → AllByRecursion (λ (e : Entry). 0 < e.part →
              is_one_of (parts_of runs) e.part ≡ true) fs → AllByRecursion (λ (e : Entry). e.part ≢ part) fs →
              (d : OpenRun)
              → AllByRecursion (λ (e : Entry). 0 < e.part → is_one_of (parts_of (remove runs i)) e.part ≡ true) fs
          all_both [] every others d = tt
          all_both (e ∷ fs) every others d = (
            (λ some. one_left e.part runs i d at.in_range
                (λ same. others.0 (sym same ∙ at.here d)) (every.0 some)),
            all_both fs every.1 others.1 d,
          )

-- ---- another value at a place, or another ghost bit

module _ {es : List Entry} {n : ℕ} {runs : List OpenRun} (h : AreListed es n runs) (part : ℕ)
    (key : OrderedKey) (value : List ℕ) (is_ghost : Bool) (stands : IsSome (find es part key)) where
  abbrev edited : List Entry
  edited = set_entry es part key value is_ghost

  -- a run goes on to be counted where as many of its entries are live
  as_alive : (r : OpenRun) → live_of r.part edited ≡ live_of r.part es → IsOpenRun es r → IsOpenRun edited r
  as_alive r same it = record {
    is_run = it.is_run;
    some = it.some;
    exact = it.exact ∙ sym (count_set r.part part key value is_ghost es);
    live = it.live ∙ sym same;
  }

  alive_beside : (p : ℕ) → p ≢ part → live_of p edited ≡ live_of p es
  alive_beside p other =
      let apart : part ≢ p = λ same. other (sym same) in
      omega (
        arith,
        alive_set p part key value is_ghost es stands,
        nothing_if part p (one (was_live part key es)) apart,
        nothing_if part p (one (not is_ghost)) apart,
      )

  every_set : AllByRecursion (λ (e : Entry). 0 < e.part → is_one_of (parts_of runs) e.part ≡ true) edited
  every_set = all_set (λ p k. 0 < p → is_one_of (parts_of runs) p ≡ true) part key value is_ghost es h.every

  listed_as : ((r : OpenRun) → IsOpenRun es r → live_of r.part edited ≡ live_of r.part es) → AreListed edited n runs
  listed_as same = record {
    counted = h.counted ∙ sym (count_set 0 part key value is_ghost es);
    each = AllByRecursion-map (IsOpenRun es) (IsOpenRun edited) (λ r it. as_alive r (same r it) it) runs h.each;
    every = every_set;
    rising = h.rising;
  }

  -- it is as live as before
  pub listed_set : was_live part key es ≡ not is_ghost → AreListed edited n runs
  listed_set same = listed_as (λ r it.
      let its : cond (part == r.part) (one (was_live part key es)) 0 ≡ cond (part == r.part) (one (not is_ghost)) 0 =
      ap (λ (b : Bool). cond (part == r.part) (one b) 0) same in
      omega (arith, its, alive_set r.part part key value is_ghost es stands))

  -- no run has it
  pub final_set : part ≡ 0 → AreListed edited n runs
  final_set final = listed_as (λ r it. alive_beside r.part (λ same.
      let some : 0 < r.part = it.is_run in absurd (omega (arith, same, final, some))))

  -- the run has one more or one less that is live
  pub run_turned : (i : ℕ) (s : OpenRun) → 0 < part → IsRunAt runs part i → was_live part key es ≡ is_ghost →
      HasTurned (get_or runs i s) is_ghost s → AreListed edited n (set runs i s)
  run_turned i s lt at was turned =
      let r = get_or runs i s in
      let it = AllByRecursion-at (IsOpenRun es) runs i s h.each at.in_range in
      let same : parts_of (set runs i s) ≡ parts_of runs = parts_set runs i s at.in_range turned.part in
      let its : s.part ≡ part = turned.part ∙ at.here s in
      let exact : r.left ≡ left_in part es = it.exact ∙ ap (λ (p : ℕ). left_in p es) (at.here s) in
      let alive : r.live ≡ live_of part es = it.live ∙ ap (λ (p : ℕ). live_of p es) (at.here s) in
      let before : one (was_live part key es) ≡ one is_ghost = ap one was in
      record {
        counted = h.counted ∙ sym (count_set 0 part key value is_ghost es);
        each = replaced part (IsOpenRun es) (IsOpenRun edited) (λ q other. as_alive q (alive_beside q.part other))
            runs i s h.rising at.in_range (at.here s)
            (record {
              is_run = omega (arith, its, lt);
              some = omega (arith, turned.left, it.some);
              exact = turned.left ∙ exact ∙ sym (count_set part part key value is_ghost es) ∙
                  ap (λ (p : ℕ). left_in p edited) (sym its);
              live =
                  let now : s.live ≡ live_of part edited =
                  omega (
                    arith,
                    turned.live,
                    alive,
                    before,
                    alive_set part part key value is_ghost es stands,
                    all_if part part (one (was_live part key es)) refl,
                    all_if part part (one (not is_ghost)) refl,
                  ) in
                  now ∙ ap (λ (p : ℕ). live_of p edited) (sym its);
            }) h.each;
        every = subst (λ ps. AllByRecursion (λ (e : Entry). 0 < e.part → is_one_of ps e.part ≡ true) edited) (sym same)
            every_set;
        rising = subst PartsRise (sym same) h.rising;
      }

-- ---- a run more after all others

module _ {es : List Entry} {n : ℕ} {runs : List OpenRun} (h : AreListed es n runs) (part : ℕ)
    (rs : Records) (nxt : IsNext es part rs) (s : OpenRun) (at : s.part ≡ part)
    (many : s.left ≡ length rs) (lives : s.live ≡ length rs) where
  none_above : (p : ℕ) (fs : List Entry) → part ≤ p → AllByRecursion (λ (e : Entry). e.part < part) fs →
      left_in p fs ≡ 0
  none_above p fs le above = none_counted p fs (AllByRecursion-map (λ e. e.part < part) (λ e. e.part ≢ p)
      (λ e lt same. absurd (omega (arith, lt, same, le))) fs above)

  below : (r : OpenRun) → IsOpenRun es r → r.part < part
  below r was =
      ⊎_elim (λ (lt : r.part < part). lt) (λ (le : part ≤ r.part). absurd
      (omega (arith, was.some, was.exact, none_above r.part es le nxt.above))) (cases_lt r.part part)

  after_others : (r : OpenRun) → IsOpenRun es r → IsOpenRun (es ++ run_entries part rs) r
  after_others r was =
      let lt = below r was in
      let other : part ≢ r.part = λ same. absurd (omega (arith, same, lt)) in
      record {
        is_run = was.is_run;
        some = was.some;
        exact = omega (
          arith,
          was.exact,
          count_append r.part es (run_entries part rs),
          none_in_run r.part part rs other,
        );
        live = omega (
          arith,
          was.live,
          alive_append r.part es (run_entries part rs),
          alive_at_most r.part (run_entries part rs),
          none_in_run r.part part rs other,
        );
      }

  new_run : IsOpenRun (es ++ run_entries part rs) s
  new_run = record {
    is_run = omega (arith, at, nxt.is_run);
    some = omega (arith, many, nxt.some);
    exact =
        let now : s.left ≡ left_in part (es ++ run_entries part rs) =
        omega (
          arith,
          many,
          count_append part es (run_entries part rs),
          count_run part part rs refl,
          none_above part es (omega arith) nxt.above,
        ) in
        now ∙ ap (λ (p : ℕ). left_in p (es ++ run_entries part rs)) (sym at);
    live =
        let now : s.live ≡ live_of part (es ++ run_entries part rs) =
        omega (
          arith,
          lives,
          alive_append part es (run_entries part rs),
          alive_run part part rs refl,
          alive_at_most part es,
          none_above part es (omega arith) nxt.above,
        ) in
        now ∙ ap (λ (p : ℕ). live_of p (es ++ run_entries part rs)) (sym at);
  }

  -- the run at the end
  one_behind : (p : ℕ) (qs : List OpenRun) → is_one_of (parts_of qs) p ≡ true → is_one_of (parts_of (qs ++ s ∷ [])) p ≡
      true
  one_behind p [] one = absurd (false≢true one)
  one_behind p (q ∷ qs) one =
      ⊎_elim
      (λ here. or_left (q.part == p) (is_one_of (parts_of (qs ++ s ∷ [])) p) here)
      (λ later. or_right (q.part == p) (is_one_of (parts_of (qs ++ s ∷ [])) p) (one_behind p qs later))
      (or_cases (q.part == p) (is_one_of (parts_of qs) p) one)

  last_one : (qs : List OpenRun) → is_one_of (parts_of (qs ++ s ∷ [])) part ≡ true
  last_one [] = or_left (s.part == part) false (eq-eqb s.part part at)
  last_one (q ∷ qs) = or_right (q.part == part) (is_one_of (parts_of (qs ++ s ∷ [])) part) (last_one qs)

  up_behind : (p : ℕ) (qs : List OpenRun) → p < part → AllByRecursion (λ q. p < q) (parts_of qs) →
      AllByRecursion (λ q. p < q) (parts_of (qs ++ s ∷ []))
  up_behind p [] lt a = (omega (arith, lt, at), tt)
  up_behind p (q ∷ qs) lt a = (a.0, up_behind p qs lt a.1)

  rises_behind : (qs : List OpenRun) → AllByRecursion (IsOpenRun es) qs → PartsRise (parts_of qs) →
      PartsRise (parts_of (qs ++ s ∷ []))
  rises_behind [] each up = (tt, tt)
  rises_behind (q ∷ qs) each up = (up_behind q.part qs (below q each.0) up.0, rises_behind qs each.1 up.1)

  pub appended : AreListed (es ++ run_entries part rs) n (runs ++ s ∷ [])
  appended = record {
    counted = omega (
      arith,
      h.counted,
      count_append 0 es (run_entries part rs),
      none_in_run 0 part rs (λ same. absurd (omega (arith, same, nxt.is_run))),
    );
    each = AllByRecursion-append (IsOpenRun (es ++ run_entries part rs)) runs (s ∷ [])
        (AllByRecursion-map (IsOpenRun es) (IsOpenRun (es ++ run_entries part rs)) after_others runs h.each)
        (new_run, tt);
    every = AllByRecursion-append (λ e. 0 < e.part → is_one_of (parts_of (runs ++ s ∷ [])) e.part ≡ true) es
        (run_entries part rs)
        (AllByRecursion-map (λ e. 0 < e.part → is_one_of (parts_of runs) e.part ≡ true)
        (λ e. 0 < e.part → is_one_of (parts_of (runs ++ s ∷ [])) e.part ≡ true)
        (λ e was some. one_behind e.part runs (was some)) es h.every)
        (in_last rs);
    rising = rises_behind runs h.each h.rising;
  }
    where
      in_last : (qs : Records) → AllByRecursion (λ (e : Entry). 0 < e.part → is_one_of (parts_of (runs ++ s ∷ []))
          e.part ≡ true) (run_entries part qs)
      in_last [] = tt
      in_last (q ∷ qs) = ((λ some. last_one runs), in_last qs)

-- the runs that are listed are those in which entries stand
pub has_runs : {es : List Entry} {n : ℕ} {runs : List OpenRun} (h : AreListed es n runs) (number : ℕ) →
    number ≡ length runs → HasRuns es number
has_runs {es} {n} {runs} h number same = record {
  runs = parts_of runs;
  rising = h.rising;
  each = parts_left runs h.each;
  every = h.every;
  number = same ∙ sym (length-map runs (λ (r : OpenRun). r.part));
}
  where
    parts_left : (rs : List OpenRun) → AllByRecursion (IsOpenRun es) rs →
        AllByRecursion (λ part. (0 < part) × (0 < left_in part es)) (parts_of rs)
    parts_left [] a = tt
    parts_left (r ∷ rs) a = let it = a.0 in ((it.is_run, omega (arith, it.exact, it.some)), parts_left rs a.1)
