-- What each call of the catalog leaves.
use Rattle.std.proofs.Common.{◌≡◌, ◌≢◌, ℕ, zero, suc, ◌<◌, ◌≤◌, Bool, true, false, List, [], ◌∷◌, length, get_or}
use Rattle.std.proofs.Common.{set, take, drop, Result, Ok, Err, refl, sym, ap, ◌∙◌, subst, ⊎_elim, arith}
use Rattle.std.specs.Prelude.{IsSome, OnOk, OnErr, IfOk, IfErr, nat_lt, not}
use Rattle.std.specs.Result.{is_ok}
use Rattle.std.proofs.lemmas.Bool.{cases_lt, ltb-true, lt-ltb, false_from_ne_true}
use Rattle.std.proofs.lemmas.List.{get_or_default}
use Rattle.std.specs.List.{AllByRecursion}
use Rattle.std.specs.List.Sorted.{IsPartitionedBy}
use Rattle.am_record.specs.OrderedKey.{OrderedKey}
use Rattle.am_record.specs.declared.entry.Entry.{Entry}
use Rattle.am_record.proofs.Lists.{AllByRecursion-at}
use Rattle.am_index.specs.Entries.{find, insert_entry, remove_entry, set_entry}
use Rattle.am_index_parts.specs.declared.catalog.OpenRun.{OpenRun}
use Rattle.am_index_parts.specs.Catalogs.{parts_of, PartsRise, is_one_of, AreListed, IsRunAt, IsGapAt, HasMore}
use Rattle.am_index_parts.specs.Catalogs.{left_in, live_of, HasTurned, IsOpenRun}
use Rattle.am_index_parts.proofs.Counts.{none_counted}
use Rattle.am_index_parts.proofs.Alive.{was_live, alive_at_most, some_alive, dead_among_its}
use Rattle.am_index_parts.proofs.ListedRuns.{run_more, run_less, run_turned, below_at, one_at, not_one, none_at_gap}

-- ---- the search

abbrev pub is_under : ℕ → OpenRun → Bool
is_under part r = nat_lt r.part part

pub partitioned : (part : ℕ) (rs : List OpenRun) → PartsRise (parts_of rs) → IsPartitionedBy (is_under part) rs
partitioned part [] up i j d le lt h = absurd (omega arith)
partitioned part (r ∷ rs) up zero zero d le lt h = h
partitioned part (r ∷ rs) up zero (suc j) d le lt h =
    let less = below_at r.part rs j d up.0 (omega arith) in
    let under = ltb-true (get_or rs j d).part part h in
    lt-ltb r.part part (omega (arith, less, under))
partitioned part (r ∷ rs) up (suc i) zero d le lt h = absurd (omega arith)
partitioned part (r ∷ rs) up (suc i) (suc j) d le lt h = partitioned part rs up.1 i j d (omega arith) (omega arith) h

over_later : (part p : ℕ) (rs : List OpenRun) → part ≤ p → AllByRecursion (λ q. p < q) (parts_of rs) →
    AllByRecursion (λ (r : OpenRun). part < r.part) rs
over_later part p [] le up = tt
over_later part p (r ∷ rs) le up = (let lt : p < r.part = up.0 in omega (arith, lt, le), over_later part p rs le up.1)

-- where the run at the index isn't that of the partition, all from it on are above it
pub strictly : (part : ℕ) (rs : List OpenRun) (i : ℕ) → PartsRise (parts_of rs) →
    AllByRecursion (λ (r : OpenRun). part ≤ r.part) (drop i rs) →
    ((d : OpenRun) → i < length rs → (get_or rs i d).part ≢ part)
    → AllByRecursion (λ (r : OpenRun). part < r.part) (drop i rs)
strictly part [] zero up at other = tt
strictly part [] (suc i) up at other = tt
strictly part (r ∷ rs) zero up at other =
    let le : part ≤ r.part = at.0 in
    let lt : part < r.part = ⊎_elim (λ (less : part < r.part). less)
    (λ (same : r.part ≤ part). absurd (other r (omega arith) (omega (arith, same, le)))) (cases_lt part r.part) in
    (lt, over_later part r.part rs le up.0)
strictly part (r ∷ rs) (suc i) up at other = strictly part rs i up.1 at (λ d lt. other d (omega arith))

-- ---- a change of the run at the index

set_same : (rs : List OpenRun) (i : ℕ) (r : OpenRun) → r ≡ get_or rs i r → set rs i r ≡ rs
set_same [] zero r h = refl
set_same [] (suc i) r h = refl
set_same (q ∷ rs) zero r h = ap (λ (x : OpenRun). x ∷ rs) h
set_same (q ∷ rs) (suc i) r h = ap (λ l. q ∷ l) (set_same rs i r h)

module _ {runs : List OpenRun} {part i : ℕ} (at : IsRunAt runs part i) (old new : OpenRun)
    (stands : old ≡ get_or runs i old) where
  pub stands_as : old ≡ get_or runs i new
  stands_as = stands ∙ get_or_default runs i old new at.in_range

  pub more_at : {T E : Type 0} (n : ℕ) (is_ghost : Bool) (r : Result T E) → part ≢ 0 →
      OnOk r (HasMore old (not is_ghost) new) → OnOk r ((es : List Entry) (x : Entry) → x.part ≡ part →
      x.is_ghost ≡ is_ghost → AreListed es n runs → AreListed (insert_entry es x) n (set runs i new))
  more_at n is_ghost (Ok v) some more = λ es x p mark h.
      let has : HasMore (get_or runs i new) (not x.is_ghost) new =
      subst (λ (b : Bool). HasMore (get_or runs i new) (not b) new) (sym mark)
      (subst (λ (o : OpenRun). HasMore o (not is_ghost) new) stands_as more) in
      run_more h x (omega (arith, p, some)) i new (subst (λ (q : ℕ). IsRunAt runs q i) (sym p) at) has
  more_at n is_ghost (Err e) some more = tt

  pub as_before : {T E : Type 0} (n : ℕ) (r : Result T E) → OnErr r (new ≡ old) →
      OnErr r ((es : List Entry) → AreListed es n runs → AreListed es n (set runs i new))
  as_before n (Ok v) same = tt
  as_before n (Err e) same = λ es h.
      subst (AreListed es n) (sym (ap (λ (x : OpenRun). set runs i x) same ∙ set_same runs i old stands)) h

  pub less_at : (n : ℕ) (lived : Bool) → part ≢ 0 → HasMore new lived old → 0 < new.left →
      (es : List Entry) (key : OrderedKey) → AreListed es n runs → IsSome (find es part key) →
      was_live part key es ≡ lived → AreListed (remove_entry es part key) n (set runs i new)
  less_at n lived some less left = λ es key h there mark.
      let has : HasMore new (was_live part key es) (get_or runs i new) =
      subst (λ (b : Bool). HasMore new b (get_or runs i new)) (sym mark)
      (subst (λ (o : OpenRun). HasMore new lived o) stands_as less) in
      run_less h part key there (omega (arith, some)) i at new has left

  pub turned_at : (n : ℕ) (lived : Bool) → part ≢ 0 → HasTurned old lived new → (es : List Entry) (key : OrderedKey)
      (value : List ℕ) → AreListed es n runs → IsSome (find es part key) → was_live part key es ≡ lived →
      AreListed (set_entry es part key value lived) n (set runs i new)
  turned_at n lived some turned = λ es key value h there mark.
      run_turned h part key value lived there i new (omega (arith, some)) at mark
      (subst (λ (o : OpenRun). HasTurned o lived new) stands_as turned)

-- ---- the whole catalog

pub ok_map : {T E : Type 0} {A B : Type 0} (r : Result T E) → (A → B) → OnOk r A → OnOk r B
ok_map (Ok v) f a = f a
ok_map (Err e) f a = tt

pub err_map : {T E : Type 0} {A B : Type 0} (r : Result T E) → (A → B) → OnErr r A → OnErr r B
err_map (Ok v) f a = tt
err_map (Err e) f a = f a

-- ---- whether a run is listed

others_apart : (part : ℕ) (rs : List OpenRun) (i : ℕ) → AllByRecursion (λ (r : OpenRun). r.part < part) (take i rs) →
    AllByRecursion (λ (r : OpenRun). part < r.part) (drop i rs) → AllByRecursion (λ (r : OpenRun). r.part ≢ part) rs
others_apart part [] i below above = tt
others_apart part (r ∷ rs) zero below above = (
  (λ same. let lt : part < r.part = above.0 in absurd (omega (arith, same, lt))),
  others_apart part rs zero tt above.1,
)
others_apart part (r ∷ rs) (suc i) below above = (
  (λ same. let lt : r.part < part = below.0 in absurd (omega (arith, same, lt))),
  others_apart part rs i below.1 above,
)

pub is_listed_as : (runs : List OpenRun) (part : ℕ) (r : Result ℕ ℕ) → IfOk r (IsRunAt runs part) →
    IfErr r (IsGapAt runs part) → is_ok r ≡ is_one_of (parts_of runs) part
is_listed_as runs part (Ok i) found absent =
    let d : OpenRun = record { part = 0; left = 0; live = 0 } in
    sym (subst (λ (p : ℕ). is_one_of (parts_of runs) p ≡ true) (found.here d) (one_at runs i d found.in_range))
is_listed_as runs part (Err i) found absent =
    sym (false_from_ne_true (is_one_of (parts_of runs) part)
    (not_one part runs (others_apart part runs i absent.below absent.above)))

-- ---- what a run counts

module _ {es : List Entry} {n : ℕ} {runs : List OpenRun} (h : AreListed es n runs) (part i : ℕ) where
  module _ (at : IsRunAt runs part i) (r : OpenRun) (is : r ≡ get_or runs i r) where
    its_run : IsOpenRun es (get_or runs i r)
    its_run = AllByRecursion-at (IsOpenRun es) runs i r h.each at.in_range

    pub left_here : r.left ≡ left_in part es
    left_here = ap (λ (o : OpenRun). o.left) is ∙ its_run.exact ∙ ap (λ (p : ℕ). left_in p es) (at.here r)

    pub lives_here : r.live ≡ live_of part es
    lives_here = ap (λ (o : OpenRun). o.live) is ∙ its_run.live ∙ ap (λ (p : ℕ). live_of p es) (at.here r)

    module _ (key : OrderedKey) (there : IsSome (find es part key)) where
      pub has_alive : was_live part key es ≡ true → 0 < r.live
      has_alive lives = omega (arith, lives_here, some_alive part key es there lives)

      pub has_dead : was_live part key es ≡ false → r.live < r.left
      has_dead dead = omega (arith, left_here, lives_here, dead_among_its part key es there dead)

  -- one that isn't listed has none
  pub none_left : IsGapAt runs part i → 0 < part → left_in part es ≡ 0
  none_left gap lt = none_counted part es (none_at_gap h part i gap lt)

  pub none_lives : IsGapAt runs part i → 0 < part → live_of part es ≡ 0
  none_lives gap lt = omega (arith, alive_at_most part es, none_left gap lt)
