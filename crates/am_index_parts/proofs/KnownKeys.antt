-- What is known of the keys of runs, after each change.
use Rattle.std.proofs.Common.{◌≡◌, ◌≢◌, ◌⊎◌, inl, inr, ⊎_elim, ℕ, suc, ◌<◌, Bool, true, false, cond}
use Rattle.std.proofs.Common.{List, [], ◌∷◌, ◌++◌, Option, Some, None, Result, Ok, Err, length, get_or, refl, sym, ap}
use Rattle.std.proofs.Common.{◌∙◌, subst, arith}
use Rattle.std.specs.Prelude.{IsSome, IfNone, OnOk, OnErr, is_some, not, ◌==◌, ◌&&◌}
use Rattle.std.specs.List.{AllByRecursion}
use Rattle.std.proofs.lemmas.Bool.{cases_Bool, cond-true, false≢true, both_ways, eq-eqb, and_parts, and_from}
use Rattle.am_record.specs.Interval.{Interval, key_le, within, meets}
use Rattle.am_record.specs.OrderedKey.{OrderedKey}
use Rattle.am_record.specs.KeyNumber.{key_number, numbers_of}
use Rattle.am_record.specs.Plain.{Records}
use Rattle.am_record.specs.EntryOrder.{Place}
use Rattle.am_record.specs.declared.entry.Entry.{Entry}
use Rattle.am_record.specs.declared.hash_key.HashKey.{HashKey}
use Rattle.am_record.proofs.KeyOrder.{key_le_trans}
use Rattle.am_record.proofs.Lists.{AllByRecursion-map, AllByRecursion-append}
use Rattle.am_index.specs.Edits.{same_place}
use Rattle.am_index.specs.Content.{live_value}
use Rattle.am_index.specs.Entries.{Slot, find, insert_entry, set_entry, remove_entry}
use Rattle.am_index.specs.Runs.{run_entries}
use Rattle.am_index.proofs.Content.{slot_live}
use Rattle.am_index.proofs.Edits.{find-hit, find-miss, set-hit, set-miss, one_place}
use Rattle.am_index_parts.specs.declared.apart_runs.ApartRun.{ApartRun}
use Rattle.am_index_parts.specs.declared.catalog.OpenRun.{OpenRun}
use Rattle.am_index_parts.specs.declared.run_filters.Generation.{Generation}
use Rattle.am_index_parts.specs.declared.run_keys.Ends.{Ends}
use Rattle.am_index_parts.specs.declared.run_keys.RunKeys.{RunKeys}
use Rattle.am_index_parts.specs.ApartRuns.{StandsApart, AreInOrder, NoneMeets}
use Rattle.am_index_parts.specs.Catalogs.{parts_of, is_one_of, live_of}
use Rattle.am_index_parts.specs.Partitions.{LivesInNoRun, settled, brought_home, gone_home, all_gone_home}
use Rattle.am_index_parts.specs.RunFilters.{LivesInRun, MayBeIn, may_have_any}
use Rattle.am_index_parts.specs.RunKeys.{LiesBetween, IsKnown, KnowsOf, AreKnown, KnowsNoLess}
use Rattle.am_index_parts.proofs.Counts.{all_inserted, all_removed}
use Rattle.am_index_parts.proofs.Filters.{none_first, none_later, may_be_too}

-- ---- places

-- what is known of a place as one pair
place_parts : (part part' : ℕ) (key key' : OrderedKey) → same_place part key part' key' ≡ true →
    (part ≡ part') × (key ≡ key')
place_parts part part' key key' h = let same : (part, key) ≡ (part', key') = one_place (part, key) (part', key') h in
    (ap (λ (q : Place). q.0) same, ap (λ (q : Place). q.1) same)

-- what each entry meets, by whether it is live, is met at a place where one stands
of_found_live : (P : Bool → ℕ → OrderedKey → Type 0) (es : List Entry) (part : ℕ) (key : OrderedKey) (live : Bool) →
    AllByRecursion (λ (e : Entry). P (not e.is_ghost) e.part e.key) es → IsSome (find es part key) →
    is_some (live_value (find es part key)) ≡ live → P live part key
of_found_live P [] part key live all some mark = absurd (false≢true some)
of_found_live P (e ∷ es) part key live all some mark =
    ⊎_elim
    (λ here. let at = place_parts e.part part e.key key here in
    let its : not e.is_ghost ≡ live = sym (slot_live e) ∙ sym (ap (λ (o : Option Slot). is_some (live_value o))
    (find-hit part key e es here)) ∙ mark in
    subst (λ (l : Bool). P l part key) its
    (subst (λ (k : OrderedKey). P (not e.is_ghost) part k) at.1 (subst (λ (p : ℕ). P (not e.is_ghost) p e.key) at.0
    all.0)))
    (λ other. of_found_live P es part key live all.1 (sym (ap is_some (find-miss part key e es other)) ∙ some)
    (sym (ap (λ (o : Option Slot). is_some (live_value o)) (find-miss part key e es other)) ∙ mark))
    (cases_Bool (same_place e.part e.key part key))

-- ---- what is known

module _ (k : RunKeys) (live : Bool) (part : ℕ) (key : OrderedKey) where
  as_ghost : IsKnown k true part key → IsKnown k live part key
  as_ghost = elim live as (λ l. IsKnown k true part key → IsKnown k l part key) [
    | true ↦ λ it. it
    | false ↦ λ it. ⊎_elim (λ apart. inl apart)
        (λ by. inr (by.0, may_be_too part (key_number k.filters.hash key) k.filters.generations.items by.1)) it
  ]

  -- an entry that is a ghost now is said no less of than before
  pub weaker : (is_ghost : Bool) → is_ghost ≡ true → KnowsOf k live part key → KnowsOf k (not is_ghost) part key
  weaker is_ghost is says = λ some. subst (λ (l : Bool). IsKnown k l part key) (sym (ap not is))
      (elim live as (λ l. IsKnown k l part key → IsKnown k false part key) [
        | true ↦ λ it. ⊎_elim (λ apart. inl apart)
            (λ by. inr (by.0, may_be_too part (key_number k.filters.hash key) k.filters.generations.items by.1)) it
        | false ↦ λ it. it
      ] (says some))

-- where ranges and ends stay, and filters say it too
pub by_filters : (old new : RunKeys) (live : Bool) (part : ℕ) (key : OrderedKey) →
    new.apart.list.items ≡ old.apart.list.items → new.ends ≡ old.ends →
    (MayBeIn live old.filters.generations.items part (key_number old.filters.hash key) →
    MayBeIn live new.filters.generations.items part (key_number new.filters.hash key)) →
    IsKnown old live part key → IsKnown new live part key
by_filters old new live part key apart ends more (inl stands) =
    inl (subst (λ (l : List ApartRun). StandsApart l part key) (sym apart) stands)
by_filters old new live part key apart ends more (inr by) =
    inr (subst (λ (e : Option Ends). LiesBetween e key) (sym ends) by.0, more by.1)

-- the same for a live one
pub known_by : (k : RunKeys) (live live' : Bool) (part : ℕ) (key : OrderedKey) →
    (MayBeIn live k.filters.generations.items part (key_number k.filters.hash key) →
    MayBeIn live' k.filters.generations.items part (key_number k.filters.hash key)) →
    IsKnown k live part key → IsKnown k live' part key
known_by k live live' part key more (inl stands) = inl stands
known_by k live live' part key more (inr by) = inr (by.0, more by.1)

pub said_of_live : {es : List Entry} {key : OrderedKey} {run : ℕ} (k : RunKeys) → AreKnown es k →
    LivesInRun es key run → IsKnown k true run key
said_of_live {es} {key} {run} k are it = of_found_live (KnowsOf k) es run key true are.each (ap is_some it.live.there)
    (ap (λ (o : Option Slot). is_some (live_value o)) it.live.there) it.is_run

-- where the keys lie in no range of a run that stands apart, and no filter may have one, none of them is live in a run
pub none_lives : (es : List Entry) (k : RunKeys) → AreKnown es k → (rs : Records) →
    AllByRecursion (λ (r : OrderedKey × List ℕ). (run : ℕ) → StandsApart k.apart.list.items run r.0 → ⊥) rs →
    may_have_any k.filters.generations.items (numbers_of k.filters.hash rs) ≡ false →
    AllByRecursion (λ (r : OrderedKey × List ℕ). LivesInNoRun es r.0) rs
none_lives es k are [] clear none = tt
none_lives es k are (r ∷ rs) clear none = (
  record {
    none = λ part value some live.
        ⊎_elim (λ apart. clear.0 part apart)
        (λ by. none_first k.filters.generations.items (key_number k.filters.hash r.0) (numbers_of k.filters.hash rs)
        part
        none by.1)
        (said_of_live k are (record { is_run = some; value = value; live = live }));
  },
  none_lives es k are rs clear.1
      (none_later k.filters.generations.items (key_number k.filters.hash r.0) (numbers_of k.filters.hash rs) none),
)

-- ---- runs that stand apart

-- ranges with a common key meet
meet_at : (a b : Interval) (key : OrderedKey) → within a key ≡ true → within b key ≡ true → meets a b ≡ true
meet_at a b key in_a in_b =
    let of_a = and_parts (key_le a.lo key) (key_le key a.hi) in_a in
    let of_b = and_parts (key_le b.lo key) (key_le key b.hi) in_b in
    and_from (key_le a.lo b.hi) (key_le b.lo a.hi) (key_le_trans a.lo key b.hi of_a.0 of_b.1)
    (key_le_trans b.lo key a.hi of_b.0 of_a.1)

-- a key between ends and in a range
pub met_between : (lo hi : OrderedKey) (range : Interval) (key : OrderedKey) →
    (key_le lo range.hi && key_le range.lo hi) ≡ false → within range key ≡ true → key_le lo key ≡ true →
    key_le key hi ≡ true → ⊥
met_between lo hi range key none there above below =
    both_ways (meets (record { lo = lo; hi = hi }) range) none
    (meet_at (record { lo = lo; hi = hi }) range key (and_from (key_le lo key) (key_le key hi) above below) there)

pub none_stands : (runs : List ApartRun) (range : Interval) (part : ℕ) (key : OrderedKey) → NoneMeets runs range →
    within range key ≡ true → StandsApart runs part key → ⊥
none_stands [] range part key none there it = it
none_stands (a ∷ more) range part key none there (inl here) =
    both_ways (meets a.range range) none.0 (meet_at a.range range key here.1 there)
none_stands (a ∷ more) range part key none there (inr later) = none_stands more range part key none.1 there later

pub all_clear : (runs : List ApartRun) (range : Interval) (rs : Records) → NoneMeets runs range →
    AllByRecursion (λ (r : OrderedKey × List ℕ). within range r.0 ≡ true) rs →
    AllByRecursion (λ (r : OrderedKey × List ℕ). (run : ℕ) → StandsApart runs run r.0 → ⊥) rs
all_clear runs range rs none = AllByRecursion-map (λ (r : OrderedKey × List ℕ). within range r.0 ≡ true)
    (λ (r : OrderedKey × List ℕ). (run : ℕ) → StandsApart runs run r.0 → ⊥)
    (λ r there run. none_stands runs range run r.0 none there) rs

-- where a range is clear, no key of it is live in a run
pub none_lives_there : (es : List Entry) (k : RunKeys) (range : Interval) → AreKnown es k →
    NoneMeets k.apart.list.items range →
    ((key : OrderedKey) → within range key ≡ true → LiesBetween k.ends key → ⊥) → (rs : Records) →
    AllByRecursion (λ (r : OrderedKey × List ℕ). within range r.0 ≡ true) rs →
    AllByRecursion (λ (r : OrderedKey × List ℕ). LivesInNoRun es r.0) rs
none_lives_there es k range are none beside rs = AllByRecursion-map
    (λ (r : OrderedKey × List ℕ). within range r.0 ≡ true) (λ (r : OrderedKey × List ℕ). LivesInNoRun es r.0)
    (λ r there. record {
      none = λ part value some live.
          ⊎_elim (λ apart. none_stands k.apart.list.items range part r.0 none there apart)
          (λ by. beside r.0 there by.0)
          (said_of_live k are (record { is_run = some; value = value; live = live }));
    }) rs

-- ---- changes

pub known_more : (es : List Entry) (old new : RunKeys) → (AreInOrder old.apart.list.items → AreInOrder
    new.apart.list.items) → KnowsNoLess old new → AreKnown es old → AreKnown es new
known_more es old new order more are = record {
  order = order are.order;
  each = AllByRecursion-map (λ (e : Entry). KnowsOf old (not e.is_ghost) e.part e.key)
      (λ (e : Entry). KnowsOf new (not e.is_ghost) e.part e.key)
      (λ e says some. more (not e.is_ghost) e.part e.key (says some)) es are.each;
}

-- an entry is written over
set_said : (P : Bool → ℕ → OrderedKey → Type 0) (part : ℕ) (key : OrderedKey) (value : List ℕ) (is_ghost was : Bool)
    (es : List Entry) → is_some (live_value (find es part key)) ≡ was → (P was part key → P (not is_ghost) part key) →
    AllByRecursion (λ (e : Entry). P (not e.is_ghost) e.part e.key) es →
    AllByRecursion (λ (e : Entry). P (not e.is_ghost) e.part e.key) (set_entry es part key value is_ghost)
set_said P part key value is_ghost was [] mark more all = tt
set_said P part key value is_ghost was (e ∷ es) mark more all =
    ⊎_elim
    (λ here. let at = place_parts e.part part e.key key here in
    let its : not e.is_ghost ≡ was = sym (slot_live e) ∙ sym (ap (λ (o : Option Slot). is_some (live_value o))
    (find-hit part key e es here)) ∙ mark in
    let there : P was part key = subst (λ (l : Bool). P l part key) its
    (subst (λ (k : OrderedKey). P (not e.is_ghost) part k) at.1 (subst (λ (p : ℕ). P (not e.is_ghost) p e.key) at.0
    all.0)) in
    subst (AllByRecursion (λ (f : Entry). P (not f.is_ghost) f.part f.key))
    (sym (set-hit part key e es value is_ghost here)) (
      subst (λ (k : OrderedKey). P (not is_ghost) e.part k) (sym at.1)
          (subst (λ (p : ℕ). P (not is_ghost) p key) (sym at.0) (more there)),
      all.1,
    ))
    (λ other. subst (AllByRecursion (λ (f : Entry). P (not f.is_ghost) f.part f.key))
    (sym (set-miss part key e es value is_ghost other)) (
      all.0,
      set_said P part key value is_ghost was es
          (sym (ap (λ (o : Option Slot). is_some (live_value o)) (find-miss part key e es other)) ∙ mark) more all.1,
    ))
    (cases_Bool (same_place e.part e.key part key))

module _ (k : RunKeys) (es : List Entry) (are : AreKnown es k) where
  pub known_added : (x : Entry) → KnowsOf k (not x.is_ghost) x.part x.key → AreKnown (insert_entry es x) k
  known_added x says = record {
    order = are.order;
    each = all_inserted (λ (e : Entry). KnowsOf k (not e.is_ghost) e.part e.key) es x says are.each;
  }

  -- where it is live as before, stands in the final partition, or is a ghost now
  pub known_set : (part : ℕ) (key : OrderedKey) (value : List ℕ) (is_ghost was : Bool) →
      is_some (live_value (find es part key)) ≡ was → (KnowsOf k was part key → KnowsOf k (not is_ghost) part key) →
      AreKnown (set_entry es part key value is_ghost) k
  known_set part key value is_ghost was mark more = record {
    order = are.order;
    each = set_said (KnowsOf k) part key value is_ghost was es mark more are.each;
  }

  pub known_removed : (part : ℕ) (key : OrderedKey) → AreKnown (remove_entry es part key) k
  known_removed part key = record {
    order = are.order;
    each = all_removed (λ (e : Entry). KnowsOf k (not e.is_ghost) e.part e.key) part key es are.each;
  }

  of_run : (part : ℕ) (rs : Records) → AllByRecursion (λ (r : OrderedKey × List ℕ). IsKnown k true part r.0) rs →
      AllByRecursion (λ (e : Entry). KnowsOf k (not e.is_ghost) e.part e.key) (run_entries part rs)
  of_run part [] each = tt
  of_run part (r ∷ rs) each = (λ some. each.0, of_run part rs each.1)

  pub known_appended : (part : ℕ) (rs : Records) →
      AllByRecursion (λ (r : OrderedKey × List ℕ). IsKnown k true part r.0) rs →
      AreKnown (es ++ run_entries part rs) k
  known_appended part rs each = record {
    order = are.order;
    each = AllByRecursion-append (λ (e : Entry). KnowsOf k (not e.is_ghost) e.part e.key) es (run_entries part rs)
        are.each (of_run part rs each);
  }

final_said : (k : RunKeys) (live : Bool) (key : OrderedKey) → KnowsOf k live 0 key
final_said k live key = λ some. absurd (omega (arith, some))

pub known_where_added : {T E : Type 0} (k : RunKeys) (es es' : List Entry) (x : Entry) (r : Result T E) →
    KnowsOf k true x.part x.key → OnOk r (es' ≡ insert_entry es x) → OnErr r (es' ≡ es) → AreKnown es k → AreKnown es' k
known_where_added k es es' x (Ok v) says ok err are = subst (λ (l : List Entry). AreKnown l k) (sym ok)
    (known_added k es are x (λ some. as_ghost k (not x.is_ghost) x.part x.key (says some)))
known_where_added k es es' x (Err v) says ok err are = subst (λ (l : List Entry). AreKnown l k) (sym err) are

known_settled : (k : RunKeys) (e : Entry) (es : List Entry) → AreKnown es k → AreKnown (settled e es) k
known_settled k e es are =
    elim (is_some (find es 0 e.key)) as (λ t. AreKnown
    (cond t (set_entry es 0 e.key e.value false) (insert_entry es (record e { part = 0; is_ghost = false }))) k) [
      | true ↦ known_set k es are 0 e.key e.value false (is_some (live_value (find es 0 e.key))) refl
          (λ _. final_said k true e.key)
      | false ↦ known_added k es are (record e { part = 0; is_ghost = false }) (final_said k true e.key)
    ]

known_gone : (k : RunKeys) (e : Entry) (es : List Entry) → AreKnown es k → AreKnown (gone_home e es) k
known_gone k e es are =
    elim e.is_ghost as (λ t. AreKnown (cond t (remove_entry es e.part e.key) (brought_home e es)) k) [
      | true ↦ known_removed k es are e.part e.key
      | false ↦ known_removed k (settled e es) (known_settled k e es are) e.part e.key
    ]

pub known_home : (k : RunKeys) (xs es : List Entry) → AreKnown es k → AreKnown (all_gone_home xs es) k
known_home k [] es are = are
known_home k (x ∷ xs) es are = known_home k xs (gone_home x es) (known_gone k x es are)

-- ---- runs that wake and sleep

counted_one : (e : Entry) (part : ℕ) (es : List Entry) → e.part ≡ part → not e.is_ghost ≡ true →
    live_of part (e ∷ es) ≡ 0 → ⊥
counted_one e part es is live none =
    let nothing : ℕ = 0 in
    let single : ℕ = 1 in
    let one : cond (e.part == part) (cond (not e.is_ghost) single nothing) nothing ≡ single =
    cond-true (e.part == part) (cond (not e.is_ghost) single nothing) nothing (eq-eqb e.part part is) ∙
    cond-true (not e.is_ghost) single nothing live in
    omega (arith, one, none)

counted_rest : (e : Entry) (part : ℕ) (es : List Entry) → live_of part (e ∷ es) ≡ 0 → live_of part es ≡ 0
counted_rest e part es none = omega (arith, none)

-- the one entry becomes live, where all filters of its run are awake
pub known_woken : (es : List Entry) (old new : RunKeys) (part : ℕ) (key : OrderedKey) (value : List ℕ)
    (was : Bool) → is_some (live_value (find es part key)) ≡ was →
    (AreInOrder old.apart.list.items → AreInOrder new.apart.list.items) → KnowsNoLess old new →
    (IsKnown new false part key → IsKnown new true part key) →
    AreKnown es old → AreKnown (set_entry es part key value false) new
known_woken es old new part key value was mark order kept woken are =
    known_set new es (known_more es old new order kept are) part key value false was mark
    (λ says some. woken (weaker new was part key true refl says some))

-- a run sleeps in which no entry is live
pub known_asleep : (es : List Entry) (old new : RunKeys) (part : ℕ) →
    (AreInOrder old.apart.list.items → AreInOrder new.apart.list.items) →
    ((live : Bool) (run : ℕ) (key : OrderedKey) → (live ≡ true → run ≢ part) → IsKnown old live run key →
    IsKnown new live run key) → live_of part es ≡ 0 → AreKnown es old → AreKnown es new
known_asleep es old new part order kept none are = record { order = order are.order; each = each es none are.each }
  where
    each : (fs : List Entry) → live_of part fs ≡ 0 →
        AllByRecursion (λ (e : Entry). KnowsOf old (not e.is_ghost) e.part e.key) fs →
        AllByRecursion (λ (e : Entry). KnowsOf new (not e.is_ghost) e.part e.key) fs
    each [] none all = tt
    each (e ∷ fs) none all = (
      (λ some. kept (not e.is_ghost) e.part e.key (λ live is. counted_one e part fs is live none) (all.0 some)),
      each fs (counted_rest e part fs none) all.1,
    )

-- ---- what is kept of runs with entries

pub known_open : (es : List Entry) (runs : List OpenRun) (old new : RunKeys) →
    (AreInOrder old.apart.list.items → AreInOrder new.apart.list.items) →
    AllByRecursion (λ (e : Entry). 0 < e.part → is_one_of (parts_of runs) e.part ≡ true) es →
    ((live : Bool) (part : ℕ) (key : OrderedKey) → is_one_of (parts_of runs) part ≡ true → IsKnown old live part key →
    IsKnown new live part key) → AreKnown es old → AreKnown es new
known_open es runs old new order there more are = record { order = order are.order; each = each es there are.each }
  where
    each : (fs : List Entry) → AllByRecursion (λ (e : Entry). 0 < e.part → is_one_of (parts_of runs) e.part ≡ true) fs →
        AllByRecursion (λ (e : Entry). KnowsOf old (not e.is_ghost) e.part e.key) fs →
        AllByRecursion (λ (e : Entry). KnowsOf new (not e.is_ghost) e.part e.key) fs
    each [] there all = tt
    each (e ∷ fs) there all = (
      (λ some. more (not e.is_ghost) e.part e.key (there.0 some) (all.0 some)),
      each fs there.1 all.1,
    )

-- ---- a run that doesn't stand apart any more

pub known_otherwise : (es : List Entry) (old new : RunKeys) (run : ℕ) (range : Interval) →
    (AreInOrder old.apart.list.items → AreInOrder new.apart.list.items) →
    ((live : Bool) (part : ℕ) (key : OrderedKey) → IsKnown old live part key →
    IsKnown new live part key ⊎ ((run ≡ part) × (within range key ≡ true))) →
    AllByRecursion (λ (e : Entry). e.part ≡ run → within range e.key ≡ true → IsKnown new true run e.key) es →
    AreKnown es old → AreKnown es new
known_otherwise es old new run range order others entered are =
    record { order = order are.order; each = each es entered are.each }
  where
    each : (fs : List Entry) →
        AllByRecursion (λ (e : Entry). e.part ≡ run → within range e.key ≡ true → IsKnown new true run e.key) fs →
        AllByRecursion (λ (e : Entry). KnowsOf old (not e.is_ghost) e.part e.key) fs →
        AllByRecursion (λ (e : Entry). KnowsOf new (not e.is_ghost) e.part e.key) fs
    each [] entered all = tt
    each (e ∷ fs) entered all = (
      (λ some. ⊎_elim (λ it. it)
          (λ apart. subst (λ (p : ℕ). IsKnown new (not e.is_ghost) p e.key) apart.0
          (as_ghost new (not e.is_ghost) run e.key (entered.0 (sym apart.0) apart.1)))
          (others (not e.is_ghost) e.part e.key (all.0 some))),
      each fs entered.1 all.1,
    )

-- the records' keys were entered, one after another
pub each_entered : (P : OrderedKey → Type 0) (range : Interval) (hash : HashKey) (rs : Records) →
    AllByRecursion (λ (r : OrderedKey × List ℕ). within range r.0 ≡ true) rs →
    ((key : OrderedKey) (k d : ℕ) → within range key ≡ true → k < length (numbers_of hash rs) →
    get_or (numbers_of hash rs) k d ≡ key_number hash key → P key) →
    AllByRecursion (λ (r : OrderedKey × List ℕ). P r.0) rs
each_entered P range hash [] there entered = tt
each_entered P range hash (r ∷ rs) there entered = (
  entered r.0 0 0 there.0 (omega arith) refl,
  each_entered P range hash rs there.1 (λ key k d inside lt is. entered key (suc k) d inside (omega (arith, lt)) is),
)

-- ---- answers

pub if_none_too : {A : Type 0} (o : Option A) (P Q : Type 0) → (P → Q) → IfNone o P → IfNone o Q
if_none_too None P Q more it = more it
if_none_too (Some x) P Q more it = tt

pub is_false : (b : Bool) → not b ≡ true → b ≡ false
is_false true e = absurd (false≢true e)
is_false false e = refl

pub none_in_none : (live : Bool) (run n : ℕ) (gs : List Generation) → length gs ≡ 0 → MayBeIn live gs run n → ⊥
none_in_none live run n [] none it = it
none_in_none live run n (g ∷ gs) none it = absurd (omega (arith, none))
