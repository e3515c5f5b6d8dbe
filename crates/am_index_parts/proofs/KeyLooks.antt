-- The look for a live key, by what the catalog says.
use Rattle.std.proofs.Common.{◌≡◌, ◌≢◌, ℕ, zero, suc, ◌+◌, ◌<◌, ◌≤◌, true, false, List, [], ◌∷◌, length, get_or, take}
use Rattle.std.proofs.Common.{Option, Some, None, refl, sym, ap, ◌∙◌, subst, ⊎_elim, arith}
use Rattle.std.specs.Prelude.{IfSome, IfNone, is_some, ◌==◌}
use Rattle.std.proofs.lemmas.Bool.{or_left, or_right, or_cases, cases_eq, eqb-true, true≢false, false≢true}
use Rattle.std.specs.List.{AllByRecursion}
use Rattle.std.specs.FinMap.{get}
use Rattle.am_record.specs.OrderedKey.{OrderedKey}
use Rattle.am_record.specs.Plain.{Records, is_key_of}
use Rattle.am_record.specs.declared.entry.Entry.{Entry}
use Rattle.am_record.proofs.FirstRows.{Record, key_eq, key_eq-itself}
use Rattle.am_record.proofs.Lists.{AllByRecursion-at}
use Rattle.std.proofs.lemmas.Option.{none-some}
use Rattle.am_index.specs.Entries.{Slot, find}
use Rattle.am_index.specs.Content.{content, live_value, IsLiveAt}
use Rattle.std.proofs.lemmas.List.{get_or_default}
use Rattle.am_index_parts.specs.declared.catalog.OpenRun.{OpenRun}
use Rattle.am_index_parts.specs.Catalogs.{parts_of, is_one_of, PartsRise, AreListed}
use Rattle.am_index_parts.specs.Partitions.{AreWellFormed, AreEmpty, AreEmptyFrom, LivesIn, LivesInNoRun, IsLiveEntry}
use Rattle.am_index_parts.specs.Partitions.{IsVacancy, vacancy_over, AreAllAbsent}
use Rattle.am_index_parts.specs.RunFilters.{LivesInRun}
use Rattle.am_index_parts.proofs.Lives.{laws_of, lives_in}
use Rattle.am_index_parts.proofs.ListedRuns.{is_listed, some_left}

not_live : (o : Option Slot) (v : List ℕ) → is_some (live_value o) ≡ false → o ≡ Some (v, false) → ⊥
not_live o v h e = true≢false (sym (ap (λ (p : Option Slot). is_some (live_value p)) e) ∙ h)

live_slot : (o : Option Slot) → is_some (live_value o) ≡ true → (v : List ℕ) × (o ≡ Some (v, false))
live_slot None h = absurd (cc h)
live_slot (Some (v, true)) h = absurd (cc h)
live_slot (Some (v, false)) h = (v, refl)

pub nothing_in_final : {es : List Entry} (k : OrderedKey) {n : ℕ} {runs : List OpenRun} →
    AreListed es n runs → n ≡ 0 → find es 0 k ≡ None
nothing_in_final {es} k {n} {runs} h none = by_cases (find es 0 k) refl
  where
    by_cases : (o : Option Slot) → find es 0 k ≡ o → o ≡ None
    by_cases None e = refl
    by_cases (Some s) e = absurd (omega (arith, some_left h 0 k (ap is_some e), h.counted, none))

-- ---- partitions in which nothing stands

-- no run is that of a partition from one up to another
abbrev pub NoneBetween : ℕ → ℕ → List OpenRun → Type 0
NoneBetween from to rs = AllByRecursion (λ (r : OpenRun). from ≤ r.part → r.part < to → ⊥) rs

none_within : (from to part : ℕ) (rs : List OpenRun) → NoneBetween from to rs → from ≤ part → part < to →
    is_one_of (parts_of rs) part ≡ true → ⊥
none_within from to part [] out low high one = false≢true one
none_within from to part (r ∷ rs) out low high one =
    ⊎_elim
    (λ here. let same : r.part ≡ part = eqb-true r.part part here in
    out.0 (omega (arith, same, low)) (omega (arith, same, high)))
    (λ later. none_within from to part rs out.1 low high later)
    (or_cases (r.part == part) (is_one_of (parts_of rs) part) one)

pub unlisted : {es : List Entry} {n : ℕ} {runs : List OpenRun} (key : OrderedKey) (part : ℕ) → AreListed es n runs →
    0 < part → (is_one_of (parts_of runs) part ≡ true → ⊥) → find es part key ≡ None
unlisted {es} key part h some denied = by_cases (find es part key) refl
  where
    by_cases : (o : Option Slot) → find es part key ≡ o → o ≡ None
    by_cases None e = refl
    by_cases (Some s) e = absurd (denied (is_listed h part key some (ap is_some e)))

module _ {es : List Entry} {key : OrderedKey} where
  pub found_dead : (part : ℕ) → is_some (live_value (find es part key)) ≡ false → (value : List ℕ) →
      IsLiveAt es part key value → ⊥
  found_dead part dead value live = not_live (find es part key) value dead live.there

  pub lives_found : AreWellFormed es → (part : ℕ) → is_some (live_value (find es part key)) ≡ true → LivesIn es part key
  lives_found sound part live = let slot = live_slot (find es part key) live in
      lives_in sound (record { there = slot.1 })

  -- what stands live at a place is the live entry
  pub stands_live : AreWellFormed es → (part : ℕ) (e : Entry) → find es part key ≡ Some (e.value, false) →
      e.part ≡ part → e.key ≡ key → e.is_ghost ≡ false → IsLiveEntry es key e
  stands_live sound part e stands same key_is live =
      let there : find es e.part key ≡ Some (e.value, false) = ap (λ p. find es p key) same ∙ stands in
      record {
        key_is = key_is;
        no_ghost = live;
        there = record { there = there };
        has = (laws_of sound).reads.live e.part key e.value (record { there = there });
      }

  pub lives_nowhere : AreWellFormed es → is_some (live_value (find es 0 key)) ≡ false → LivesInNoRun es key →
      get (content es) key ≡ None
  lives_nowhere sound dead none = (laws_of sound).reads.dead key (λ part value live.
      ⊎_elim
      (λ (same : part ≡ 0). found_dead 0 dead value (subst (λ (p : ℕ). IsLiveAt es p key value) same live))
      (λ (other : part ≢ 0). none.none part value (omega (arith, other)) live)
      (cases_eq part 0))

-- ---- the runs from an index on

module _ (from to : ℕ) where
  over_later : (p : ℕ) (rs : List OpenRun) → to ≤ p → AllByRecursion (λ q. p < q) (parts_of rs) → NoneBetween from to rs
  over_later p [] le up = tt
  over_later p (r ∷ rs) le up = (
    (λ low high. let lt : p < r.part = up.0 in absurd (omega (arith, lt, le, high))),
    over_later p rs le up.1,
  )

  -- those before the index are below the one partition, and the one at it isn't below the other
  pub none_there : (rs : List OpenRun) (at : ℕ) → PartsRise (parts_of rs) →
      AllByRecursion (λ (r : OpenRun). r.part < from)
      (take at rs) → ((d : OpenRun) → at < length rs → to ≤ (get_or rs at d).part) → NoneBetween from to rs
  none_there [] at up below stop = tt
  none_there (r ∷ rs) zero up below stop =
      let le : to ≤ r.part = stop r (omega arith) in
      ((λ low high. absurd (omega (arith, le, high))), over_later r.part rs le up.0)
  none_there (r ∷ rs) (suc at) up below stop = (
    let lt : r.part < from = below.0 in (λ low high. absurd (omega (arith, lt, low))),
    none_there rs at up.1 below.1 (λ d lt. stop d (omega arith)),
  )

pub of_none : {P : Type 0} (o : Option Entry) → ((e : Entry) → o ≡ Some e → ⊥) → IfNone o P → P
of_none None not h = h
of_none (Some e) not h = absurd (not e refl)

-- a key that lives nowhere
module _ (es : List Entry) (key : OrderedKey) (sound : AreWellFormed es) where
  -- what stands at a place where nothing lives is a ghost
  pub vacant : is_some (live_value (find es 0 key)) ≡ false → get (content es) key ≡ None →
      IsVacancy es key (vacancy_over (find es 0 key))
  vacant dead none = by_cases (find es 0 key) refl
    where
      by_cases : (s : Option Slot) → find es 0 key ≡ s → IsVacancy es key (vacancy_over s)
      by_cases None is = (is, none)
      by_cases (Some (value, true)) is = (is, none)
      by_cases (Some (value, false)) is = absurd (true≢false
          (sym (ap (λ (s : Option Slot). is_some (live_value s)) is) ∙ dead))

  pub vacant_over : (slot : Option Slot) → slot ≡ find es 0 key → is_some (live_value slot) ≡ false →
      LivesInNoRun es key → IsVacancy es key (vacancy_over slot)
  vacant_over slot found dead none =
      let here = ap (λ (s : Option Slot). is_some (live_value s)) (sym found) ∙ dead in
      subst (IsVacancy es key) (ap vacancy_over (sym found))
      (vacant here (lives_nowhere {es = es} {key = key} sound here none))

-- ---- partitions without entries

module _ {es : List Entry} {n : ℕ} {runs : List OpenRun} (h : AreListed es n runs) (from at : ℕ)
    (final : from ≡ 0 → n ≡ 0) (below : AllByRecursion (λ (r : OpenRun). r.part < from) (take at runs)) where
  none_between : (to : ℕ) → ((d : OpenRun) → at < length runs → to ≤ (get_or runs at d).part) →
      (part : ℕ) (key : OrderedKey) → from ≤ part → part < to → find es part key ≡ None
  none_between to stop part key low high =
      ⊎_elim
      (λ (same : part ≡ 0). ap (λ p. find es p key) same ∙ nothing_in_final key h (final (omega (arith, same, low))))
      (λ (other : part ≢ 0).
      unlisted key part h (omega (arith, other))
      (none_within from to part runs (none_there from to runs at h.rising below stop) low high))
      (cases_eq part 0)

  pub empty_up_to : (r : OpenRun) → at < length runs → r ≡ get_or runs at r → AreEmpty es from r.part
  empty_up_to r inside here = record {
    none = none_between r.part (λ d lt.
        let same : r.part ≡ (get_or runs at d).part =
        ap (λ (q : OpenRun). q.part) (here ∙ get_or_default runs at r d inside) in
        omega (arith, same));
  }

  pub empty_from : length runs ≤ at → AreEmptyFrom es from
  empty_from past = record {
    none = λ part key low. none_between (part + 1)
        (λ d lt. absurd (omega (arith, lt, past))) part key low (omega arith);
  }

-- ---- the entry that a look found, or none

-- the entry of what stands live at the place
abbrev pub IsOf : ℕ → OrderedKey → Option Slot → Entry → Type 0
IsOf part key slot e = (slot ≡ Some (e.value, false)) × (e.part ≡ part) × (e.key ≡ key) × (e.is_ghost ≡ false)

module _ {es : List Entry} (sound : AreWellFormed es) (part : ℕ) (key : OrderedKey) {slot : Option Slot}
    (found : slot ≡ find es part key) where
  pub found_live : (o : Option Entry) → IfSome o (IsOf part key slot) → IfSome o (IsLiveEntry es key)
  found_live None h = tt
  found_live (Some e) h = stands_live {es = es} {key = key} sound part e (sym found ∙ h.0) h.1 h.2 h.3

-- where it isn't found live in a run, it isn't live there
pub not_found : (es : List Entry) (part : ℕ) (key : OrderedKey) (slot : Option Slot) → slot ≡ find es part key →
    (o : Option Entry) → IfNone o (is_some (live_value slot) ≡ false) → IfNone o (LivesInRun es key part → ⊥)
not_found es part key slot found (Some e) dead = tt
not_found es part key slot found None dead = λ it.
    found_dead {es = es} {key = key} part (ap (λ (o : Option Slot). is_some (live_value o)) (sym found) ∙ dead) it.value
    it.live

-- what is said of an answer that there is, or that there isn't
pub said_of_some : {A : Type 0} (o : Option A) (P : A → Type 0) → is_some o ≡ true → IfSome o P → (x : A) × P x
said_of_some None P some h = absurd (false≢true some)
said_of_some (Some x) P some h = (x, h)

pub not_none : {A : Type 0} (o : Option A) (P : Type 0) → is_some o ≡ true → IfNone o P
not_none None P some = absurd (false≢true some)
not_none (Some x) P some = tt

pub said_of_none : {A : Type 0} (o : Option A) (P : Type 0) → is_some o ≡ false → IfNone o P → P
said_of_none None P none h = h
said_of_none (Some x) P none h = absurd (true≢false none)

-- ---- keys that are live nowhere

-- records that are live in no partition are absent
pub all_absent : {es : List Entry} → AreWellFormed es → (rs : Records) →
    ((key : OrderedKey) (value : List ℕ) → is_key_of rs key ≡ true → IsLiveAt es 0 key value → ⊥) →
    AllByRecursion (λ (r : Record). LivesInNoRun es r.0) rs → AreAllAbsent es rs
all_absent sound [] none dead = tt
all_absent {es} sound (r ∷ rs) none dead = (
  (laws_of sound).reads.dead r.0 (λ part value live.
      ⊎_elim
      (λ (same : part ≡ 0). none r.0 value (or_left (key_eq r.0 r.0) (is_key_of rs r.0) (key_eq-itself r.0))
      (subst (λ (p : ℕ). IsLiveAt es p r.0 value) same live))
      (λ (other : part ≢ 0). dead.0.none part value (omega (arith, other)) live)
      (cases_eq part 0)),
  all_absent sound rs (λ key value one. none key value (or_right (key_eq key r.0) (is_key_of rs key) one)) dead.1,
)

-- where one is live, not all are absent
pub not_all_absent : (es : List Entry) (rs : Records) (i : ℕ) (pair : Record) (e : Entry) → i < length rs →
    pair ≡ get_or rs i pair → IsLiveEntry es pair.0 e → AreAllAbsent es rs → ⊥
not_all_absent es rs i pair e lt is live absent =
    none-some e.value (sym (ap (λ (r : Record). get (content es) r.0) is ∙
    AllByRecursion-at (λ (r : Record). get (content es) r.0 ≡ None) rs i pair absent lt) ∙ live.has)
