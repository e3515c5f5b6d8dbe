-- The least live key of rising records: in the final partition, and below it in the runs.
use Rattle.std.proofs.Common.{◌≡◌, ◌≢◌, ℕ, zero, suc, ◌<◌, List, [], ◌∷◌, length, get_or, take, true, Option, Some}
use Rattle.std.proofs.Common.{None, sym, ap, ◌∙◌, subst, arith, ⊎_elim}
use Rattle.std.specs.Prelude.{is_some, IfSome}
use Rattle.std.proofs.lemmas.Bool.{cases_Bool, cases_eq, and_parts, and_from, or_left, or_right, or_cases, false≢true}
use Rattle.std.specs.Ordering.{is_lt}
use Rattle.std.proofs.lemmas.List.{get_or-take}
use Rattle.std.specs.List.{AllByRecursion}
use Rattle.std.specs.FinMap.{get, is_sorted}
use Rattle.am_record.specs.OrderedKey.{OrderedKey, key_cmp, key_cmp-total, key_eq-exact, key_least}
use Rattle.am_record.specs.Interval.{key_le}
use Rattle.am_record.specs.Plain.{Records, is_key_of, is_rising, first_key, least_taken}
use Rattle.am_record.specs.declared.entry.Entry.{Entry}
use Rattle.am_record.proofs.FirstRows.{key_eq, Record}
use Rattle.am_record.proofs.RisingRecords.{sorted_parts, run_sorted}
use Rattle.am_record.proofs.Orderings.{is_less}
use Rattle.am_index.specs.Entries.{next_from}
use Rattle.am_index.specs.Content.{content, IsLiveAt}
use Rattle.am_index.proofs.WalkLaws.{walk_laws}
use Rattle.am_index_parts.specs.Partitions.{AreWellFormed, LivesIn, LivesInNoRun, NoneLiveIn}
use Rattle.am_index_parts.proofs.Lives.{laws_of}
use Rattle.am_store_loads.specs.Looks.{IsLeastLiveIn, NoneInRuns, IsLeastInRuns}
use Rattle.am_store_loads.proofs.PartedRecords.{not_less, less_not, is_below, kept, is_key_kept, sorted_kept}
use Rattle.am_store_loads.proofs.PassedEntries.{same_key, first_below, nothing_reached}
use Rattle.am_store_loads.proofs.LeastTaken.{least_found}

-- ---- the final partition

-- the key is that of the record at the place
abbrev pub IsKeyAt : Records → ℕ → OrderedKey → Type 0
IsKeyAt rs i key = key ≡ (get_or rs i (key_least, [])).0

pub empty_final : {es : List Entry} → AreWellFormed es → (records : Records) (low : OrderedKey) →
    IsKeyAt records 0 low → is_rising records ≡ true → next_from es 0 low ≡ None → NoneLiveIn es 0 records
empty_final sound [] low first rising none = absurd (false≢true rising)
empty_final {es} sound (r ∷ rs) low first rising none = nothing_reached (walk_laws es sound.rising) 0 r rs
    (run_sorted (r ∷ rs) rising) (ap (next_from es 0) (sym first) ∙ none)

pub first_of_final : {es : List Entry} (sound : AreWellFormed es) (low : OrderedKey) (e : Entry) →
    next_from es 0 low ≡ Some e → e.part ≡ 0
first_of_final {es} sound low e next = ((walk_laws es sound.rising).from_some 0 low e next).in_part

pub from_first : (es : List Entry) (records : Records) (low : OrderedKey) (e : Entry) → IsKeyAt records 0 low →
    e.part ≡ 0 → next_from es 0 low ≡ Some e → IfSome (first_key records) (λ key. next_from es e.part key ≡ Some e)
from_first es [] low e first final next = tt
from_first es (r ∷ rs) low e first final next = (λ i. next_from es (final i) (sym first i)) ∙ next

-- ---- the runs

-- none of the records' keys is live in a run
abbrev pub NoneSeen : List Entry → Records → Type 0
NoneSeen es rs = AllByRecursion (λ (r : Record). LivesInNoRun es r.0) rs

pub one_more_seen : (es : List Entry) (rs : Records) (i : ℕ) (key : OrderedKey) → i < length rs → IsKeyAt rs i key →
    LivesInNoRun es key → NoneSeen es (take i rs) → NoneSeen es (take (suc i) rs)
one_more_seen es [] i key lt at none seen = absurd (omega arith)
one_more_seen es (r ∷ rs) zero key lt at none seen = (subst (LivesInNoRun es) at none, tt)
one_more_seen es (r ∷ rs) (suc i) key lt at none seen = (
  seen.0,
  one_more_seen es rs i key (omega arith) at none seen.1,
)

pub none_of_seen : (es : List Entry) (rs : Records) → NoneSeen es rs → (q : OrderedKey) → is_key_of rs q ≡ true →
    LivesInNoRun es q
none_of_seen es [] seen q key = absurd (false≢true key)
none_of_seen es (r ∷ rs) seen q key =
    ⊎_elim
    (λ here. subst (LivesInNoRun es) (sym (key_eq-exact q r.0 here)) seen.0)
    (λ later. none_of_seen es rs seen.1 q later)
    (or_cases (key_eq q r.0) (is_key_of rs q) key)

is_key_at : (rs : Records) (i : ℕ) (key : OrderedKey) → i < length rs → IsKeyAt rs i key → is_key_of rs key ≡ true
is_key_at [] i key lt at = absurd (omega arith)
is_key_at (r ∷ rs) zero key lt at = or_left (key_eq key r.0) (is_key_of rs key) (same_key at)
is_key_at (r ∷ rs) (suc i) key lt at =
    or_right (key_eq key r.0) (is_key_of rs key) (is_key_at rs i key (omega arith) at)

-- what is below the record at a place stands before it
none_below_at : (es : List Entry) (rs : Records) (i : ℕ) (key : OrderedKey) → is_sorted key_cmp rs ≡ true →
    i < length rs → IsKeyAt rs i key → NoneSeen es (take i rs)
    → (q : OrderedKey) → is_key_of rs q ≡ true → is_lt (key_cmp q key) ≡ true → LivesInNoRun es q
none_below_at es [] i key sorted lt at seen q one less = absurd (omega arith)
none_below_at es (r ∷ rs) zero key sorted lt at seen q one less =
    absurd (less_not q key less (ap (λ k. key_le k q) at ∙ first_below r rs q sorted one))
none_below_at es (r ∷ rs) (suc i) key sorted lt at seen q one less =
    ⊎_elim
    (λ here. subst (LivesInNoRun es) (sym (key_eq-exact q r.0 here)) seen.0)
    (λ later. none_below_at es rs i key (sorted_parts r rs sorted).1 (omega arith) at seen.1 q later less)
    (or_cases (key_eq q r.0) (is_key_of rs q) one)

pub least_at : (es : List Entry) (rs : Records) (i : ℕ) (key : OrderedKey) (part : ℕ) →
    is_sorted key_cmp rs ≡ true → i < length rs → IsKeyAt rs i key → NoneSeen es (take i rs) →
    LivesIn es part key → IsLeastInRuns es rs key
least_at es rs i key part sorted lt at seen lives = record {
  is_key = is_key_at rs i key lt at;
  part = part;
  lives = lives;
  least = none_below_at es rs i key sorted lt at seen;
}

-- the same of the first few of some records
pub key_at_taken : (rs : Records) (n i : ℕ) (key : OrderedKey) → i < n → IsKeyAt rs i key → IsKeyAt (take n rs) i key
key_at_taken rs n i key lt at = at ∙ ap (λ (r : Record). r.0) (sym (get_or-take n rs i (key_least, []) lt))

-- what the look into the runs answers
abbrev pub IsRunsAnswer : List Entry → Records → Option OrderedKey → Type 0
IsRunsAnswer es records None = NoneInRuns es records
IsRunsAnswer es records (Some k) = IsLeastInRuns es records k

-- ---- both

module _ {es : List Entry} (sound : AreWellFormed es) (records : Records) where
  -- the key is below the one that was found, or none was
  abbrev IsBefore : Option OrderedKey → OrderedKey → Type 0
  IsBefore None q = Unit {0}
  IsBefore (Some k) q = is_below k q ≡ true

  dead : (q : OrderedKey) → ((value : List ℕ) → IsLiveAt es 0 q value → ⊥) → LivesInNoRun es q →
      get (content es) q ≡ None
  dead q not_final runs = (laws_of sound).reads.dead q (λ part value live.
      ⊎_elim
      (λ (same : part ≡ 0). not_final value (subst (λ (p : ℕ). IsLiveAt es p q value) same live))
      (λ (other : part ≢ 0). runs.none part value (omega (arith, other)) live)
      (cases_eq part 0))

  settled : (o : Option OrderedKey) → ((q : OrderedKey) → is_key_of records q ≡ true → IsBefore o q →
      get (content es) q ≡ None)
      → IfSome o (λ k. (is_key_of records k ≡ true) × (is_some (get (content es) k) ≡ true)) →
      o ≡ least_taken records (content es)
  settled None none live = least_found (content es) records None (λ q key. none q key tt)
  settled (Some k) none live = least_found (content es) records (Some k) (
    live.0,
    live.1,
    λ q key taken.
        ⊎_elim
        (λ less. absurd (false≢true (sym (ap is_some (none q key less)) ∙ taken)))
        (λ other. not_less q k other)
        (cases_Bool (is_below k q)),
  )

  taken : (k : OrderedKey) (part : ℕ) → LivesIn es part k → is_some (get (content es) k) ≡ true
  taken k part lives = ap is_some lives.in_content

  -- none is live in the final partition
  pub none_in_final : NoneLiveIn es 0 records → (o : Option OrderedKey) → IsRunsAnswer es records o →
      o ≡ least_taken records (content es)
  none_in_final final None runs = settled None (λ q key _. dead q (λ value. final.none q value key) (runs.none q key))
      tt
  none_in_final final (Some k) runs =
      settled (Some k) (λ q key less. dead q (λ value. final.none q value key) (runs.least q key less))
      (runs.is_key, taken k runs.part runs.lives)

  module _ (key : OrderedKey) (final : IsLeastLiveIn es 0 records key) (left : Records)
      (is : left ≡ kept (is_below key) records) where
    in_left : (q : OrderedKey) → is_key_of records q ≡ true → is_below key q ≡ true → is_key_of left q ≡ true
    in_left q there less = ap (λ (rs : Records). is_key_of rs q) is ∙ is_key_kept (is_below key) records q ∙
        and_from (is_key_of records q) (is_below key q) there less

    from_left : (q : OrderedKey) → is_key_of left q ≡ true → (is_key_of records q ≡ true) × (is_below key q ≡ true)
    from_left q h = and_parts (is_key_of records q) (is_below key q)
        (sym (ap (λ (rs : Records). is_key_of rs q) is ∙ is_key_kept (is_below key) records q) ∙ h)

    not_there : (q : OrderedKey) → is_key_of records q ≡ true → is_below key q ≡ true → (value : List ℕ) →
        IsLiveAt es 0 q value → ⊥
    not_there q there less value live = less_not q key less (final.least q value there live)

    pub left_sorted : is_sorted key_cmp records ≡ true → is_sorted key_cmp left ≡ true
    left_sorted sorted = ap (λ (rs : Records). is_sorted key_cmp rs) is ∙ sorted_kept (is_below key) records sorted

    -- none below it is live in a run
    pub final_is_least : NoneInRuns es left → Some key ≡ least_taken records (content es)
    final_is_least runs =
        settled (Some key) (λ q there less. dead q (not_there q there less) (runs.none q (in_left q there less)))
        (final.is_key, taken key 0 final.lives)

    pub run_is_least : (k : OrderedKey) → IsLeastInRuns es left k → Some k ≡ least_taken records (content es)
    run_is_least k runs =
        let its = from_left k runs.is_key in
        settled (Some k) (λ q there less.
        let lower : is_below key q ≡ true = ap is_lt (key_cmp-total.trans q k key (is_less (key_cmp q k) less)
        (is_less (key_cmp k key) its.1)) in
        dead q (not_there q there lower) (runs.least q (in_left q there lower) less))
        (its.0, taken k runs.part runs.lives)
