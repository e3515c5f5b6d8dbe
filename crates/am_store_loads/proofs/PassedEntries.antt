-- Rising records and the entries of one partition, passed over side by side.
use Rattle.std.proofs.Common.{◌≡◌, ℕ, List, [], ◌∷◌, length, Bool, true, false, ◌&&◌, not, Some, None, refl, sym, ap}
use Rattle.std.proofs.Common.{◌∙◌, subst, arith, ⊎_elim}
use Rattle.std.proofs.lemmas.Bool.{cases_Bool, and_parts, or_cases, or_left, or_right, true≢false, false≢true}
use Rattle.std.proofs.lemmas.Option.{same_Some}
use Rattle.std.specs.declared.cmp.Ordering.{Ordering}
use Rattle.std.specs.declared.cmp.Ordering.TheVariants.{Less, Equal, Greater}
use Rattle.std.specs.Ordering.{is_lt, is_le}
use Rattle.std.specs.FinMap.{is_sorted}
use Rattle.am_record.specs.OrderedKey.{OrderedKey, key_cmp, key_cmp-exact, key_eq-exact}
use Rattle.am_record.specs.Interval.{key_le, key_le-itself}
use Rattle.am_record.specs.Plain.{Records, is_key_of}
use Rattle.am_record.specs.declared.entry.Entry.{Entry}
use Rattle.am_record.proofs.FirstRows.{key_eq, key_eq-itself, le_of_less, le_of_equal, Record}
use Rattle.am_record.proofs.RisingRecords.{Below, sorted_parts}
use Rattle.am_index.specs.Entries.{slot_of, find, next_from}
use Rattle.am_index.specs.Walks.{WalkLaws}
use Rattle.am_index.specs.Content.{IsLiveAt}
use Rattle.am_index.proofs.Edits.{entry_at_slot}
use Rattle.am_index.proofs.WalkLaws.{walk_laws}
use Rattle.am_index.proofs.Content.{none_live}
use Rattle.am_index_parts.specs.Partitions.{AreWellFormed, NoneLiveIn}
use Rattle.am_index_parts.proofs.Lives.{lives_in}
use Rattle.am_store_loads.specs.Looks.{IsLeastLiveIn}
use Rattle.am_store_loads.proofs.PartedRecords.{is_below, kept, is_key_kept, sorted_kept}

-- ---- keys of records

pub same_key : {q k : OrderedKey} → q ≡ k → key_eq q k ≡ true
same_key {q} {k} same = ap (key_eq q) (sym same) ∙ key_eq-itself q

key_above : (low : OrderedKey) (rs : Records) (q : OrderedKey) → Below low rs → is_key_of rs q ≡ true →
    key_cmp low q ≡ Less
key_above low [] q below h = absurd (false≢true h)
key_above low (r ∷ rs) q below h =
    ⊎_elim
    (λ here. ap (key_cmp low) (key_eq-exact q r.0 here) ∙ below.0)
    (λ later. key_above low rs q below.1 later)
    (or_cases (key_eq q r.0) (is_key_of rs q) h)

-- no key of rising records is below the first
pub first_below : (r : Record) (rs : Records) (q : OrderedKey) → is_sorted key_cmp (r ∷ rs) ≡ true →
    is_key_of (r ∷ rs) q ≡ true → key_le r.0 q ≡ true
first_below r rs q sorted h =
    ⊎_elim (λ here. le_of_equal r.0 q here) (λ later. le_of_less r.0 q
    (key_above r.0 rs q (sorted_parts r rs sorted).0 later)) (or_cases (key_eq q r.0) (is_key_of rs q) h)

pub first_is_key : (left : Records) (r : Record) (rs : Records) → left ≡ r ∷ rs → is_key_of left r.0 ≡ true
first_is_key left r rs is = ap (λ (l : Records). is_key_of l r.0) is ∙ or_left (key_eq r.0 r.0) (is_key_of rs r.0)
    (key_eq-itself r.0)

-- a partition with no entry at or above the first of rising records
pub nothing_reached : {es : List Entry} → WalkLaws es → (part : ℕ) (r : Record) (rs : Records) →
    is_sorted key_cmp (r ∷ rs) ≡ true → next_from es part r.0 ≡ None → NoneLiveIn es part (r ∷ rs)
nothing_reached {es} walks part r rs sorted none =
    record {
      none = λ q value key. none_live es part q (walks.from_none part r.0 none q (first_below r rs q sorted key))
          value;
    }

-- ---- the walk

abbrev pub not_below : OrderedKey → OrderedKey → Bool
not_below low q = not (is_below low q)

pub no_key : (rs : Records) (q : OrderedKey) → length rs ≡ 0 → is_key_of rs q ≡ true → ⊥
no_key [] q none key = false≢true key
no_key (r ∷ rs) q none key = omega (arith, none)

-- those of the records that are left rise, and no other one is live in the partition
pub record IsLeft (es : List Entry) (part : ℕ) (records left : Records) : Type 0 where
  pub sorted : is_sorted key_cmp left ≡ true
  pub within : (q : OrderedKey) → is_key_of left q ≡ true → is_key_of records q ≡ true
  pub passed : (q : OrderedKey) (value : List ℕ) → is_key_of records q ≡ true → is_key_of left q ≡ false →
      ¬ IsLiveAt es part q value

pub all_left : (es : List Entry) (part : ℕ) (records : Records) → is_sorted key_cmp records ≡ true →
    IsLeft es part records records
all_left es part records sorted = record {
  sorted = sorted;
  within = λ q key. key;
  passed = λ q value key other live. true≢false (sym key ∙ other);
}

module _ {es : List Entry} {part : ℕ} {records left : Records} (h : IsLeft es part records left) where
  -- none is left that is live
  pub passes_all : NoneLiveIn es part left → NoneLiveIn es part records
  passes_all none = record {
    none = λ q value key live. ⊎_elim (λ there. none.none q value there live)
        (λ other. h.passed q value key other live) (cases_Bool (is_key_of left q));
  }

  pub none_left : length left ≡ 0 → NoneLiveIn es part records
  none_left empty = passes_all (record { none = λ q value key live. no_key left q empty key })

module _ {es : List Entry} (sound : AreWellFormed es) {part : ℕ} {records : Records} (r : Record) (rs : Records)
    (h : IsLeft es part records (r ∷ rs)) where
  walks : WalkLaws es
  walks = walk_laws es sound.rising

  pub ends_here : next_from es part r.0 ≡ None → NoneLiveIn es part records
  ends_here none = passes_all h (nothing_reached walks part r rs h.sorted none)

  module _ (e : Entry) (next : next_from es part r.0 ≡ Some e) where
    slot_there : find es part e.key ≡ Some (slot_of e)
    slot_there = entry_at_slot es part e.key e (walks.from_some part r.0 e next).stands

    -- the entry is live at the record's key
    pub found : e.key ≡ r.0 → e.is_ghost ≡ false → IsLeastLiveIn es part records e.key
    found same lives = subst (IsLeastLiveIn es part records) (sym same) (record {
      is_key = h.within r.0 (or_left (key_eq r.0 r.0) (is_key_of rs r.0) (key_eq-itself r.0));
      lives = lives_in sound (record {
        there = sym (ap (find es part) same) ∙ slot_there ∙
            ap (λ b. Some (e.value, b)) lives;
      });
      least = λ q value key live. ⊎_elim (λ there. first_below r rs q h.sorted there)
          (λ other. absurd (h.passed q value key other live)) (cases_Bool (is_key_of (r ∷ rs) q));
    })

    module _ (not_live : e.key ≡ r.0 → e.is_ghost ≡ true) where
      first_passed : (value : List ℕ) → ¬ IsLiveAt es part r.0 value
      first_passed value live = by_order (key_cmp r.0 e.key) refl
        where
          by_order : (o : Ordering) → key_cmp r.0 e.key ≡ o → ⊥
          by_order Less less = none_live es part r.0 ((walks.from_some part r.0 e next).none_before r.0
              (key_le-itself r.0) less) value live
          by_order Equal equal =
              let same : e.key ≡ r.0 = sym (key_cmp-exact r.0 e.key equal) in
              true≢false (sym (not_live same) ∙ ap (λ (s : List ℕ × Bool). s.1)
              (same_Some _ _ (sym slot_there ∙ ap (find es part) same ∙ live.there)))
          by_order Greater greater = true≢false (sym (walks.from_some part r.0 e next).is_reached ∙ ap is_le greater)

      between_passed : (q : OrderedKey) (value : List ℕ) → key_cmp r.0 q ≡ Less → is_lt (key_cmp q e.key) ≡ true →
          ¬ IsLiveAt es part q value
      between_passed q value above below = none_live es part q
          ((walks.from_some part r.0 e next).none_before q (le_of_less r.0 q above) (less_of (key_cmp q e.key) below))
          value
        where
          less_of : (o : Ordering) → is_lt o ≡ true → o ≡ Less
          less_of Less h = refl
          less_of Equal h = absurd (false≢true h)
          less_of Greater h = absurd (false≢true h)

      pub passes_on : (left : Records) → left ≡ kept (not_below e.key) rs → IsLeft es part records left
      passes_on left is = subst (IsLeft es part records) (sym is) (record {
        sorted = sorted_kept (not_below e.key) rs (sorted_parts r rs h.sorted).1;
        within = λ q key. h.within q (or_right (key_eq q r.0) (is_key_of rs q)
            (and_parts (is_key_of rs q) (not_below e.key q) (sym (is_key_kept (not_below e.key) rs q) ∙ key)).0);
        passed = λ q value key other live.
            ⊎_elim
            (λ there.
            ⊎_elim
            (λ here. first_passed value (subst (λ k. IsLiveAt es part k value) (key_eq-exact q r.0 here) live))
            (λ later. between_passed q value (key_above r.0 rs q (sorted_parts r rs h.sorted).0 later)
            (below_of q later other) live)
            (or_cases (key_eq q r.0) (is_key_of rs q) there))
            (λ elsewhere. h.passed q value key elsewhere live) (cases_Bool (is_key_of (r ∷ rs) q));
      })
        where
          both : (a b : Bool) → a ≡ true → (a && not b) ≡ false → b ≡ true
          both true true g o = refl
          both true false g o = absurd (true≢false o)
          both false b g o = absurd (false≢true g)

          below_of : (q : OrderedKey) → is_key_of rs q ≡ true → is_key_of (kept (not_below e.key) rs) q ≡ false →
              is_lt (key_cmp q e.key) ≡ true
          below_of q later other = both (is_key_of rs q) (is_lt (key_cmp q e.key)) later
              (sym (is_key_kept (not_below e.key) rs q) ∙ other)
