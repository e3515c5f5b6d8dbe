-- What a walk through one partition finds among what it has read and after it.
use Rattle.std.proofs.Common.{◌≡◌, ℕ, zero, suc, ◌-◌, List, [], ◌∷◌, ◌++◌, length, take, drop, filter, Bool, true}
use Rattle.std.proofs.Common.{false, ◌&&◌, ◌==◌, cond, Option, Some, None, refl, sym, ap, ◌∙◌, arith, ⊎_elim}
use Rattle.std.proofs.Common.{append_assoc, length-append, length-take}
use Rattle.std.proofs.lemmas.Bool.{cases_Bool, cond-false, true≢false, false≢true, eqb-true, and_parts, or_right}
use Rattle.std.proofs.lemmas.List.{take-append-drop}
use Rattle.std.proofs.lemmas.Option.{none-some, same_Some}
use Rattle.std.specs.declared.cmp.Ordering.{Ordering}
use Rattle.std.specs.declared.cmp.Ordering.TheVariants.{Less, Equal, Greater}
use Rattle.std.specs.Ordering.{is_lt, is_le, is_ge, is_gt, ordering_reverse}
use Rattle.std.specs.List.{slice_get}
use Rattle.std.specs.Prelude.{IfSome, is_some}
use Rattle.std.specs.FinMap.{is_sorted}
use Rattle.am_record.specs.OrderedKey.{OrderedKey, key_cmp, key_cmp-total, key_cmp-exact}
use Rattle.am_record.specs.Interval.{key_le, key_le-itself}
use Rattle.am_record.specs.EntryOrder.{place_of, place_cmp, place_cmp-same}
use Rattle.am_record.specs.declared.entry.Entry.{Entry}
use Rattle.am_record.specs.Plain.{Records, is_key_of, first_key}
use Rattle.am_record.proofs.FirstRows.{key_eq, Record}
use Rattle.am_record.proofs.KeyOrder.{key_le_trans}
use Rattle.am_record.proofs.Orderings.{ge_reversed, gt_reversed}
use Rattle.am_index.specs.Entries.{first_such, next_from, all_after, IsRising}
use Rattle.am_index.specs.Walks.{WalkLaws}
use Rattle.am_index.proofs.Lists.{first_such_here}
use Rattle.am_index.proofs.WalkLaws.{walk_laws}
use Rattle.am_index.proofs.ReadLaws.{read_laws}
use Rattle.am_store_loads.specs.declared.walk.Walk.{Walk}
use Rattle.am_store_loads.specs.Walk.{IsWalkFrom}
use Rattle.am_store_loads.proofs.PartedRecords.{kept, is_key_kept}
use Rattle.am_store_loads.proofs.Beginnings.{first_is}
use Rattle.am_store_loads.proofs.PassedEntries.{first_below}

-- whether the entry stands at the key or above it
abbrev reaches : OrderedKey → Entry → Bool
reaches key e = key_le key e.key

-- ---- orders

less_of : (o : Ordering) → is_le (ordering_reverse o) ≡ false → o ≡ Less
less_of Less h = refl
less_of Equal h = absurd (true≢false h)
less_of Greater h = absurd (true≢false h)

-- the other way round
not_reached : (low key : OrderedKey) → key_le low key ≡ false → key_cmp key low ≡ Less
not_reached low key h = less_of (key_cmp key low) (sym (ap is_le (key_cmp-total.antisymm low key)) ∙ h)

less_after : (a b c : OrderedKey) → key_cmp a b ≡ Less → key_le b c ≡ true → is_lt (key_cmp a c) ≡ true
less_after a b c less le = by_order (key_cmp b c) refl le
  where
    by_order : (o : Ordering) → key_cmp b c ≡ o → is_le o ≡ true → is_lt (key_cmp a c) ≡ true
    by_order Less below h = ap is_lt (key_cmp-total.trans a b c less below)
    by_order Equal same h = ap is_lt (ap (key_cmp a) (sym (key_cmp-exact b c same)) ∙ less)
    by_order Greater above h = absurd (false≢true h)

module _ (part : ℕ) (key q : OrderedKey) where
  place_ge : is_ge (place_cmp (part, q) (part, key)) ≡ key_le key q
  place_ge = ap is_ge (place_cmp-same part q key ∙ key_cmp-total.antisymm q key) ∙ ge_reversed (key_cmp key q)

  place_gt : is_gt (place_cmp (part, q) (part, key)) ≡ is_lt (key_cmp key q)
  place_gt = ap is_gt (place_cmp-same part q key ∙ key_cmp-total.antisymm q key) ∙ gt_reversed (key_cmp key q)

-- ---- the first entry that passes a test

-- of those that pass another one, which it implies
first_kept : (kept other test : Entry → Bool) → ((e : Entry) → test e ≡ (kept e && other e)) → (es : List Entry) →
    first_such test es ≡ first_such other (filter kept es)
first_kept kept other test same [] = refl
first_kept kept other test same (e ∷ es) =
    ap (λ b. cond b (Some e) (first_such test es)) (same e)
    ∙ elim (kept e) as (λ b. cond (b && other e) (Some e) (first_such test es) ≡ first_such other
    (cond b (e ∷ filter kept es) (filter kept es))) [
      | true ↦ ap (λ o. cond (other e) (Some e) o) (first_kept kept other test same es)
      | false ↦ first_kept kept other test same es
    ]

-- ---- what stands after a key

module _ (es : List Entry) (part : ℕ) (last key : OrderedKey) (less : key_cmp last key ≡ Less) where
  in_keys : (e : Entry) (b : Bool) → (e.part == part) ≡ b → (b && is_ge (place_cmp (place_of e) (part, key))) ≡
      ((b && is_gt (place_cmp (place_of e) (part, last))) && reaches key e)
  in_keys e false other = refl
  in_keys e true same =
      let at_part = eqb-true e.part part same in
      ap (λ p. is_ge (place_cmp (p, e.key) (part, key))) at_part ∙ place_ge part key e.key
      ∙ above_both (key_le key e.key) refl
      ∙ ap (λ b. b && key_le key e.key) (sym (ap (λ p. is_gt (place_cmp (p, e.key) (part, last))) at_part ∙
      place_gt part last e.key))
    where
      above_both : (b : Bool) → key_le key e.key ≡ b → b ≡ (is_lt (key_cmp last e.key) && b)
      above_both true h = sym (ap (λ b. b && true) (less_after last key e.key less h))
      above_both false h = sym (none (is_lt (key_cmp last e.key)))
        where
          none : (b : Bool) → (b && false) ≡ false
          none true = refl
          none false = refl

  behind : next_from es part key ≡ first_such (reaches key) (all_after es part last)
  behind = first_kept (λ e. e.part == part && is_gt (place_cmp (place_of e) (part, last))) (reaches key)
      (λ e. e.part == part && is_ge (place_cmp (place_of e) (part, key))) (λ e. in_keys e (e.part == part) refl) es

-- ---- the walk

-- at the first entry from a key on, and nothing read after it
pub begins : {es : List Entry} → IsRising es → (low : OrderedKey) (e : Entry) (walk : Walk) →
    next_from es walk.part low ≡ Some e → walk.read ≡ e ∷ [] → walk.passed ≡ 0 → walk.last ≡ e.key →
    IsWalkFrom es low walk
begins {es} rising low e walk next read passed last = record {
  finds = λ key le.
      let first = walks.from_some walk.part low e next in
      ⊎_elim
      (λ here. first_is walks walk.part key e first.stands here
      (λ q above below. first.none_before q (key_le_trans low key q le above) below) ∙
      sym (first_such_here (reaches key) e (all_after es walk.part e.key) here))
      (λ later. behind es walk.part e.key key (not_reached key e.key later) ∙
      sym (cond-false (reaches key e) (Some e) (first_such (reaches key) (all_after es walk.part e.key)) later))
      (cases_Bool (reaches key e))
      ∙ ap (λ n. first_such (reaches key) (drop n (e ∷ []) ++ all_after es walk.part e.key)) (sym passed)
      ∙ ap (λ l. first_such (reaches key) (drop walk.passed l ++ all_after es walk.part e.key)) (sym read)
      ∙ ap (λ k. first_such (reaches key) (drop walk.passed walk.read ++ all_after es walk.part k)) (sym last);
}
  where
    walks : WalkLaws es
    walks = walk_laws es rising

still_below : (low key q : OrderedKey) → key_le low key ≡ true → key_le low q ≡ false → key_le key q ≡ false
still_below low key q le below = ⊎_elim (λ yes. absurd (true≢false (sym (key_le_trans low key q le yes) ∙ below)))
    (λ no. no) (cases_Bool (key_le key q))

drop_here : (n : ℕ) (es : List Entry) (e : Entry) → slice_get es n ≡ Some e → drop n es ≡ e ∷ drop (suc n) es
drop_here n [] e h = absurd (none-some e h)
drop_here zero (x ∷ es) e h = ap (λ y. y ∷ es) (same_Some _ _ h)
drop_here (suc n) (x ∷ es) e h = drop_here n es e h

drop_past : (n : ℕ) (es : List Entry) → slice_get es n ≡ None → drop n es ≡ []
drop_past zero [] h = refl
drop_past (suc n) [] h = refl
drop_past zero (x ∷ es) h = absurd (none-some x (sym h))
drop_past (suc n) (x ∷ es) h = drop_past n es h

module _ {es : List Entry} {low : OrderedKey} {walk : Walk} (h : IsWalkFrom es low walk) where
  -- no lower key is asked for
  pub goes_up : (key : OrderedKey) → key_le low key ≡ true → IsWalkFrom es key walk
  goes_up key le = record { finds = λ q above. h.finds q (key_le_trans low key q le above) }

  -- an entry below the key is passed
  pub passes : (new : Walk) (e : Entry) → slice_get walk.read walk.passed ≡ Some e → key_le low e.key ≡ false →
      new.part ≡ walk.part → new.read ≡ walk.read → new.passed ≡ suc walk.passed → new.last ≡ walk.last →
      IsWalkFrom es low new
  passes new e here below part read passed last = record {
    finds = λ key le.
        let behind_last = all_after es walk.part walk.last in
        ap (λ p. next_from es p key) part
        ∙ h.finds key le
        ∙ ap (λ l. first_such (reaches key) (l ++ behind_last)) (drop_here walk.passed walk.read e here)
        ∙ cond-false (reaches key e) (Some e) (first_such (reaches key) (drop (suc walk.passed) walk.read ++
        behind_last)) (still_below low key e.key le below)
        ∙ ap (λ n. first_such (reaches key) (drop n walk.read ++ behind_last)) (sym passed)
        ∙ ap (λ l. first_such (reaches key) (drop new.passed l ++ behind_last)) (sym read)
        ∙ ap (λ p. first_such (reaches key) (drop new.passed new.read ++ all_after es p walk.last)) (sym part)
        ∙ ap (λ k. first_such (reaches key) (drop new.passed new.read ++ all_after es new.part k)) (sym last);
  }

  -- the next entry that was read reaches the key
  pub comes_to : is_some (slice_get walk.read walk.passed) ≡ true → IfSome (slice_get walk.read walk.passed)
      (λ e. reaches low e ≡ true) → slice_get walk.read walk.passed ≡ next_from es walk.part low
  comes_to left reached = by_cases (slice_get walk.read walk.passed) refl left reached
    where
      by_cases : (o : Option Entry) → slice_get walk.read walk.passed ≡ o → is_some o ≡ true →
          IfSome o (λ e. reaches low e ≡ true) → o ≡ next_from es walk.part low
      by_cases None is some reached = absurd (false≢true some)
      by_cases (Some e) is some reached =
          sym (h.finds low (key_le-itself low)
          ∙ ap (λ l. first_such (reaches low) (l ++ all_after es walk.part walk.last))
          (drop_here walk.passed walk.read e is)
          ∙ first_such_here (reaches low) e (drop (suc walk.passed) walk.read ++ all_after es walk.part walk.last)
          reached)

  module _ (none : slice_get walk.read walk.passed ≡ None) where
    finds_behind : (key : OrderedKey) → key_le low key ≡ true → next_from es walk.part key ≡ first_such (reaches key)
        (all_after es walk.part walk.last)
    finds_behind key le = h.finds key le ∙ ap (λ l. first_such (reaches key) (l ++ all_after es walk.part walk.last))
        (drop_past walk.passed walk.read none)

    -- all that was read is passed, and what follows takes its place
    pub reads_on : (new : Walk) → new.part ≡ walk.part → new.passed ≡ 0 → all_after es walk.part walk.last ≡ new.read ++
        all_after es new.part new.last → IsWalkFrom es low new
    reads_on new part passed follows = record {
      finds = λ key le.
          ap (λ p. next_from es p key) part
          ∙ finds_behind key le
          ∙ ap (first_such (reaches key)) follows
          ∙ ap (λ n. first_such (reaches key) (drop n new.read ++ all_after es new.part new.last)) (sym passed);
    }

    -- and nothing follows
    pub ends : all_after es walk.part walk.last ≡ [] → slice_get walk.read walk.passed ≡ next_from es walk.part low
    ends rest = none ∙ sym (finds_behind low (key_le-itself low) ∙ ap (first_such (reaches low)) rest)

pub is_none : (o : Option Entry) → is_some o ≡ false → o ≡ None
is_none None h = refl
is_none (Some e) h = absurd (true≢false h)

-- ---- reading on

split_last : {X : Type 0} (xs : List X) (x : X) → slice_get xs (length xs - 1) ≡ Some x → (front : List X) ×
    (xs ≡ front ++ x ∷ [])
split_last [] x h = absurd (none-some x h)
split_last (y ∷ []) x h = ([], ap (λ z. z ∷ []) (same_Some _ _ h))
split_last (y ∷ z ∷ zs) x h =
    let short : suc (length zs) - 1 ≡ length zs = omega arith in
    let long : suc (suc (length zs)) - 1 ≡ suc (length zs) = omega arith in
    let later = split_last (z ∷ zs) x (ap (slice_get (z ∷ zs)) short ∙ sym (ap (slice_get (y ∷ z ∷ zs)) long) ∙ h) in
    (y ∷ later.0, ap (λ l. y ∷ l) later.1)

pub none_read : {X : Type 0} (xs : List X) → slice_get xs (length xs - 1) ≡ None → xs ≡ []
none_read [] h = refl
none_read (x ∷ []) h = absurd (none-some x (sym h))
none_read (x ∷ y ∷ ys) h =
    let short : suc (length ys) - 1 ≡ length ys = omega arith in
    let long : suc (suc (length ys)) - 1 ≡ suc (length ys) = omega arith in
    let later : y ∷ ys ≡ [] = none_read (y ∷ ys) (ap (slice_get (y ∷ ys)) short ∙
    sym (ap (slice_get (x ∷ y ∷ ys)) long) ∙ h) in
    absurd (omega (arith, ap length later))

module _ (room : ℕ) where
  pub follows : (es : List Entry) → IsRising es → (part : ℕ) (last : OrderedKey) (read : List Entry) (e : Entry) →
      read ≡ take room (all_after es part last) → slice_get read (length read - 1) ≡ Some e →
      all_after es part last ≡ read ++ all_after es part e.key
  follows es rising part last read e is at_end =
      let all = all_after es part last in
      let parts = split_last read e at_end in
      let whole : all ≡ read ++ drop room all = sym (take-append-drop room all) ∙
      ap (λ l. l ++ drop room all) (sym is) in
      let rest : all_after es part e.key ≡ drop room all = (read_laws es rising).goes_on part last parts.0 e
      (drop room all) (whole ∙ ap (λ l. l ++ drop room all) parts.1 ∙
      append_assoc parts.0 (e ∷ []) (drop room all)) in
      whole ∙ ap (λ l. read ++ l) (sym rest)

  -- where not all the room was used, nothing stands after what was read
  pub no_rest : (all read rest : List Entry) → read ≡ take room all → all ≡ read ++ rest → (length read ≡ room → ⊥) →
      rest ≡ []
  no_rest all read rest is whole short =
      empty rest (omega (arith, ap length whole, length-append read rest, ap length is, length-take room all, short))
    where
      empty : (es : List Entry) → length es ≡ 0 → es ≡ []
      empty [] h = refl
      empty (e ∷ es) h = absurd (omega (arith, h))

-- ---- a walk along records

-- it may be asked for each of the records' keys
pub begins_along : {es : List Entry} → IsRising es → (records : Records) (e : Entry) (walk : Walk) →
    is_sorted key_cmp records ≡ true → IfSome (first_key records) (λ low. next_from es e.part low ≡ Some e)
    → walk.part ≡ e.part → walk.read ≡ e ∷ [] → walk.passed ≡ 0 → walk.last ≡ e.key → (q : OrderedKey) →
    is_key_of records q ≡ true → IsWalkFrom es q walk
begins_along rising [] e walk sorted first part read passed last q key = absurd (false≢true key)
begins_along {es} rising (r ∷ rs) e walk sorted first part read passed last q key =
    goes_up (begins rising r.0 e walk (ap (λ p. next_from es p r.0) part ∙ first) read passed last) q
    (first_below r rs q sorted key)

pub goes_along : {es : List Entry} {walk : Walk} (r : Record) (rs : Records) → is_sorted key_cmp (r ∷ rs) ≡ true →
    IsWalkFrom es r.0 walk
    → (test : OrderedKey → Bool) (left : Records) → left ≡ kept test rs → (q : OrderedKey) → is_key_of left q ≡ true →
    IsWalkFrom es q walk
goes_along r rs sorted h test left is q key =
    let there : is_key_of rs q ≡ true = (and_parts (is_key_of rs q) (test q) (sym (is_key_kept test rs q) ∙
    ap (λ (l : Records). is_key_of l q) (sym is) ∙ key)).0 in
    goes_up h q (first_below r rs q sorted (or_right (key_eq q r.0) (is_key_of rs q) there))
