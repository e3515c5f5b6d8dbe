-- A run more at the end.
use Rattle.std.proofs.Common.{◌≡◌, ◌≢◌, ℕ, ◌+◌, ◌<◌, ◌≤◌, ◌^◌, true, false, List, [], ◌∷◌, ◌++◌, None, refl, sym, ap}
use Rattle.std.proofs.Common.{◌∙◌, subst, arith}
use Rattle.std.specs.declared.cmp.Ordering.{Ordering}
use Rattle.std.specs.declared.cmp.Ordering.TheVariants.{Less, Equal, Greater}
use Rattle.std.specs.Ordering.{is_eq, is_lt, eq_by_cmp, ordering_reverse}
use Rattle.std.specs.Option.{option_map}
use Rattle.std.specs.List.{AllByRecursion}
use Rattle.std.specs.FinMap.{get, insert, is_sorted}
use Rattle.std.specs.FinMap.Entries.{below_all}
use Rattle.std.proofs.lemmas.Bool.{and_parts}
use Rattle.am_record.specs.OrderedKey.{OrderedKey, key_cmp, key_cmp-total, key_cmp-itself}
use Rattle.am_record.specs.Plain.{PlainMap, Records, insert_all, is_rising}
use Rattle.am_record.specs.declared.entry.Entry.{Entry}
use Rattle.am_record.proofs.Lists.{AllByRecursion-map, AllByRecursion-append}
use Rattle.am_record.proofs.Maps.{get_beside_inserted}
use Rattle.am_record.proofs.RisingRecords.{run_sorted, run_some}
use Rattle.am_record.proofs.Orderings.{is_less}
use Rattle.am_record.proofs.FirstRows.{Record}
use Rattle.am_index.specs.Entries.{slot_of, find, insert_entry, IsRising}
use Rattle.am_index.specs.Content.{content, HasContent, OnePlace}
use Rattle.am_index.specs.Runs.{live_entry, run_entries, with_run}
use Rattle.am_index.proofs.Edits.{find-miss, other_part, other_key, entry_at_beside_inserted}
use Rattle.am_index.proofs.ContentLaws.{content_laws}
use Rattle.am_index_parts.specs.Partitions.{AreWellFormed}
use Rattle.am_index_parts.specs.Catalogs.{IsNext}
use Rattle.am_index_parts.proofs.AppendedRuns.{with_run_appends, run_rises}

pub under_next : (es : List Entry) (runs : ℕ) → AllByRecursion (λ e. e.part ≤ runs) es →
    AllByRecursion (λ e. e.part < runs + 1) es
under_next es runs above = AllByRecursion-map (λ e. e.part ≤ runs) (λ e. e.part < runs + 1)
    (λ e low. omega (arith, low)) es above

pub is_next : (es : List Entry) (runs : ℕ) (rs : Records) → AllByRecursion (λ e. e.part ≤ runs) es →
    is_rising rs ≡ true → IsNext es (runs + 1) rs
is_next es runs rs above rising = record {
  is_run = omega arith;
  some = run_some rs rising;
  above = under_next es runs above;
}

-- ---- the content, record by record

pub apart_keys : (k l : OrderedKey) → key_cmp k l ≡ Less → k ≢ l
apart_keys k l less same = let tied : key_cmp k l ≡ Equal = ap (key_cmp k) (sym same) ∙ key_cmp-itself k in
    absurd (cc (sym less ∙ tied))

reversed_less : (o : Ordering) → o ≡ Less → is_eq (ordering_reverse o) ≡ false
reversed_less Less h = refl
reversed_less Equal h = absurd (cc)
reversed_less Greater h = refl

turned_apart : (k l : OrderedKey) → key_cmp k l ≡ Less → eq_by_cmp key_cmp l k ≡ false
turned_apart k l less = ap is_eq (key_cmp-total.antisymm l k) ∙ reversed_less (key_cmp k l) less

-- the records' keys rise, none of them is live, and none stands in the partition
pub record AreAwaited (part : ℕ) (rs : Records) (es : List Entry) : Type 0 where
  pub rising : IsRising es
  pub one_place : OnePlace es
  pub sorted : is_sorted key_cmp rs ≡ true
  pub absent : AllByRecursion (λ (r : Record). (find es part r.0 ≡ None) × (get (content es) r.0 ≡ None)) rs

still_absent : (part : ℕ) (es es' : List Entry) (r : Record) → es' ≡ insert_entry es (live_entry part r) →
    HasContent es' (insert (content es) r.0 r.1) → (rs : Records) → below_all key_cmp r.0 rs ≡ true
    → AllByRecursion (λ (q : Record). (find es part q.0 ≡ None) × (get (content es) q.0 ≡ None)) rs →
    AllByRecursion (λ (q : Record). (find es' part q.0 ≡ None) × (get (content es') q.0 ≡ None)) rs
still_absent part es es' r is has [] below absent = tt
still_absent part es es' r is has (q ∷ rs) below absent =
    let p = and_parts (is_lt (key_cmp r.0 q.0)) (below_all key_cmp r.0 rs) below in
    let less = is_less (key_cmp r.0 q.0) p.0 in
    let apart : r.0 ≢ q.0 = apart_keys r.0 q.0 less in
    let place : find es' part q.0 ≡ find es part q.0 =
    ap (λ l. find l part q.0) is ∙ ap (option_map slot_of)
    (entry_at_beside_inserted es (live_entry part r) part q.0 (other_key part part r.0 q.0 apart)) in
    let value : get (content es') q.0 ≡ get (content es) q.0 =
    ap (λ (m : PlainMap). get m q.0) has.same ∙ get_beside_inserted (content es) r.0 r.1 q.0
    (turned_apart r.0 q.0 less) in
    ((place ∙ absent.0.0, value ∙ absent.0.1), still_absent part es es' r is has rs p.1 absent.1)

pub run_content : (part : ℕ) (rs : Records) (es : List Entry) → AreAwaited part rs es →
    HasContent (with_run part rs es) (insert_all rs (content es))
run_content part [] es h = record { rising = h.rising; one_place = h.one_place; same = refl }
run_content part (r ∷ rs) es h =
    let p = and_parts (below_all key_cmp r.0 rs) (is_sorted key_cmp rs) h.sorted in
    let es' = insert_entry es (live_entry part r) in
    let has : HasContent es' (insert (content es) r.0 r.1) = (content_laws es h.rising h.one_place).adds.added
    (live_entry part r) h.absent.0.0 refl h.absent.0.1 in
    subst (λ (m : PlainMap). HasContent (with_run part rs es') (insert_all rs m)) has.same
    (run_content part rs es' (record {
      rising = has.rising;
      one_place = has.one_place;
      sorted = p.1;
      absent = still_absent part es es' r refl has rs p.0 h.absent.1;
    }))

-- ---- a run after all entries

none_there : (part : ℕ) (key : OrderedKey) (es : List Entry) → AllByRecursion (λ e. e.part < part) es →
    find es part key ≡ None
none_there part key [] h = refl
none_there part key (e ∷ es) h =
    let lt : e.part < part = h.0 in
    find-miss part key e es (other_part e.part part e.key key (λ same. absurd (omega (arith, same, lt)))) ∙
    none_there part key es h.1

both_absent : (part : ℕ) (es : List Entry) (rs : Records) → AllByRecursion (λ e. e.part < part) es →
    AllByRecursion (λ (r : Record). get (content es) r.0 ≡ None) rs
    → AllByRecursion (λ (r : Record). (find es part r.0 ≡ None) × (get (content es) r.0 ≡ None)) rs
both_absent part es [] above dead = tt
both_absent part es (r ∷ rs) above dead = ((none_there part r.0 es above, dead.0), both_absent part es rs above dead.1)

fits_in_run : (part : ℕ) → part < 2 ^ 32 → (rs : Records) → AllByRecursion (λ (e : Entry). e.part < 2 ^ 32)
    (run_entries part rs)
fits_in_run part lt [] = tt
fits_in_run part lt (r ∷ rs) = (lt, fits_in_run part lt rs)

module _ {es : List Entry} (runs : ℕ) (rs : Records) (sound : AreWellFormed es)
    (above : AllByRecursion (λ e. e.part ≤ runs) es) (rising : is_rising rs ≡ true) where
  pub next_rises : IsRising (run_entries (runs + 1) rs)
  next_rises = run_rises (runs + 1) rs (run_sorted rs rising)

  module _ (dead : AllByRecursion (λ (r : Record). get (content es) r.0 ≡ None) rs) where
    pub next_content : HasContent (es ++ run_entries (runs + 1) rs) (insert_all rs (content es))
    next_content =
        subst (λ l. HasContent l (insert_all rs (content es)))
        (with_run_appends (runs + 1) rs es (run_sorted rs rising) (under_next es runs above))
        (run_content (runs + 1) rs es (record {
          rising = sound.rising;
          one_place = sound.one_place;
          sorted = run_sorted rs rising;
          absent = both_absent (runs + 1) es rs (under_next es runs above) dead;
        }))

    pub next_sound : runs + 1 < 2 ^ 32 → AreWellFormed (es ++ run_entries (runs + 1) rs)
    next_sound fits = record {
      rising = next_content.rising;
      one_place = next_content.one_place;
      fits = AllByRecursion-append (λ e. e.part < 2 ^ 32) es (run_entries (runs + 1) rs) sound.fits
          (fits_in_run (runs + 1) fits rs);
    }
