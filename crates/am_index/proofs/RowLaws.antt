-- The rows of a partition are those of the content, where nothing of the range is live elsewhere.
use Rattle.std.proofs.Common.{◌≡◌, ℕ, Bool, true, false, ◌&&◌, eqb, cond, T, filter, List, [], ◌∷◌, ◌++◌, None, refl}
use Rattle.std.proofs.Common.{sym, ap, ◌∙◌, subst, ⊎_elim}
use Rattle.std.proofs.lemmas.Bool.{cases_Bool, cond-true, cond-false, and_parts, eqb-true, eq-eqb, both_ways, and_from}
use Rattle.std.proofs.lemmas.Option.{none-some}
use Rattle.std.specs.List.{AllByRecursion}
use Rattle.std.specs.declared.cmp.Ordering.TheVariants.{Less, Equal}
use Rattle.std.specs.Ordering.{is_lt}
use Rattle.std.specs.FinMap.{get, entries, entries_sorted, get-entries, is_sorted, find as looked_up}
use Rattle.std.specs.FinMap.Entries.{is_sorted-where_key, find-where_key, same_entries, below_all}
use Rattle.am_record.specs.OrderedKey.{OrderedKey, key_cmp, key_cmp-total, key_cmp-exact}
use Rattle.am_record.specs.Interval.{Interval, within}
use Rattle.am_record.specs.Plain.{rows_where}
use Rattle.am_record.specs.EntryOrder.{Place, place_of, place_cmp, place_cmp-same}
use Rattle.am_record.specs.declared.entry.Entry.{Entry}
use Rattle.am_index.specs.Entries.{find, IsRising}
use Rattle.am_index.specs.Content.{content, live_records, rows_in, live_value, values_at, IsLiveAt, LivesInOne}
use Rattle.am_index.specs.Content.{OnePlace}
use Rattle.am_index.specs.Content.{HasOne, RowsRead}
use Rattle.am_index.proofs.ReadLaws.{kept_at, pass_rising}
use Rattle.am_index.proofs.Content.{get-content, same_has_one, content_has_one, content_found, content_live, live_at}
use Rattle.am_index.proofs.Rows.{live-cons}

-- ---- the rows rise

true_of : (b : Bool) → b ≡ true → T b
true_of b h = subst T (sym h) tt

below_live : (key : OrderedKey) (es : List Entry) → AllByRecursion (λ e. key_cmp key e.key ≡ Less) es →
    below_all key_cmp key (live_records es) ≡ true
below_live key [] all = refl
below_live key (e ∷ es) all =
    ⊎_elim
    (λ ghost. ap (below_all key_cmp key) (live-cons e es ∙
    ap (λ l. l ++ live_records es) (cond-true e.is_ghost [] ((e.key, e.value) ∷ []) ghost)) ∙
    below_live key es all.1)
    (λ live.
    ap (below_all key_cmp key) (live-cons e es ∙ ap (λ l. l ++ live_records es)
    (cond-false e.is_ghost [] ((e.key, e.value) ∷ []) live))
    ∙ and_from (is_lt (key_cmp key e.key)) (below_all key_cmp key (live_records es)) (ap is_lt all.0)
    (below_live key es all.1))
    (cases_Bool e.is_ghost)

keys_above : (part : ℕ) (e : Entry) (es : List Entry) → e.part ≡ part → AllByRecursion (λ f. f.part ≡ part) es →
    AllByRecursion (λ f. place_cmp (place_of e) (place_of f) ≡ Less) es →
    AllByRecursion (λ f. key_cmp e.key f.key ≡ Less)
    es
keys_above part e [] same parts rising = tt
keys_above part e (f ∷ fs) same parts rising =
    let there : place_cmp (part, e.key) (part, f.key) ≡ Less = ap (λ p. place_cmp (p, e.key) (part, f.key)) (sym same) ∙
    ap (λ p. place_cmp (place_of e) (p, f.key)) (sym parts.0) ∙ rising.0 in
    (sym (place_cmp-same part e.key f.key) ∙ there, keys_above part e fs same parts.1 rising.1)

live_rise : (part : ℕ) (es : List Entry) → AllByRecursion (λ e. e.part ≡ part) es → IsRising es →
    is_sorted key_cmp (live_records es) ≡ true
live_rise part [] parts rising = refl
live_rise part (e ∷ es) parts rising =
    ⊎_elim
    (λ ghost. ap (is_sorted key_cmp) (live-cons e es ∙
    ap (λ l. l ++ live_records es) (cond-true e.is_ghost [] ((e.key, e.value) ∷ []) ghost)) ∙
    live_rise part es parts.1 rising.1)
    (λ live.
    ap (is_sorted key_cmp) (live-cons e es ∙ ap (λ l. l ++ live_records es)
    (cond-false e.is_ghost [] ((e.key, e.value) ∷ []) live))
    ∙ and_from (below_all key_cmp e.key (live_records es)) (is_sorted key_cmp (live_records es))
    (below_live e.key es (keys_above part e es parts.0 parts.1 rising.0)) (live_rise part es parts.1 rising.1))
    (cases_Bool e.is_ghost)

-- ---- what is kept of the list

module _ (part : ℕ) (range : Interval) where
  abbrev passes : Place → Bool
  passes a = eqb a.0 part && within range a.1

  abbrev kept : List Entry → List Entry
  kept es = filter (λ e. passes (place_of e)) es

  kept_parts : (es : List Entry) → AllByRecursion (λ e. e.part ≡ part) (kept es)
  kept_parts [] = tt
  kept_parts (e ∷ es) =
      ⊎_elim
      (λ yes. subst (AllByRecursion (λ f. f.part ≡ part))
      (sym (cond-true (passes (place_of e)) (e ∷ kept es) (kept es) yes))
      (eqb-true e.part part (and_parts (eqb e.part part) (within range e.key) yes).0, kept_parts es))
      (λ no. subst (AllByRecursion (λ f. f.part ≡ part))
      (sym (cond-false (passes (place_of e)) (e ∷ kept es) (kept es) no)) (kept_parts es))
      (cases_Bool (passes (place_of e)))

  module _ (es : List Entry) (p : ℕ) (q : OrderedKey) (v : List ℕ) where
    kept_live : IsLiveAt (kept es) p q v → (p ≡ part) × (within range q ≡ true) × IsLiveAt es p q v
    kept_live live =
        ⊎_elim
        (λ yes.
        let parts = and_parts (eqb p part) (within range q) yes in (
          eqb-true p part parts.0,
          parts.1,
          record {
            there = sym (cond-true (passes (p, q)) (find es p q) None yes) ∙
                sym (kept_at passes p q es) ∙ live.there;
          },
        ))
        (λ no. absurd (none-some (v, false) (sym (cond-false (passes (p, q)) (find es p q) None no) ∙
        sym (kept_at passes p q es) ∙ live.there)))
        (cases_Bool (passes (p, q)))

    live_kept : p ≡ part → within range q ≡ true → IsLiveAt es p q v → IsLiveAt (kept es) p q v
    live_kept same inside live = record {
      there = kept_at passes p q es ∙ cond-true (passes (p, q)) (find es p q) None
          (and_from (eqb p part) (within range q) (eq-eqb p part same) inside) ∙ live.there;
    }

  module _ (es : List Entry) (rising : IsRising es) where
    kept_rising : IsRising (kept es)
    kept_rising = pass_rising (λ e. passes (place_of e)) es rising

    kept_one : OnePlace (kept es)
    kept_one = record { one = λ key p p' v v' l l'. (kept_live es p key v l).0 ∙ sym (kept_live es p' key v' l').0 }

    has_row : (q : OrderedKey) (b : Bool) → within range q ≡ b →
        HasOne (values_at (kept es) q) (cond b (live_value (find es part q)) None)
    has_row q true inside = record {
      sound = λ p v h. let there = kept_live es p q v (live_at h) in
          ap (λ n. live_value (find es n q)) (sym there.0) ∙ ap live_value there.2.there;
      full = λ v h. (part, ap live_value (live_kept es part q v refl inside (live_at h)).there);
      one = λ p p' v v' h h'. (kept_live es p q v (live_at h)).0 ∙ sym (kept_live es p' q v' (live_at h')).0;
    }
    has_row q false outside = record {
      sound = λ p v h. absurd (both_ways (within range q) outside (kept_live es p q v (live_at h)).1);
      full = λ v h. absurd (none-some v h);
      one = λ p p' v v' h h'. (kept_live es p q v (live_at h)).0 ∙ sym (kept_live es p' q v' (live_at h')).0;
    }

    pub rows_read : RowsRead es part range
    rows_read = record {
      rise = live_rise part (kept es) (kept_parts es) kept_rising;
      live = λ q. sym (get-content (kept es) q)
          ∙ same_has_one (values_at (kept es) q) (get (content (kept es)) q)
          (cond (within range q) (live_value (find es part q)) None) (content_has_one (kept es) kept_rising kept_one q)
          (has_row q (within range q) refl);
    }

  module _ (es : List Entry) (rising : IsRising es) (one : OnePlace es) (alone : LivesInOne es part range) where
    has_one : (q : OrderedKey) (b : Bool) → within range q ≡ b →
        HasOne (values_at (kept es) q) (cond b (get (content es) q) None)
    has_one q true inside = record {
      sound = λ p v h. content_live es rising one p q v (kept_live es p q v (live_at h)).2;
      full = λ v h. let f = content_found es rising q v h in
          (f.0, ap live_value (live_kept es f.0 q v (alone.one f.0 q v f.1 inside) inside f.1).there);
      one = λ p p' v v' h h'. (kept_live es p q v (live_at h)).0 ∙ sym (kept_live es p' q v' (live_at h')).0;
    }
    has_one q false outside = record {
      sound = λ p v h. absurd (both_ways (within range q) outside (kept_live es p q v (live_at h)).1);
      full = λ v h. absurd (none-some v h);
      one = λ p p' v v' h h'. (kept_live es p q v (live_at h)).0 ∙ sym (kept_live es p' q v' (live_at h')).0;
    }

    alike : (q x : OrderedKey) → key_cmp q x ≡ Equal → within range x ≡ within range q
    alike q x e = ap (within range) (sym (key_cmp-exact q x e))

    value : (q : OrderedKey) → looked_up key_cmp q (rows_in es part range) ≡ looked_up key_cmp q
        (rows_where (within range) (content es))
    value q =
        sym (get-content (kept es) q)
        ∙ same_has_one (values_at (kept es) q) (get (content (kept es)) q)
        (cond (within range q) (get (content es) q) None) (content_has_one (kept es) (kept_rising es rising)
        (kept_one es rising) q)
        (has_one q (within range q) refl)
        ∙ ap (λ o. cond (within range q) o None) (get-entries (content es) q)
        ∙ sym (find-where_key key_cmp (within range) q (alike q) (entries (content es)))

    pub rows_of_content : rows_in es part range ≡ rows_where (within range) (content es)
    rows_of_content =
        same_entries key_cmp key_cmp-total key_cmp-exact (rows_in es part range)
        (rows_where (within range) (content es))
        (true_of (is_sorted key_cmp (live_records (kept es))) (rows_read es rising).rise)
        (is_sorted-where_key key_cmp (within range) (entries (content es)) (entries_sorted (content es))) value
