-- The numbers of a run's keys, read a batch at a time.
use Rattle.std.proofs.Common.{◌≡◌, ◌<◌, ◌+◌, ◌-◌, ℕ, suc, Bool, true, List, [], ◌∷◌, ◌++◌, length}
use Rattle.std.proofs.Common.{get_or, take, drop, map, All, Option, Some, None, refl, sym, ap, ◌∙◌, subst, ⊎_elim}
use Rattle.std.proofs.Common.{length-append, length-take, length-drop, arith}
use Rattle.std.proofs.Math.Seq.{take-add}
use Rattle.std.proofs.lemmas.Bool.{cases_Bool, eqb-true, eqb-false, and_from, true≢false}
use Rattle.std.proofs.lemmas.List.{take_all, take_min, map-append, length-map, get_or-take, get_or-drop}
use Rattle.std.proofs.lemmas.List.Elements.{All-head, All-tail}
use Rattle.std.proofs.lemmas.Option.{none-some, slice_get_within, slice_get_cases, get_or_from_slice_get}
use Rattle.std.specs.Prelude.{◌==◌, ◌&&◌}
use Rattle.std.specs.List.{AllByRecursion, slice_get}
use Rattle.std.specs.Ordering.{is_lt, is_ge}
use Rattle.am_record.specs.OrderedKey.{OrderedKey, key_cmp, key_least, key_least-least}
use Rattle.am_record.specs.EntryOrder.{place_of, place_cmp, place_cmp-same}
use Rattle.am_record.specs.declared.entry.Entry.{Entry}
use Rattle.am_record.proofs.Lists.{heads, tails, none_first, filter-yes, filter-no}
use Rattle.am_index.specs.Entries.{next_from, all_from, all_after, IsRising}
use Rattle.am_index.specs.Walks.{ReadLaws}
use Rattle.am_index.proofs.Lists.{first_false, not_less}
use Rattle.am_index.proofs.ReadLaws.{read_laws}
use Rattle.am_index.proofs.Searches.{cut_at}

-- ---- reading on

-- behind one of the entries from a key on stand those after its own key
after_one : (es : List Entry) → IsRising es → (part : ℕ) (key : OrderedKey) (xs : List Entry) (x : Entry)
    (ys : List Entry) → all_from es part key ≡ xs ++ x ∷ ys → all_after es part x.key ≡ ys
after_one es rising part key xs x ys split = by_first (next_from es part key) refl xs split
  where
    laws : ReadLaws es
    laws = read_laws es rising

    by_first : (o : Option Entry) → next_from es part key ≡ o → (xs : List Entry) →
        all_from es part key ≡ xs ++ x ∷ ys → all_after es part x.key ≡ ys
    by_first None none [] split = absurd (none_first (sym (laws.from_none part key none) ∙ split))
    by_first None none (z ∷ xs) split = absurd (none_first (sym (laws.from_none part key none) ∙ split))
    by_first (Some y) first [] split =
        let same : y ∷ all_after es part y.key ≡ x ∷ ys = sym (laws.from_some part key y first) ∙ split in
        ap (λ (e : Entry). all_after es part e.key) (sym (heads same)) ∙ tails same
    by_first (Some y) first (z ∷ xs) split =
        laws.goes_on part y.key xs x ys (tails (sym (laws.from_some part key y first) ∙ split))

-- those of a list that come next after the first n
module _ (all : List Entry) (n room : ℕ) where
  abbrev next : List Entry
  next = take room (drop n all)

  with_next : take (n + length next) all ≡ take n all ++ next
  with_next = take-add n (length next) all ∙ ap (λ l. take n all ++ l)
      (ap (λ k. take k (drop n all)) (length-take room (drop n all)) ∙ take_min room (drop n all))

  last_next : (x : Entry) → slice_get next (length next - 1) ≡ Some x →
      all ≡ take (n + (length next - 1)) all ++ x ∷ drop (n + length next) all
  last_next x last =
      let k = length next - 1 in
      let lt : k < length next = slice_get_within next k x last in
      let short : k < room = omega (arith, lt, length-take room (drop n all)) in
      let there : n + k < length all = omega (arith, lt, length-take room (drop n all), length-drop n all) in
      let is : get_or all (n + k) x ≡ x =
      sym (get_or-take room (drop n all) k x short ∙ get_or-drop n all k x) ∙ get_or_from_slice_get next k x x last in
      let behind : suc (n + k) ≡ n + length next = omega (arith, lt) in
      cut_at all (n + k) x there ∙ ap (λ y. take (n + k) all ++ y ∷ drop (suc (n + k)) all) is ∙
      ap (λ i. take (n + k) all ++ x ∷ drop i all) behind

  none_next : 0 < room → slice_get next (length next - 1) ≡ None → take n all ≡ all
  none_next some none =
      ⊎_elim (λ there. absurd (none-some there.0 (sym none ∙ there.2)))
      (λ past. take_all n all (omega (arith, past.0, some, length-take room (drop n all), length-drop n all)))
      (slice_get_cases next (length next - 1)).1

-- of a run, the first entries have their numbers, and a batch has the next ones
module _ (number : Entry → ℕ) (all : List Entry) (room : ℕ) (numbers : List ℕ) (batch : List Entry)
    (numbered : numbers ≡ map number (take (length numbers) all))
    (next_ones : batch ≡ take room (drop (length numbers) all)) (entries : List Entry) (shown : entries ≡ batch) where
  entries_are : entries ≡ take room (drop (length numbers) all)
  entries_are = shown ∙ next_ones

  more_long : (more : List ℕ) → more ≡ numbers ++ map number entries →
      length more ≡ length numbers + length (take room (drop (length numbers) all))
  more_long more is =
      ap length is ∙ length-append numbers (map number entries) ∙
      ap (λ k. length numbers + k) (length-map entries number) ∙ ap (λ l. length numbers + length l) entries_are

  pub numbers_on : (more : List ℕ) → more ≡ numbers ++ map number entries → more ≡ map number (take (length more) all)
  numbers_on more is =
      let front = take (length numbers) all in
      let both : take (length more) all ≡ front ++ entries =
      ap (λ k. take k all) (more_long more is) ∙ with_next all (length numbers) room ∙
      ap (λ l. front ++ l) (sym entries_are) in
      is ∙ ap (λ l. l ++ map number entries) numbered ∙ sym (map-append number front entries) ∙
      ap (map number) (sym both)

  -- the next batch is read from the last entry on
  pub batch_on : (es : List Entry) → IsRising es → (part : ℕ) (key : OrderedKey) → all ≡ all_from es part key →
      (more : List ℕ) → more ≡ numbers ++ map number entries → (looked : List Entry) → looked ≡ batch →
      (last : Entry) → Some last ≡ slice_get looked (length looked - 1) → (empty new : List Entry) → empty ≡ [] →
      new ≡ take room (empty ++ all_after es part last.key) → new ≡ take room (drop (length more) all)
  batch_on es rising part key from more is looked seen last at empty new none read =
      let split = last_next all (length numbers) room last
      (subst (λ l. slice_get l (length l - 1) ≡ Some last) (seen ∙ next_ones) (sym at)) in
      let after : all_after es part last.key ≡ drop (length more) all =
      after_one es rising part key _ last _ (sym from ∙ split) ∙ ap (λ k. drop k all) (sym (more_long more is)) in
      read ∙ ap (λ l. take room (l ++ all_after es part last.key)) none ∙ ap (take room) after

  pub all_numbered : 0 < room → None ≡ slice_get entries (length entries - 1) → numbers ≡ map number all
  all_numbered some none =
      numbered ∙ ap (map number) (none_next all (length numbers) room some
      (subst (λ l. slice_get l (length l - 1) ≡ None) entries_are (sym none)))

-- ---- no entry is left out

-- an entry of the partition is at or above the least key
in_run : (e : Entry) (part : ℕ) → (e.part == part) ≡ true →
    (e.part == part && is_ge (place_cmp (place_of e) (part, key_least))) ≡ true
in_run e part same =
    let at_part = eqb-true e.part part same in
    let order : place_cmp (place_of e) (part, key_least) ≡ key_cmp e.key key_least =
    ap (λ (p : ℕ). place_cmp (p, e.key) (part, key_least)) at_part ∙ place_cmp-same part e.key key_least in
    and_from (e.part == part) (is_ge (place_cmp (place_of e) (part, key_least))) same
    (ap is_ge order ∙ not_less (key_cmp e.key key_least)
    (λ less. absurd (true≢false (sym (ap is_lt less) ∙ key_least-least e.key))))

-- what holds of the numbers of all entries from the least key on holds of those of all entries of the partition
pub said_of_part : (Q : ℕ → Type 0) (f : Entry → ℕ) (es : List Entry) (part : ℕ) →
    All Q (map f (all_from es part key_least)) → AllByRecursion (λ (e : Entry). e.part ≡ part → Q (f e)) es
said_of_part Q f [] part all = tt
said_of_part Q f (e ∷ es) part all =
    ⊎_elim
    (λ same.
    let here : All Q (f e ∷ map f (all_from es part key_least)) =
    subst (λ (l : List Entry). All Q (map f l)) (filter-yes is_read e es (in_run e part same)) all in (
      λ _. All-head Q (f e) (map f (all_from es part key_least)) here,
      said_of_part Q f es part (All-tail Q (f e) (map f (all_from es part key_least)) here),
    ))
    (λ other. (
      λ same. absurd (eqb-false e.part part other same),
      said_of_part Q f es part (subst (λ (l : List Entry). All Q (map f l)) (filter-no is_read e es
          (first_false (e.part == part) (is_ge (place_cmp (place_of e) (part, key_least))) other)) all),
    ))
    (cases_Bool (e.part == part))
  where
    is_read : Entry → Bool
    is_read e = e.part == part && is_ge (place_cmp (place_of e) (part, key_least))
