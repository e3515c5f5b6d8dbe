-- Several entries, inserted one after another.
use Rattle.std.proofs.Common.{◌≡◌, ℕ, false, List, [], ◌∷◌, ◌++◌, Option, Some, None, refl, sym, ap, ◌∙◌}
use Rattle.std.proofs.Common.{⊎_elim}
use Rattle.std.proofs.lemmas.Bool.{cases_Bool}
use Rattle.std.specs.declared.cmp.Ordering.TheVariants.{Less}
use Rattle.std.specs.Ordering.{is_eq}
use Rattle.std.specs.Option.{option_map}
use Rattle.std.specs.List.{AllByRecursion}
use Rattle.am_record.specs.OrderedKey.{OrderedKey}
use Rattle.am_record.specs.EntryOrder.{Place, place_of, place_cmp}
use Rattle.am_record.specs.declared.entry.Entry.{Entry}
use Rattle.am_index.specs.Entries.{slot_of, entry_at, find, insert_entry, all_inserted, IsRising}
use Rattle.am_index.specs.Edits.{same_place}
use Rattle.am_index.proofs.Edits.{one_place, entry_at_inserted, entry_at_beside_inserted, rising_inserted}
use Rattle.am_index.proofs.Edits.{all_inserted as one_inserted}

-- nothing stands at the place of any of them
abbrev pub AllFree : List Entry → List Entry → Type 0
AllFree es xs = AllByRecursion (λ x. find es x.part x.key ≡ None) xs

pub option_none : {X Y : Type 0} (f : X → Y) (o : Option X) → option_map f o ≡ None → o ≡ None
option_none f None h = refl
option_none f (Some x) h = absurd (cc h)

find_beside : (es : List Entry) (x : Entry) (part : ℕ) (key : OrderedKey) →
    same_place x.part x.key part key ≡ false → find (insert_entry es x) part key ≡ find es part key
find_beside es x part key other = ap (option_map slot_of) (entry_at_beside_inserted es x part key other)

some_not_none : {X : Type 0} (o : Option X) (x : X) → o ≡ Some x → o ≡ None → ⊥
some_not_none o x some none = cc

-- what is free after an insertion was free before it
free_once : (es : List Entry) (x : Entry) (part : ℕ) (key : OrderedKey) → find (insert_entry es x) part key ≡ None →
    find es part key ≡ None
free_once es x part key free = ⊎_elim
    (λ here. let same = one_place (place_of x) (part, key) here in
    absurd (some_not_none (entry_at (insert_entry es x) part key) x
    (ap (λ (p : Place). entry_at (insert_entry es x) p.0 p.1) (sym same) ∙ entry_at_inserted es x)
    (option_none slot_of (entry_at (insert_entry es x) part key) free)))
    (λ other. sym (find_beside es x part key other) ∙ free)
    (cases_Bool (same_place x.part x.key part key))

pub free_before : (xs es : List Entry) (part : ℕ) (key : OrderedKey) → find (all_inserted xs es) part key ≡ None →
    find es part key ≡ None
free_before [] es part key free = free
free_before (x ∷ xs) es part key free = free_once es x part key (free_before xs (insert_entry es x) part key free)

pub inserted_further : (xs : List Entry) (x : Entry) (es : List Entry) →
    all_inserted (xs ++ x ∷ []) es ≡ insert_entry (all_inserted xs es) x
inserted_further [] x es = refl
inserted_further (y ∷ xs) x es = inserted_further xs x (insert_entry es y)

-- after the first of entries that rise the others are as free as before
pub still_free : (x : Entry) (xs es : List Entry) →
    AllByRecursion (λ y. place_cmp (place_of x) (place_of y) ≡ Less) xs → AllFree es xs → AllFree (insert_entry es x) xs
still_free x [] es above free = tt
still_free x (y ∷ xs) es above free =
    (find_beside es x y.part y.key (ap is_eq above.0) ∙ free.0, still_free x xs es above.1 free.1)

pub rising_all_inserted : (xs es : List Entry) → IsRising xs → AllFree es xs → IsRising es →
    IsRising (all_inserted xs es)
rising_all_inserted [] es rise free rising = rising
rising_all_inserted (x ∷ xs) es rise free rising = rising_all_inserted xs (insert_entry es x) rise.1
    (still_free x xs es rise.0 free.1)
    (rising_inserted es x rising (option_none slot_of (entry_at es x.part x.key) free.0))

-- what holds of each holds of all
pub all_of_both : (P : Entry → Type 0) (xs es : List Entry) → AllByRecursion P xs → AllByRecursion P es →
    AllByRecursion P (all_inserted xs es)
all_of_both P [] es more all = all
all_of_both P (x ∷ xs) es more all = all_of_both P xs (insert_entry es x) more.1 (one_inserted P es x more.0 all)
