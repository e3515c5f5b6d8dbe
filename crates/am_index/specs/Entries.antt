-- An index is seen as the list of its entries. These are the list's own operations.
use Rattle.std.specs.Prelude.{◌≡◌, ℕ, Bool, ◌&&◌, ◌==◌, List, [], ◌∷◌, filter, drop, Option, Some, None, if◌then◌else◌}
use Rattle.std.specs.declared.cmp.Ordering.TheVariants.{Less}
use Rattle.std.specs.Ordering.{is_eq, is_lt, is_gt, is_ge}
use Rattle.std.specs.Option.{option_map}
use Rattle.std.specs.List.{AllByRecursion}
use Rattle.am_record.specs.OrderedKey.{OrderedKey}
use Rattle.am_record.specs.EntryOrder.{place_of, place_cmp}
use Rattle.am_record.specs.declared.entry.Entry.{Entry}

-- each entry is below all later ones, by partition and then by key
abbrev pub IsRising : List Entry → Type 0
IsRising [] = Unit {0}
IsRising (e ∷ es) = AllByRecursion (λ f. place_cmp (place_of e) (place_of f) ≡ Less) es × IsRising es

-- the first entry that passes the test
abbrev pub first_such : (Entry → Bool) → List Entry → Option Entry
first_such test [] = None
first_such test (e ∷ es) = if test e then Some e else first_such test es

-- the entry of that partition and key
abbrev pub entry_at : List Entry → ℕ → OrderedKey → Option Entry
entry_at es part key = first_such (λ e. is_eq (place_cmp (place_of e) (part, key))) es

-- what stands at a place: the bytes of a value, and whether they are marked as deleted
abbrev pub Slot : Type 0
Slot = List ℕ × Bool

abbrev pub slot_of : Entry → Slot
slot_of e = (e.value, e.is_ghost)

-- what stands under that partition and key
abbrev pub find : List Entry → ℕ → OrderedKey → Option Slot
find es part key = option_map slot_of (entry_at es part key)

-- the first entry of that partition at or above the key
abbrev pub next_from : List Entry → ℕ → OrderedKey → Option Entry
next_from es part key = first_such (λ e. e.part == part && is_ge (place_cmp (place_of e) (part, key))) es

-- the first entry of that partition strictly above the key
abbrev pub after : List Entry → ℕ → OrderedKey → Option Entry
after es part key = first_such (λ e. e.part == part && is_gt (place_cmp (place_of e) (part, key))) es

-- the entries of that partition at or above the key, in order
abbrev pub all_from : List Entry → ℕ → OrderedKey → List Entry
all_from es part key = filter (λ e. e.part == part && is_ge (place_cmp (place_of e) (part, key))) es

-- the entries of that partition strictly above the key, in order
abbrev pub all_after : List Entry → ℕ → OrderedKey → List Entry
all_after es part key = filter (λ e. e.part == part && is_gt (place_cmp (place_of e) (part, key))) es

-- the first entry at or above that partition and key
abbrev pub next_any : List Entry → ℕ → OrderedKey → Option Entry
next_any es part key = first_such (λ e. is_ge (place_cmp (place_of e) (part, key))) es

-- the first ghost at or above that partition and key
abbrev pub next_ghost : List Entry → ℕ → OrderedKey → Option Entry
next_ghost es part key = first_such (λ e. e.is_ghost && is_ge (place_cmp (place_of e) (part, key))) es

-- the list with the entry before the first one that is not below it
abbrev pub insert_entry : List Entry → Entry → List Entry
insert_entry [] x = x ∷ []
insert_entry (e ∷ es) x = if is_lt (place_cmp (place_of e) (place_of x)) then e ∷ insert_entry es x else x ∷ e ∷ es

-- the list with each of the entries inserted, one after another
abbrev pub all_inserted : List Entry → List Entry → List Entry
all_inserted [] es = es
all_inserted (x ∷ xs) es = all_inserted xs (insert_entry es x)

-- the list with that value and mark at that partition and key
abbrev pub set_entry : List Entry → ℕ → OrderedKey → List ℕ → Bool → List Entry
set_entry [] part key value is_ghost = []
set_entry (e ∷ es) part key value is_ghost = if is_eq (place_cmp (place_of e) (part, key)) then record
    e { value = value; is_ghost = is_ghost } ∷ es else e ∷ set_entry es part key value is_ghost

-- the list without the entry of that partition and key
abbrev pub remove_entry : List Entry → ℕ → OrderedKey → List Entry
remove_entry [] part key = []
remove_entry (e ∷ es) part key = if is_eq (place_cmp (place_of e) (part, key)) then es else e ∷ remove_entry es part key

-- the list without n entries: the one of that partition and key, and those that follow it
abbrev pub remove_from : List Entry → ℕ → OrderedKey → ℕ → List Entry
remove_from [] part key n = []
remove_from (e ∷ es) part key n = if is_eq (place_cmp (place_of e) (part, key)) then drop n
    (e ∷ es) else e ∷ remove_from es part key n
