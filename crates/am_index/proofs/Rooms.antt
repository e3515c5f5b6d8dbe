-- Which room for values edits keep, and which is there.
use Rattle.std.proofs.Common.{◌≡◌, ◌≤◌, inl, inr, ℕ, Bool, true, false, ◌&&◌, ◌||◌, List, [], ◌∷◌, ◌++◌, map, length}
use Rattle.std.proofs.Common.{Some, refl, sym, ap, ◌∙◌, arith}
use Rattle.std.specs.Prelude.{IsSome, is_some, nat_lt}
use Rattle.std.specs.Ordering.{is_eq}
use Rattle.std.proofs.lemmas.Bool.{ltb-false}
use Rattle.std.proofs.lemmas.List.Folds.{list_any-append}
use Rattle.am_record.specs.OrderedKey.{OrderedKey}
use Rattle.am_record.specs.EntryOrder.{Place, place_of, place_cmp}
use Rattle.am_record.specs.declared.entry.Entry.{Entry}
use Rattle.am_index.specs.Entries.{Slot, find}
use Rattle.am_index.specs.Rooms.{is_among, HasRoom, HaveRoom, KeepRoom, outgrows}

-- the places of lists one after another are those of both
pub among-append : (xs ys : List Place) (part : ℕ) (key : OrderedKey) →
    is_among (xs ++ ys) part key ≡ (is_among xs part key || is_among ys part key)
among-append xs ys part key = list_any-append (λ (p : Place). is_eq (place_cmp p (part, key))) xs ys

-- the places of all entries are those where something stands
pub among_all : (es : List Entry) (part : ℕ) (key : OrderedKey) →
    is_among (map (λ (e : Entry). place_of e) es) part key ≡ is_some (find es part key)
among_all [] part key = refl
among_all (e ∷ es) part key = by_case (is_eq (place_cmp (place_of e) (part, key))) refl (among_all es part key)
  where
    by_case : (b : Bool) → is_eq (place_cmp (place_of e) (part, key)) ≡ b →
        is_among (map (λ (f : Entry). place_of f) es) part key ≡ is_some (find es part key) →
        is_among (map (λ (f : Entry). place_of f) (e ∷ es)) part key ≡ is_some (find (e ∷ es) part key)
    by_case true h rest = rw h refl
    by_case false h rest = rw h rest

-- nothing is lost where nothing changes
pub keep_all : (rooms : List Place) (es : List Entry) → HaveRoom es rooms → KeepRoom rooms rooms es
keep_all rooms es have = record { kept = λ part key h stands. h; have = have }

-- what is kept twice is kept, where no place is taken out and put in again
pub keep_on : (a b c : List Place) (es es' : List Entry) → KeepRoom a b es → KeepRoom b c es' →
    ((part : ℕ) (key : OrderedKey) → is_among a part key ≡ true → IsSome (find es' part key) →
    IsSome (find es part key)) → KeepRoom a c es'
keep_on a b c es es' first second stood = record {
  kept = λ part key h stands. second.kept part key (first.kept part key h (stood part key h stands)) stands;
  have = second.have;
}

-- a value has the room that it had
pub room_kept : (a b : List Place) (es : List Entry) (part : ℕ) (key : OrderedKey) (bytes : ℕ) → KeepRoom a b es →
    IsSome (find es part key) → HasRoom a part key bytes → HasRoom b part key bytes
room_kept a b es part key bytes keep stands (inl short) = inl short
room_kept a b es part key bytes keep stands (inr among) = inr (keep.kept part key among stands)

-- where one value has room, so has each that is no longer
pub room_for_less : (roomy : List Place) (part : ℕ) (key : OrderedKey) (less more : ℕ) → less ≤ more →
    HasRoom roomy part key more → HasRoom roomy part key less
room_for_less roomy part key less more le (inl short) = inl (omega arith)
room_for_less roomy part key less more le (inr among) = inr among

-- a value that doesn't outgrow what stands has room in its place
pub room_over : (es : List Entry) (roomy : List Place) (part : ℕ) (key : OrderedKey) (slot : Slot) (value : List ℕ) →
    HaveRoom es roomy → find es part key ≡ Some slot → outgrows value slot.0 ≡ false →
    HasRoom roomy part key (length value)
room_over es roomy part key slot value have there fits = by_length (nat_lt 16 (length value)) refl
  where
    by_length : (b : Bool) → nat_lt 16 (length value) ≡ b → HasRoom roomy part key (length value)
    by_length true long = room_for_less roomy part key (length value) (length slot.0)
        (ltb-false (length slot.0) (length value) (ap (λ b. b && nat_lt (length slot.0) (length value)) (sym long) ∙
        fits))
        (have.values part key slot there)
    by_length false short = inl (ltb-false 16 (length value) short)

-- where each entry has room for any value, each value has the room that it takes
pub all_have_room : (es : List Entry) → HaveRoom es (map (λ (e : Entry). place_of e) es)
all_have_room es = record {
  values = λ part key slot there. inr (among_all es part key ∙ ap is_some there);
  places = λ part key among. sym (among_all es part key) ∙ among;
}

-- and no edit takes room away
pub all_keep_room : (before : List Place) (es : List Entry) → KeepRoom before (map (λ (e : Entry). place_of e) es) es
all_keep_room before es = record {
  kept = λ part key among stands. among_all es part key ∙ stands;
  have = all_have_room es;
}

-- a value of any length has room at the place of an entry
pub all_has_room : (es : List Entry) (part : ℕ) (key : OrderedKey) (bytes : ℕ) → IsSome (find es part key) →
    HasRoom (map (λ (e : Entry). place_of e) es) part key bytes
all_has_room es part key bytes stands = inr (among_all es part key ∙ stands)
