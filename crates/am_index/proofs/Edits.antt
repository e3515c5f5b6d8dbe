-- The edits of lists of entries, place by place.
use Rattle.std.proofs.Common.{◌≡◌, ◌≢◌, ℕ, List, [], ◌∷◌, Bool, true, false, cond, filter, Option, Some, None, refl}
use Rattle.std.proofs.Common.{sym, ap, ◌∙◌, subst, ⊎_elim}
use Rattle.std.specs.Prelude.{IsSome}
use Rattle.std.proofs.lemmas.Bool.{cases_Bool, cond-true, cond-false, true≢false, false≢true, false_from_ne_true}
use Rattle.std.specs.declared.cmp.Ordering.{Ordering}
use Rattle.std.specs.declared.cmp.Ordering.TheVariants.{Less, Equal, Greater}
use Rattle.std.specs.Ordering.{is_eq, is_lt, eq_by_cmp, ordering_reverse}
use Rattle.std.specs.Cmp.{tied_itself}
use Rattle.std.specs.Option.{option_map}
use Rattle.std.specs.List.{AllByRecursion}
use Rattle.std.proofs.lemmas.Option.{none-some}
use Rattle.am_record.specs.OrderedKey.{OrderedKey}
use Rattle.am_record.specs.EntryOrder.{Place, place_of, place_cmp, place_cmp-total, place_cmp-exact}
use Rattle.am_record.specs.declared.entry.Entry.{Entry}
use Rattle.am_record.proofs.Lists.{AllByRecursion-map, heads, tails, none_first, filter-yes, filter-no}
use Rattle.am_record.proofs.Lists.{AllByRecursion-filter}
use Rattle.am_record.proofs.PlaceOrder.{turned_greater}
use Rattle.am_record.proofs.Orderings.{is_equal, lt_not_eq}
use Rattle.am_index.specs.Entries.{Slot, slot_of, first_such, entry_at, find, insert_entry, set_entry, remove_entry}
use Rattle.am_index.specs.Entries.{IsRising}
use Rattle.am_index.specs.Edits.{same_place}
use Rattle.am_index.proofs.Lists.{entry_at_none, rising_above}

-- ---- places

-- places that compare as equal are one
pub one_place : (a b : Place) → eq_by_cmp place_cmp a b ≡ true → a ≡ b
one_place a b h = place_cmp-exact a b (is_equal (place_cmp a b) h)

pub place_cmp-itself : (a : Place) → place_cmp a a ≡ Equal
place_cmp-itself a = tied_itself place_cmp-total a

pub same_place-itself : (part : ℕ) (key : OrderedKey) → same_place part key part key ≡ true
same_place-itself part key = ap is_eq (place_cmp-itself (part, key))

pub apart_places : (a b : Place) → a ≢ b → eq_by_cmp place_cmp a b ≡ false
apart_places a b n = false_from_ne_true (eq_by_cmp place_cmp a b) (λ e. n (one_place a b e))

-- other partitions, and other keys, are other places
pub other_part : (part part' : ℕ) (key key' : OrderedKey) → part ≢ part' → same_place part key part' key' ≡ false
other_part part part' key key' n = apart_places (part, key) (part', key') (λ e. n (ap (λ (x : Place). x.0) e))

pub other_key : (part part' : ℕ) (key key' : OrderedKey) → key ≢ key' → same_place part key part' key' ≡ false
other_key part part' key key' n = apart_places (part, key) (part', key') (λ e. n (ap (λ (x : Place). x.1) e))

reversed : (o : Ordering) → is_eq o ≡ false → is_eq (ordering_reverse o) ≡ false
reversed Less h = refl
reversed Equal h = absurd (true≢false h)
reversed Greater h = refl

pub turned_apart : (a b : Place) → eq_by_cmp place_cmp a b ≡ false → eq_by_cmp place_cmp b a ≡ false
turned_apart a b h = ap is_eq (place_cmp-total.antisymm b a) ∙ reversed (place_cmp a b) h

-- ---- what the first entry that passes a test is

pub first_such_all : (P : Entry → Type 0) (test : Entry → Bool) (es : List Entry) (x : Entry) → AllByRecursion P es →
    first_such test es ≡ Some x → P x
first_such_all P test [] x a h = absurd (cc)
first_such_all P test (e ∷ es) x a h =
    ⊎_elim
    (λ yes. let some : Some e ≡ Some x = sym (cond-true (test e) (Some e) (first_such test es) yes) ∙ h in
    let same : e ≡ x = cc in subst P same a.0)
    (λ not. first_such_all P test es x a.1 (sym (cond-false (test e) (Some e) (first_such test es) not) ∙ h))
    (cases_Bool (test e))

pub first_such_passes : (test : Entry → Bool) (es : List Entry) (x : Entry) → first_such test es ≡ Some x →
    test x ≡ true
first_such_passes test [] x h = absurd (cc)
first_such_passes test (e ∷ es) x h =
    ⊎_elim
    (λ yes. let some : Some e ≡ Some x = sym (cond-true (test e) (Some e) (first_such test es) yes) ∙ h in
    let same : e ≡ x = cc in subst (λ (y : Entry). test y ≡ true) same yes)
    (λ not. first_such_passes test es x (sym (cond-false (test e) (Some e) (first_such test es) not) ∙ h))
    (cases_Bool (test e))

-- the entry that is found at a place stands there
pub entry_at_place : (es : List Entry) (part : ℕ) (key : OrderedKey) (x : Entry) → entry_at es part key ≡ Some x →
    place_of x ≡ (part, key)
entry_at_place es part key x h = one_place (place_of x) (part, key)
    (first_such_passes (λ e. is_eq (place_cmp (place_of e) (part, key))) es x h)

-- the entry that is found at a place has what is found there
pub entry_at_slot : (es : List Entry) (part : ℕ) (key : OrderedKey) (x : Entry) → entry_at es part key ≡ Some x →
    find es part key ≡ Some (slot_of x)
entry_at_slot es part key x h = ap (option_map slot_of) h

-- ---- one step of each function

module _ (part : ℕ) (key : OrderedKey) (e : Entry) (es : List Entry) where
  abbrev pub here : Bool
  here = same_place e.part e.key part key

  pub entry_at-hit : here ≡ true → entry_at (e ∷ es) part key ≡ Some e
  entry_at-hit h = cond-true here (Some e) (entry_at es part key) h

  pub entry_at-miss : here ≡ false → entry_at (e ∷ es) part key ≡ entry_at es part key
  entry_at-miss h = cond-false here (Some e) (entry_at es part key) h

  pub find-hit : here ≡ true → find (e ∷ es) part key ≡ Some (slot_of e)
  find-hit h = ap (option_map slot_of) (entry_at-hit h)

  pub find-miss : here ≡ false → find (e ∷ es) part key ≡ find es part key
  find-miss h = ap (option_map slot_of) (entry_at-miss h)

  pub remove-hit : here ≡ true → remove_entry (e ∷ es) part key ≡ es
  remove-hit h = cond-true here es (e ∷ remove_entry es part key) h

  pub remove-miss : here ≡ false → remove_entry (e ∷ es) part key ≡ e ∷ remove_entry es part key
  remove-miss h = cond-false here es (e ∷ remove_entry es part key) h

  module _ (value : List ℕ) (is_ghost : Bool) where
    abbrev pub reset : Entry
    reset = record e { value = value; is_ghost = is_ghost }

    pub set-hit : here ≡ true → set_entry (e ∷ es) part key value is_ghost ≡ reset ∷ es
    set-hit h = cond-true here (reset ∷ es) (e ∷ set_entry es part key value is_ghost) h

    pub set-miss : here ≡ false → set_entry (e ∷ es) part key value is_ghost ≡ e ∷ set_entry es part key value is_ghost
    set-miss h = cond-false here (reset ∷ es) (e ∷ set_entry es part key value is_ghost) h

module _ (x e : Entry) (es : List Entry) where
  abbrev pub comes_first : Bool
  comes_first = is_lt (place_cmp (place_of e) (place_of x))

  pub insert-later : comes_first ≡ true → insert_entry (e ∷ es) x ≡ e ∷ insert_entry es x
  insert-later h = cond-true comes_first (e ∷ insert_entry es x) (x ∷ e ∷ es) h

  pub insert-here : comes_first ≡ false → insert_entry (e ∷ es) x ≡ x ∷ e ∷ es
  insert-here h = cond-false comes_first (e ∷ insert_entry es x) (x ∷ e ∷ es) h

-- in a rising list no later entry has the place of the first
pub later_none : (part : ℕ) (key : OrderedKey) (e : Entry) (es : List Entry) → IsRising (e ∷ es) →
    same_place e.part e.key part key ≡ true → entry_at es part key ≡ None
later_none part key e es rising h =
    let equal = is_equal (place_cmp (place_of e) (part, key)) h in
    let not_less : place_cmp (place_of e) (part, key) ≢ Less = λ less. absurd (cc equal) in
    entry_at_none part key es (rising_above (part, key) e es not_less rising)

-- ---- insertion

pub entry_at_inserted : (es : List Entry) (x : Entry) → entry_at (insert_entry es x) x.part x.key ≡ Some x
entry_at_inserted [] x = entry_at-hit x.part x.key x [] (same_place-itself x.part x.key)
entry_at_inserted (e ∷ es) x =
    let at : List Entry → Option Entry = λ l. entry_at l x.part x.key in
    ⊎_elim
    (λ lt. ap at (insert-later x e es lt) ∙ entry_at-miss x.part x.key e (insert_entry es x)
    (lt_not_eq (place_cmp (place_of e) (place_of x)) lt) ∙ entry_at_inserted es x)
    (λ ge. ap at (insert-here x e es ge) ∙ entry_at-hit x.part x.key x (e ∷ es) (same_place-itself x.part x.key))
    (cases_Bool (is_lt (place_cmp (place_of e) (place_of x))))

pub entry_at_beside_inserted : (es : List Entry) (x : Entry) (part : ℕ) (key : OrderedKey) →
    same_place x.part x.key part key ≡ false → entry_at (insert_entry es x) part key ≡ entry_at es part key
entry_at_beside_inserted [] x part key n = entry_at-miss part key x [] n
entry_at_beside_inserted (e ∷ es) x part key n =
    let at : List Entry → Option Entry = λ l. entry_at l part key in
    ⊎_elim
    (λ lt. ap at (insert-later x e es lt) ∙ ap (λ r. cond (same_place e.part e.key part key) (Some e) r)
    (entry_at_beside_inserted es x part key n))
    (λ ge. ap at (insert-here x e es ge) ∙ entry_at-miss part key x (e ∷ es) n)
    (cases_Bool (is_lt (place_cmp (place_of e) (place_of x))))

pub all_inserted : (P : Entry → Type 0) (es : List Entry) (x : Entry) → P x → AllByRecursion P es →
    AllByRecursion P (insert_entry es x)
all_inserted P [] x p a = (p, tt)
all_inserted P (e ∷ es) x p a =
    elim (is_lt (place_cmp (place_of e) (place_of x))) as
    (λ b. AllByRecursion P (cond b (e ∷ insert_entry es x) (x ∷ e ∷ es))) [
      | true ↦ (a.0, all_inserted P es x p a.1)
      | false ↦ (p, a)
    ]

pub rising_inserted : (es : List Entry) (x : Entry) → IsRising es → entry_at es x.part x.key ≡ None →
    IsRising (insert_entry es x)
rising_inserted [] x rising absent = (tt, tt)
rising_inserted (e ∷ es) x rising absent = by_order (place_cmp (place_of e) (place_of x)) refl
    (rising_inserted es x rising.1)
  where
    by_order : (o : Ordering) → place_cmp (place_of e) (place_of x) ≡ o →
        (entry_at es x.part x.key ≡ None → IsRising (insert_entry es x)) → IsRising (insert_entry (e ∷ es) x)
    by_order Less h later =
        subst IsRising (sym (insert-later x e es (ap is_lt h))) (
          all_inserted (λ f. place_cmp (place_of e) (place_of f) ≡ Less) es x h rising.0,
          later (sym (entry_at-miss x.part x.key e es (ap is_eq h)) ∙ absent),
        )
    by_order Equal h later = absurd (some_is_not_none e (sym (entry_at-hit x.part x.key e es (ap is_eq h)) ∙ absent))
      where
        some_is_not_none : (y : Entry) → Some y ≡ None → ⊥
        some_is_not_none y n = cc
    by_order Greater h later =
        let less : place_cmp (place_of x) (place_of e) ≡ Less = turned_greater (place_of e) (place_of x) h in
        subst IsRising (sym (insert-here x e es (ap is_lt h))) (
          (
            less,
            AllByRecursion-map (λ f. place_cmp (place_of e) (place_of f) ≡ Less)
                (λ f. place_cmp (place_of x) (place_of f) ≡ Less)
                (λ f g. place_cmp-total.trans (place_of x) (place_of e) (place_of f) less g) es rising.0,
          ),
          rising,
        )

pub insert_back : (es : List Entry) (x : Entry) → remove_entry (insert_entry es x) x.part x.key ≡ es
insert_back [] x = remove-hit x.part x.key x [] (same_place-itself x.part x.key)
insert_back (e ∷ es) x =
    let out : List Entry → List Entry = λ l. remove_entry l x.part x.key in
    ⊎_elim
    (λ lt. ap out (insert-later x e es lt) ∙ remove-miss x.part x.key e (insert_entry es x)
    (lt_not_eq (place_cmp (place_of e) (place_of x)) lt) ∙ ap (λ l. e ∷ l) (insert_back es x))
    (λ ge. ap out (insert-here x e es ge) ∙ remove-hit x.part x.key x (e ∷ es) (same_place-itself x.part x.key))
    (cases_Bool (is_lt (place_cmp (place_of e) (place_of x))))

-- ---- removal

pub entry_at_removed : (es : List Entry) (part : ℕ) (key : OrderedKey) → IsRising es →
    entry_at (remove_entry es part key) part key ≡ None
entry_at_removed [] part key rising = refl
entry_at_removed (e ∷ es) part key rising =
    let at : List Entry → Option Entry = λ l. entry_at l part key in
    ⊎_elim
    (λ yes. ap at (remove-hit part key e es yes) ∙ later_none part key e es rising yes)
    (λ not. ap at (remove-miss part key e es not) ∙ entry_at-miss part key e (remove_entry es part key) not ∙
    entry_at_removed es part key rising.1)
    (cases_Bool (same_place e.part e.key part key))

-- an entry at one place isn't found at another
misses : (e : Entry) (part : ℕ) (key : OrderedKey) (part' : ℕ) (key' : OrderedKey) →
    same_place e.part e.key part key ≡ true → same_place part key part' key' ≡ false →
    same_place e.part e.key part' key' ≡ false
misses e part key part' key' hit n = subst (λ (q : Place). eq_by_cmp place_cmp q (part', key') ≡ false)
    (sym (one_place (place_of e) (part, key) hit)) n

pub entry_at_beside_removed : (es : List Entry) (part : ℕ) (key : OrderedKey) (part' : ℕ) (key' : OrderedKey) →
    same_place part key part' key' ≡ false → entry_at (remove_entry es part key) part' key' ≡ entry_at es part' key'
entry_at_beside_removed [] part key part' key' n = refl
entry_at_beside_removed (e ∷ es) part key part' key' n =
    let at : List Entry → Option Entry = λ l. entry_at l part' key' in
    ⊎_elim
    (λ yes. ap at (remove-hit part key e es yes) ∙
    sym (entry_at-miss part' key' e es (misses e part key part' key' yes n)))
    (λ not. ap at (remove-miss part key e es not) ∙ ap (λ r. cond (same_place e.part e.key part' key') (Some e) r)
    (entry_at_beside_removed es part key part' key' n))
    (cases_Bool (same_place e.part e.key part key))

all_removed : (P : Entry → Type 0) (es : List Entry) (part : ℕ) (key : OrderedKey) → AllByRecursion P es →
    AllByRecursion P (remove_entry es part key)
all_removed P [] part key a = tt
all_removed P (e ∷ es) part key a =
    elim (same_place e.part e.key part key) as (λ b. AllByRecursion P (cond b es (e ∷ remove_entry es part key))) [
      | true ↦ a.1
      | false ↦ (a.0, all_removed P es part key a.1)
    ]

pub rising_removed : (es : List Entry) (part : ℕ) (key : OrderedKey) → IsRising es → IsRising (remove_entry es part key)
rising_removed [] part key rising = tt
rising_removed (e ∷ es) part key rising =
    elim (same_place e.part e.key part key) as (λ b. IsRising (cond b es (e ∷ remove_entry es part key))) [
      | true ↦ rising.1
      | false ↦ (
        all_removed (λ f. place_cmp (place_of e) (place_of f) ≡ Less) es part key rising.0,
        rising_removed es part key rising.1,
      )
    ]

-- ---- another value and mark

pub find_reset : (es : List Entry) (part : ℕ) (key : OrderedKey) (value : List ℕ) (is_ghost : Bool) →
    IsSome (find es part key) → find (set_entry es part key value is_ghost) part key ≡ Some (value, is_ghost)
find_reset [] part key value is_ghost there = absurd (false≢true there)
find_reset (e ∷ es) part key value is_ghost there =
    let at : List Entry → Option Slot = λ l. find l part key in
    ⊎_elim
    (λ yes. ap at (set-hit part key e es value is_ghost yes) ∙
    find-hit part key (record e { value = value; is_ghost = is_ghost }) es yes)
    (λ not.
    let later : IsSome (find es part key) = subst (λ (r : Option Slot). IsSome r) (find-miss part key e es not) there in
    ap at (set-miss part key e es value is_ghost not) ∙ find-miss part key e (set_entry es part key value is_ghost)
    not ∙ find_reset es part key value is_ghost later)
    (cases_Bool (same_place e.part e.key part key))

pub entry_at_beside_reset : (es : List Entry) (part : ℕ) (key : OrderedKey) (value : List ℕ) (is_ghost : Bool)
    (part' : ℕ) (key' : OrderedKey) → same_place part key part' key' ≡ false
    → entry_at (set_entry es part key value is_ghost) part' key' ≡ entry_at es part' key'
entry_at_beside_reset [] part key value is_ghost part' key' n = refl
entry_at_beside_reset (e ∷ es) part key value is_ghost part' key' n =
    let at : List Entry → Option Entry = λ l. entry_at l part' key' in
    ⊎_elim
    (λ yes.
    let miss = misses e part key part' key' yes n in
    ap at (set-hit part key e es value is_ghost yes) ∙
    entry_at-miss part' key' (record e { value = value; is_ghost = is_ghost }) es miss ∙
    sym (entry_at-miss part' key' e es miss))
    (λ not. ap at (set-miss part key e es value is_ghost not) ∙
    ap (λ r. cond (same_place e.part e.key part' key') (Some e) r)
    (entry_at_beside_reset es part key value is_ghost part' key' n))
    (cases_Bool (same_place e.part e.key part key))

module _ (part : ℕ) (key : OrderedKey) (value : List ℕ) (is_ghost : Bool) where
  all_reset : (P : Place → Type 0) (es : List Entry) → AllByRecursion (λ e. P (place_of e)) es →
      AllByRecursion (λ e. P (place_of e)) (set_entry es part key value is_ghost)
  all_reset P [] a = tt
  all_reset P (e ∷ es) a =
      elim (same_place e.part e.key part key) as (λ b. AllByRecursion (λ f. P (place_of f))
      (cond b (record e { value = value; is_ghost = is_ghost } ∷ es) (e ∷ set_entry es part key value is_ghost))) [
        | true ↦ a
        | false ↦ (a.0, all_reset P es a.1)
      ]

  pub rising_reset : (es : List Entry) → IsRising es → IsRising (set_entry es part key value is_ghost)
  rising_reset [] rising = tt
  rising_reset (e ∷ es) rising =
      elim (same_place e.part e.key part key) as (λ b. IsRising
      (cond b (record e { value = value; is_ghost = is_ghost } ∷ es) (e ∷ set_entry es part key value is_ghost))) [
        | true ↦ rising
        | false ↦ (all_reset (λ q. place_cmp (place_of e) q ≡ Less) es rising.0, rising_reset es rising.1)
      ]

-- ---- what passes a test

-- the first that passes is taken away
pub filter-removed : (test : Entry → Bool) (es : List Entry) (c : Entry) (cs : List Entry) → IsRising es →
    filter test es ≡ c ∷ cs → filter test (remove_entry es c.part c.key) ≡ cs
filter-removed test [] c cs r h = absurd (none_first h)
filter-removed test (e ∷ es) c cs r h = ⊎_elim
    (λ passes.
    let all = sym (filter-yes test e es passes) ∙ h in
    let same : e ≡ c = heads all in
    let hit : same_place e.part e.key c.part c.key ≡ true =
    subst (λ (x : Entry). same_place e.part e.key x.part x.key ≡ true) same (same_place-itself e.part e.key) in
    ap (filter test) (remove-hit c.part c.key e es hit) ∙ tails all)
    (λ fails.
    let rest = sym (filter-no test e es fails) ∙ h in
    let below : AllByRecursion (λ f. place_cmp (place_of e) (place_of f) ≡ Less) (c ∷ cs) =
    subst (λ (l : List Entry). AllByRecursion (λ f. place_cmp (place_of e) (place_of f) ≡ Less) l) rest
    (AllByRecursion-filter (λ f. place_cmp (place_of e) (place_of f) ≡ Less) test es r.0) in
    ap (filter test) (remove-miss c.part c.key e es (ap is_eq below.0)) ∙
    filter-no test e (remove_entry es c.part c.key) fails ∙ filter-removed test es c cs r.1 rest)
    (cases_Bool (test e))

-- where no entry passes, each fails
pub none_such : (test : Entry → Bool) (es : List Entry) → first_such test es ≡ None →
    AllByRecursion (λ e. test e ≡ false) es
none_such test [] h = tt
none_such test (e ∷ es) h = ⊎_elim
    (λ yes. absurd (none-some e (sym h ∙ cond-true (test e) (Some e) (first_such test es) yes)))
    (λ no. (no, none_such test es (sym (cond-false (test e) (Some e) (first_such test es) no) ∙ h)))
    (cases_Bool (test e))
