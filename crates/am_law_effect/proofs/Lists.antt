-- Lists of entries, place by place.
use Rattle.std.proofs.Common.{◌≡◌, ℕ, List, [], ◌∷◌, filter, Bool, true, false, cond, refl, sym, ap, ◌∙◌, subst}
use Rattle.std.proofs.Common.{⊎_elim, Option, Some, None}
use Rattle.std.specs.Prelude.{is_some}
use Rattle.std.specs.Option.{option_map}
use Rattle.std.specs.List.{AllByRecursion}
use Rattle.std.specs.declared.cmp.Ordering.TheVariants.{Less}
use Rattle.std.specs.Ordering.{is_eq, eq_by_cmp}
use Rattle.std.specs.FinMap.{get, insert, remove, same_map, get-insert, get-remove}
use Rattle.std.specs.Cmp.{eq_by_cmp_equiv}
use Rattle.std.proofs.lemmas.Bool.{cases_Bool, cond-true, cond-false, true≢false}
use Rattle.std.proofs.lemmas.Option.{none-some}
use Rattle.am_record.specs.OrderedKey.{OrderedKey, key_cmp, key_cmp-total, key_cmp-exact, key_eq-exact}
use Rattle.am_record.specs.EntryOrder.{Place, place_of, place_cmp, place_cmp-total}
use Rattle.am_record.specs.Plain.{PlainMap}
use Rattle.am_record.specs.declared.entry.Entry.{Entry}
use Rattle.am_record.proofs.Lists.{AllByRecursion-map, AllByRecursion-filter}
use Rattle.am_index.specs.Entries.{Slot, slot_of, entry_at, find, insert_entry, set_entry, remove_entry, IsRising}
use Rattle.am_index.specs.Content.{content, OnePlace, HasContent}
use Rattle.am_index.proofs.Edits.{one_place, place_cmp-itself, turned_apart, entry_at_inserted}
use Rattle.am_index.proofs.Edits.{entry_at_beside_inserted}
use Rattle.am_index.proofs.Edits.{rising_inserted, entry_at_removed, entry_at_beside_removed, find_reset}
use Rattle.am_index.proofs.Edits.{entry_at_beside_reset, rising_reset}
use Rattle.am_index.proofs.Content.{all_found, content_live}
use Rattle.am_index.proofs.ContentLaws.{content_laws}
use Rattle.am_law_effect.specs.Places.{look, put, with_slot, reslotted}

-- ---- places

pub tied_place : (a : Place) → eq_by_cmp place_cmp a a ≡ true
tied_place a = ap is_eq (place_cmp-itself a)

-- ---- what stands at a place of an edited list

pushed : (b : Bool) (e : Entry) (o : Option Entry) → option_map slot_of (cond b (Some e) o) ≡ cond b (Some (slot_of e))
    (option_map slot_of o)
pushed true e o = refl
pushed false e o = refl

pub look-cons : (e : Entry) (es : List Entry) (a : Place) → look (e ∷ es) a ≡ cond (eq_by_cmp place_cmp a (place_of e))
    (Some (slot_of e)) (look es a)
look-cons e es a =
    pushed (eq_by_cmp place_cmp (place_of e) a) e (entry_at es a.0 a.1)
    ∙ ap (λ c. cond c (Some (slot_of e)) (look es a)) ((eq_by_cmp_equiv place_cmp-total).symm (place_of e) a)

abbrev pub set : Entry → List Entry → List Entry
set x es = set_entry es x.part x.key x.value x.is_ghost

pub put_set : (x : Entry) (es : List Entry) → is_some (find es x.part x.key) ≡ true → put x es ≡ set x es
put_set x es h = cond-true (is_some (find es x.part x.key)) (set x es) (insert_entry es x) h

pub put_new : (x : Entry) (es : List Entry) → is_some (find es x.part x.key) ≡ false → put x es ≡ insert_entry es x
put_new x es h = cond-false (is_some (find es x.part x.key)) (set x es) (insert_entry es x) h

pub look-here : (x : Entry) (es : List Entry) → look (put x es) (place_of x) ≡ Some (slot_of x)
look-here x es = ⊎_elim
    (λ yes. ap (λ l. look l (place_of x)) (put_set x es yes) ∙ find_reset es x.part x.key x.value x.is_ghost yes)
    (λ no. ap (λ l. look l (place_of x)) (put_new x es no) ∙ ap (option_map slot_of) (entry_at_inserted es x))
    (cases_Bool (is_some (find es x.part x.key)))

look-beside : (x : Entry) (es : List Entry) (a : Place) → eq_by_cmp place_cmp a (place_of x) ≡ false →
    look (put x es) a ≡ look es a
look-beside x es a apart =
    let turned = turned_apart a (place_of x) apart in
    ⊎_elim
    (λ yes. ap (λ l. look l a) (put_set x es yes) ∙
    ap (option_map slot_of) (entry_at_beside_reset es x.part x.key x.value x.is_ghost a.0 a.1 turned))
    (λ no. ap (λ l. look l a) (put_new x es no) ∙
    ap (option_map slot_of) (entry_at_beside_inserted es x a.0 a.1 turned))
    (cases_Bool (is_some (find es x.part x.key)))

pub look-put : (x : Entry) (es : List Entry) (a : Place) → look (put x es) a ≡ cond (eq_by_cmp place_cmp a (place_of x))
    (Some (slot_of x)) (look es a)
look-put x es a = ⊎_elim
    (λ tie. ap (look (put x es)) (one_place a (place_of x) tie) ∙ look-here x es ∙
    sym (cond-true _ (Some (slot_of x)) (look es a) tie))
    (λ apart. look-beside x es a apart ∙ sym (cond-false _ (Some (slot_of x)) (look es a) apart))
    (cases_Bool (eq_by_cmp place_cmp a (place_of x)))

pub look-removed : (b : Place) (es : List Entry) → IsRising es → (a : Place) → look (remove_entry es b.0 b.1) a ≡ cond
    (eq_by_cmp place_cmp a b) None (look es a)
look-removed b es rising a = ⊎_elim
    (λ tie. ap (look (remove_entry es b.0 b.1)) (one_place a b tie) ∙
    ap (option_map slot_of) (entry_at_removed es b.0 b.1 rising) ∙ sym (cond-true _ None (look es a) tie))
    (λ apart. ap (option_map slot_of) (entry_at_beside_removed es b.0 b.1 a.0 a.1 (turned_apart a b apart)) ∙
    sym (cond-false _ None (look es a) apart))
    (cases_Bool (eq_by_cmp place_cmp a b))

-- ---- rising lists

pub rising-filter : (test : Entry → Bool) (es : List Entry) → IsRising es → IsRising (filter test es)
rising-filter test [] h = tt
rising-filter test (e ∷ es) h =
    let rest = rising-filter test es h.1 in
    elim (test e) as (λ b. IsRising (cond b (e ∷ filter test es) (filter test es))) [
      | true ↦ (AllByRecursion-filter (λ f. place_cmp (place_of e) (place_of f) ≡ Less) test es h.0, rest)
      | false ↦ rest
    ]

absent : (o : Option Entry) → is_some (option_map slot_of o) ≡ false → o ≡ None
absent None h = refl
absent (Some e) h = absurd (true≢false h)

pub rising-put : (x : Entry) (es : List Entry) → IsRising es → IsRising (put x es)
rising-put x es h = ⊎_elim
    (λ yes. subst IsRising (sym (put_set x es yes)) (rising_reset x.part x.key x.value x.is_ghost es h))
    (λ no. subst IsRising (sym (put_new x es no)) (rising_inserted es x h (absent (entry_at es x.part x.key) no)))
    (cases_Bool (is_some (find es x.part x.key)))

-- ---- entries that stand in a list

abbrev pub Stands : List Entry → Entry → Type 0
Stands es e = look es (place_of e) ≡ Some (slot_of e)

pub stands_all : (es : List Entry) → IsRising es → AllByRecursion (Stands es) es
stands_all es h = AllByRecursion-map (λ e. entry_at es e.part e.key ≡ Some e) (Stands es)
    (λ e found. ap (option_map slot_of) found) es (all_found es h)

pub All-filter : {X : Type 0} (P : X → Type 0) (test : X → Bool) (xs : List X) → AllByRecursion P xs →
    AllByRecursion (λ x. P x × (test x ≡ true)) (filter test xs)
All-filter P test [] a = tt
All-filter P test (x ∷ xs) a =
    let rest = All-filter P test xs a.1 in
    ⊎_elim
    (λ yes. subst (λ b. AllByRecursion (λ x. P x × (test x ≡ true)) (cond b (x ∷ filter test xs) (filter test xs)))
    (sym yes) ((a.0, yes), rest))
    (λ not. subst (λ b. AllByRecursion (λ x. P x × (test x ≡ true)) (cond b (x ∷ filter test xs) (filter test xs)))
    (sym not) rest)
    (cases_Bool (test x))

-- ---- a live entry is put

slotted : List ℕ → Bool → Option Slot
slotted v b = Some (v, b)

pub content-put : (x : Entry) (es : List Entry) → IsRising es → OnePlace es → x.is_ghost ≡ false →
    get (content es) x.key ≡ None → HasContent (put x es) (insert (content es) x.key x.value)
content-put x es rising one live none = by_slot (find es x.part x.key) refl
  where
    by_slot : (o : Option Slot) → find es x.part x.key ≡ o → HasContent (put x es) (insert (content es) x.key x.value)
    by_slot None e = subst (λ l. HasContent l (insert (content es) x.key x.value)) (sym (put_new x es (ap is_some e)))
        ((content_laws es rising one).adds.added x e live none)
    by_slot (Some (v, true)) e =
        subst (λ l. HasContent l (insert (content es) x.key x.value))
        (ap (set_entry es x.part x.key x.value) (sym live) ∙ sym (put_set x es (ap is_some e)))
        ((content_laws es rising one).sets.revived x.part x.key v x.value e none)
    by_slot (Some (v, false)) e = absurd (none-some v
        (sym none ∙ content_live es rising one x.part x.key v (record { there = e })))

-- a record taken out and put back
pub back_again : (m : PlainMap) (k : OrderedKey) (v : List ℕ) → get m k ≡ Some v → insert (remove m k) k v ≡ m
back_again m k v h = same_map key_cmp-total key_cmp-exact _ _ (λ q.
    get-insert key_cmp-total (remove m k) k v q ∙ ⊎_elim
    (λ yes. cond-true _ (Some v) (get (remove m k) q) yes ∙ sym h ∙ ap (get m) (sym (key_eq-exact q k yes)))
    (λ no. cond-false _ (Some v) (get (remove m k) q) no ∙ get-remove key_cmp-total m k q ∙
    cond-false _ None (get m q) no)
    (cases_Bool (eq_by_cmp key_cmp q k)))

-- ---- other slots at the same places

place-with_slot : (e : Entry) (o : Option Slot) → place_of (with_slot e o) ≡ place_of e
place-with_slot e None = refl
place-with_slot e (Some s) = refl

-- what stands is given another slot by f, where f gives one
pub look-reslotted : (f : ℕ → OrderedKey → Option Slot → Option Slot) (es : List Entry) (a : Place) (s s' : Slot) →
    look es a ≡ Some s → f a.0 a.1 (Some s) ≡ Some s' → look (reslotted f es) a ≡ Some s'
look-reslotted f [] a s s' e g = absurd (none-some s e)
look-reslotted f (x ∷ es) a s s' e g =
    let y = with_slot x (f x.part x.key (Some (slot_of x))) in
    let same : place_of y ≡ place_of x = place-with_slot x (f x.part x.key (Some (slot_of x))) in
    ⊎_elim
    (λ tie.
    let here : a ≡ place_of x = one_place a (place_of x) tie in
    let some : Some (slot_of x) ≡ Some s = sym (cond-true (eq_by_cmp place_cmp a (place_of x)) (Some (slot_of x))
    (look es a) tie) ∙ sym (look-cons x es a) ∙ e in
    let slots : slot_of x ≡ s = cc in
    let given : f x.part x.key (Some (slot_of x)) ≡ Some s' =
    subst (λ (b : Place). f b.0 b.1 (Some (slot_of x)) ≡ Some s') here (ap (λ z. f a.0 a.1 (Some z)) slots ∙ g) in
    look-cons y (reslotted f es) a
    ∙ cond-true (eq_by_cmp place_cmp a (place_of y)) (Some (slot_of y)) (look (reslotted f es) a)
    (ap (eq_by_cmp place_cmp a) same ∙ tie)
    ∙ ap (λ o. Some (slot_of (with_slot x o))) given)
    (λ apart.
    look-cons y (reslotted f es) a
    ∙ cond-false (eq_by_cmp place_cmp a (place_of y)) (Some (slot_of y)) (look (reslotted f es) a)
    (ap (eq_by_cmp place_cmp a) same ∙ apart)
    ∙ look-reslotted f es a s s' (sym (cond-false (eq_by_cmp place_cmp a (place_of x)) (Some (slot_of x)) (look es a)
    apart) ∙ sym (look-cons x es a) ∙ e) g)
    (cases_Bool (eq_by_cmp place_cmp a (place_of x)))

pub look-reslotted_none : (f : ℕ → OrderedKey → Option Slot → Option Slot) (es : List Entry) (a : Place) →
    look es a ≡ None → look (reslotted f es) a ≡ None
look-reslotted_none f [] a e = e
look-reslotted_none f (x ∷ es) a e =
    let y = with_slot x (f x.part x.key (Some (slot_of x))) in
    let same : place_of y ≡ place_of x = place-with_slot x (f x.part x.key (Some (slot_of x))) in
    ⊎_elim
    (λ tie. absurd
    (none-some (slot_of x) (sym (sym (cond-true (eq_by_cmp place_cmp a (place_of x)) (Some (slot_of x)) (look es a)
    tie) ∙ sym (look-cons x es a) ∙ e))))
    (λ apart.
    look-cons y (reslotted f es) a
    ∙ cond-false (eq_by_cmp place_cmp a (place_of y)) (Some (slot_of y)) (look (reslotted f es) a)
    (ap (eq_by_cmp place_cmp a) same ∙ apart)
    ∙ look-reslotted_none f es a (sym (cond-false (eq_by_cmp place_cmp a (place_of x)) (Some (slot_of x)) (look es a)
    apart) ∙ sym (look-cons x es a) ∙ e))
    (cases_Bool (eq_by_cmp place_cmp a (place_of x)))

below-reslotted : (f : ℕ → OrderedKey → Option Slot → Option Slot) (a : Place) (es : List Entry) →
    AllByRecursion (λ g. place_cmp a (place_of g) ≡ Less) es → AllByRecursion (λ g. place_cmp a (place_of g) ≡ Less)
    (reslotted f es)
below-reslotted f a [] h = tt
below-reslotted f a (x ∷ es) h = (
  ap (place_cmp a) (place-with_slot x (f x.part x.key (Some (slot_of x)))) ∙ h.0,
  below-reslotted f a es h.1,
)

pub rising-reslotted : (f : ℕ → OrderedKey → Option Slot → Option Slot) (es : List Entry) → IsRising es →
    IsRising (reslotted f es)
rising-reslotted f [] h = tt
rising-reslotted f (x ∷ es) h = (
  subst (λ (a : Place). AllByRecursion (λ g. place_cmp a (place_of g) ≡ Less) (reslotted f es))
      (sym (place-with_slot x (f x.part x.key (Some (slot_of x))))) (below-reslotted f (place_of x) es h.0),
  rising-reslotted f es h.1,
)
