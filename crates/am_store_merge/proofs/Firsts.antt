-- The first entry of a rising list that passes a test.
use Rattle.std.proofs.Common.{◌≡◌, List, [], ◌∷◌, filter, Bool, true, false, cond, Option, Some, None, refl, sym, ap}
use Rattle.std.proofs.Common.{◌∙◌, subst, ⊎_elim}
use Rattle.std.proofs.lemmas.Bool.{cases_Bool, cond-true, cond-false, both_ways, false_from_ne_true}
use Rattle.std.proofs.lemmas.Option.{none-some, same_Some}
use Rattle.std.specs.declared.cmp.Ordering.TheVariants.{Less}
use Rattle.std.specs.Ordering.{is_eq, is_le}
use Rattle.std.specs.List.{AllByRecursion}
use Rattle.am_record.specs.EntryOrder.{Place, place_of, place_cmp}
use Rattle.am_record.specs.declared.entry.Entry.{Entry}
use Rattle.am_record.proofs.Lists.{AllByRecursion-map}
use Rattle.am_record.proofs.PlaceOrder.{turned_less}
use Rattle.am_index.specs.Entries.{first_such, entry_at, IsRising}
use Rattle.am_index.proofs.Lists.{first_such_none}
use Rattle.am_index.proofs.Edits.{place_cmp-itself, first_such_all, none_such}
use Rattle.am_store_merge.specs.Walks.{is_from}

-- whether a walk that stands at the first entry still comes to the second one; where it stands at none it has ended
abbrev pub comes_to : Option Entry → Entry → Bool
comes_to None e = false
comes_to (Some x) e = is_from (place_of x) e

-- ---- what holds of each entry

pub All-zip : {X : Type 0} (P Q : X → Type 0) (xs : List X) → AllByRecursion P xs → AllByRecursion Q xs →
    AllByRecursion (λ x. P x × Q x) xs
All-zip P Q [] a b = tt
All-zip P Q (x ∷ xs) a b = ((a.0, b.0), All-zip P Q xs a.1 b.1)

-- what holds of those that pass a test
pub All-passed : (P : Entry → Type 0) (test : Entry → Bool) (es : List Entry) → AllByRecursion P (filter test es) →
    AllByRecursion (λ e. test e ≡ true → P e) es
All-passed P test [] a = tt
All-passed P test (e ∷ es) a = ⊎_elim
    (λ yes. let all = subst (AllByRecursion P) (cond-true (test e) (e ∷ filter test es) (filter test es) yes) a in
    (λ t. all.0, All-passed P test es all.1))
    (λ no. (
      λ t. absurd (both_ways (test e) no t),
      All-passed P test es (subst (AllByRecursion P) (cond-false (test e) (e ∷ filter test es) (filter test es) no)
          a),
    ))
    (cases_Bool (test e))

-- ---- one test and another

-- tests that agree on the list find the same
pub first_same : (a b : Entry → Bool) (es : List Entry) → AllByRecursion (λ e. a e ≡ b e) es →
    first_such a es ≡ first_such b es
first_same a b [] same = refl
first_same a b (e ∷ es) same = λ i. cond (same.0 i) (Some e) (first_same a b es same.1 i)

-- what passes the one test on the list fails, where what passes the other is none
pub none_under : (a b : Entry → Bool) (es : List Entry) → AllByRecursion (λ e. a e ≡ true → b e ≡ true) es →
    first_such b es ≡ None → first_such a es ≡ None
none_under a b es f h =
    first_such_none a es (AllByRecursion-map (λ e. (a e ≡ true → b e ≡ true) × (b e ≡ false)) (λ e. a e ≡ false)
    (λ e w. false_from_ne_true (a e) (λ yes. both_ways (b e) w.1 (w.0 yes))) es
    (All-zip _ _ es f (none_such b es h)))

-- ---- the first of a rising list

-- a walk that stands at the first that passes comes to all that pass
pub first_comes : (test : Entry → Bool) (es : List Entry) → IsRising es →
    AllByRecursion (λ f. test f ≡ true → comes_to (first_such test es) f ≡ true) es
first_comes test [] r = tt
first_comes test (e ∷ es) r = ⊎_elim
    (λ yes. subst (λ o. AllByRecursion (λ f. test f ≡ true → comes_to o f ≡ true) (e ∷ es))
    (sym (cond-true (test e) (Some e) (first_such test es) yes)) (
      λ t. ap is_le (place_cmp-itself (place_of e)),
      AllByRecursion-map (λ f. place_cmp (place_of e) (place_of f) ≡ Less)
          (λ f. test f ≡ true → comes_to (Some e) f ≡ true) (λ f less t. ap is_le less) es r.0,
    ))
    (λ no. subst (λ o. AllByRecursion (λ f. test f ≡ true → comes_to o f ≡ true) (e ∷ es))
    (sym (cond-false (test e) (Some e) (first_such test es) no)) (
      λ t. absurd (both_ways (test e) no t),
      first_comes test es r.1,
    ))
    (cases_Bool (test e))

not_above : (a b : Place) → place_cmp a b ≡ Less → is_le (place_cmp b a) ≡ true → ⊥
not_above a b less le = both_ways (is_le (place_cmp b a)) (ap is_le (turned_less a b less)) le

-- an entry of the list that passes, and comes to all that pass, is the first
pub first_is : (test : Entry → Bool) (es : List Entry) (x : Entry) → IsRising es → entry_at es x.part x.key ≡ Some x →
    test x ≡ true
    → AllByRecursion (λ f. test f ≡ true → comes_to (Some x) f ≡ true) es → first_such test es ≡ Some x
first_is test [] x r there t all = absurd (none-some x there)
first_is test (e ∷ es) x r there t all =
    let tie : Bool = is_eq (place_cmp (place_of e) (x.part, x.key)) in
    ⊎_elim
    (λ yes.
    let same : e ≡ x = same_Some e x (sym (cond-true tie (Some e) (entry_at es x.part x.key) yes) ∙ there) in
    cond-true (test e) (Some e) (first_such test es) (ap test same ∙ t) ∙ ap (λ (y : Entry). Some y) same)
    (λ no.
    let later : entry_at es x.part x.key ≡ Some x = sym (cond-false tie (Some e) (entry_at es x.part x.key) no) ∙
    there in
    let below : place_cmp (place_of e) (place_of x) ≡ Less =
    first_such_all (λ f. place_cmp (place_of e) (place_of f) ≡ Less)
    (λ f. is_eq (place_cmp (place_of f) (x.part, x.key))) es x r.0 later in
    cond-false (test e) (Some e) (first_such test es)
    (false_from_ne_true (test e) (λ passes. not_above (place_of e) (place_of x) below (all.0 passes)))
    ∙ first_is test es x r.1 later t all.1)
    (cases_Bool tie)

-- ---- the first of those that pass

abbrev pub head_of : List Entry → Option Entry
head_of [] = None
head_of (e ∷ es) = Some e

pub first_head : (test : Entry → Bool) (es : List Entry) → first_such test es ≡ head_of (filter test es)
first_head test [] = refl
first_head test (e ∷ es) =
    elim (test e) as (λ b. cond b (Some e) (first_such test es) ≡ head_of
    (cond b (e ∷ filter test es) (filter test es))) [ true ↦ refl | false ↦ first_head test es ]

pub no_head : (es : List Entry) → head_of es ≡ None → es ≡ []
no_head [] h = refl
no_head (e ∷ es) h = absurd (none-some e (sym h))

pub a_head : (es : List Entry) (x : Entry) → head_of es ≡ Some x → (rest : List Entry) × (es ≡ x ∷ rest)
a_head [] x h = absurd (none-some x h)
a_head (e ∷ es) x h = (es, ap (λ (y : Entry). y ∷ es) (same_Some e x h))
