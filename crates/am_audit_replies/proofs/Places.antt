-- Where an active transaction stands.
use Rattle.std.proofs.Common.{◌≡◌, ℕ, ◌+◌, ◌<◌, ◌≤◌, suc, List, [], ◌∷◌, ◌++◌, Bool, true, false, cond, not, ◌==◌, ◌||◌}
use Rattle.std.proofs.Common.{Option, Some, None, length, map, get_or, refl, sym, ap, ◌∙◌, arith}
use Rattle.std.specs.Prelude.{nat_lt, is_some}
use Rattle.std.specs.List.{position_or_len}
use Rattle.std.proofs.Math.ListN.{set}
use Rattle.std.proofs.lemmas.Bool.{ltb-true, ltb-false, eqb-true}
use Rattle.std.proofs.lemmas.Option.{none-some}
use Rattle.am_audit_replies.specs.declared.active.Active.{Active}
use Rattle.am_audit_replies.specs.OwnAnswers.{PlacedAnswer, placed_answer, listed, is_listed, own_in, place_in}
use Rattle.am_audit_replies.specs.OwnAnswers.{with_own}

-- how many stand before it
abbrev pub before : ℕ → List Active → ℕ
before t [] = 0
before t (x ∷ all) = cond (x.number == t) 0 (suc (before t all))

abbrev first : ℕ → List Active → ℕ
first t all = position_or_len (λ (x : Active). x.number == t) all

before_is : (t : ℕ) (all : List Active) → first t all ≡ before t all
before_is t [] = refl
before_is t (x ∷ all) = elim (x.number == t) as (λ b. cond (not b) (1 + first t all) 0 ≡
    cond b 0 (suc (before t all))) [ true ↦ refl | false ↦ omega (arith, before_is t all) ]

abbrev value : Option ℕ → ℕ
value None = 0
value (Some n) = n

at_some : (b : Bool) (a i : ℕ) → cond b (Some a) None ≡ Some i → (b ≡ true) × (a ≡ i)
at_some true a i e = (refl, ap value e)
at_some false a i e = absurd (none-some i e)

at_none : (b : Bool) (a : ℕ) → cond b (Some a) None ≡ None → b ≡ false
at_none true a e = absurd (none-some a (sym e))
at_none false a e = refl

pub place_is : (t : ℕ) (all : List Active) (i : ℕ) → place_in all t ≡ Some i →
    (before t all < length all) × (before t all ≡ i)
place_is t all i e =
    let at = at_some (nat_lt (first t all) (length all)) (first t all) i e in
    let less = ltb-true (first t all) (length all) at.0 in
    (omega (arith, less, before_is t all), sym (before_is t all) ∙ at.1)

pub number_there : (t : ℕ) (all : List Active) (d : Active) → before t all < length all →
    (get_or all (before t all) d).number ≡ t
number_there t [] d less = absurd (omega (arith, less))
number_there t (x ∷ all) d less = cases (x.number == t) refl (λ inside. number_there t all d inside)
  where
    cases : (b : Bool) → (x.number == t) ≡ b →
        (before t all < length all → (get_or all (before t all) d).number ≡ t) →
        (get_or (x ∷ all) (before t (x ∷ all)) d).number ≡ t
    cases true e later = ap (λ c. (get_or (x ∷ all) (cond c 0 (suc (before t all))) d).number) e
        ∙ eqb-true x.number t e
    cases false e later =
        let next : cond (x.number == t) 0 (suc (before t all)) ≡ suc (before t all) =
        ap (λ c. cond c 0 (suc (before t all))) e in
        ap (λ n. (get_or (x ∷ all) n d).number) next ∙ later (omega (arith, less, next))

pub listed_there : (t : ℕ) (all : List Active) → before t all < length all → is_listed (map listed all) t ≡ true
listed_there t [] less = absurd (omega (arith, less))
listed_there t (x ∷ all) less = elim (x.number == t) as (λ b. cond b 0 (suc (before t all)) < suc (length all) →
    (b || is_listed (map listed all) t) ≡ true)
    [ true ↦ λ less. refl | false ↦ λ less. listed_there t all (omega (arith, less)) ] less

-- what stands there is what is listed of it
pub own_there : (t : ℕ) (all : List Active) (d : Active) → before t all < length all →
    own_in (map listed all) t ≡ map placed_answer (get_or all (before t all) d).own.items
own_there t [] d less = absurd (omega (arith, less))
own_there t (x ∷ all) d less = elim (x.number == t) as (λ b. cond b 0 (suc (before t all)) < suc (length all) →
    cond b (map placed_answer x.own.items) (own_in (map listed all) t) ≡
    map placed_answer (get_or (x ∷ all) (cond b 0 (suc (before t all))) d).own.items)
    [ true ↦ λ less. refl | false ↦ λ less. own_there t all d (omega (arith, less)) ] less

unlisted : (t : ℕ) (all : List Active) → length all ≤ before t all → is_listed (map listed all) t ≡ false
unlisted t [] e = refl
unlisted t (x ∷ all) e = elim (x.number == t) as (λ b. suc (length all) ≤ cond b 0 (suc (before t all)) →
    (b || is_listed (map listed all) t) ≡ false) [
      | true ↦ λ e. absurd (omega (arith, e))
      | false ↦ λ e. unlisted t all (omega (arith, e))
    ] e

pub not_there : (t : ℕ) (all : List Active) → place_in all t ≡ None → is_listed (map listed all) t ≡ false
not_there t all e =
    let least = ltb-false (first t all) (length all) (at_none (nat_lt (first t all) (length all)) (first t all) e) in
    unlisted t all (omega (arith, least, before_is t all))

pub there : (t : ℕ) (all : List Active) → is_some (place_in all t) ≡ is_listed (map listed all) t
there t all = cases (place_in all t) refl
  where
    cases : (o : Option ℕ) → place_in all t ≡ o → is_some (place_in all t) ≡ is_listed (map listed all) t
    cases None e = ap is_some e ∙ sym (not_there t all e)
    cases (Some i) e = ap is_some e ∙ sym (listed_there t all (place_is t all i e).0)

-- one more answer of it
changed : (t : ℕ) (p : PlacedAnswer) (all : List Active) (y d : Active) → before t all < length all →
    listed y ≡ (let x = get_or all (before t all) d in (x.number, map placed_answer x.own.items ++ p ∷ [])) →
    map listed (set all (before t all) y) ≡ with_own t p (map listed all)
changed t p [] y d less new = absurd (omega (arith, less))
changed t p (x ∷ all) y d less new = elim (x.number == t) as (λ b.
    let i = cond b 0 (suc (before t all)) in i < suc (length all) →
    listed y ≡ (let z = get_or (x ∷ all) i d in (z.number, map placed_answer z.own.items ++ p ∷ [])) →
    map listed (set (x ∷ all) i y) ≡ cond b ((x.number, map placed_answer x.own.items ++ p ∷ []) ∷ map listed all)
    (listed x ∷ with_own t p (map listed all))) [
      | true ↦ λ less new. ap (λ z. z ∷ map listed all) new
      | false ↦ λ less new. ap (λ zs. listed x ∷ zs) (changed t p all y d (omega (arith, less)) new)
    ] less new

pub answered_there : (t : ℕ) (p : PlacedAnswer) (all : List Active) (i : ℕ) (d y : Active) → before t all < length all →
    before t all ≡ i → y.number ≡ (get_or all i d).number →
    map placed_answer y.own.items ≡ map placed_answer (get_or all i d).own.items ++ p ∷ [] →
    map listed (set all i y) ≡ with_own t p (map listed all)
answered_there t p all i d y less is number own =
    ap (λ n. map listed (set all n y)) (sym is) ∙ changed t p all y d less
    (λ j. (
      (number ∙ ap (λ n. (get_or all n d).number) (sym is)) j,
      (own ∙ ap (λ n. map placed_answer (get_or all n d).own.items ++ p ∷ []) (sym is)) j,
    ))
