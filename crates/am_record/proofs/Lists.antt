-- What holds of each item of a list, and the parts of a list.
use Rattle.std.proofs.Common.{◌≡◌, ℕ, zero, suc, ◌<◌, Bool, true, false, cond, List, [], ◌∷◌, ◌++◌, length, get_or}
use Rattle.std.proofs.Common.{take, drop, map, filter, All, refl, arith}
use Rattle.std.specs.List.{AllByRecursion}
use Rattle.std.proofs.lemmas.Bool.{cond-true, cond-false}
use Rattle.std.proofs.lemmas.List.Elements.{All-head, All-tail}

pub AllByRecursion-map : {X : Type 0} (P Q : X → Type 0) → ((x : X) → P x → Q x) → (xs : List X) → AllByRecursion P xs →
    AllByRecursion Q xs
AllByRecursion-map P Q f [] a = tt
AllByRecursion-map P Q f (x ∷ xs) a = (f x a.0, AllByRecursion-map P Q f xs a.1)

pub AllByRecursion-always : {X : Type 0} (P : X → Type 0) → ((x : X) → P x) → (xs : List X) → AllByRecursion P xs
AllByRecursion-always P h [] = tt
AllByRecursion-always P h (x ∷ xs) = (h x, AllByRecursion-always P h xs)

pub AllByRecursion-from_All : {X : Type 0} (P : X → Type 0) (xs : List X) → All P xs → AllByRecursion P xs
AllByRecursion-from_All P [] a = tt
AllByRecursion-from_All P (x ∷ xs) a = (All-head P x xs a, AllByRecursion-from_All P xs (All-tail P x xs a))

-- what is made of each item is the same either way
pub map-alike : {X Y : Type 0} (f g : X → Y) (xs : List X) → AllByRecursion (λ x. f x ≡ g x) xs → map f xs ≡ map g xs
map-alike f g [] a = refl
map-alike f g (x ∷ xs) a = λ i. a.0 i ∷ map-alike f g xs a.1 i

pub AllByRecursion-append : {X : Type 0} (P : X → Type 0) (xs ys : List X) → AllByRecursion P xs → AllByRecursion P ys →
    AllByRecursion P (xs ++ ys)
AllByRecursion-append P [] ys a b = b
AllByRecursion-append P (x ∷ xs) ys a b = (a.0, AllByRecursion-append P xs ys a.1 b)

pub AllByRecursion-front : {X : Type 0} (P : X → Type 0) (xs ys : List X) → AllByRecursion P (xs ++ ys) →
    AllByRecursion P xs
AllByRecursion-front P [] ys a = tt
AllByRecursion-front P (x ∷ xs) ys a = (a.0, AllByRecursion-front P xs ys a.1)

pub AllByRecursion-back : {X : Type 0} (P : X → Type 0) (xs ys : List X) → AllByRecursion P (xs ++ ys) →
    AllByRecursion P ys
AllByRecursion-back P [] ys a = a
AllByRecursion-back P (x ∷ xs) ys a = AllByRecursion-back P xs ys a.1

pub AllByRecursion-push : {X : Type 0} (P : X → Type 0) (xs : List X) (y : X) → AllByRecursion P xs → P y →
    AllByRecursion P (xs ++ y ∷ [])
AllByRecursion-push P [] y a h = (h, tt)
AllByRecursion-push P (x ∷ xs) y a h = (a.0, AllByRecursion-push P xs y a.1 h)

pub AllByRecursion-take : {X : Type 0} (P : X → Type 0) (n : ℕ) (xs : List X) → AllByRecursion P xs →
    AllByRecursion P (take n xs)
AllByRecursion-take P zero xs a = tt
AllByRecursion-take P (suc n) [] a = tt
AllByRecursion-take P (suc n) (x ∷ xs) a = (a.0, AllByRecursion-take P n xs a.1)

pub AllByRecursion-drop : {X : Type 0} (P : X → Type 0) (n : ℕ) (xs : List X) → AllByRecursion P xs →
    AllByRecursion P (drop n xs)
AllByRecursion-drop P zero xs a = a
AllByRecursion-drop P (suc n) [] a = tt
AllByRecursion-drop P (suc n) (x ∷ xs) a = AllByRecursion-drop P n xs a.1

pub AllByRecursion-at : {X : Type 0} (P : X → Type 0) (xs : List X) (i : ℕ) (d : X) → AllByRecursion P xs →
    i < length xs → P (get_or xs i d)
AllByRecursion-at P [] i d a lt = absurd (omega arith)
AllByRecursion-at P (x ∷ xs) zero d a lt = a.0
AllByRecursion-at P (x ∷ xs) (suc i) d a lt = AllByRecursion-at P xs i d a.1 (omega arith)

-- some item of a list that has one
pub some_item : {X : Type 0} (xs : List X) (i : ℕ) → i < length xs → X
some_item [] i lt = absurd (omega arith)
some_item (x ∷ xs) i lt = x

-- ---- the first item, and those after it

pub heads : {X : Type 0} {x y : X} {xs ys : List X} → x ∷ xs ≡ y ∷ ys → x ≡ y
heads e = cc

pub tails : {X : Type 0} {x y : X} {xs ys : List X} → x ∷ xs ≡ y ∷ ys → xs ≡ ys
tails e = cc

pub none_first : {X : Type 0} {x : X} {xs : List X} → [] ≡ x ∷ xs → ⊥
none_first e = cc

pub filter-yes : {X : Type 0} (test : X → Bool) (x : X) (xs : List X) → test x ≡ true →
    filter test (x ∷ xs) ≡ x ∷ filter test xs
filter-yes test x xs h = cond-true (test x) (x ∷ filter test xs) (filter test xs) h

pub filter-no : {X : Type 0} (test : X → Bool) (x : X) (xs : List X) → test x ≡ false →
    filter test (x ∷ xs) ≡ filter test xs
filter-no test x xs h = cond-false (test x) (x ∷ filter test xs) (filter test xs) h

pub AllByRecursion-filter : {X : Type 0} (P : X → Type 0) (test : X → Bool) (xs : List X) → AllByRecursion P xs →
    AllByRecursion P (filter test xs)
AllByRecursion-filter P test [] a = tt
AllByRecursion-filter P test (x ∷ xs) a =
    let rest = AllByRecursion-filter P test xs a.1 in
    elim (test x) as (λ b. AllByRecursion P (cond b (x ∷ filter test xs) (filter test xs)))
    [ true ↦ (a.0, rest) | false ↦ rest ]
