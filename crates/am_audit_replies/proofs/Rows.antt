-- Records that are found the same are so.
use Rattle.std.proofs.Common.{◌≡◌, ℕ, List, [], ◌∷◌, true, refl, sym}
use Rattle.std.specs.Prelude.{nat_eq}
use Rattle.std.specs.Ordering.{eq_by_cmp}
use Rattle.std.specs.Cmp.Lexicographic.{pointwise, same_text}
use Rattle.std.proofs.lemmas.Bool.{and_parts, false≢true}
use Rattle.am_record.specs.OrderedKey.{OrderedKey, key_cmp, key_eq-exact}
use Rattle.am_record.specs.Records.{Records, same_record, same_records}

exact_record : (a b : OrderedKey × List ℕ) → same_record a b ≡ true → a ≡ b
exact_record a b e =
    let parts = and_parts (eq_by_cmp key_cmp a.0 b.0) (pointwise nat_eq a.1 b.1) e in
    let key = key_eq-exact a.0 b.0 parts.0 in
    let value = same_text a.1 b.1 (sym parts.1) in
    λ i. (key i, value i)

pub exact_records : (xs ys : Records) → same_records xs ys ≡ true → xs ≡ ys
exact_records [] [] e = refl
exact_records [] (y ∷ ys) e = absurd (false≢true e)
exact_records (x ∷ xs) [] e = absurd (false≢true e)
exact_records (x ∷ xs) (y ∷ ys) e =
    let parts = and_parts (same_record x y) (same_records xs ys) e in
    let first = exact_record x y parts.0 in
    let rest = exact_records xs ys parts.1 in
    λ i. first i ∷ rest i
