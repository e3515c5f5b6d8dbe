-- What is read of a text, and the one text that is read so.
use Rattle.std.proofs.Common.{◌≡◌, ℕ, List, [], ◌∷◌, Option, Some, None, refl, ap, ◌∙◌}
use Rattle.std.specs.Prelude.{option_and_then}
use Rattle.std.specs.Option.{option_zip}
use Rattle.am_trace_text.specs.FieldReadings.{field_in, fields_in}

-- what fits is read of its text, and what is read of a text fits and has that text
pub record IsText {T A : Type 0} (read : T → Option A) (write : A → T) (fits : A → Type 0) : Type 0 where
  pub there : (a : A) → fits a → read (write a) ≡ Some a
  pub back : (t : T) (a : A) → read t ≡ Some a → fits a × (t ≡ write a)

-- ---- options taken apart

pub zipped : {A B : Type 0} (o : Option A) (p : Option B) (x : A × B) → option_zip o p ≡ Some x → (o ≡ Some x.0) ×
    (p ≡ Some x.1)
zipped None None x e = cc
zipped None (Some b) x e = cc
zipped (Some a) None x e = cc
zipped {A} {B} (Some a) (Some b) x e = let same : (a, b) ≡ x = cc in
    (ap (λ (y : A × B). Some y.0) same, ap (λ (y : A × B). Some y.1) same)

pub zip_of : {A B : Type 0} (o : Option A) (p : Option B) (a : A) (b : B) → o ≡ Some a → p ≡ Some b →
    option_zip o p ≡ Some (a, b)
zip_of o p a b e f = ap (λ x. option_zip x p) e ∙ ap (option_zip (Some a)) f

pub chained : {A B : Type 0} (f : A → Option B) (o : Option A) (b : B) → option_and_then f o ≡ Some b → (a : A) ×
    (o ≡ Some a) × (f a ≡ Some b)
chained f None b e = cc
chained f (Some a) b e = (a, refl, e)

pub same_some : {A : Type 0} (a b : A) → Some a ≡ Some b → a ≡ b
same_some a b e = cc

-- ---- one field and two

module _ {A : Type 0} (r : List ℕ → Option A) (w : A → List ℕ) (P : A → Type 0) (h : IsText r w P) where
  one_back : (fs : List (List ℕ)) (a : A) → field_in r fs ≡ Some a → P a × (fs ≡ w a ∷ [])
  one_back [] a e = cc
  one_back (f ∷ []) a e = let p = h.back f a e in (p.0, ap (λ (x : List ℕ). x ∷ []) p.1)
  one_back (f ∷ g ∷ fs) a e = cc

  pub one_field : IsText (field_in r) (λ a. w a ∷ []) P
  one_field = record { there = h.there; back = one_back }

module _ {A B : Type 0} (r : List ℕ → Option A) (w : A → List ℕ) (P : A → Type 0) (h : IsText r w P)
    (s : List ℕ → Option B) (u : B → List ℕ) (Q : B → Type 0) (k : IsText s u Q) where
  two_there : (x : A × B) → P x.0 × Q x.1 → fields_in r s (w x.0 ∷ u x.1 ∷ []) ≡ Some x
  two_there x p = zip_of (r (w x.0)) (s (u x.1)) x.0 x.1 (h.there x.0 p.0) (k.there x.1 p.1)

  two_back : (fs : List (List ℕ)) (x : A × B) → fields_in r s fs ≡ Some x → (P x.0 × Q x.1) × (fs ≡ w x.0 ∷ u x.1 ∷ [])
  two_back [] x e = cc
  two_back (f ∷ []) x e = cc
  two_back (f ∷ g ∷ []) x e =
      let z = zipped (r f) (s g) x e in
      let p = h.back f x.0 z.0 in
      let q = k.back g x.1 z.1 in
      ((p.0, q.0), ap (λ (y : List ℕ). y ∷ g ∷ []) p.1 ∙ ap (λ (y : List ℕ). w x.0 ∷ y ∷ []) q.1)
  two_back (f ∷ g ∷ i ∷ fs) x e = cc

  pub two_fields : IsText (fields_in r s) (λ (x : A × B). w x.0 ∷ u x.1 ∷ []) (λ (x : A × B). P x.0 × Q x.1)
  two_fields = record { there = two_there; back = two_back }
