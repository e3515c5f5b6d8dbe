-- What a test, a Result or an Option tells.
use Rattle.std.proofs.Common.{◌≡◌, Bool, true, false, cond, Result, Ok, Err, Option, Some, None, refl, sym}
use Rattle.std.specs.Prelude.{T, is_some, is_ok, is_err, OnOk, OnErr}
use Rattle.std.specs.Option.{option_map}
use Rattle.std.proofs.lemmas.Bool.{true≢false, false≢true}
use Rattle.am_record.specs.Plain.{Records}

pub is_true : (b : Bool) → T b → b ≡ true
is_true true h = refl
is_true false h = absurd h

-- two tests that pass together are one
pub same_test : (a b : Bool) → (a ≡ true → b ≡ true) → (b ≡ true → a ≡ true) → a ≡ b
same_test true b h k = sym (h refl)
same_test false true h k = k refl
same_test false false h k = refl

-- ---- a Result

pub on_ok : {T E P : Type 0} (r : Result T E) → is_err r ≡ false → OnOk r P → P
on_ok (Ok v) h p = p
on_ok (Err e) h p = absurd (true≢false h)

pub on_err : {T E P : Type 0} (r : Result T E) → is_err r ≡ true → OnErr r P → P
on_err (Ok v) h p = absurd (false≢true h)
on_err (Err e) h p = p

-- what always holds, holds at an error
pub OnErr-from : {T E P : Type 0} (r : Result T E) → P → OnErr r P
OnErr-from (Ok v) p = tt
OnErr-from (Err e) p = p

-- a push that was not refused
pub pushed : {E : Type 0} (r : Result (Unit {0}) E) (more same new : Records) → is_err r ≡ false →
    new ≡ cond (is_ok r) more same → new ≡ more
pushed (Ok x) more same new e f = f
pushed (Err x) more same new e f = cc

-- ---- an Option

pub gate : {A : Type 0} (test : Bool) (o : Option A) (a : A) → cond test o None ≡ Some a → (test ≡ true) × (o ≡ Some a)
gate true o a e = (refl, e)
gate false o a e = cc

pub mapped : {A B : Type 0} (f : A → B) (o : Option A) (b : B) → option_map f o ≡ Some b → (a : A) × (o ≡ Some a) ×
    (f a ≡ b)
mapped f None b e = cc
mapped f (Some a) b e = (a, refl, cc)

pub is_none : {A : Type 0} (o : Option A) → is_some o ≡ false → o ≡ None
is_none None h = refl
is_none (Some x) h = absurd (true≢false h)
