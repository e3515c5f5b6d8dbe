-- A field that is read is the field that was written, and what was written is read again.
use Rattle.std.proofs.Common.{◌≡◌, ℕ, zero, suc, ◌+◌, ◌^◌, ◌<◌, ◌≤◌, Bool, true, false, cond, ltb, List, [], ◌∷◌}
use Rattle.std.proofs.Common.{◌++◌, length, get_or, take, drop, Option, Some, None, Result, Ok, Err, refl, sym, ap}
use Rattle.std.proofs.Common.{subst, ◌∙◌, append_assoc, arith, inl, inr, ◌==◌}
use Rattle.std.specs.Prelude.{IfSome, nat_le, ◌&&◌}
use Rattle.std.specs.Int.{Width, w32, byte_len, from_be_bytes, to_be_bytes}
use Rattle.std.proofs.lemmas.Bool.{cases_lt, ltb-false, le-ltb, eqb-true, eq-eqb, false_from_ne_true, both_ways}
use Rattle.std.proofs.lemmas.List.{take_at, drop_at, take-append-drop, length-append, length-take, get_or-drop}
use Rattle.std.proofs.lemmas.List.{get_or-take, get_or_past}
use Rattle.std.proofs.lemmas.Nat.{be_bytes_4, from_be_bytes-to_be_bytes_4}
use Rattle.am_replica_entries.specs.declared.block.Told.{Told}
use Rattle.am_replica_entries.specs.declared.fault.Fault.{Fault}
use Rattle.am_replica_entries.specs.declared.fault.Fault.TheVariants.{Short, NothingTold}
use Rattle.am_replica_entries.specs.Texts.{string, told_bytes, ToldHasText}
use Rattle.am_replica_entries.specs.Reading.{◌>>=◌, form_at, number_at, string_at, lines_at, digest_at, told_at}

abbrev pub IsBytes : List ℕ → Type 0
IsBytes bytes = (i : ℕ) → get_or bytes i 0 < 256

drop_fits : (n : ℕ) (bytes : List ℕ) → IsBytes bytes → IsBytes (drop n bytes)
drop_fits n bytes h i = rw get_or-drop (h (n + i))

take_fits : (n : ℕ) (bytes : List ℕ) → IsBytes bytes → IsBytes (take n bytes)
take_fits n bytes h i =
    elim (cases_lt i n) [
      | inl lt ↦ rw (get_or-take n bytes i 0 lt) (h i)
      | inr le ↦ rw (get_or_past (take n bytes) i 0 (omega (arith, length-take n bytes))) (omega arith)
    ]

rest_fits : (b : ℕ) (bytes : List ℕ) → IsBytes (b ∷ bytes) → IsBytes bytes
rest_fits b bytes h i = h (suc i)

-- the value of a step that did not fail
pub bind_ok : {A B : Type 0} (r : Result A Fault) (f : A → Result B Fault) (y : B) → (r >>= f) ≡ Ok y → (x : A) ×
    (r ≡ Ok x) × (f x ≡ Ok y)
bind_ok (Ok x) f y e = (x, refl, e)
bind_ok (Err d) f y e = absurd cc

-- a test that did not fail
pub guard_ok : {A : Type 0} (b : Bool) (d : Fault) (x y : A) → cond b (Err d) (Ok x) ≡ Ok y → (b ≡ false) × (x ≡ y)
guard_ok true d x y e = absurd cc
guard_ok false d x y e = (refl, cc)

abbrev done : {A : Type 0} → A → Result A Fault
done x = Ok x

pub ok_is : {A : Type 0} (x y : A) → done x ≡ done y → x ≡ y
ok_is x y e = cc

-- what a reader took from the front
pub record Takes (bytes text rest : List ℕ) : Type 0 where
  pub parts : bytes ≡ text ++ rest
  pub fits : IsBytes rest

pub takes_then : (a x b y c : List ℕ) → Takes a x b → Takes b y c → Takes a (x ++ y) c
takes_then a x b y c p q = record {
  parts = p.parts ∙ ap (λ (t : List ℕ). x ++ t) q.parts ∙ sym (append_assoc x y c);
  fits = q.fits;
}

-- ---- the form

form_by : (a b : Bool) (x y : Fault) (rest found : List ℕ) → cond a (Ok rest) (cond b (Err x) (Err y)) ≡ Ok found →
    (a ≡ true) × (rest ≡ found)
form_by true b x y rest found e = (refl, cc)
form_by false true x y rest found e = absurd cc
form_by false false x y rest found e = absurd cc

pub form_takes : (bytes rest : List ℕ) → IsBytes bytes → form_at bytes ≡ Ok rest → Takes bytes (1 ∷ []) rest
form_takes [] rest fits e = absurd cc
form_takes (b ∷ bytes) rest fits e =
    let p = form_by (b == 1) (nat_le 48 b && nat_le b 57) _ _ bytes rest e in
    record {
      parts = ap (λ (n : ℕ). n ∷ bytes) (eqb-true b 1 p.0) ∙ ap (λ (t : List ℕ). 1 ∷ t) p.1;
      fits = subst IsBytes p.1 (rest_fits b bytes fits);
    }

-- ---- numbers

record IsWide (w : Width) (limit : ℕ) : Type 0 where
  len : (n : ℕ) → length (to_be_bytes w n) ≡ byte_len w
  back : (bytes : List ℕ) → length bytes ≡ byte_len w → IsBytes bytes → to_be_bytes w (from_be_bytes w bytes) ≡ bytes
  again : (n : ℕ) → n < limit → from_be_bytes w (to_be_bytes w n) ≡ n
  below : (bytes : List ℕ) → IsBytes bytes → from_be_bytes w bytes < limit

wide32 : IsWide w32 (2 ^ 32)
wide32 = record {
  len = λ n. refl;
  back = λ bytes len fits. be_bytes_4 bytes _ len fits refl;
  again = λ n lt. from_be_bytes-to_be_bytes_4 n lt;
  below = λ bytes fits. omega (arith, fits 0, fits 1, fits 2, fits 3);
}

-- The width stays a variable: where it is known, the bytes compute to single cells.
module _ (w : Width) (limit : ℕ) (wide : IsWide w limit) where
  takes_by : (bytes : List ℕ) (n : ℕ) (rest : List ℕ) → IsBytes bytes → number_at w bytes ≡ Ok (n, rest) →
      Takes bytes (to_be_bytes w n) rest × (n < limit)
  takes_by bytes n rest fits e =
      let len = byte_len w in
      let g = guard_ok (ltb (length bytes) len) Short (from_be_bytes w (take len bytes), drop len bytes) (n, rest) e in
      let long : len ≤ length bytes = ltb-false _ _ g.0 in
      let n-is : from_be_bytes w (take len bytes) ≡ n = ap (λ (p : ℕ × List ℕ). p.0) g.1 in
      let rest-is : drop len bytes ≡ rest = ap (λ (p : ℕ × List ℕ). p.1) g.1 in
      let front : to_be_bytes w n ≡ take len bytes =
      rw (← n-is) (wide.back (take len bytes) (omega (arith, length-take len bytes)) (take_fits len bytes fits)) in (
        record {
          parts = rw (front, ← rest-is) (sym (take-append-drop len bytes));
          fits = rw (← rest-is) (drop_fits len bytes fits);
        },
        rw (← n-is) (wide.below (take len bytes) (take_fits len bytes fits)),
      )

  again_by : (n : ℕ) (rest : List ℕ) → n < limit → number_at w (to_be_bytes w n ++ rest) ≡ Ok (n, rest)
  again_by n rest lt =
      let len = wide.len n in
      let long : ltb (length (to_be_bytes w n ++ rest)) (byte_len w) ≡ false =
      le-ltb _ _ (omega (arith, length-append (to_be_bytes w n) rest)) in
      rw (
        long,
        take_at (to_be_bytes w n) rest (byte_len w) len,
        drop_at (to_be_bytes w n) rest (byte_len w) len,
        wide.again n lt,
      ) refl

pub number_takes : (bytes : List ℕ) (n : ℕ) (rest : List ℕ) → IsBytes bytes → number_at w32 bytes ≡ Ok (n, rest) →
    Takes bytes (to_be_bytes w32 n) rest × (n < 2 ^ 32)
number_takes bytes n rest fits e = takes_by w32 (2 ^ 32) wide32 bytes n rest fits e

pub number_again : (n : ℕ) (rest : List ℕ) → n < 2 ^ 32 → number_at w32 (to_be_bytes w32 n ++ rest) ≡ Ok (n, rest)
number_again n rest lt = again_by w32 (2 ^ 32) wide32 n rest lt

-- ---- strings

pub string_takes : (bytes text rest : List ℕ) → IsBytes bytes → string_at bytes ≡ Ok (text, rest) →
    Takes bytes (string text) rest × (length text < 2 ^ 32)
unfolding string_at
string_takes bytes text rest fits e =
    let b = bind_ok (number_at w32 bytes) (λ n. cond (ltb (length n.1) n.0) (Err Short)
    (Ok (take n.0 n.1, drop n.0 n.1)))
    (text, rest) e in
    let n = b.0 in
    let t = number_takes bytes n.0 n.1 fits b.1 in
    let g = guard_ok (ltb (length n.1) n.0) Short (take n.0 n.1, drop n.0 n.1) (text, rest) b.2 in
    let long : n.0 ≤ length n.1 = ltb-false _ _ g.0 in
    let len : length (take n.0 n.1) ≡ n.0 = omega (arith, length-take n.0 n.1) in
    let second : Takes n.1 (take n.0 n.1) (drop n.0 n.1) =
    record { parts = sym (take-append-drop n.0 n.1); fits = drop_fits n.0 n.1 t.0.fits } in
    let both = takes_then bytes (to_be_bytes w32 n.0) n.1 (take n.0 n.1) (drop n.0 n.1) t.0 second in
    let whole : Takes bytes (string (take n.0 n.1)) (drop n.0 n.1) =
    subst (λ (k : ℕ). Takes bytes (to_be_bytes w32 k ++ take n.0 n.1) (drop n.0 n.1)) (sym len) both in
    subst (λ (p : List ℕ × List ℕ). Takes bytes (string p.0) p.1 × (length p.0 < 2 ^ 32)) g.1
    (whole, omega (arith, t.1))

pub string_again : (text rest : List ℕ) → length text < 2 ^ 32 → string_at (string text ++ rest) ≡ Ok (text, rest)
unfolding string_at
string_again text rest lt =
    let long : ltb (length (text ++ rest)) (length text) ≡ false =
    le-ltb _ _ (omega (arith, length-append text rest)) in
    rw (
      number_again (length text) (text ++ rest) lt,
      long,
      take_at text rest (length text) refl,
      drop_at text rest (length text) refl,
    ) refl

-- ---- what was told

lines_takes : (bytes : List ℕ) (n : ℕ) (rest : List ℕ) → IsBytes bytes → lines_at bytes ≡ Ok (n, rest) →
    Takes bytes (to_be_bytes w32 n) rest × (n < 2 ^ 32) × (0 < n)
unfolding lines_at
lines_takes bytes n rest fits e =
    let b = bind_ok (number_at w32 bytes) (λ n. cond (n.0 == 0) (Err NothingTold) (Ok n)) (n, rest) e in
    let t = number_takes bytes b.0.0 b.0.1 fits b.1 in
    let g = guard_ok (b.0.0 == 0) NothingTold b.0 (n, rest) b.2 in
    let some : 0 < b.0.0 = elim (cases_lt 0 b.0.0) [
      | inl lt ↦ lt
      | inr le ↦ absurd (both_ways (b.0.0 == 0) g.0 (eq-eqb b.0.0 0 (omega arith)))
    ] in
    subst (λ (p : ℕ × List ℕ). Takes bytes (to_be_bytes w32 p.0) p.1 × (p.0 < 2 ^ 32) × (0 < p.0)) g.1
    (t.0, t.1, some)

lines_again : (n : ℕ) (rest : List ℕ) → n < 2 ^ 32 → 0 < n → lines_at (to_be_bytes w32 n ++ rest) ≡ Ok (n, rest)
unfolding lines_at
lines_again n rest lt some =
    let apart : (n == 0) ≡ false = false_from_ne_true (n == 0) (λ e.
    let none : n ≡ 0 = eqb-true n 0 e in absurd (omega arith)) in
    rw (number_again n rest lt, apart) refl

digest_takes : (bytes digest rest : List ℕ) → IsBytes bytes → digest_at bytes ≡ Ok (digest, rest) →
    Takes bytes digest rest × (length digest ≡ 32)
digest_takes bytes digest rest fits e =
    let g = guard_ok (ltb (length bytes) 32) Short (take 32 bytes, drop 32 bytes) (digest, rest) e in
    let long : 32 ≤ length bytes = ltb-false _ _ g.0 in
    let len : length (take 32 bytes) ≡ 32 = omega (arith, length-take 32 bytes) in
    let here : Takes bytes (take 32 bytes) (drop 32 bytes) =
    record { parts = sym (take-append-drop 32 bytes); fits = drop_fits 32 bytes fits } in
    subst (λ (p : List ℕ × List ℕ). Takes bytes p.0 p.1 × (length p.0 ≡ 32)) g.1 (here, len)

digest_again : (digest rest : List ℕ) → length digest ≡ 32 → digest_at (digest ++ rest) ≡ Ok (digest, rest)
digest_again digest rest len =
    let long : ltb (length (digest ++ rest)) 32 ≡ false = le-ltb _ _ (omega (arith, length-append digest rest)) in
    rw (long, take_at digest rest 32 len, drop_at digest rest 32 len) refl

abbrev WasTaken : List ℕ → Option Told × List ℕ → Type 0
WasTaken bytes x = Takes bytes (told_bytes x.0) x.1 × IfSome x.0 ToldHasText

one_front : (bytes text rest : List ℕ) → Takes bytes text rest → Takes (1 ∷ bytes) (1 ∷ text) rest
one_front bytes text rest t = record { parts = ap (λ (w : List ℕ). 1 ∷ w) t.parts; fits = t.fits }

pub told_takes : (bytes : List ℕ) (x : Option Told × List ℕ) → IsBytes bytes → told_at bytes ≡ Ok x → WasTaken bytes x
unfolding told_at
told_takes [] x fits e = absurd cc
told_takes (zero ∷ bytes) x fits e =
    subst (WasTaken (0 ∷ bytes)) (ok_is (None, bytes) x e) (record { parts = refl; fits = rest_fits 0 bytes fits }, tt)
told_takes (suc zero ∷ bytes) x fits e =
    let a = bind_ok (lines_at bytes) (λ n. digest_at n.1 >>= λ d. Ok (Some (record { lines = n.0; digest = d.0 }), d.1))
    x
    e in
    let b = bind_ok (digest_at a.0.1) (λ d. Ok (Some (record { lines = a.0.0; digest = d.0 }), d.1)) x a.2 in
    let t0 = lines_takes bytes a.0.0 a.0.1 (rest_fits 1 bytes fits) a.1 in
    let t1 = digest_takes a.0.1 b.0.0 b.0.1 t0.0.fits b.1 in
    let both = takes_then bytes (to_be_bytes w32 a.0.0) a.0.1 b.0.0 b.0.1 t0.0 t1.0 in
    let made : Option Told × List ℕ = (Some (record { lines = a.0.0; digest = b.0.0 }), b.0.1) in
    subst (WasTaken (1 ∷ bytes)) (ok_is made x b.2) (
      one_front bytes (to_be_bytes w32 a.0.0 ++ b.0.0) b.0.1 both,
      record { some = t0.2; lines = t0.1; digest = t1.1 },
    )
told_takes (suc (suc b) ∷ bytes) x fits e = absurd cc

pub told_again : (o : Option Told) (rest : List ℕ) → IfSome o ToldHasText → told_at (told_bytes o ++ rest) ≡ Ok
    (o, rest)
unfolding told_at
told_again None rest h = refl
told_again (Some t) rest h =
    let regrouped : told_bytes (Some t) ++ rest ≡ 1 ∷ (to_be_bytes w32 t.lines ++ (t.digest ++ rest)) =
    ap (λ (w : List ℕ). 1 ∷ w) (append_assoc (to_be_bytes w32 t.lines) t.digest rest) in
    ap told_at regrouped
    ∙ rw (lines_again t.lines (t.digest ++ rest) h.lines h.some, digest_again t.digest rest h.digest) refl
