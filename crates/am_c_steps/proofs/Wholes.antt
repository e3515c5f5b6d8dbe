-- Structs that stand there whole all have a record.
use Rattle.std.proofs.Common.{◌≡◌, ℕ, zero, suc, ◌+◌, ◌*◌, ◌≤◌, ◌<◌, List, [], ◌∷◌, ◌++◌, take, drop, length, get_or}
use Rattle.std.proofs.Common.{Ok, Err, refl, sym, ap, ◌∙◌, arith, mul-le-mul_right}
use Rattle.std.specs.Prelude.{true, cond, nat_le}
use Rattle.std.proofs.Math.Nat.{suc-mul}
use Rattle.std.proofs.lemmas.Bool.{le-leb}
use Rattle.std.proofs.lemmas.List.{length-take, length-drop, drop-drop, take_all, take-append-le, drop-append-le}
use Rattle.am_record.specs.Limits.{max_key_bytes, max_value_bytes}
use Rattle.am_record.specs.OrderedKey.{OrderedKey, key_of}
use Rattle.am_record.specs.Plain.{Records}
use Rattle.am_c_steps.specs.declared.status.Status.TheVariants.{BadKey, BadValue}
use Rattle.am_c_steps.specs.declared.structs.Layout.{Layout}
use Rattle.am_c_steps.specs.Texts.{of_both, key_given, value_given}
use Rattle.am_c_steps.specs.Structs.{struct_key, struct_value, struct_at, struct_given, structs_given, records_given}
use Rattle.am_c_steps.specs.Structs.{IsLayout, AreWholeStructs}

abbrev Pair : Type 0
Pair = OrderedKey × List ℕ

-- the record of a struct of these bytes
abbrev pub record_of : Layout → List ℕ → Pair
record_of l bytes = (key_of (take l.key_length (drop l.key_at bytes)), take l.value_length (drop l.value_at bytes))

-- the records of so many structs
abbrev pub records_of : Layout → List ℕ → ℕ → Records
records_of l bytes zero = []
records_of l bytes (suc n) = record_of l (take l.size bytes) ∷ records_of l (drop l.size bytes) n

-- no more bytes are taken than are asked for
few_taken : (n max : ℕ) (bytes : List ℕ) → n ≤ max → nat_le (length (take n bytes)) max ≡ true
few_taken n max bytes low = le-leb (length (take n bytes)) max (omega (arith, length-take n bytes))

-- a struct in front of others
first_whole : (size n : ℕ) (bytes : List ℕ) → suc n * size ≤ length bytes → size ≤ length (take size bytes)
first_whole size n bytes whole = omega (arith, suc-mul n size, length-take size bytes)

rest_whole : (size n : ℕ) (bytes : List ℕ) → suc n * size ≤ length bytes → n * size ≤ length (drop size bytes)
rest_whole size n bytes whole = omega (arith, suc-mul n size, length-drop size bytes)

so_many : (l : Layout) (bytes : List ℕ) (n : ℕ) → length (records_of l bytes n) ≡ n
so_many l bytes zero = refl
so_many l bytes (suc n) = ap suc (so_many l (drop l.size bytes) n)

stands_at : (l : Layout) (bytes : List ℕ) (n at : ℕ) (d : Pair) → at < n →
    record_of l (struct_at l bytes at) ≡ get_or (records_of l bytes n) at d
stands_at l bytes zero at d low = absurd (omega arith)
stands_at l bytes (suc n) zero d low =
    let none : 0 * l.size ≡ 0 = omega arith in ap (λ k. record_of l (take l.size (drop k bytes))) none
stands_at l bytes (suc n) (suc at) d low =
    let further : suc at * l.size ≡ l.size + at * l.size = omega (arith, suc-mul at l.size) in
    ap (λ k. record_of l (take l.size (drop k bytes))) further
    ∙ ap (λ bs. record_of l (take l.size bs)) (sym (drop-drop (at * l.size) l.size bytes))
    ∙ stands_at l (drop l.size bytes) n at d (omega arith)

-- one struct more
pub copied_more : (l : Layout) (copied one : List ℕ) (i : ℕ) → length copied ≡ i * l.size → length one ≡ l.size →
    records_of l (copied ++ one) (suc i) ≡ records_of l copied i ++ record_of l one ∷ []
copied_more l [] one zero long whole =
    ap (λ bs. record_of l bs ∷ []) (take_all l.size one (omega (arith, whole)))
copied_more l (b ∷ copied) one zero long whole = absurd (omega (arith, long))
copied_more l copied one (suc i) long whole =
    let front : l.size ≤ length copied = omega (arith, long, suc-mul i l.size) in
    let rest : length (drop l.size copied) ≡ i * l.size =
    omega (arith, long, suc-mul i l.size, length-drop l.size copied) in
    let others = ap (λ bs. records_of l bs (suc i)) (drop-append-le l.size copied one front)
    ∙ copied_more l (drop l.size copied) one i rest whole in
    (λ j. record_of l (take-append-le l.size copied one front j) ∷ others j)

module _ (l : Layout) (sound : IsLayout l) where
  key_made : (bytes : List ℕ) → l.size ≤ length bytes → struct_key l bytes ≡ Ok (record_of l bytes).0
  key_made bytes whole =
      let key = take l.key_length (drop l.key_at bytes) in
      ap (λ b. cond b (key_given key) (Err BadKey))
      (le-leb (l.key_at + l.key_length) (length bytes) (omega (arith, sound.key)))
      ∙ ap (λ b. cond b (Ok (key_of key)) (Err BadKey))
      (few_taken l.key_length max_key_bytes (drop l.key_at bytes) sound.key_fits)

  value_made : (bytes : List ℕ) → l.size ≤ length bytes → struct_value l bytes ≡ Ok (record_of l bytes).1
  value_made bytes whole =
      let value = take l.value_length (drop l.value_at bytes) in
      ap (λ b. cond b (value_given value) (Err BadValue))
      (le-leb (l.value_at + l.value_length) (length bytes) (omega (arith, sound.value)))
      ∙ ap (λ b. cond b (Ok value) (Err BadValue))
      (few_taken l.value_length max_value_bytes (drop l.value_at bytes) sound.value_fits)

  record_made : (bytes : List ℕ) → l.size ≤ length bytes → struct_given l bytes ≡ Ok (record_of l bytes)
  record_made bytes whole j = of_both (λ key value. Ok (key, value)) (key_made bytes whole j) (value_made bytes whole j)

  all_made : (bytes : List ℕ) (n : ℕ) → n * l.size ≤ length bytes → structs_given l bytes n ≡ Ok (records_of l bytes n)
  all_made bytes zero whole = refl
  all_made bytes (suc n) whole = λ j. of_both (λ pair pairs. Ok (pair ∷ pairs))
      (record_made (take l.size bytes) (first_whole l.size n bytes whole) j)
      (all_made (drop l.size bytes) n (rest_whole l.size n bytes whole) j)

module _ (l : Layout) (bytes : List ℕ) (n : ℕ) (are : AreWholeStructs l bytes n) where
  pub given : structs_given l bytes n ≡ Ok (records_of l bytes n)
  given = all_made l are.layout bytes n are.whole

  pub all_given : structs_given l bytes n ≡ Ok (records_given (structs_given l bytes n))
  all_given = given ∙ ap (λ rs. Ok (records_given rs)) (sym given)

  module _ (records : Records) (is : records_given (structs_given l bytes n) ≡ records) where
    same : records_of l bytes n ≡ records
    same = ap records_given (sym given) ∙ is

    pub count_given : n ≡ length records
    count_given = sym (so_many l bytes n) ∙ ap length same

    module _ (at : ℕ) (low : at < length records) where
      below : at < n
      below = omega (arith, count_given)

      -- the struct lies within the bytes
      pub lies_there : at * l.size + l.size ≤ length bytes
      lies_there = omega (arith, are.whole, suc-mul at l.size, mul-le-mul_right l.size below)

      pub whole_at : l.size ≤ length (struct_at l bytes at)
      whole_at = omega (
        arith,
        lies_there,
        length-take l.size (drop (at * l.size) bytes),
        length-drop (at * l.size) bytes,
      )

      pub there : (d : Pair) → record_of l (struct_at l bytes at) ≡ get_or records at d
      there d = stands_at l bytes n at d below ∙ ap (λ rs. get_or rs at d) same

      pub record_at : (d : Pair) → struct_given l (struct_at l bytes at) ≡ Ok (get_or records at d)
      record_at d = record_made l are.layout (struct_at l bytes at) whole_at ∙ ap Ok (there d)

      pub key_at : (d : Pair) → struct_key l (struct_at l bytes at) ≡ Ok (get_or records at d).0
      key_at d = key_made l are.layout (struct_at l bytes at) whole_at ∙ ap (λ r. Ok r.0) (there d)
