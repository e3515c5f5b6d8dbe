-- The texts of answers. An answer is its parts in the order in which they are written.
use Rattle.std.specs.Prelude.{◌≢◌, ℕ, zero, suc, ◌+◌, List, [], ◌∷◌, ◌++◌, codes}
use Rattle.std.specs.List.{AllByRecursion}
use Rattle.am_resp_text.specs.Counts.{crlf, count_line, signed_numeral, bulk_text}
use Rattle.am_resp_text.specs.declared.part.Part.{Part}
use Rattle.am_resp_text.specs.declared.part.Part.TheVariants.{Simple, Error, Integer, Bulk, Nil, Array, NilArray}

abbrev pub part_text : Part → List ℕ
part_text (Simple text) = codes "+" ++ (text ++ crlf)
part_text (Error text) = codes "-" ++ (text ++ crlf)
part_text (Integer n) = codes ":" ++ (signed_numeral n ++ crlf)
part_text (Bulk bytes) = bulk_text bytes
part_text Nil = codes "$-1" ++ crlf
part_text (Array n) = count_line 42 n
part_text NilArray = codes "*-1" ++ crlf

abbrev pub parts_text : List Part → List ℕ
parts_text [] = []
parts_text (part ∷ parts) = part_text part ++ parts_text parts

-- neither CR nor LF is among the bytes
abbrev pub HasNoLineEnd : List ℕ → Type 0
HasNoLineEnd text = AllByRecursion (λ c. (c ≢ 13) × (c ≢ 10)) text

-- a short text has none
abbrev pub IsPlainPart : Part → Type 0
IsPlainPart (Simple text) = HasNoLineEnd text
IsPlainPart (Error text) = HasNoLineEnd text
IsPlainPart part = Unit {0}

-- how many answers stand behind the part, in its array
abbrev pub answers_inside : Part → ℕ
answers_inside (Array n) = n
answers_inside part = 0

-- the parts are so many answers, one after another
abbrev pub AreAnswers : ℕ → List Part → Type 0
AreAnswers zero [] = Unit {0}
AreAnswers zero (part ∷ parts) = ⊥
AreAnswers (suc n) [] = ⊥
AreAnswers (suc n) (part ∷ parts) = IsPlainPart part × AreAnswers (answers_inside part + n) parts

abbrev pub IsOneAnswer : List Part → Type 0
IsOneAnswer parts = AreAnswers 1 parts
