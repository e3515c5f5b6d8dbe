-- Structs are made pairs one after another.
use Rattle.std.proofs.Common.{◌≡◌, ℕ, zero, suc, ◌<◌, ◌-◌, List, [], ◌∷◌, ◌++◌, take, drop, Ok, Err, refl, sym, ap, ◌∙◌}
use Rattle.std.proofs.Common.{arith}
use Rattle.std.proofs.lemmas.List.{append_assoc}
use Rattle.std.specs.Prelude.{Result}
use Rattle.am_record.specs.OrderedKey.{OrderedKey}
use Rattle.am_record.specs.Plain.{Records}
use Rattle.am_c_steps.specs.declared.status.Status.{Status}
use Rattle.am_c_steps.specs.declared.structs.Layout.{Layout}
use Rattle.am_c_steps.specs.AskedSteps.{of_one}
use Rattle.am_c_steps.specs.Texts.{of_both}
use Rattle.am_c_steps.specs.Structs.{struct_given, structs_given}

abbrev Pair : Type 0
Pair = OrderedKey × List ℕ

abbrev put : Pair → Records → Result Records Status
put p ps = Ok (p ∷ ps)

-- what was made, in front of what else is given
abbrev pub in_front : Records → Result Records Status → Result Records Status
in_front done rest = of_one (λ ps. done ++ ps) rest

put_in_front : (done : Records) (p : Pair) (rest : Result Records Status) →
    in_front (done ++ p ∷ []) rest ≡ in_front done (of_both put (Ok p) rest)
put_in_front done p (Ok ps) = ap Ok (append_assoc done (p ∷ []) ps)
put_in_front done p (Err why) = refl

-- the first struct, and those after it
first_of : (l : Layout) (bytes : List ℕ) (left : ℕ) → 0 < left → structs_given l bytes left ≡
    of_both put (struct_given l (take l.size bytes)) (structs_given l (drop l.size bytes) (left - 1))
first_of l bytes zero some = absurd (omega arith)
first_of l bytes (suc n) some =
    let less : n ≡ suc n - 1 = omega arith in
    ap (λ m. of_both put (struct_given l (take l.size bytes)) (structs_given l (drop l.size bytes) m)) less

module _ (l : Layout) (bytes : List ℕ) (left : ℕ) (done : Records) (some : 0 < left) where
  pub one_struct : (p : Pair) → struct_given l (take l.size bytes) ≡ Ok p →
      in_front (done ++ p ∷ []) (structs_given l (drop l.size bytes) (left - 1)) ≡
      in_front done (structs_given l bytes left)
  one_struct p made =
      let rest = structs_given l (drop l.size bytes) (left - 1) in
      put_in_front done p rest ∙
      sym (ap (in_front done) (first_of l bytes left some ∙ ap (λ a. of_both put a rest) made))

  pub no_struct : (why : Status) → struct_given l (take l.size bytes) ≡ Err why →
      in_front done (structs_given l bytes left) ≡ Err why
  no_struct why wrong =
      let rest = structs_given l (drop l.size bytes) (left - 1) in
      ap (in_front done) (first_of l bytes left some ∙ ap (λ a. of_both put a rest) wrong)
