-- `copy` and `copy_nonoverlapping` at a call: what each is handed, and what a caller has of it. Assumes `Logic`.
--     Copies, up-goes, up-gives       `copy`, of n values one place up
--     down-goes, down-gives           and one place down
--     Carries, over-goes, over-gives  `copy_nonoverlapping`, to another block
-- `copy` compares its two pointers, and so asks that what it moves ends below 2 ^ 63. It does: a block that may be
-- given back begins at 0 (`Memory.antt`'s `starts`), and 32 values take fewer bytes.
use mathlib.Core.Path.{◌≡◌, refl, ap, ◌∙◌}
use mathlib.Core.Bool.{Bool, true, false, not}
use lib.Dec.{T, eqb, eqb→eq}
use Prim.Native.Nat.{ℕ, zero, suc, ◌+◌, ◌*◌, ◌<◌, ◌^◌}
use native.Mathlib.Omega.{arith}
use native.Mathlib.Nat.{mul-zero}
use mathlib.Core.List.{List, [], ◌∷◌}
use seplogic.Ra.Ura.{Ura}
use base.Fraction.{full_share}
use mir.Syntax.{Callee, w64}
use mir.Val.{Val, vunit, vint, vptr}
use base.Logic.{SProp, ent, sep, guard, emp, id⊢}
use base.Fml.{Lft, Share, Fml, ftrue, fsep, flft}
use prog.Memory.{Memory}
use prog.Routine.{Routine}
use types.Logic.{Logic, sem}
use contract.BorrowLft.{◌⊑◌}
use contract.Monad.{Fun, fact, fact_i}
use types.Kit.{‵, raw, ◌⊛◌, some, later, given, learn, ◌$◌, ◌∵◌, !, qed, by, move, keep, drop, use0, use1, split, join}
use types.Kit.{pick, rewrite, fsplit, fjoin, feq_l, feq_i, flt_i, check, await, updating, now as at_once, done}
use denote.Array.{Array}
use denote.Memory.{part_at}
use denote.Builtin.{unit}
use denote.RawPtr.{block_ptr}
use denote.Steps.{only, nothing}
use denote.Triple.Spec.{triple_of}
use denote.Triple.Statement.{Contract}
use Rattle.core.specs.Ptr.{IsShiftWithinBlock, memory_before_copy, memory_after_copy}
use Rattle.core.proofs.mem.Param.{El, R, args, el_x}
use Rattle.core.specs.contracts.ptr.copy as copy
use Rattle.core.specs.contracts.ptr.copy.Key as copy_key
use Rattle.core.specs.contracts.ptr.copy_nonoverlapping as carry
use Rattle.core.specs.contracts.ptr.copy_nonoverlapping.Key as carry_key
use Rattle.am_index_leaf.proofs.Memory.{sz, space}

abbrev pub copies_key : El → Callee
copies_key E = copy_key.name (args E)

abbrev pub carries_key : El → Callee
carries_key E = carry_key.name (args E)

has_bytes : (s : ℕ) → T (not (eqb s 0)) → 0 < s
has_bytes zero t = absurd t
has_bytes (suc s) t = omega arith

module _ (E : El) {M : Type 1} {𝓤 : Ura M} (𝓛 : Logic 𝓤) (at_mem : Memory → SProp 𝓤) (run : Routine → Fun 𝓤) where
  open 𝓛 use {H, A}

  abbrev pub Copies : Contract 𝓤
  Copies = triple_of 𝓛 (copy.signature E.row) (copy.spec E.row 𝓛 at_mem run)

  -- n values side by side
  abbrev pub run_of : ℕ → List (el_x E) → ℕ → ℕ → Fml
  run_of n xs b o = part_at (Array (R E) n) full_share xs b o

  module _ (κ : Lft) (q : Share) (b from to n : ℕ) (xs : List (el_x E)) where
    abbrev pub at_copy : Bool → Copies.Ghost
    at_copy up = (
      (
        (κ, tt),
        (q, tt),
        tt,
        (block_ptr b from, (block_ptr b to, (n, tt))),
        (vptr b from ∷ [], (vptr b to ∷ [], (vint w64 n ∷ [], tt))),
      ),
      record { up = up; distance = 1; items = xs },
    )

    module _ (up : Bool) where
      abbrev Before : Fml
      Before = memory_before_copy (R E) up 1 n (block_ptr b from) (block_ptr b to) xs

      abbrev After : Fml
      After = memory_after_copy (R E) up 1 n (block_ptr b from) (block_ptr b to) xs

      abbrev Apart : Type 0
      Apart = IsShiftWithinBlock (R E) up 1 n (block_ptr b from) (block_ptr b to)

      goes : κ ⊑ E.row.lives → n < 2 ^ 64 → Apart → ent 𝓤 (sep 𝓤 (sem 𝓛 Before) (A.lft κ q)) (Copies.pre (at_copy up))
      goes le fn apart =
          qed 𝓛 (‵ Before ∷ ‵ (flft κ q) ∷ []) ∵
          use0 𝓛 (raw (fact 𝓤 Apart)) (fact_i 𝓤 Apart (emp 𝓤) apart) $ join ! $ use0 𝓛 (raw (fact 𝓤 (κ ⊑ E.row.lives)))
          (fact_i 𝓤 (κ ⊑ E.row.lives) (emp 𝓤) le) $ join ! $
          nothing ! $ flt_i ! n (2 ^ 64) fn $ feq_i ! (List Val) (vint w64 n ∷ []) (vint w64 n ∷ []) refl $ fjoin ! $
          fjoin ! $
          feq_i ! (List Val) (vptr b to ∷ []) (vptr b to ∷ []) refl $ fjoin ! $ feq_i ! (List Val) (vptr b from ∷ [])
          (vptr b from ∷ []) refl $ fjoin ! $
          nothing ! $ move ! (3 ∷ 0 ∷ []) $ join ! $ join ! $ done !

      gives : (v : Val) → ent 𝓤 (Copies.post (at_copy up) v)
          (H.⇛ (guard 𝓤 (v ≡ vunit) (sep 𝓤 (sem 𝓛 After) (A.lft κ q))))
      gives v =
          qed 𝓛 (raw (Copies.post (at_copy up) v) ∷ []) ∵ updating ! $
          use1 𝓛 (later (some (λ (r : Unit {0}). ((‵ (flft κ q) ⊛ ‵ ftrue) ⊛ ‵ (unit.own_val r (v ∷ [])))
          ⊛ some (λ (ws : Unit {0} × (Unit {0} × (Unit {0} × Unit {0}))). ‵ (fsep ftrue (fsep ftrue (fsep ftrue ftrue)))
          ⊛ ‵ After)))) (id⊢ 𝓤 _) $ await ! tt $ pick ! (λ r.
          split ! $ move ! (1 ∷ []) $ pick ! (λ ws. split ! $ drop ! $ move ! (1 ∷ []) $ split ! $ split ! $ move !
          (2 ∷ []) $ feq_l ! (λ e. at_once ! $ check ! (ap only e) $ keep ! (2 ∷ 0 ∷ []) $ done !)))

    pub up-goes : κ ⊑ E.row.lives → n < 2 ^ 64 → Apart true
        → ent 𝓤 (sep 𝓤 (sem 𝓛 (run_of n xs b from)) (sep 𝓤 (sem 𝓛 (space E 1 b (n * sz E + from))) (A.lft κ q)))
        (Copies.pre (at_copy true))
    up-goes le fn apart = qed 𝓛 (‵ (run_of n xs b from) ∷ ‵ (space E 1 b (n * sz E + from)) ∷ ‵ (flft κ q) ∷ []) ∵ fjoin
        ! $ by ! (goes true le fn apart)

    pub up-gives : (v : Val) → ent 𝓤 (Copies.post (at_copy true) v)
        (H.⇛ (guard 𝓤 (v ≡ vunit) (sep 𝓤 (sem 𝓛 (fsep (run_of n xs b to) (space E 1 b from))) (A.lft κ q))))
    up-gives v = gives true v

    module _ (e : from ≡ 1 * sz E + to) where
      -- Places of no bytes lie at one address, and a move among these counts as up.
      down-goes_at : κ ⊑ E.row.lives → n < 2 ^ 64 → (n + 1) * sz E + to < 2 ^ 63 → (up : Bool) → (T up → sz E ≡ 0) →
          (T (not up) → 0 < sz E)
          → ent 𝓤 (sep 𝓤 (sem 𝓛 (run_of n xs b from)) (sep 𝓤 (sem 𝓛 (space E 1 b to)) (A.lft κ q)))
          (Copies.pre (at_copy up))
      down-goes_at le fn within false none some_bytes =
          let pos : 0 < sz E = some_bytes tt in let wide : 0 < 1 * sz E = omega arith in
          qed 𝓛 (‵ (run_of n xs b from) ∷ ‵ (space E 1 b to) ∷ ‵ (flft κ q) ∷ []) ∵ fjoin ! $ by !
          (goes false le fn (ap (block_ptr b) e, within, wide))
      down-goes_at le fn within true none some_bytes =
          let z : sz E ≡ 0 = none tt in let nz : n * sz E ≡ 0 = ap (λ (k : ℕ). n * k) z ∙ mul-zero n in
          let same : to ≡ n * sz E + from = omega arith in let on : to ≡ 1 * sz E + from = omega arith in
          let ends : (n + 1) * sz E + from < 2 ^ 63 = omega arith in
          qed 𝓛 (‵ (run_of n xs b from) ∷ ‵ (space E 1 b to) ∷ ‵ (flft κ q) ∷ []) ∵ rewrite ! 1
          (λ (k : ℕ). ‵ (space E 1 b k)) same refl $ fjoin ! $ by ! (goes true le fn (ap (block_ptr b) on, ends))

      down-gives_at : (v : Val) (up : Bool) → (T up → sz E ≡ 0)
          → ent 𝓤 (Copies.post (at_copy up) v) (H.⇛ (guard 𝓤 (v ≡ vunit)
          (sep 𝓤 (sem 𝓛 (fsep (run_of n xs b to) (space E 1 b (n * sz E + to)))) (A.lft κ q))))
      down-gives_at v false none = gives false v
      down-gives_at v true none =
          let z : sz E ≡ 0 = none tt in let nz : n * sz E ≡ 0 = ap (λ (k : ℕ). n * k) z ∙ mul-zero n in
          let same : from ≡ n * sz E + to = omega arith in
          qed 𝓛 (raw (Copies.post (at_copy true) v) ∷ []) ∵ updating ! $
          use1 𝓛 (later (given (v ≡ vunit) (‵ (fsep (run_of n xs b to) (space E 1 b from)) ⊛ ‵ (flft κ q))))
          (gives true v) $ await ! tt $ learn ! (λ w. at_once ! $ check ! w $ split ! $ fsplit ! $
          rewrite ! 1 (λ (k : ℕ). ‵ (space E 1 b k)) same refl $ fjoin ! $ done !)

      abbrev pub at_down : Copies.Ghost
      at_down = at_copy (eqb (sz E) 0)

      pub down-goes : κ ⊑ E.row.lives → n < 2 ^ 64 → (n + 1) * sz E + to < 2 ^ 63
          → ent 𝓤 (sep 𝓤 (sem 𝓛 (run_of n xs b from)) (sep 𝓤 (sem 𝓛 (space E 1 b to)) (A.lft κ q))) (Copies.pre at_down)
      down-goes le fn within = down-goes_at le fn within (eqb (sz E) 0) (eqb→eq (sz E) 0) (has_bytes (sz E))

      pub down-gives : (v : Val) → ent 𝓤 (Copies.post at_down v)
          (H.⇛ (guard 𝓤 (v ≡ vunit) (sep 𝓤 (sem 𝓛 (fsep (run_of n xs b to) (space E 1 b (n * sz E + to))))
          (A.lft κ q))))
      down-gives v = down-gives_at v (eqb (sz E) 0) (eqb→eq (sz E) 0)

  abbrev pub Carries : Contract 𝓤
  Carries = triple_of 𝓛 (carry.signature E.row) (carry.spec E.row 𝓛 at_mem run)

  module _ (κ : Lft) (q : Share) (b from c to n : ℕ) (xs : List (el_x E)) where
    abbrev pub at_carry : Carries.Ghost
    at_carry = (
      (
        (κ, tt),
        (q, tt),
        tt,
        (block_ptr b from, (block_ptr c to, (n, tt))),
        (vptr b from ∷ [], (vptr c to ∷ [], (vint w64 n ∷ [], tt))),
      ),
      xs,
    )

    abbrev Carried : Fml
    Carried = fsep (run_of n xs c to) (space E n b from)

    pub over-goes : κ ⊑ E.row.lives → n < 2 ^ 64 → n * sz E < 2 ^ 63
        → ent 𝓤 (sep 𝓤 (sem 𝓛 (run_of n xs b from)) (sep 𝓤 (sem 𝓛 (space E n c to)) (A.lft κ q))) (Carries.pre at_carry)
    over-goes le fn fits =
        qed 𝓛 (‵ (run_of n xs b from) ∷ ‵ (space E n c to) ∷ ‵ (flft κ q) ∷ []) ∵ fjoin ! $
        use0 𝓛 (raw (fact 𝓤 (n * sz E < 2 ^ 63))) (fact_i 𝓤 (n * sz E < 2 ^ 63) (emp 𝓤) fits) $ join ! $ use0 𝓛
        (raw (fact 𝓤 (κ ⊑ E.row.lives))) (fact_i 𝓤 (κ ⊑ E.row.lives) (emp 𝓤) le) $ join ! $
        nothing ! $ flt_i ! n (2 ^ 64) fn $ feq_i ! (List Val) (vint w64 n ∷ []) (vint w64 n ∷ []) refl $ fjoin ! $
        fjoin ! $
        feq_i ! (List Val) (vptr c to ∷ []) (vptr c to ∷ []) refl $ fjoin ! $ feq_i ! (List Val) (vptr b from ∷ [])
        (vptr b from ∷ []) refl $ fjoin ! $
        nothing ! $ move ! (3 ∷ 0 ∷ []) $ join ! $ join ! $ done !

    pub over-gives : (v : Val) → ent 𝓤 (Carries.post at_carry v)
        (H.⇛ (guard 𝓤 (v ≡ vunit) (sep 𝓤 (sem 𝓛 Carried) (A.lft κ q))))
    over-gives v =
        qed 𝓛 (raw (Carries.post at_carry v) ∷ []) ∵ updating ! $
        use1 𝓛 (later (some (λ (r : Unit {0}). ((‵ (flft κ q) ⊛ ‵ ftrue) ⊛ ‵ (unit.own_val r (v ∷ [])))
        ⊛ some (λ (ws : Unit {0} × (Unit {0} × (Unit {0} × Unit {0}))). ‵ (fsep ftrue (fsep ftrue (fsep ftrue ftrue))) ⊛
        ‵ Carried)))) (id⊢ 𝓤 _) $ await ! tt $ pick ! (λ r.
        split ! $ move ! (1 ∷ []) $ pick ! (λ ws. split ! $ drop ! $ move ! (1 ∷ []) $ split ! $ split ! $ move !
        (2 ∷ []) $ feq_l ! (λ e. at_once ! $ check ! (ap only e) $ keep ! (2 ∷ 0 ∷ []) $ done !)))
