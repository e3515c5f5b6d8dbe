-- The machine values of a `Held`: a pointer and the heap's handle. Assumes `Logic`.
use Rattle.std.proofs.Common.{◌≡◌, ℕ, List, [], ◌∷◌, ◌++◌, refl, subst}
use seplogic.Ra.Ura.{Ura}
use mathlib.Core.Bool.{true, ◌&&◌}
use lib.Dec.{T}
use mir.Syntax.{ty_ptr}
use mir.Val.{Val, vstruct, of_list, has_ty, WT}
use mir.Raw.{raw as bare}
use base.Fml.{Fml, fex, ftrue}
use base.Fraction.{full_share}
use base.Logic.{ent, via, snd∗, guard, guard_i, never_e}
use contract.Monad.{fact_use}
use types.Logic.{sem}
use denote.Memory.{lone}
use Rattle.std.specs.declared.alloc.Global.{Global}
use Rattle.std.specs.declared.option.Option.{Option}
use Rattle.std.specs.declared.option.Option.TheVariants.{None, Some}
use Rattle.std.proofs.GlobalToken.{dealloc_token-Testable}
use Rattle.std_alloc.specs.Box.Ownership.{box_owns}
use types.Kit.{given, learn, use1, Item, Goal, Seq, Step, step, ‵, ◌$◌, move, drop, fsplit, fjoin, fpack, fpick, feq_i}
use types.Kit.{feq_l}
use denote.RattleType.{RattleType, Valss}
use denote.Builtin.{RawPtr}
use denote.RawPtr.{Ptr, ptr_val, block_ptr, null_ptr, lies_at, Testable}
use denote.Steps.{nothing}
use denote.Param.{layout}
use denote.Struct.Struct.{within}
use denote.Struct.Owning.{shape, to}
use Rattle.core.proofs.alloc.Calls.{handle_tells}
use Rattle.core.proofs.atomic.Steps.{Ptr-Good}
use Rattle.core.proofs.cell.Inside.{Good}
use Rattle.std.specs.contracts.alloc.Global as heap
use Rattle.std.proofs.alloc.Global.TheLaws as heap_laws
use Rattle.std.specs.contracts.impls.GlobalAllocator.TheImpl.{ghosts}
use Rattle.am_c_handle.proofs.LooseValues.{both, both_good, al}
use Rattle.am_c_handle.specs.Ownership.{held_owns}
use Rattle.am_c_handle.specs.contracts.held.Held as held

abbrev pub Z : RattleType
Z = heap.the_row

-- a pointer is of its type
pub at_good : (p : Ptr) → T (has_ty ty_ptr (ptr_val p)) × WT (ptr_val p)
at_good = Ptr-Good

-- a pointer and the heap's handle are of their types
pub held_good : (p : Ptr) (h : Val) → Good (layout Z) h
    → T (has_ty ty_ptr (ptr_val p) && (has_ty (layout Z) h && true)) × WT (both (ptr_val p) h)
held_good = both_good Z Z heap_laws.the_row_laws ghosts

module _ (R : RattleType) where
  abbrev pub Held : RattleType
  Held = held.the_row R

  module _ {M : Type 1} {𝓤 : Ura M} {𝓛 : types.Logic.Logic 𝓤} {K : Type 0} {Γ : List (Item 𝓤)} {G : Goal 𝓤 𝓛.H} where
    pub held_out : K → (d : Held.Denot) (vs : List Val)
        → ((h : Val) → vs ≡ both (ptr_val d.at) h ∷ [] → Good (layout Z) h →
        Seq K 𝓛 (‵ (held_owns R d.alloc d.at d.value) ∷ ‵ (Z.own_val d.alloc (h ∷ [])) ∷ Γ) G)
        → Seq K 𝓛 (‵ (Held.own_val d vs) ∷ Γ) G
    held_out t d vs k =
        fsplit t $ fpick t (λ vss. fsplit t $ feq_l t
        (λ ev. fsplit t $ feq_l t (λ ep. fsplit t $ handle_tells (al R Z heap_laws.the_row_laws ghosts) t d.alloc
        vss.1.0 (λ h ea fits. move t (1 ∷ []) $ drop t $ move t (1 ∷ []) $
        k h (subst (λ (ws : List Val). vs ≡ vstruct (of_list (ptr_val d.at ∷ (ws ++ []))) ∷ []) ea
        (subst (λ (ps : List Val). vs ≡ vstruct (of_list (ps ++ (vss.1.0 ++ []))) ∷ []) ep ev)) fits))))

    pub held_in : K → (h : Val) (d : Held.Denot)
        → Step K 𝓛 (‵ (Held.own_val d (both (ptr_val d.at) h ∷ [])) ∷ Γ) G
        (‵ (held_owns R d.alloc d.at d.value) ∷ ‵ (Z.own_val d.alloc (h ∷ [])) ∷ Γ) G
    held_in t h d = step (λ s. let v : Val = both (ptr_val d.at) h in
        nothing t $ move t (2 ∷ 0 ∷ []) $ fjoin t $ feq_i t (List Val) (ptr_val d.at ∷ []) (ptr_val d.at ∷ []) refl $
        fjoin t $ feq_i t (List Val) (v ∷ []) (v ∷ []) refl $ fjoin t $
        fpack t (Valss (RawPtr ∷ Z ∷ [])) (within (shape (held.the_type R)) (to (held.the_type R) d) (v ∷ []))
        (ptr_val d.at ∷ [], (h ∷ [], tt)) $ fjoin t $ s)

  -- what is owned by the pointer's form: nothing at null, and else the box, whose pointer may be tested
  module _ {M : Type 1} {𝓤 : Ura M} (𝓛 : types.Logic.Logic 𝓤) (a : Global) where
    abbrev pub boxed : Ptr → R.Denot → Fml
    boxed = box_owns (ghosts.dealloc_token a) R

    pub tested : (p : Ptr) (x : R.Denot) → ent 𝓤 (sem 𝓛 (boxed p x)) (guard 𝓤 (Testable p) (sem 𝓛 (boxed p x)))
    tested p x = let B = sem 𝓛 (boxed p x) in
        fact_use 𝓤 (Testable p) (via 𝓤 _ (snd∗ 𝓤 (sem 𝓛 (lies_at R full_share p x))
        (sem 𝓛 (ghosts.dealloc_token a (bare (lone R.mir)) p))) (dealloc_token-Testable 𝓛 a (bare (lone R.mir)) p))
        (guard_i 𝓤 (Testable p) B)

  module _ {M : Type 1} {𝓤 : Ura M} {𝓛 : types.Logic.Logic 𝓤} {K : Type 0} {Γ : List (Item 𝓤)} {G : Goal 𝓤 𝓛.H}
      (a : Global) where
    pub either_held : K → (p : Ptr) (x : Option R.Denot) → (p ≡ null_ptr → x ≡ None → Seq K 𝓛 Γ G)
        → ((b o : ℕ) (v : R.Denot) → p ≡ block_ptr b o → x ≡ Some v → Testable (block_ptr b o) →
        Seq K 𝓛 (‵ (boxed 𝓛 a (block_ptr b o) v) ∷ Γ) G)
        → Seq K 𝓛 (‵ (held_owns R a p x) ∷ Γ) G
    either_held t null_ptr None none one = drop t $ none refl refl
    either_held t null_ptr (Some v) none one = use1 𝓛 (‵ (fex ⊥ (λ _. ftrue))) (never_e 𝓤 _) $ fpick t
        (λ no. absurd no)
    either_held t (block_ptr b o) None none one = use1 𝓛 (‵ (fex ⊥ (λ _. ftrue))) (never_e 𝓤 _) $ fpick t
        (λ no. absurd no)
    either_held t (block_ptr b o) (Some v) none one =
        use1 𝓛 (given (Testable (block_ptr b o)) (‵ (boxed 𝓛 a (block_ptr b o) v))) (tested 𝓛 a (block_ptr b o) v) $
        learn t (λ test. one b o v refl refl test)
