-- A function that takes a pointer and the heap's handle out of one struct, and puts them into another. Assumes `Logic`.
use Rattle.std.proofs.Common.{◌≡◌, List, [], ◌∷◌, ◌++◌, refl, sym, subst}
use seplogic.Ra.Ura.{Ura}
use mir.Syntax.{Fn, Ty, Sym, local, value_local, ty_ptr, ty_struct, tcons, tnil, place, field, copy, rv_opd, assign}
use mir.Syntax.{aggregate, seq, return}
use mir.Val.{Val}
use base.Logic.{SProp, ent, id⊢}
use prog.Wp.{WpFn, Calls, Loops}
use types.Kit.{raw, ◌$◌, ◌∵◌, !, qed, by, suffices}
use types.Run.{stop, fld, of_opd, no_more, and_then, returns, enter}
use types.ByLocal.{alloc_all, pass_all, free_all, look_at, get, get_in, sets}
use types.Part.{agg, sub, whole}
use types.Logic.{Logic}
use denote.RawPtr.{Ptr, ptr_val}
use denote.Param.{layout}
use Rattle.core.proofs.cell.Inside.{Good}
use Rattle.am_c_handle.proofs.LooseValues.{both}
use Rattle.am_c_handle.proofs.HeldValues.{Z, held_good, at_good}

abbrev pub two : Sym → Ty
two ν = ty_struct ν (tcons ty_ptr (tcons (layout Z) tnil))

-- to the struct ν from the struct μ
abbrev pub mover : Sym → Sym → Fn
mover ν μ = record {
  lifetimes = 0;
  outlives = [];
  ty_params = [];
  givens = 0;
  params = 1;
  locals = local (two ν) value_local ∷ local (two μ) value_local ∷ local ty_ptr value_local ∷
      local (layout Z) value_local ∷ local ty_ptr value_local ∷ [];
  body = seq (assign (place 2 []) (rv_opd (copy (place 1 (field 0 ∷ []))))) (
      seq (assign (place 3 []) (rv_opd (copy (place 1 (field 1 ∷ []))))) (
      seq (assign (place 4 []) (rv_opd (copy (place 2 [])))) (
      seq (assign (place 0 []) (aggregate (copy (place 4 []) ∷ copy (place 3 []) ∷ []))) return)));
}

module _ {M : Type 1} {𝓤 : Ura M} (𝓛 : Logic 𝓤) where
  open 𝓛 use {H}

  pub moves : (C : Calls 𝓤 H) (Λ : Loops 𝓤 H) (ν μ : Sym) (p : Ptr) (h : Val) (vs : List Val) (Kf : Val → SProp 𝓤)
      → vs ≡ both (ptr_val p) h ∷ [] → Good (layout Z) h
      → ent 𝓤 (Kf (both (ptr_val p) h)) (WpFn 𝓤 H C Λ (mover ν μ) (vs ++ []) Kf)
  moves C Λ ν μ p h vs Kf is fits =
      let w : Val = both (ptr_val p) h in let good = held_good p h fits in
      let Run : List Val → SProp 𝓤 = λ us. WpFn 𝓤 H C Λ (mover ν μ) us Kf in
      qed 𝓛 (raw (Kf w) ∷ []) ∵
      suffices ! (Run (w ∷ [])) (subst (λ (us : List Val). ent 𝓤 (Run (w ∷ [])) (Run us)) (sym (λ i. is i ++ []))
      (id⊢ 𝓤 (Run (w ∷ [])))) $
      enter ! C Λ (mover ν μ) (w ∷ []) Kf $ alloc_all ! (λ l. pass_all ! refl (good, tt) $
      sets ! (of_opd ! (get_in ! (fld ! refl (stop !)) (sub ! 0 refl (whole !)))) refl (at_good p) $
      sets ! (of_opd ! (get_in ! (fld ! refl (stop !)) (sub ! 1 refl (whole !)))) refl fits $
      sets ! (of_opd ! (get ! refl)) refl (at_good p) $
      sets ! (agg ! (and_then ! (get ! refl) (and_then ! (get ! refl) (no_more !)))) refl good $
      returns ! (look_at ! 0 refl) $ free_all ! refl $ by ! (id⊢ 𝓤 (Kf w)))
