-- `drop` makes one room of the places, and hands it back with the right to. Assumes `Logic`.
use mathlib.Core.Path.{◌≡◌, refl, sym, subst}
use Prim.Native.Nat.{ℕ, ◌+◌, ◌*◌, ◌-◌, ◌≤◌, ◌<◌, ◌^◌}
use native.Mathlib.Omega.{arith}
use mathlib.Core.List.{List, [], ◌∷◌, ◌++◌}
use lib.Dec.{T}
use lib.ListN.{length}
use seplogic.Ra.Ura.{Ura}
use mir.Syntax.{Ty, Fn, Args, Dict, a_type, ty_unit, ty_array, dcons, dnil}
use mir.MapTy.{inst_fn}
use mir.Val.{Val, vunit, has_ty, WT}
use base.Logic.{SProp, ent, sep}
use base.Fml.{ftrue, flft}
use prog.Memory.{Memory, align, capped}
use prog.Capped.{capped_fits}
use prog.Routine.{Routine}
use prog.Wp.{Env, WpFn, Tables}
use types.Logic.{Logic, sem}
use contract.BorrowLft.{◌⊑◌, ⊑_static}
use contract.Monad.{Fun, fact}
use contract.Running.{tables, tables_of}
use sound.WpLaws.{fm_of, WpFn-mono}
use types.Kit.{‵, raw, ◌⊛◌, later, given, at_ret, ◌$◌, ◌∵◌, !, qed, by, move, keep, use1, use2, split, join, group}
use types.Kit.{learn, fsplit, fjoin, feq_i, suffices, await, done, ⋆}
use types.Part.{whole, sub}
use types.Run.{stop, fld, from, lit, addr, no_more, and_then, of_opd, bin, unit_lit, size_lit, align_word, first}
use types.Run.{blocks, exec, returns, enter}
use types.ByLocal.{alloc_all, pass_all, free_all, look_at, take_at, give_at, get, get_in, sets, lands_last, env}
use denote.Exit.{no}
use denote.Param.{bounded}
use denote.RattleType.{owns}
use denote.Signature.{plain, types_at}
use denote.Steps.{nothing}
use denote.Triple.Call.{calls_at_last}
use denote.Triple.Clauses.{Clauses, Ended, closing}
use denote.Triple.Spec.{Meets, triple_of}
use denote.Triple.Statement.{Triple}
use denote.Triple.Table.{entered}
use denote.Triple.Walked.{Stays, stay_dropped, walk_of, ends_at, Goes-dropped, walk_Meets}
use Rattle.std.specs.declared.alloc.Global.{Global}
use Rattle.std.proofs.RawLayout.{as_raw}
use Rattle.std.proofs.VecSteps.El.{no_al}
use Rattle.std.proofs.VecSteps.Rows.{all_room}
use Rattle.std.proofs.impls.GlobalAllocator.deallocate.Met as heap_thm
use Rattle.std.specs.contracts.impls.GlobalAllocator.deallocate.Key as heap_key
use Rattle.core.proofs.mem.Param.{El, el_x, elτ}
use Rattle.core.proofs.ptr.Rows.{one_below}
use Rattle.core.proofs.slots.Bodies.{after}
use Rattle.core.proofs.slots.Leases.{block_ty, block_size, block_align}
use Rattle.am_index_leaf.proofs.Memory.{Br, sz, vals, space, token, handle, block_val, block_had}
use Rattle.am_index_leaf.proofs.Heap.{lends_handle, takes_handle, Gives, at_gives, gives-goes, gives-gives}
use Rattle.am_index_leaf.specs.contracts.block.Block.drop as F
use Rattle.am_index_leaf.specs.contracts.block.Block.drop.Key.{name as #self}
use Rattle.am_index_leaf.proofs.block.Block.drop.Statement as stated
use Rattle.am_index_leaf.proofs.block.Block.drop.Code as code

module _ (E : El) (d : Dict) where
  abbrev args : Args
  args = bounded (a_type ∷ []) (E.row, tt) (dcons d dnil)

  abbrev here : Fn
  here = inst_fn args code.function

  abbrev ended : Ended
  ended = F.ended E.row d

  abbrev stayed : Stays ended.signature.params ended.kept
  stayed = (stay_dropped (plain (λ _. Br E)) no, tt)

  module _ {M : Type 1} {𝓤 : Ura M} (𝓛 : Logic 𝓤) (at_mem : Memory → SProp 𝓤) (run : Routine → Fun 𝓤) (𝓣 : Tables 𝓤 𝓛.H)
      (callee : Triple 𝓤 (𝓣.C heap_key.name) (Gives 𝓛 at_mem run)) where
    open 𝓛 use {H, A}

    abbrev held : Clauses 𝓤 ended
    held = F.clauses E.row d 𝓛 at_mem run

    abbrev Bound : Type 0
    Bound = (walk_of 𝓛 ended stayed held).Ghost

    abbrev Goes : Bound → Type 1
    Goes y = ent 𝓤 ((walk_of 𝓛 ended stayed held).pre y)
        (WpFn 𝓤 H 𝓣.C 𝓣.Λ here ((walk_of 𝓛 ended stayed held).args y) ((walk_of 𝓛 ended stayed held).post y))

    module _ (z : Bound) where
      abbrev Post : Val → SProp 𝓤
      Post = (walk_of 𝓛 ended stayed held).post z

      exits : ent 𝓤 (A.lft z.0.0.0 z.0.1.0) (Post vunit)
      exits = qed 𝓛 (‵ (flft z.0.0.0 z.0.1.0) ∷ []) ∵
          suffices ! _ (ends_at 𝓛 ended stayed held z vunit tt (tt, tt) (tt, tt)) $
          feq_i ! (List Val) (vunit ∷ []) (vunit ∷ []) refl $ nothing ! $ nothing ! $ fjoin ! $ nothing ! $ move !
          (3 ∷ 0 ∷ []) $ join ! $ group ! 3 $ nothing ! $ move ! (1 ∷ 0 ∷ []) $ done !

      walk : (xs : List (el_x E)) (g : Global) (b o : ℕ) → length xs ≤ 32 → 32 * sz E < 2 ^ 63
          → ent 𝓤 (sep 𝓤 (sem 𝓛 (vals E xs b o)) (sep 𝓤 (sem 𝓛 (space E (32 - length xs) b (o + length xs * sz E)))
          (sep 𝓤 (sem 𝓛 (token E g b o)) (sep 𝓤 (sem 𝓛 (handle g)) (A.lft z.0.0.0 z.0.1.0)))))
          (WpFn 𝓤 H 𝓣.C 𝓣.Λ here (block_val b o ∷ []) Post)
      walk xs g b o most fit =
          let κ = z.0.0.0 in let q = z.0.1.0 in let s = sz E in let al : ℕ = capped (align (elτ E)) in
          let small : s < 2 ^ 63 = one_below 32 s (2 ^ 63) (omega arith) fit in let tiny : s < 2 ^ 64 = omega arith in
          let bytes : 32 * s < 2 ^ 64 = omega arith in
          let τ : Ty = block_ty E 32 in
          qed 𝓛 (‵ (vals E xs b o) ∷ ‵ (space E (32 - length xs) b (o + length xs * s)) ∷ ‵ (token E g b o) ∷ ‵
          (handle g) ∷ ‵ (flft κ q) ∷ []) ∵
          use2 𝓛 (‵ (space E 32 b o)) (all_room (record { row = E.row; laws = E.laws; al = no_al }) 𝓛 b o (length xs) 32
          xs most) $ as_raw ! (ty_array (elτ E) 32) b o $
          enter ! 𝓣.C 𝓣.Λ here (block_val b o ∷ []) _ $ alloc_all !
          (λ l. pass_all ! refl ((tt, (tt, (((tt, tt), tt), tt))), tt) $
          let En : Env 𝓤 H = env here.locals l in
          sets ! (of_opd ! (get_in ! (fld ! refl (stop !)) (sub ! 0 refl (whole !)))) refl (tt, tt) $
          sets ! (of_opd ! (get_in ! (fld ! refl (stop !)) (sub ! 1 refl (whole !)))) refl (tt, ((tt, tt), tt)) $
          first ! $ blocks ! $ sets ! (addr ! (from ! (stop !))) refl (tt, tt) $ sets ! (of_opd ! (get ! refl)) refl
          (tt, tt) $
          sets ! (bin ! (lit ! tt) (size_lit ! (record { fits = tiny })) (record { fits = bytes })) refl
          (tt, record { fits = bytes }) $
          take_at ! 3 $ move ! (0 ∷ 3 ∷ 4 ∷ []) $ lends_handle κ q (l 3) g ! tt (⊑_static κ)
          (λ n. move ! (3 ∷ 4 ∷ 0 ∷ 1 ∷ []) $ group ! 4 $
          let y : (Gives 𝓛 at_mem run).Ghost = at_gives 𝓛 at_mem run (n.0 ∷ κ) n.1 (l 3) g b o (32 * s) al τ in
          use1 𝓛 (raw ((Gives 𝓛 at_mem run).pre y)) (gives-goes 𝓛 at_mem run (n.0 ∷ κ) n.1 (l 3) g b o (32 * s) al τ
          (block_size E 32 bytes, block_align E 32) bytes (capped_fits (align (elτ E)))) $
          calls_at_last ! (fm_of 𝓤 H 𝓛.laws 𝓣) (Gives 𝓛 at_mem run) callee y
          (and_then ! (get ! refl) (and_then ! (get ! refl)
          (and_then ! (get ! refl) (and_then ! (align_word !) (no_more !))))) (λ v.
          use1 𝓛 (later (given (v ≡ vunit) (‵ (flft (n.0 ∷ κ) n.1))))
          (gives-gives 𝓛 at_mem run (n.0 ∷ κ) n.1 (l 3) g b o (32 * s) al τ v) $ await ! tt $ learn ! (λ e.
          takes_handle κ q (l 3) g ! tt n $ give_at ! 3 $
          lands_last ! refl (subst (λ (u : Val). T (has_ty ty_unit u) × WT u) (sym e) (tt, tt)) $ exec ! 𝓣.C 𝓣.Λ En
          (after 3 here.body) (at_ret En Post) $ sets ! (of_opd ! (unit_lit !)) refl (tt, tt) $
          returns ! (look_at ! 0 refl) $ free_all ! refl $ keep ! (1 ∷ []) $ by ! exits))))

      entry : Goes z
      entry =
          let κ = z.0.0.0 in let q = z.0.1.0 in let xs : List (el_x E) = z.0.3.0 in
          qed 𝓛 (((‵ (flft κ q) ⊛ ‵ ftrue) ⊛ ‵ (owns (types_at ended.signature.params z.0.0) z.0.3 z.0.4)) ∷
          (raw (fact 𝓤 (κ ⊑ E.row.lives)) ⊛ ‵ ftrue) ∷ []) ∵
          split ! $ split ! $ move ! (2 ∷ []) $ fsplit ! $ block_had E ! xs z.0.4.0
          (λ g b o is most fit _. keep ! (0 ∷ 1 ∷ 2 ∷ 3 ∷ 5 ∷ []) $
          by ! (subst (λ (ws : List Val). ent 𝓤 (⋆ 𝓛 (‵ (vals E xs b o) ∷ ‵
          (space E (32 - length xs) b (o + length xs * sz E)) ∷ ‵ (token E g b o) ∷ ‵ (handle g) ∷ ‵
          (flft κ q) ∷ [])) (WpFn 𝓤 H 𝓣.C 𝓣.Λ here (ws ++ []) Post)) (sym is) (walk xs g b o most fit)))

    meets : Meets 𝓛 ended.signature (WpFn 𝓤 H 𝓣.C 𝓣.Λ here) (closing 𝓛 ended held)
    meets = walk_Meets 𝓛 ended stayed (Goes-dropped 𝓛 1 (plain (λ _. Br E)) no (λ κs x f. refl), tt) held
        (WpFn 𝓤 H 𝓣.C 𝓣.Λ here) (WpFn-mono 𝓤 H 𝓛.laws 𝓣 here) entry

pub drop_spec : {M : Type 1} → stated.statement M
unfolding tables_of
drop_spec 𝓤 𝓛 𝓜 𝓡 wired X L d _ =
    let E : El = record { row = X; laws = L } in
    let 𝓣 : Tables 𝓤 𝓛.H = tables_of 𝓤 𝓛.H 𝓜 (tables 𝓤 𝓛.H 𝓜 𝓡 𝓡.env) in
    entered 𝓤 𝓛.H (triple_of 𝓛 (F.signature X) (F.spec X d 𝓛 𝓜.mem 𝓡.returns)) 𝓣.C 𝓣.Λ (#self (args E d)) (here E d)
    (code.unfolded 𝓤 𝓛.H 𝓜 𝓡 wired (X, tt) d)
    (meets E d 𝓛 𝓜.mem 𝓡.returns 𝓣 (heap_thm.met 𝓤 𝓛 𝓜 𝓡
    (code.calls-std_heap::GlobalAllocator::deallocate 𝓡.env wired)))
