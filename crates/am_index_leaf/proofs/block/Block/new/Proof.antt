-- `new` makes a block of fresh memory, all of which is room. Assumes `Logic`.
use mathlib.Core.Path.{◌≡◌, refl}
use mathlib.Core.Bool.{true, false}
use Prim.Native.Nat.{ℕ, ◌+◌, ◌*◌, ◌<◌, ◌^◌}
use native.Mathlib.Omega.{arith}
use native.Mathlib.Nat.{zero-mul}
use mathlib.Core.List.{[], ◌∷◌}
use lib.Dec.{T, lit<}
use seplogic.Ra.Ura.{Ura}
use mir.Syntax.{Ty, Fn, Body, Args, Dict, a_type, ty_array, dcons, dnil}
use mir.MapTy.{inst_fn}
use mir.Val.{Val, vstruct, vcons, vnil, has_ty, WT}
use base.Logic.{SProp, ent, sep}
use base.Fml.{ftrue, flft}
use prog.Memory.{Memory, align, capped}
use prog.Capped.{capped_fits}
use prog.Routine.{Routine}
use prog.Wp.{Env, WpFn, Tables, Wp, after_seq, at_return}
use types.Logic.{Logic, sem}
use types.Match.{live, vrt, in_variant}
use contract.BorrowLft.{◌⊑◌, ⊑_static}
use contract.Monad.{Fun, fact}
use contract.Running.{tables, tables_of}
use sound.WpLaws.{fm_of, WpFn-mono}
use types.Kit.{‵, raw, ◌⊛◌, some, later, at_ret, any_q, Post as After, ◌$◌, ◌∵◌, !, qed, by, move, keep, drop as let_go}
use types.Kit.{use0, use1, use2, split, split3, join, pick, rewrite, fsplit, fjoin, suffices, await, done}
use types.Part.{whole, agg}
use types.Run.{stop, fld, from, lit, addr, no_more, and_then, of_opd, bin, size_lit, align_word, first, switches_on}
use types.Run.{exec, returns, enter}
use types.ByLocal.{alloc_all, pass_all, free_all, look_at, take_at, give_at, get, get_in, get_tag, sets, sets_last}
use types.ByLocal.{lands_as, env}
use denote.Exit.{yes}
use denote.Laws.{Is}
use denote.Param.{bounded, copied, layout}
use denote.RattleType.{RattleType, owns}
use denote.Signature.{plain, types_at}
use denote.Steps.{heard, nothing, owned}
use denote.Struct.Struct.{Struct, Struct-Makes}
use denote.Struct.Declared as Declared
use denote.Triple.Call.{calls_at}
use denote.Triple.Clauses.{Clauses, Ended, closing}
use denote.Triple.Spec.{Meets, triple_of}
use denote.Triple.Statement.{Triple}
use denote.Triple.Table.{entered}
use denote.Triple.Walked.{Stays, says, stay_dropped, walk_of, walked, ends_at, Goes-dropped, walk_Meets}
use Rattle.std.specs.Prelude.{Ok, Err, IfOk}
use Rattle.std.specs.declared.alloc.Global.{Global}
use Rattle.std.specs.contracts.alloc.Global as Handle
use Rattle.std.proofs.Handle.{heap_val, heap_Tells}
use Rattle.std.proofs.RawLayout.{as_written}
use Rattle.std.proofs.ResultValues.{ok_of, err_of}
use Rattle.std.proofs.impls.GlobalAllocator.allocate.Met as heap_thm
use Rattle.std.specs.contracts.impls.GlobalAllocator.allocate.Key as heap_key
use Rattle.core.specs.declared.clone.Clone.{Ghosts}
use Rattle.core.specs.contracts.result.Result as RS
use Rattle.core.specs.contracts.alloc.AllocError as AE
use Rattle.core.proofs.alloc.Calls.{Answer, Answer-typed}
use Rattle.core.proofs.mem.Param.{El, el_x, elτ}
use Rattle.core.proofs.ptr.Rows.{one_below}
use Rattle.core.proofs.slots.Bodies.{after, head, arm_body}
use Rattle.core.proofs.slots.Leases.{block_ty, block_size, block_align}
use Rattle.am_index_leaf.proofs.Memory.{sz, vals, space, block_val, block_made, no_values}
use Rattle.am_index_leaf.proofs.Heap.{lends_handle, takes_handle, Takes, at_takes, takes-goes, takes-gives, Had, answer}
use Rattle.am_index_leaf.specs.contracts.block.Block as Block
use Rattle.am_index_leaf.specs.contracts.block.Block.new as F
use Rattle.am_index_leaf.specs.contracts.block.Block.new.Key.{name as #self}
use Rattle.am_index_leaf.proofs.block.Block.new.Statement as stated
use Rattle.am_index_leaf.proofs.block.Block.new.Code as code

module _ (E : El) (g₀ : Ghosts (el_x E)) (d : Dict) where
  abbrev args : Args
  args = bounded (a_type ∷ []) (E.row, tt) (dcons d dnil)

  abbrev here : Fn
  here = inst_fn args code.function

  abbrev ended : Ended
  ended = F.ended E.row g₀ d

  abbrev stayed : Stays ended.signature.params ended.kept
  stayed = (stay_dropped (plain (λ _. Handle.the_row)) yes, tt)

  -- a block of values that are `Copy`
  abbrev Made : RattleType
  Made = Block.the_row (copied 0 E.row)

  abbrev Out : RattleType
  Out = RS.the_row Made AE.the_row

  module _ {M : Type 1} {𝓤 : Ura M} (𝓛 : Logic 𝓤) (at_mem : Memory → SProp 𝓤) (run : Routine → Fun 𝓤) (𝓣 : Tables 𝓤 𝓛.H)
      (callee : Triple 𝓤 (𝓣.C heap_key.name) (Takes 𝓛 at_mem run)) where
    open 𝓛 use {H, A}

    abbrev held : Clauses 𝓤 ended
    held = F.clauses E.row g₀ d 𝓛 at_mem run

    abbrev Bound : Type 0
    Bound = (walk_of 𝓛 ended stayed held).Ghost

    abbrev Goes : Bound → Type 1
    Goes y = ent 𝓤 ((walk_of 𝓛 ended stayed held).pre y)
        (WpFn 𝓤 H 𝓣.C 𝓣.Λ here ((walk_of 𝓛 ended stayed held).args y) ((walk_of 𝓛 ended stayed held).post y))

    abbrev spelled : Bound → Bound
    spelled z = ((z.0.0, z.0.1, z.0.2, z.0.3, (heap_val ∷ [], tt)), z.1)

    module _ (z : Bound) where
      abbrev Post : Val → SProp 𝓤
      Post = (walk_of 𝓛 ended stayed held).post (spelled z)

      exits : (r : Out.Denot) (v : Val) → IfOk r (λ b. b ≡ []) →
          ent 𝓤 (sep 𝓤 (sem 𝓛 (Out.own_val r (v ∷ []))) (A.lft z.0.0.0 z.0.1.0)) (Post v)
      exits r v empty = qed 𝓛 (‵ (Out.own_val r (v ∷ [])) ∷ ‵ (flft z.0.0.0 z.0.1.0) ∷ []) ∵
          suffices ! _ (ends_at 𝓛 ended stayed held (spelled z) v r (tt, tt) (tt, tt)) $ says ! empty $
          nothing ! $ move ! (2 ∷ 0 ∷ []) $ join ! $ nothing ! $ nothing ! $ fjoin ! $ move ! (1 ∷ 0 ∷ []) $ done !

      walk : Goes (spelled z)
      walk =
          let κ = z.0.0.0 in let q = z.0.1.0 in let g : Global = z.0.3.0 in let s = sz E in
          let al : ℕ = capped (align (elτ E)) in let τ : Ty = block_ty E 32 in
          qed 𝓛 (((‵ (flft κ q) ⊛ ‵ ftrue) ⊛ ‵ (owns (types_at ended.signature.params z.0.0) z.0.3 (spelled z).0.4)) ∷
          (raw (fact 𝓤 (κ ⊑ E.row.lives)) ⊛ raw (fact 𝓤 (32 * s < 2 ^ 63))) ∷ []) ∵
          move ! (1 ∷ []) $ split ! $ let_go ! $ heard ! (32 * s < 2 ^ 63) (λ fit.
          let small : s < 2 ^ 63 = one_below 32 s (2 ^ 63) (omega arith) fit in let tiny : s < 2 ^ 64 = omega arith in
          let bytes : 32 * s < 2 ^ 64 = omega arith in
          split ! $ split ! $ move ! (2 ∷ []) $ fsplit ! $ keep ! (0 ∷ 2 ∷ []) $
          enter ! 𝓣.C 𝓣.Λ here (heap_val ∷ []) _ $ alloc_all ! (λ l. pass_all ! refl ((tt, ((tt, tt), tt)), tt) $
          let En : Env 𝓤 H = env here.locals l in
          let both : Body = head (after 4 here.body) in
          let Then : After 𝓤 H = any_q (after_seq 𝓤 H (Wp 𝓤 H 𝓣.C 𝓣.Λ En (after 5 here.body) (at_return 𝓤 H En Post))
          (at_return 𝓤 H En Post)) in
          sets ! (of_opd ! (get ! refl)) refl (tt, ((tt, tt), tt)) $ sets ! (addr ! (from ! (stop !))) refl (tt, tt) $
          sets ! (bin ! (lit ! tt) (size_lit ! (record { fits = tiny })) (record { fits = bytes })) refl
          (tt, record { fits = bytes }) $
          take_at ! 2 $ move ! (0 ∷ 1 ∷ 2 ∷ []) $ lends_handle κ q (l 2) g ! tt (⊑_static κ) (λ n. move ! (0 ∷ 1 ∷ []) $
          let y : (Takes 𝓛 at_mem run).Ghost = at_takes 𝓛 at_mem run (n.0 ∷ κ) n.1 (l 2) g (32 * s) al τ in
          use2 𝓛 (raw ((Takes 𝓛 at_mem run).pre y)) (takes-goes 𝓛 at_mem run (n.0 ∷ κ) n.1 (l 2) g (32 * s) al τ
          (block_size E 32 bytes, block_align E 32) bytes (capped_fits (align (elτ E)))) $
          calls_at ! (fm_of 𝓤 H 𝓛.laws 𝓣) (Takes 𝓛 at_mem run) callee y
          (and_then ! (get ! refl) (and_then ! (get ! refl) (and_then ! (align_word !) (no_more !)))) (λ v.
          use1 𝓛 (later (some (λ (r : Answer.Denot). Had 𝓛 at_mem run (n.0 ∷ κ) n.1 (l 2) g (32 * s) al τ v r)))
          (takes-gives 𝓛 at_mem run (n.0 ∷ κ) n.1 (l 2) g (32 * s) al τ v) $ await ! tt $ pick ! (λ r. split3 ! $
          move ! (2 ∷ 3 ∷ []) $ takes_handle κ q (l 2) g ! tt n $ give_at ! 2 $ move ! (2 ∷ 3 ∷ []) $
          answer g τ v ! r
          (λ b o e. lands_as ! e refl (Answer-typed true b o) $ first ! $ switches_on !
          (get_tag ! (vrt ! refl (fld ! refl (stop !))) (whole !)) $ exec ! 𝓣.C 𝓣.Λ En (arm_body 0 both) Then $
          let room : o ≡ o + 0 * s = omega (arith, zero-mul s) in let typed : T (has_ty (layout Made) (block_val b o)) ×
          WT (block_val b o) =
          (tt, (tt, (((tt, tt), tt), tt))) in
          sets ! (of_opd ! (get_in ! (vrt ! refl (fld ! refl (stop !))) (in_variant ! 0 0 refl refl (whole !)))) refl
          (tt, tt) $
          sets ! (of_opd ! (get ! refl)) refl (tt, tt) $ sets ! (of_opd ! (get ! refl)) refl (tt, ((tt, tt), tt)) $
          sets ! (agg ! (and_then ! (get ! refl) (and_then ! (get ! refl) (no_more !)))) refl typed $
          sets_last ! (agg ! (and_then ! (lit ! tt) (and_then ! (get ! refl) (no_more !)))) refl
          (tt, (record { fits = lit< tt }, (typed.1, tt))) $
          exec ! 𝓣.C 𝓣.Λ En (after 5 here.body) (at_ret En Post) $ sets ! (of_opd ! (get ! refl)) refl
          (tt, (record { fits = lit< tt }, (typed.1, tt))) $
          as_written ! (ty_array (elτ E) 32) b o $ rewrite ! 0 (λ (k : ℕ). ‵ (space E 32 b k)) room refl $
          use0 𝓛 (‵ (vals E [] b o)) (no_values E 𝓛 b o) $ block_made E ! [] g b o (omega arith) fit $
          use1 𝓛 (‵ (Out.own_val (Ok []) (live 0 (vcons (block_val b o) vnil) ∷ [])))
          (ok_of 𝓛 Made AE.the_row [] (block_val b o)) $
          returns ! (look_at ! 0 refl) $ free_all ! refl $ keep ! (0 ∷ 1 ∷ []) $ by !
          (exits (Ok []) (live 0 (vcons (block_val b o) vnil)) refl))
          (λ e. lands_as ! e refl (Answer-typed false 0 0) $ first ! $ switches_on !
          (get_tag ! (vrt ! refl (fld ! refl (stop !))) (whole !)) $ exec ! 𝓣.C 𝓣.Λ En (arm_body 1 both) Then $
          let Refusal : RattleType = Struct (Declared.shape AE.the_type) in
          let none : Val = live 1 (vcons (vstruct vnil) vnil) in
          sets ! (of_opd ! (get_in ! (vrt ! refl (fld ! refl (stop !))) (in_variant ! 1 0 refl refl (whole !)))) refl
          (tt, tt) $
          sets_last ! (agg ! (and_then ! (lit ! tt) (and_then ! (get ! refl) (no_more !)))) refl
          (tt, (record { fits = lit< tt }, (tt, tt))) $
          exec ! 𝓣.C 𝓣.Λ En (after 5 here.body) (at_ret En Post) $ sets ! (of_opd ! (get ! refl)) refl
          (tt, (record { fits = lit< tt }, (tt, tt))) $
          owned ! Refusal (Is Refusal) (Struct-Makes 𝓛 (Declared.shape AE.the_type) tt) tt (vstruct vnil ∷ [])
          (tt, (refl, tt)) $
          use1 𝓛 (‵ (Out.own_val (Err (record {})) (none ∷ []))) (err_of 𝓛 Made AE.the_row (record {}) (vstruct vnil)) $
          returns ! (look_at ! 0 refl) $ free_all ! refl $ keep ! (0 ∷ 2 ∷ []) $ by !
          (exits (Err (record {})) none tt)))))))

    meets : Meets 𝓛 ended.signature (WpFn 𝓤 H 𝓣.C 𝓣.Λ here) (closing 𝓛 ended held)
    meets =
        walk_Meets 𝓛 ended stayed (Goes-dropped 𝓛 1 (plain (λ _. Handle.the_row)) yes (λ κs x f. refl), tt) held
        (WpFn 𝓤 H 𝓣.C 𝓣.Λ here) (WpFn-mono 𝓤 H 𝓛.laws 𝓣 here)
        (walked 𝓛 ended stayed held (WpFn 𝓤 H 𝓣.C 𝓣.Λ here) (λ κs. ((λ _. heap_val ∷ []), tt)) (λ κs. (heap_Tells, tt))
        (λ κs qs bounds a gh are. walk ((κs, qs, bounds, a, (heap_val ∷ [], tt)), gh)))

pub new_spec : {M : Type 1} → stated.statement M
unfolding tables_of
new_spec 𝓤 𝓛 𝓜 𝓡 wired X L _ g₀ d _ =
    let E : El = record { row = X; laws = L } in
    let 𝓣 : Tables 𝓤 𝓛.H = tables_of 𝓤 𝓛.H 𝓜 (tables 𝓤 𝓛.H 𝓜 𝓡 𝓡.env) in
    entered 𝓤 𝓛.H (triple_of 𝓛 (F.signature X) (F.spec X g₀ d 𝓛 𝓜.mem 𝓡.returns)) 𝓣.C 𝓣.Λ (#self (args E g₀ d))
    (here E g₀ d) (code.unfolded 𝓤 𝓛.H 𝓜 𝓡 wired (X, tt) d)
    (meets E g₀ d 𝓛 𝓜.mem 𝓡.returns 𝓣 (heap_thm.met 𝓤 𝓛 𝓜 𝓡
    (code.calls-std_heap::GlobalAllocator::allocate 𝓡.env wired)))
