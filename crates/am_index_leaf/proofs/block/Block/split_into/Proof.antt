-- `split_into` hands `copy_nonoverlapping` the values from `at` on and as many places of the other block. Assumes
-- `Logic`.
use mathlib.Core.Path.{◌≡◌, refl, sym, subst, ap}
use Prim.Native.Nat.{ℕ, ◌+◌, ◌*◌, ◌<◌, ◌≤◌, ◌^◌, ◌-◌}
use native.Mathlib.Nat.{zero-mul}
use native.Mathlib.Omega.{arith}
use mathlib.Core.List.{List, [], ◌∷◌}
use lib.ListN.{length, take, drop as drop_l, length-drop, take-append-drop}
use lib.Seq.{length-take-le}
use lib.Dec.{T}
use mir.Syntax.{Fn, Args, Dict, a_type, dcons, dnil, w64, named, ty_unit}
use mir.Val.{Val, has_ty, WT, vunit, vptr}
use base.Fml.{ftrue, fsep, flft}
use seplogic.Ra.Ura.{Ura}
use mir.MapTy.{inst_fn}
use base.Logic.{SProp, ent}
use prog.Memory.{Memory}
use prog.Routine.{Routine}
use prog.Wp.{Env, WpFn, Tables}
use types.Logic.{Logic}
use contract.BorrowLft.{◌⊑◌}
use contract.Monad.{Fun, fact}
use contract.Running.{tables, tables_of}
use denote.Param.{bounded}
use denote.RattleType.{owns}
use denote.Signature.{plain, types_at}
use denote.Steps.{heard, nothing}
use denote.Triple.Clauses.{Clauses, Ended, closing}
use denote.Triple.Spec.{Meets, triple_of}
use denote.Triple.Table.{entered}
use sound.WpLaws.{fm_of, WpFn-mono}
use types.Kit.{‵, raw, ◌⊛◌, given, later, at_ret, ◌$◌, ◌∵◌, !, qed, move, keep, use1, use2, use3, drop, split, split3}
use types.Kit.{join, learn, await, rewrite, fsplit, fsplit3, fjoin, fjoin3, feq_i, suffices, done}
use types.Part.{whole, sub, look_in}
use types.Run.{no_more, and_then, stop, fld, load, size_lit, unit_lit, of_opd, bin, first, blocks, exec, returns, enter}
use types.ByLocal.{alloc_all, pass_all, free_all, look_at, get, through, sets, lands_last, env}
use denote.Exit.{yes}
use denote.Builtin.{usize}
use denote.Plain.{uint_vals, uint_Tells}
use denote.Ref.{mut_vals, mut_Tells}
use denote.Triple.Call.{calls_at_last}
use denote.Triple.Statement.{Triple}
use denote.Triple.Walked.{Stays, stay_dropped, stay_ref, walk_of, walked, ends_at, Goes-dropped, Goes-ref, walk_Meets}
use Rattle.core.specs.declared.clone.Clone.{Ghosts}
use Rattle.core.proofs.mem.Param.{El, el_x}
use Rattle.core.proofs.mem.Facts.{says_two}
use Rattle.core.proofs.ptr.Rows.{times_below, one_below}
use Rattle.core.proofs.slots.Bodies.{after}
use Rattle.am_index_leaf.proofs.Memory.{Br, sz, vals, space, block_opens, block_closes, cut, wider_space, space_cut}
use Rattle.am_index_leaf.proofs.Moves.{carries_key, Carries, at_carry, run_of, over-goes, over-gives}
use Rattle.core.proofs.ptr.copy_nonoverlapping.Met as copy_thm
use Rattle.am_index_leaf.specs.contracts.block.Block.split_into as F
use Rattle.am_index_leaf.specs.contracts.block.Block.split_into.Key.{name as #self}
use Rattle.am_index_leaf.proofs.block.Block.split_into.Statement as stated
use Rattle.am_index_leaf.proofs.block.Block.split_into.Code as code

module _ (E : El) (g₀ : Ghosts (el_x E)) (d₀ : Dict) where
  abbrev args : Args
  args = bounded (a_type ∷ []) (E.row, tt) (dcons d₀ dnil)

  abbrev here : Fn
  here = inst_fn args code.function

  abbrev ended : Ended
  ended = F.ended E.row g₀ d₀

  abbrev stayed : Stays ended.signature.params ended.kept
  stayed = (
    stay_ref (0 ∷ []) tt (plain (λ _. Br E)),
    (
      stay_dropped (plain (λ _. usize)) yes,
      (
        stay_ref (1 ∷ []) tt (plain (λ _. Br E)),
        (stay_dropped (plain (λ _. usize)) yes, tt),
      ),
    ),
  )

  module _ {M : Type 1} {𝓤 : Ura M} (𝓛 : Logic 𝓤) (at_mem : Memory → SProp 𝓤) (run : Routine → Fun 𝓤) (𝓣 : Tables 𝓤 𝓛.H)
      (callee : Triple 𝓤 (𝓣.C (carries_key E)) (Carries E 𝓛 at_mem run)) where
    open 𝓛 use {H}

    abbrev held : Clauses 𝓤 ended
    held = F.clauses E.row g₀ d₀ 𝓛 at_mem run

    abbrev Bound : Type 0
    Bound = (walk_of 𝓛 ended stayed held).Ghost

    abbrev Goes : Bound → Type 1
    Goes y = ent 𝓤 ((walk_of 𝓛 ended stayed held).pre y)
        (WpFn 𝓤 H 𝓣.C 𝓣.Λ here ((walk_of 𝓛 ended stayed held).args y) ((walk_of 𝓛 ended stayed held).post y))

    abbrev spelled : Bound → Bound
    spelled z = let a = z.0.3 in (
      (
        z.0.0,
        z.0.1,
        z.0.2,
        a,
        (mut_vals a.0, (uint_vals w64 a.1.0, (mut_vals a.1.1.0, (uint_vals w64 a.1.1.1.0, tt)))),
      ),
      z.1,
    )

    walk : (z : Bound) → z.0.3.1.0 < 2 ^ 64 → z.0.3.1.1.1.0 < 2 ^ 64 → Goes (spelled z)
    walk z fl fi =
        let κ₀ = z.0.0.0 in let κ₁ = z.0.0.1.0 in let κ₂ = z.0.0.1.1.0 in let q₀ = z.0.1.0 in let q₁ = z.0.1.1.0 in
        let q₂ = z.0.1.1.1.0 in
        let a = z.0.3 in let xs : List (el_x E) = a.0.now in let len : ℕ = a.1.0 in let ys : List (el_x E) = a.1.1.0.now
        in let i : ℕ = a.1.1.1.0 in
        let rb : ℕ = a.0.ref_ptr.0 in let ro : ℕ = a.0.ref_ptr.1 in let sb : ℕ = a.1.1.0.ref_ptr.0 in
        let so : ℕ = a.1.1.0.ref_ptr.1 in
        let Post : Val → SProp 𝓤 = (walk_of 𝓛 ended stayed held).post (spelled z) in
        let s : ℕ = sz E in let front : List (el_x E) = take i xs in let back : List (el_x E) = drop_l i xs in
        qed 𝓛 (((‵ (flft κ₀ q₀) ⊛ ‵ (flft κ₁ q₁) ⊛ ‵ (flft κ₂ q₂) ⊛ ‵ ftrue) ⊛ ‵
        (owns (types_at ended.signature.params z.0.0) a (spelled z).0.4)) ∷
        (raw (fact 𝓤 (κ₂ ⊑ E.row.lives)) ⊛ raw (fact 𝓤 (len ≡ length xs)) ⊛ raw (fact 𝓤 (i ≤ len)) ⊛ raw
        (fact 𝓤 (ys ≡ []))) ∷ []) ∵
        move ! (1 ∷ []) $ split ! $ heard ! (κ₂ ⊑ E.row.lives)
        (λ lives. split ! $ heard ! (len ≡ length xs)
        (λ all. split ! $ heard ! (i ≤ len) (λ le. heard ! (ys ≡ []) (λ none.
        let n : ℕ = len - i in
        let long : length front ≡ i = length-take-le i xs (omega arith) in
        let rest : length back ≡ n = omega (arith, length-drop i xs) in
        split ! $ split3 ! $ move ! (2 ∷ []) $ split ! $ move ! (4 ∷ []) $ fsplit3 ! $ move ! (2 ∷ []) $ fsplit3 ! $
        fsplit3 ! $ move ! (5 ∷ []) $ fsplit3 ! $ keep ! (1 ∷ 2 ∷ 11 ∷ 4 ∷ 5 ∷ 12 ∷ 9 ∷ []) $
        enter ! 𝓣.C 𝓣.Λ here ((walk_of 𝓛 ended stayed held).args (spelled z)) _ $ alloc_all !
        (λ l. pass_all ! refl ((tt, tt), ((tt, record { fits = fl }), ((tt, tt), ((tt, record { fits = fi }), tt)))) $
        let En : Env 𝓤 H = env here.locals l in
        block_opens E ! tt xs rb ro (λ g b o most fit _. move ! (8 ∷ 9 ∷ 10 ∷ []) $ block_opens E ! tt ys sb so
        (λ g' b' o' _ _ _.
        let small : s < 2 ^ 63 = one_below 32 s (2 ^ 63) (omega arith) fit in let tiny : s < 2 ^ 64 = omega arith in
        let part : i * s < 2 ^ 63 = times_below i 32 s (2 ^ 63) (omega arith) fit in
        let fm : i * s < 2 ^ 64 = omega arith in
        let src : ℕ = i * s + o in let fn : n < 2 ^ 64 = omega arith in
        let both : length xs ≡ length front + n = omega arith in let room : o' + 0 * s ≡ o' =
        omega (arith, zero-mul s) in
        -- [the other block's values, its room, token, handle, cell, open borrow, obs and auth; the same of self; the
        -- last token]
        first ! $ blocks ! $
        sets ! (of_opd ! (load ! (through ! refl (fld ! refl (stop !))) (look_in ! 12 (sub ! 0 refl (whole !))))) refl
        (tt, tt) $
        sets ! (bin ! (get ! refl) (size_lit ! (record { fits = tiny })) (record { fits = fm })) refl
        (tt, record { fits = fm }) $
        sets ! (bin ! (get ! refl) (get ! refl) tt) refl (tt, tt) $
        sets ! (of_opd ! (load ! (through ! refl (fld ! refl (stop !))) (look_in ! 4 (sub ! 0 refl (whole !))))) refl
        (tt, tt) $
        sets ! (bin ! (get ! refl) (get ! refl) le) refl (tt, record { fits = fn }) $
        drop ! $ rewrite ! 0 (λ (l' : List (el_x E)). ‵ (space E (32 - length l') b' (o' + length l' * s))) none refl $
        rewrite ! 0 (λ (k : ℕ). ‵ (space E 32 b' k)) room refl $
        use1 𝓛 (‵ (space E n b' o') ⊛ ‵ (space E (32 - n) b' (o' + n * s))) (space_cut E 𝓛 b' o' n (omega arith)) $
        split ! $
        move ! (8 ∷ []) $ rewrite ! 0 (λ (l' : List (el_x E)). ‵ (vals E l' b o)) (sym (take-append-drop i xs)) refl $
        use1 𝓛 (‵ (vals E front b o) ⊛ ‵ (vals E back b src)) (cut E 𝓛 b front back o src i long refl) $ split ! $
        rewrite ! 1 (λ (k : ℕ). ‵ (run_of E 𝓛 at_mem run k back b src)) rest refl $
        move ! (1 ∷ 2 ∷ 17 ∷ []) $ use3 𝓛 (raw ((Carries E 𝓛 at_mem run).pre
        (at_carry E 𝓛 at_mem run κ₂ q₂ b src b' o' n back)))
        (over-goes E 𝓛 at_mem run κ₂ q₂ b src b' o' n back lives fn (times_below n 32 s (2 ^ 63) (omega arith) fit)) $
        calls_at_last ! (fm_of 𝓤 H 𝓛.laws 𝓣) (Carries E 𝓛 at_mem run) callee
        (at_carry E 𝓛 at_mem run κ₂ q₂ b src b' o' n back)
        (and_then ! (get ! refl) (and_then ! (get ! refl) (and_then ! (get ! refl) (no_more !)))) (λ w.
        use1 𝓛 (later (given (w ≡ vunit) (‵ (fsep (run_of E 𝓛 at_mem run n back b' o') (space E n b src)) ⊛ ‵
        (flft κ₂ q₂)))) (over-gives E 𝓛 at_mem run κ₂ q₂ b src b' o' n back w) $ await ! tt $ learn !
        (λ e. split ! $ fsplit ! $
        lands_last ! refl (subst (λ (u : Val). T (has_ty ty_unit u) × WT u) (sym e) (tt, tt)) $ exec ! 𝓣.C 𝓣.Λ En
        (after 1 here.body) (at_ret En Post) $ sets ! (of_opd ! (unit_lit !)) refl (tt, tt) $
        -- [the values that moved; the places that they left; the last token; the values that stay; the other block's
        -- room and the rest of it; self's room and the rest of it]
        rewrite ! 0 (λ (k : ℕ). ‵ (run_of E 𝓛 at_mem run k back b' o')) (sym rest) refl $ move !
        (0 ∷ 4 ∷ 5 ∷ 6 ∷ 7 ∷ 8 ∷ 9 ∷ 10 ∷ []) $
        rewrite ! 1 (λ (k : ℕ). ‵ (space E (32 - k) b' (o' + k * s))) (sym rest) refl $ block_closes E ! tt back g' b'
        o' sb so (omega arith) fit $
        move ! (3 ∷ 6 ∷ []) $ use2 𝓛 (‵ (space E (32 - length front) b (o + length front * s)))
        (wider_space E 𝓛 b o (length front) (length xs) n src both most (ap (λ (k : ℕ). k * s + o) long)) $
        move ! (5 ∷ 0 ∷ 6 ∷ 7 ∷ 8 ∷ 9 ∷ 10 ∷ 11 ∷ []) $ block_closes E ! tt front g b o rb ro (omega arith) fit $
        returns ! (look_at ! 0 refl) $ free_all ! refl $
        suffices ! _ (ends_at 𝓛 ended stayed held (spelled z) vunit tt (front, (tt, (back, (tt, tt))))
        (tt, (tt, (tt, (tt, tt))))) $ says_two ! (refl, refl) $
        feq_i ! (List Val) (vptr rb ro ∷ []) (vptr rb ro ∷ []) refl $ fjoin3 ! $ move ! (2 ∷ 3 ∷ []) $ feq_i !
        (List Val) (vptr sb so ∷ []) (vptr sb so ∷ []) refl $ fjoin3 ! $
        nothing ! $ nothing ! $ fjoin ! $ move ! (1 ∷ 0 ∷ []) $ fjoin ! $ nothing ! $ fjoin ! $ move ! (1 ∷ 0 ∷ []) $
        fjoin ! $
        nothing ! $ move ! (4 ∷ 0 ∷ []) $ join ! $ move ! (3 ∷ 0 ∷ []) $ join ! $ move ! (2 ∷ 0 ∷ []) $ join ! $ feq_i !
        (List Val) (vunit ∷ []) (vunit ∷ []) refl $ keep ! (1 ∷ 2 ∷ 0 ∷ []) $ done !)))))))))

    meets : Meets 𝓛 ended.signature (WpFn 𝓤 H 𝓣.C 𝓣.Λ here) (closing 𝓛 ended held)
    meets =
        let word = Goes-dropped 𝓛 3 (plain (λ _. usize)) yes (λ κs x f. refl) in
        walk_Meets 𝓛 ended stayed (
          Goes-ref 𝓛 3 0 tt (plain (λ _. Br E)),
          (word, (Goes-ref 𝓛 3 1 tt (plain (λ _. Br E)), (word, tt))),
        ) held (WpFn 𝓤 H 𝓣.C 𝓣.Λ here)
        (WpFn-mono 𝓤 H 𝓛.laws 𝓣 here)
        (walked 𝓛 ended stayed held (WpFn 𝓤 H 𝓣.C 𝓣.Λ here)
        (λ κs. (mut_vals, (uint_vals w64, (mut_vals, (uint_vals w64, tt)))))
        (λ κs. (
          mut_Tells (named 0) κs.0 (Br E),
          (
            uint_Tells w64,
            (mut_Tells (named 1) κs.1.0 (Br E), (uint_Tells w64, tt)),
          ),
        ))
        (λ κs qs bounds a g are. walk (
          (
            κs,
            qs,
            bounds,
            a,
            (mut_vals a.0, (uint_vals w64 a.1.0, (mut_vals a.1.1.0, (uint_vals w64 a.1.1.1.0, tt)))),
          ),
          g,
        ) are.1.0.1
        are.1.1.1.0.1))

pub split_into_spec : {M : Type 1} → stated.statement M
unfolding tables_of
split_into_spec 𝓤 𝓛 𝓜 𝓡 wired X L _ g₀ d₀ _ =
    let E : El = record { row = X; laws = L } in
    let 𝓣 : Tables 𝓤 𝓛.H = tables_of 𝓤 𝓛.H 𝓜 (tables 𝓤 𝓛.H 𝓜 𝓡 𝓡.env) in
    entered 𝓤 𝓛.H (triple_of 𝓛 (F.signature X) (F.spec X g₀ d₀ 𝓛 𝓜.mem 𝓡.returns)) 𝓣.C 𝓣.Λ (#self (args E g₀ d₀))
    (here E g₀ d₀) (code.unfolded 𝓤 𝓛.H 𝓜 𝓡 wired (X, tt) d₀)
    (meets E g₀ d₀ 𝓛 𝓜.mem 𝓡.returns 𝓣 (copy_thm.met 𝓤 𝓛 𝓜 𝓡 (code.calls-core::ptr::copy_nonoverlapping 𝓡.env wired) X
    L))
