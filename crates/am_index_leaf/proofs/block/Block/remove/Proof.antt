-- `remove` reads a value, and hands `copy` the values above it and the place that it left. Assumes `Logic`.
use mathlib.Core.Path.{◌≡◌, refl, sym, ap, ◌∙◌}
use Prim.Native.Nat.{ℕ, suc, ◌+◌, ◌*◌, ◌<◌, ◌^◌, ◌-◌}
use native.Mathlib.Omega.{arith}
use mathlib.Core.List.{List, [], ◌∷◌, ◌++◌}
use lib.ListN.{length, get_or, take, drop as drop_l, length-drop, length-append, take-append-drop}
use lib.Seq.{length-take-le, drop-cons}
use mir.Syntax.{Fn, Args, Dict, a_type, dcons, dnil, w64, named}
use mir.Val.{Val, vunit, vint, vptr}
use base.Fraction.{full_share}
use base.Fml.{ftrue, fsep, froom, fat, flft}
use seplogic.Ra.Ura.{Ura}
use mir.MapTy.{inst_fn}
use base.Logic.{SProp, ent}
use prog.Memory.{Memory}
use prog.Routine.{Routine}
use prog.Wp.{Env, WpFn, Tables}
use types.Logic.{Logic}
use contract.BorrowLft.{◌⊑◌}
use contract.Monad.{Fun, fact}
use contract.Running.{tables, tables_of}
use denote.Param.{bounded}
use denote.RattleType.{owns}
use denote.Signature.{plain, types_at}
use denote.Steps.{heard, nothing}
use denote.Triple.Clauses.{Clauses, Ended, closing}
use denote.Triple.Spec.{Meets, triple_of}
use denote.Triple.Table.{entered}
use sound.WpLaws.{fm_of, WpFn-mono}
use types.Kit.{‵, raw, ◌⊛◌, some, given, later, at_ret, ◌$◌, ◌∵◌, !, qed, move, keep, use1, use2, use3, split, split3}
use types.Kit.{join, pick, learn, await, rewrite, fsplit, fsplit3, fjoin, fjoin3, feq_i, suffices, done}
use types.Part.{whole, sub, look_in}
use types.Run.{look, lit, no_more, and_then, stop, fld, load, size_lit, of_opd, bin, first, blocks, exec, returns}
use types.Run.{enter}
use types.ByLocal.{alloc_all, pass_all, free_all, look_at, get, through, sets, sets_last, lands_as, env}
use denote.Exit.{yes}
use denote.Builtin.{usize}
use denote.Plain.{uint_vals, uint_Tells}
use denote.Ref.{mut_vals, mut_Tells}
use denote.Triple.Call.{calls_at}
use denote.Triple.Statement.{Triple}
use denote.Triple.Walked.{Stays, stay_dropped, stay_ref, walk_of, walked, ends_at, Goes-dropped, Goes-ref, walk_Meets}
use Rattle.core.specs.declared.clone.Clone.{Ghosts}
use Rattle.core.proofs.mem.Param.{El, el_x, elτ, Good}
use Rattle.core.proofs.mem.Facts.{says_two}
use Rattle.core.proofs.slice.Lists.{hd, any-default}
use Rattle.core.proofs.ptr.Rows.{times_below, one_below, add_times}
use Rattle.core.proofs.slots.Bodies.{after}
use Rattle.am_index_leaf.proofs.Memory.{Br, sz, vals, space, block_opens, block_closes, cut, glue, value_out, one_space}
use Rattle.am_index_leaf.proofs.Memory.{wider_space}
use Rattle.am_index_leaf.proofs.Moves.{copies_key, Copies, run_of, at_down, down-goes, down-gives}
use Rattle.core.proofs.ptr.copy.Met as copy_thm
use Rattle.am_index_leaf.specs.contracts.block.Block.remove as F
use Rattle.am_index_leaf.specs.contracts.block.Block.remove.Key.{name as #self}
use Rattle.am_index_leaf.proofs.block.Block.remove.Statement as stated
use Rattle.am_index_leaf.proofs.block.Block.remove.Code as code

module _ (E : El) (g₀ : Ghosts (el_x E)) (d₀ : Dict) where
  abbrev args : Args
  args = bounded (a_type ∷ []) (E.row, tt) (dcons d₀ dnil)

  abbrev here : Fn
  here = inst_fn args code.function

  abbrev ended : Ended
  ended = F.ended E.row g₀ d₀

  abbrev stayed : Stays ended.signature.params ended.kept
  stayed = (
    stay_ref (0 ∷ []) tt (plain (λ _. Br E)),
    (stay_dropped (plain (λ _. usize)) yes, (stay_dropped (plain (λ _. usize)) yes, tt)),
  )

  module _ {M : Type 1} {𝓤 : Ura M} (𝓛 : Logic 𝓤) (at_mem : Memory → SProp 𝓤) (run : Routine → Fun 𝓤) (𝓣 : Tables 𝓤 𝓛.H)
      (callee : Triple 𝓤 (𝓣.C (copies_key E)) (Copies E 𝓛 at_mem run)) where
    open 𝓛 use {H}

    abbrev held : Clauses 𝓤 ended
    held = F.clauses E.row g₀ d₀ 𝓛 at_mem run

    abbrev Bound : Type 0
    Bound = (walk_of 𝓛 ended stayed held).Ghost

    abbrev Goes : Bound → Type 1
    Goes y = ent 𝓤 ((walk_of 𝓛 ended stayed held).pre y)
        (WpFn 𝓤 H 𝓣.C 𝓣.Λ here ((walk_of 𝓛 ended stayed held).args y) ((walk_of 𝓛 ended stayed held).post y))

    abbrev spelled : Bound → Bound
    spelled z = let a = z.0.3 in (
      (
        z.0.0,
        z.0.1,
        z.0.2,
        a,
        (mut_vals a.0, (uint_vals w64 a.1.0, (uint_vals w64 a.1.1.0, tt))),
      ),
      z.1,
    )

    walk : (z : Bound) → z.0.3.1.0 < 2 ^ 64 → z.0.3.1.1.0 < 2 ^ 64 → Goes (spelled z)
    walk z fl fi =
        let κ = z.0.0.0 in let κ₁ = z.0.0.1.0 in let q = z.0.1.0 in let q₁ = z.0.1.1.0 in
        let rb : ℕ = z.0.3.0.ref_ptr.0 in let ro : ℕ = z.0.3.0.ref_ptr.1 in let xs : List (el_x E) = z.0.3.0.now in
        let len : ℕ = z.0.3.1.0 in let i : ℕ = z.0.3.1.1.0 in
        let Post : Val → SProp 𝓤 = (walk_of 𝓛 ended stayed held).post (spelled z) in
        let s : ℕ = sz E in let front : List (el_x E) = take i xs in let back : List (el_x E) = drop_l (suc i) xs in
        let new : List (el_x E) = front ++ back in
        qed 𝓛 (((‵ (flft κ q) ⊛ ‵ (flft κ₁ q₁) ⊛ ‵ ftrue) ⊛ ‵
        (owns (types_at ended.signature.params z.0.0) z.0.3 (spelled z).0.4)) ∷
        (raw (fact 𝓤 (κ₁ ⊑ E.row.lives)) ⊛ raw (fact 𝓤 (len ≡ length xs)) ⊛ raw (fact 𝓤 (i < len))) ∷ []) ∵
        move ! (1 ∷ []) $ split ! $ heard ! (κ₁ ⊑ E.row.lives)
        (λ lives. split ! $ heard ! (len ≡ length xs) (λ all. heard ! (i < len) (λ lt.
        let n : ℕ = len - 1 - i in let li : i < length xs = omega arith in
        let d : el_x E = hd xs (omega arith) in let x : el_x E = get_or xs i d in
        let long : length front ≡ i = length-take-le i xs (omega arith) in
        let rest : length back ≡ n = omega (arith, length-drop (suc i) xs) in
        split ! $ split3 ! $ move ! (3 ∷ []) $ fsplit3 ! $ fsplit3 ! $ keep ! (1 ∷ 2 ∷ 5 ∷ 6 ∷ []) $
        enter ! 𝓣.C 𝓣.Λ here (vptr rb ro ∷ vint w64 len ∷ vint w64 i ∷ []) _ $ alloc_all !
        (λ l. pass_all ! refl ((tt, tt), ((tt, record { fits = fl }), ((tt, record { fits = fi }), tt))) $
        let En : Env 𝓤 H = env here.locals l in
        block_opens E ! tt xs rb ro (λ g b o most fit start.
        let small : s < 2 ^ 63 = one_below 32 s (2 ^ 63) (omega arith) fit in let tiny : s < 2 ^ 64 = omega arith in
        let unit : 1 * s < 2 ^ 64 = omega arith in
        let part : i * s < 2 ^ 63 = times_below i 32 s (2 ^ 63) (omega arith) fit in
        let fm : i * s < 2 ^ 64 = omega arith in
        let to : ℕ = i * s + o in let from : ℕ = 1 * s + to in
        let shrunk : length xs ≡ length new + 1 = omega (arith, length-append front back) in
        let sum : n + i ≡ length new = omega arith in let ends : length new * s + o ≡ n * s + to =
        omega (arith, add_times n i s, ap (λ (k : ℕ). k * s) sum) in
        let wide : (length new + 1) * s < 2 ^ 63 = times_below (length new + 1) 32 s (2 ^ 63) (omega arith) fit in
        let within : (n + 1) * s + to < 2 ^ 63 = omega (
          arith,
          add_times n 1 s,
          add_times (length new) 1 s,
          ends,
          start,
          wide,
        ) in
        let fn : n < 2 ^ 64 = omega arith in let fl' : len - 1 < 2 ^ 64 = omega arith in
        rewrite ! 0 (λ (ys : List (el_x E)). ‵ (vals E ys b o)) (sym (take-append-drop i xs) ∙
        ap (λ l'. front ++ l') (drop-cons xs i d li)) refl $
        use1 𝓛 (‵ (vals E front b o) ⊛ ‵ (vals E (x ∷ back) b to)) (cut E 𝓛 b front (x ∷ back) o to i long refl) $ split
        ! $ move ! (1 ∷ []) $
        use1 𝓛 (‵ (vals E (x ∷ []) b to) ⊛ ‵ (vals E back b from)) (cut E 𝓛 b (x ∷ []) back to from 1 refl refl) $ split
        ! $
        use1 𝓛 (some (λ (w : Val). given (Good E w) (‵ (fat full_share (elτ E) b to w) ⊛ ‵ (E.row.own_val x (w ∷ [])))))
        (value_out E 𝓛 b x to) $
        pick ! (λ w. learn ! (λ good. split ! $ rewrite ! 2 (λ (k : ℕ). ‵ (run_of E 𝓛 at_mem run k back b from)) rest
        refl $
        -- [the place; what its value owns; the values after it; those before it; the room; the token; the handle; the
        -- block's cell; the open borrow; obs; auth; the other token]
        first ! $ blocks ! $
        sets ! (of_opd ! (load ! (through ! refl (fld ! refl (stop !))) (look_in ! 7 (sub ! 0 refl (whole !))))) refl
        (tt, tt) $
        sets ! (bin ! (get ! refl) (size_lit ! (record { fits = tiny })) (record { fits = fm })) refl
        (tt, record { fits = fm }) $
        sets ! (bin ! (get ! refl) (get ! refl) tt) refl (tt, tt) $
        sets ! (of_opd ! (load ! (through ! refl (stop !)) (look ! 0 refl))) refl good $
        sets ! (bin ! (lit ! tt) (size_lit ! (record { fits = tiny })) (record { fits = unit })) refl
        (tt, record { fits = unit }) $
        sets ! (bin ! (get ! refl) (get ! refl) tt) refl (tt, tt) $
        sets ! (bin ! (get ! refl) (lit ! tt) (omega arith)) refl (tt, record { fits = fl' }) $
        sets ! (bin ! (get ! refl) (get ! refl) (omega arith)) refl (tt, record { fits = fn }) $
        use1 𝓛 (‵ (froom (elτ E) b to)) (𝓛.laws.at_room (elτ E) b to w) $ use1 𝓛 (‵ (space E 1 b to))
        (one_space E 𝓛 b to) $
        move ! (2 ∷ 0 ∷ 11 ∷ []) $ use3 𝓛 (raw ((Copies E 𝓛 at_mem run).pre
        (at_down E 𝓛 at_mem run κ₁ q₁ b from to n back refl)))
        (down-goes E 𝓛 at_mem run κ₁ q₁ b from to n back refl lives fn within) $
        calls_at ! (fm_of 𝓤 H 𝓛.laws 𝓣) (Copies E 𝓛 at_mem run) callee
        (at_down E 𝓛 at_mem run κ₁ q₁ b from to n back refl)
        (and_then ! (get ! refl) (and_then ! (get ! refl) (and_then ! (get ! refl) (no_more !)))) (λ u.
        use1 𝓛 (later (given (u ≡ vunit) (‵ (fsep (run_of E 𝓛 at_mem run n back b to) (space E 1 b (n * s + to))) ⊛ ‵
        (flft κ₁ q₁)))) (down-gives E 𝓛 at_mem run κ₁ q₁ b from to n back refl u) $ await ! tt $ learn !
        (λ e. split ! $ fsplit ! $
        -- [the values that moved; the place after them; the other token; what the value owns; the values before; the
        -- room; the token; the handle; the block's cell; the open borrow; obs; auth]
        lands_as ! e refl (tt, tt) $ sets_last ! (of_opd ! (get ! refl)) refl good $
        exec ! 𝓣.C 𝓣.Λ En (after 1 here.body) (at_ret En Post) $ sets ! (of_opd ! (get ! refl)) refl good $
        rewrite ! 0 (λ (k : ℕ). ‵ (run_of E 𝓛 at_mem run k back b to)) (sym rest) refl $ move ! (4 ∷ 0 ∷ []) $
        use2 𝓛 (‵ (vals E new b o)) (glue E 𝓛 b front back o to i long refl) $ move ! (1 ∷ 4 ∷ []) $
        use2 𝓛 (‵ (space E (32 - length new) b (o + length new * s)))
        (wider_space E 𝓛 b o (length new) (length xs) 1 (n * s + to) shrunk most ends) $
        move ! (1 ∷ 0 ∷ 4 ∷ 5 ∷ 6 ∷ 7 ∷ 8 ∷ 9 ∷ []) $ block_closes E ! tt new g b o rb ro (omega arith) fit $ returns !
        (look_at ! 0 refl) $ free_all ! refl $
        suffices ! _ (ends_at 𝓛 ended stayed held (spelled z) w x (new, (tt, (tt, tt))) (tt, (tt, (tt, tt)))) $ says_two
        ! (any-default xs i d x li, refl) $
        feq_i ! (List Val) (vptr rb ro ∷ []) (vptr rb ro ∷ []) refl $ fjoin3 ! $ nothing ! $ nothing ! $ fjoin ! $
        nothing ! $ fjoin ! $ move ! (1 ∷ 0 ∷ []) $ fjoin ! $
        nothing ! $ move ! (3 ∷ 0 ∷ []) $ join ! $ move ! (2 ∷ 0 ∷ []) $ join ! $ done !)))))))))

    meets : Meets 𝓛 ended.signature (WpFn 𝓤 H 𝓣.C 𝓣.Λ here) (closing 𝓛 ended held)
    meets =
        let word = Goes-dropped 𝓛 2 (plain (λ _. usize)) yes (λ κs x f. refl) in
        walk_Meets 𝓛 ended stayed (Goes-ref 𝓛 2 0 tt (plain (λ _. Br E)), (word, (word, tt))) held
        (WpFn 𝓤 H 𝓣.C 𝓣.Λ here) (WpFn-mono 𝓤 H 𝓛.laws 𝓣 here)
        (walked 𝓛 ended stayed held (WpFn 𝓤 H 𝓣.C 𝓣.Λ here) (λ κs. (mut_vals, (uint_vals w64, (uint_vals w64, tt))))
        (λ κs. (mut_Tells (named 0) κs.0 (Br E), (uint_Tells w64, (uint_Tells w64, tt))))
        (λ κs qs bounds a g are. walk (
          (
            κs,
            qs,
            bounds,
            a,
            (mut_vals a.0, (uint_vals w64 a.1.0, (uint_vals w64 a.1.1.0, tt))),
          ),
          g,
        ) are.1.0.1 are.1.1.0.1))

pub remove_spec : {M : Type 1} → stated.statement M
unfolding tables_of
remove_spec 𝓤 𝓛 𝓜 𝓡 wired X L _ g₀ d₀ _ =
    let E : El = record { row = X; laws = L } in
    let 𝓣 : Tables 𝓤 𝓛.H = tables_of 𝓤 𝓛.H 𝓜 (tables 𝓤 𝓛.H 𝓜 𝓡 𝓡.env) in
    entered 𝓤 𝓛.H (triple_of 𝓛 (F.signature X) (F.spec X g₀ d₀ 𝓛 𝓜.mem 𝓡.returns)) 𝓣.C 𝓣.Λ (#self (args E g₀ d₀))
    (here E g₀ d₀) (code.unfolded 𝓤 𝓛.H 𝓜 𝓡 wired (X, tt) d₀)
    (meets E g₀ d₀ 𝓛 𝓜.mem 𝓡.returns 𝓣 (copy_thm.met 𝓤 𝓛 𝓜 𝓡 (code.calls-core::ptr::copy 𝓡.env wired) X L))
