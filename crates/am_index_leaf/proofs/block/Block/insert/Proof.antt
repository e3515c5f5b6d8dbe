-- `insert` hands `copy` the values from `at` on and one place of the room, and writes where they stood. Assumes
-- `Logic`.
use mathlib.Core.Path.{◌≡◌, refl, sym, subst, ap}
use mathlib.Core.Bool.{true}
use Prim.Native.Nat.{ℕ, ◌+◌, ◌*◌, ◌<◌, ◌≤◌, ◌^◌, ◌-◌}
use native.Mathlib.Omega.{arith}
use mathlib.Core.List.{List, [], ◌∷◌, ◌++◌}
use lib.ListN.{length, take, drop as drop_l, length-drop, length-append, take-append-drop}
use lib.Seq.{length-take-le}
use mir.Syntax.{Fn, Args, Dict, a_type, dcons, dnil, w64}
use mir.Val.{Val, vunit, vint, vptr}
use base.Fml.{ftrue, fsep, froom, flft}
use seplogic.Ra.Ura.{Ura}
use mir.MapTy.{inst_fn}
use base.Logic.{SProp, ent}
use prog.Memory.{Memory}
use prog.Routine.{Routine}
use prog.Wp.{Env, WpFn, Tables}
use types.Logic.{Logic}
use contract.BorrowLft.{◌⊑◌}
use contract.Monad.{Fun, fact}
use contract.Running.{tables, tables_of}
use denote.Param.{bounded, copied}
use denote.RattleType.{owns}
use denote.Signature.{plain, types_at}
use denote.Steps.{heard, nothing}
use denote.Triple.Clauses.{Clauses, Ended, closing}
use denote.Triple.Spec.{Meets, triple_of}
use denote.Triple.Table.{entered}
use sound.WpLaws.{fm_of, WpFn-mono}
use types.Kit.{‵, raw, ◌⊛◌, given, later, at_ret, ◌$◌, ◌∵◌, !, qed, move, keep, use1, use2, use3, split, split3, join}
use types.Kit.{learn, await, rewrite, fsplit, fsplit3, fjoin, fjoin3, feq_i, suffices, done}
use types.Part.{whole, sub, look_in}
use types.Run.{init, lit, no_more, and_then, stop, fld, load, size_lit, unit_lit, of_opd, bin, assigns_last, first}
use types.Run.{blocks, exec, returns, enter}
use types.ByLocal.{alloc_all, pass_all, free_all, look_at, get, through, sets, lands_as, env}
use denote.Exit.{yes, no}
use denote.Builtin.{usize}
use denote.Triple.Entry.{Vals}
use denote.Triple.Call.{calls_at}
use denote.Triple.Statement.{Triple}
use denote.Triple.Walked.{Stays, says, stay_dropped, stay_ref, walk_of, ends_at, Goes-dropped, Goes-ref, walk_Meets}
use Rattle.core.specs.declared.clone.Clone.{Ghosts}
use Rattle.core.proofs.mem.Param.{El, el_x, elτ, Good, lawful, one}
use Rattle.core.proofs.ptr.Rows.{times_below, one_below, add_times}
use Rattle.core.proofs.slots.Bodies.{after, knowing}
use Rattle.am_index_leaf.proofs.Memory.{Br, sz, vals, space, block_opens, block_closes, cut, glue, value_in, space_one}
use Rattle.am_index_leaf.proofs.Memory.{first_space}
use Rattle.am_index_leaf.proofs.Moves.{copies_key, Copies, at_copy, run_of, up-goes, up-gives}
use Rattle.core.proofs.ptr.copy.Met as copy_thm
use Rattle.am_index_leaf.specs.contracts.block.Block.insert as F
use Rattle.am_index_leaf.specs.contracts.block.Block.insert.Key.{name as #self}
use Rattle.am_index_leaf.proofs.block.Block.insert.Statement as stated
use Rattle.am_index_leaf.proofs.block.Block.insert.Code as code

module _ (E : El) (g₀ : Ghosts (el_x E)) (d₀ : Dict) where
  abbrev args : Args
  args = bounded (a_type ∷ []) (E.row, tt) (dcons d₀ dnil)

  abbrev here : Fn
  here = inst_fn args code.function

  abbrev ended : Ended
  ended = F.ended E.row g₀ d₀

  abbrev stayed : Stays ended.signature.params ended.kept
  stayed = (
    stay_ref (0 ∷ []) tt (plain (λ _. Br E)),
    (
      stay_dropped (plain (λ _. usize)) yes,
      (
        stay_dropped (plain (λ _. usize)) yes,
        (stay_dropped (plain (λ _. copied 0 E.row)) no, tt),
      ),
    ),
  )

  module _ {M : Type 1} {𝓤 : Ura M} (𝓛 : Logic 𝓤) (at_mem : Memory → SProp 𝓤) (run : Routine → Fun 𝓤) (𝓣 : Tables 𝓤 𝓛.H)
      (callee : Triple 𝓤 (𝓣.C (copies_key E)) (Copies E 𝓛 at_mem run)) where
    open 𝓛 use {H}

    abbrev held : Clauses 𝓤 ended
    held = F.clauses E.row g₀ d₀ 𝓛 at_mem run

    abbrev Bound : Type 0
    Bound = (walk_of 𝓛 ended stayed held).Ghost

    abbrev Goes : Bound → Type 1
    Goes y = ent 𝓤 ((walk_of 𝓛 ended stayed held).pre y)
        (WpFn 𝓤 H 𝓣.C 𝓣.Λ here ((walk_of 𝓛 ended stayed held).args y) ((walk_of 𝓛 ended stayed held).post y))

    abbrev at : (z : Bound) → Vals ended.signature z.0.0 → Bound
    at z vss = ((z.0.0, z.0.1, z.0.2, z.0.3, vss), z.1)

    abbrev spelled : Bound → Val → Bound
    spelled z v = at z (
      vptr z.0.3.0.ref_ptr.0 z.0.3.0.ref_ptr.1 ∷ [],
      (vint w64 z.0.3.1.0 ∷ [], (vint w64 z.0.3.1.1.0 ∷ [], (v ∷ [], tt))),
    )

    walk : (z : Bound) → z.0.3.1.0 < 2 ^ 64 → z.0.3.1.1.0 < 2 ^ 64 → (v : Val) → Good E v → Goes (spelled z v)
    walk z fl fi v tv =
        let κ = z.0.0.0 in let κ₁ = z.0.0.1.0 in let q = z.0.1.0 in let q₁ = z.0.1.1.0 in
        let rb : ℕ = z.0.3.0.ref_ptr.0 in let ro : ℕ = z.0.3.0.ref_ptr.1 in let xs : List (el_x E) = z.0.3.0.now in
        let len : ℕ = z.0.3.1.0 in let i : ℕ = z.0.3.1.1.0 in let x : el_x E = z.0.3.1.1.1.0 in
        let Post : Val → SProp 𝓤 = (walk_of 𝓛 ended stayed held).post (spelled z v) in
        let s : ℕ = sz E in let front : List (el_x E) = take i xs in let back : List (el_x E) = drop_l i xs in
        let new : List (el_x E) = front ++ x ∷ back in
        qed 𝓛 (((‵ (flft κ q) ⊛ ‵ (flft κ₁ q₁) ⊛ ‵ ftrue) ⊛ ‵
        (owns (types_at ended.signature.params z.0.0) z.0.3 (spelled z v).0.4)) ∷
        (raw (fact 𝓤 (κ₁ ⊑ E.row.lives)) ⊛ raw (fact 𝓤 (len ≡ length xs)) ⊛ raw (fact 𝓤 (len < 32)) ⊛ raw
        (fact 𝓤 (i ≤ len))) ∷ []) ∵
        move ! (1 ∷ []) $ split ! $ heard ! (κ₁ ⊑ E.row.lives)
        (λ lives. split ! $ heard ! (len ≡ length xs)
        (λ all. split ! $ heard ! (len < 32) (λ short. heard ! (i ≤ len) (λ le.
        let n : ℕ = len - i in
        let long : length front ≡ i = length-take-le i xs (omega arith) in
        let rest : length back ≡ n = omega (arith, length-drop i xs) in
        split ! $ split3 ! $ move ! (3 ∷ []) $ fsplit3 ! $ move ! (2 ∷ []) $ fsplit3 ! $ move ! (3 ∷ []) $ fsplit3 ! $
        keep ! (1 ∷ 2 ∷ 7 ∷ 4 ∷ 8 ∷ []) $
        enter ! 𝓣.C 𝓣.Λ here (vptr rb ro ∷ vint w64 len ∷ vint w64 i ∷ v ∷ []) _ $ alloc_all !
        (λ l. pass_all ! refl ((tt, tt), ((tt, record { fits = fl }), ((tt, record { fits = fi }), (tv, tt)))) $
        let En : Env 𝓤 H = env here.locals l in
        block_opens E ! tt xs rb ro (λ g b o most fit start.
        let small : s < 2 ^ 63 = one_below 32 s (2 ^ 63) (omega arith) fit in let tiny : s < 2 ^ 64 = omega arith in
        let unit : 1 * s < 2 ^ 64 = omega arith in
        let part : i * s < 2 ^ 63 = times_below i 32 s (2 ^ 63) (omega arith) fit in
        let fm : i * s < 2 ^ 64 = omega arith in
        let src : ℕ = i * s + o in let dst : ℕ = 1 * s + src in
        let sum : n + i ≡ length xs = omega arith in let ends : n * s + src ≡ length xs * s + o =
        omega (arith, add_times n i s, ap (λ (k : ℕ). k * s) sum) in
        let wide : (length xs + 1) * s < 2 ^ 63 = times_below (length xs + 1) 32 s (2 ^ 63) (omega arith) fit in
        let within : (n + 1) * s + src < 2 ^ 63 = omega (
          arith,
          add_times n 1 s,
          add_times (length xs) 1 s,
          ends,
          start,
          wide,
        ) in
        let fn : n < 2 ^ 64 = omega arith in
        let grown : length new ≡ length xs + 1 = omega (arith, length-append front (x ∷ back)) in
        rewrite ! 0 (λ (ys : List (el_x E)). ‵ (vals E ys b o)) (sym (take-append-drop i xs)) refl $
        use1 𝓛 (‵ (vals E front b o) ⊛ ‵ (vals E back b src)) (cut E 𝓛 b front back o src i long refl) $ split ! $ move
        ! (2 ∷ []) $
        use1 𝓛 (‵ (space E 1 b (n * s + src)) ⊛ ‵ (space E (32 - (length xs + 1)) b (o + (length xs + 1) * s)))
        (first_space E 𝓛 b o (length xs) (n * s + src) (omega arith) (sym ends)) $ split ! $
        move ! (3 ∷ 0 ∷ []) $ rewrite ! 0 (λ (k : ℕ). ‵ (run_of E 𝓛 at_mem run k back b src)) rest refl $
        -- [the values that move; room for one after them; the other room; the values before; the token; the handle; the
        -- block's cell; the open borrow; obs; auth; what x owns; the other token]
        first ! $ blocks ! $
        sets ! (of_opd ! (load ! (through ! refl (fld ! refl (stop !))) (look_in ! 6 (sub ! 0 refl (whole !))))) refl
        (tt, tt) $
        sets ! (bin ! (get ! refl) (size_lit ! (record { fits = tiny })) (record { fits = fm })) refl
        (tt, record { fits = fm }) $
        sets ! (bin ! (get ! refl) (get ! refl) tt) refl (tt, tt) $
        sets ! (bin ! (lit ! tt) (size_lit ! (record { fits = tiny })) (record { fits = unit })) refl
        (tt, record { fits = unit }) $
        sets ! (bin ! (get ! refl) (get ! refl) tt) refl (tt, tt) $
        sets ! (bin ! (get ! refl) (get ! refl) le) refl (tt, record { fits = fn }) $
        move ! (0 ∷ 1 ∷ 11 ∷ []) $ use3 𝓛 (raw ((Copies E 𝓛 at_mem run).pre
        (at_copy E 𝓛 at_mem run κ₁ q₁ b src dst n back true)))
        (up-goes E 𝓛 at_mem run κ₁ q₁ b src dst n back lives fn (refl, within)) $
        calls_at ! (fm_of 𝓤 H 𝓛.laws 𝓣) (Copies E 𝓛 at_mem run) callee
        (at_copy E 𝓛 at_mem run κ₁ q₁ b src dst n back true)
        (and_then ! (get ! refl) (and_then ! (get ! refl) (and_then ! (get ! refl) (no_more !)))) (λ w.
        use1 𝓛 (later (given (w ≡ vunit) (‵ (fsep (run_of E 𝓛 at_mem run n back b dst) (space E 1 b src)) ⊛ ‵
        (flft κ₁ q₁)))) (up-gives E 𝓛 at_mem run κ₁ q₁ b src dst n back w) $ await ! tt $ learn !
        (λ e. split ! $ fsplit ! $
        lands_as ! e refl (tt, tt) $
        move ! (1 ∷ []) $ use1 𝓛 (‵ (froom (elτ E) b src)) (space_one E 𝓛 b src) $
        -- [the place; the values that moved; the other token; the other room; the values before; the token; the handle;
        -- the block's cell; the open borrow; obs; auth; what x owns]
        assigns_last ! (of_opd ! (get ! refl)) (through ! refl (stop !)) (init ! 0 refl tv) $
        exec ! 𝓣.C 𝓣.Λ En (after 1 here.body) (at_ret En Post) $ sets ! (of_opd ! (unit_lit !)) refl (tt, tt) $
        move ! (0 ∷ 11 ∷ []) $ use2 𝓛 (‵ (vals E (x ∷ []) b src)) (value_in E 𝓛 b x src v) $ rewrite ! 1
        (λ (k : ℕ). ‵ (run_of E 𝓛 at_mem run k back b dst)) (sym rest) refl $
        use2 𝓛 (‵ (vals E (x ∷ back) b src)) (glue E 𝓛 b (x ∷ []) back src dst 1 refl refl) $ move ! (3 ∷ 0 ∷ []) $
        use2 𝓛 (‵ (vals E new b o)) (glue E 𝓛 b front (x ∷ back) o src i long refl) $
        move ! (0 ∷ 2 ∷ 3 ∷ 4 ∷ 5 ∷ 6 ∷ 7 ∷ 8 ∷ []) $ rewrite ! 1 (λ (k : ℕ). ‵ (space E (32 - k) b (o + k * s)))
        (sym grown) refl $
        block_closes E ! tt new g b o rb ro (omega arith) fit $ returns ! (look_at ! 0 refl) $ free_all ! refl $
        suffices ! _ (ends_at 𝓛 ended stayed held (spelled z v) vunit tt (new, (tt, (tt, (tt, tt))))
        (tt, (tt, (tt, (tt, tt))))) $ says ! refl $
        feq_i ! (List Val) (vptr rb ro ∷ []) (vptr rb ro ∷ []) refl $ fjoin3 ! $ nothing ! $ nothing ! $ fjoin ! $
        nothing ! $ fjoin ! $ nothing ! $ fjoin ! $ move ! (1 ∷ 0 ∷ []) $ fjoin ! $
        nothing ! $ move ! (3 ∷ 0 ∷ []) $ join ! $ move ! (2 ∷ 0 ∷ []) $ join ! $ feq_i ! (List Val) (vunit ∷ [])
        (vunit ∷ []) refl $ keep ! (1 ∷ 2 ∷ 0 ∷ []) $ done !))))))))

    meets : Meets 𝓛 ended.signature (WpFn 𝓤 H 𝓣.C 𝓣.Λ here) (closing 𝓛 ended held)
    meets =
        let word = Goes-dropped 𝓛 2 (plain (λ _. usize)) yes (λ κs x f. refl) in
        walk_Meets 𝓛 ended stayed (
          Goes-ref 𝓛 2 0 tt (plain (λ _. Br E)),
          (word, (word, (Goes-dropped 𝓛 2 (plain (λ _. copied 0 E.row)) no (λ κs x f. refl), tt))),
        ) held
        (WpFn 𝓤 H 𝓣.C 𝓣.Λ here) (WpFn-mono 𝓤 H 𝓛.laws 𝓣 here)
        (λ z. let a = z.0.3 in let vss = z.0.4 in
        knowing 𝓛 ended stayed held (WpFn 𝓤 H 𝓣.C 𝓣.Λ here) z (λ are.
        let got = one E vss.1.1.1.0 ((lawful E 𝓛).typed a.1.1.1.0 vss.1.1.1.0 are.1.1.1.0) in
        subst (λ (uss : Vals ended.signature z.0.0). Goes (at z uss))
        (sym (λ k. (are.0.0 k, (are.1.0.0 k, (are.1.1.0.0 k, (got.1 k, tt))))))
        (walk z are.1.0.1 are.1.1.0.1 got.0 got.2)))

pub insert_spec : {M : Type 1} → stated.statement M
unfolding tables_of
insert_spec 𝓤 𝓛 𝓜 𝓡 wired X L _ g₀ d₀ _ =
    let E : El = record { row = X; laws = L } in
    let 𝓣 : Tables 𝓤 𝓛.H = tables_of 𝓤 𝓛.H 𝓜 (tables 𝓤 𝓛.H 𝓜 𝓡 𝓡.env) in
    entered 𝓤 𝓛.H (triple_of 𝓛 (F.signature X) (F.spec X g₀ d₀ 𝓛 𝓜.mem 𝓡.returns)) 𝓣.C 𝓣.Λ (#self (args E g₀ d₀))
    (here E g₀ d₀) (code.unfolded 𝓤 𝓛.H 𝓜 𝓡 wired (X, tt) d₀)
    (meets E g₀ d₀ 𝓛 𝓜.mem 𝓡.returns 𝓣 (copy_thm.met 𝓤 𝓛 𝓜 𝓡 (code.calls-core::ptr::copy 𝓡.env wired) X L))
