-- The heap's `allocate` and `deallocate` at a call, by a handle that lies in a local. Assumes `Logic`.
--     lends_handle, takes_handle     the handle is lent for a new lifetime, and comes back
-- Takes, takes-goes, takes-gives, answer     `allocate`: what it is handed, what a caller has of it, and its two
-- answers
--     Gives, gives-goes, gives-gives             `deallocate`
use mathlib.Core.Path.{◌≡◌, refl, ap, ◌∙◌}
use mathlib.Core.Bool.{true, false}
use Prim.Native.Nat.{ℕ, ◌<◌, ◌^◌}
use mathlib.Core.List.{List, [], ◌∷◌, ◌++◌}
use seplogic.Ra.Ura.{Ura}
use base.Fraction.{full_share}
use mir.Syntax.{Ty, w64, given as dict}
use mir.Val.{Val, vunit, vint, vptr, of_list}
use base.Logic.{SProp, ent, sep, ex, wand, guard, emp, id⊢, fst∗, never, apply∗}
use base.Fml.{Lft, Share, Fml, ftrue, fsep, fat, froom, flft}
use prog.Memory.{Memory}
use prog.Routine.{Routine}
use types.Logic.{Logic, sem}
use types.Match.{live}
use contract.BorrowLft.{◌⊑◌}
use contract.Monad.{Fun, fact, fact_i}
use types.Kit.{Goal, Soaks, Seq, Step, step, Item, ‵, raw, ◌⊛◌, some, later, ◌$◌, ◌∵◌, !, qed, move, keep, drop}
use types.Kit.{use0, use1, use2, split, split3, join, pick, rewrite, fsplit, fjoin, fpick, feq_l, feq_i, flt_i}
use types.Kit.{check, mean, show, await, updating, now as at_once, done}
use denote.Laws.{Is, shows}
use denote.Memory.{part_at, hidden_shr}
use denote.Param.{layout, param}
use denote.RawPtr.{Ptr, block_ptr, null_ptr, ptr_val, in_a_block}
use denote.Builtin.{unit}
use denote.Steps.{only, nothing, peeks}
use denote.Triple.Spec.{triple_of}
use denote.Triple.Statement.{Contract}
use borrow.Table.OneValue.{part_in, part_out}
use Rattle.core.specs.Allocator.{HasLayout, block_if_ok, owned_block}
use Rattle.core.proofs.alloc.Calls.{Al, Answer, answer_val, Lent, lends}
use Rattle.std.specs.Prelude.{Ok, Err}
use Rattle.std.specs.declared.alloc.Global.{Global}
use Rattle.std.specs.contracts.alloc.Global as Handle
use Rattle.std.specs.contracts.impls.GlobalAllocator.TheImpl.{ghosts}
use Rattle.std.specs.contracts.impls.GlobalAllocator.allocate as take
use Rattle.std.specs.contracts.impls.GlobalAllocator.deallocate as give
use Rattle.std.proofs.alloc.Global.TheLaws.{the_row_laws}
use Rattle.std.proofs.Handle.{heap_val, heap_Tells}
use Rattle.am_index_leaf.proofs.Memory.{handle}

-- the handle as an allocator. Nothing is asked of its methods here
abbrev Z : Al
Z = record { row = Handle.the_row; laws = the_row_laws; g = ghosts; d = dict 0; drops = dict 0 }

abbrev handle_ty : Ty
handle_ty = layout Handle.the_row

module _ {M : Type 1} {𝓤 : Ura M} (𝓛 : Logic 𝓤) (κ : Lft) (q : Share) (l : ℕ) (g : Global) where
  open 𝓛 use {H, A}

  abbrev Whole : Fml
  Whole = part_at (param 0 Handle.the_row) full_share g l 0

  -- the way back
  abbrev pub Way : ℕ × Share → Item 𝓤
  Way n = raw (wand 𝓤 (A.lft (n.0 ∷ κ) n.1) (H.⇛ (sep 𝓤 (sem 𝓛 Whole) (A.lft κ q))))

module _ {M : Type 1} {𝓤 : Ura M} {𝓛 : Logic 𝓤} {K : Type 0} {Γ : List (Item 𝓤)} {G : Goal 𝓤 𝓛.H} (κ : Lft) (q : Share)
    (l : ℕ) (g : Global) where
  open 𝓛 use {H, A}

  pub lends_handle : K → Soaks G → κ ⊑ (Handle.the_row).lives
      → ((n : ℕ × Share) → Seq K 𝓛 (‵ (hidden_shr Handle.the_row (n.0 ∷ κ) g l 0) ∷ ‵ (flft (n.0 ∷ κ) n.1) ∷ Way 𝓛 κ q l
      g n ∷ Γ) G)
      → Seq K 𝓛 (‵ (fat full_share handle_ty l 0 heap_val) ∷ ‵ (handle g) ∷ ‵ (flft κ q) ∷ Γ) G
  lends_handle t z le next =
      use2 𝓛 (‵ (Whole 𝓛 κ q l g)) (part_in 𝓛 (param 0 Handle.the_row) refl full_share g l 0 heap_val) $
      use2 𝓛 (later (some (λ (n : ℕ × Share). raw (Lent Z 𝓛 κ q (l, 0) g n)))) (lends Z 𝓛 κ q le (l, 0) g) $ await t z $
      pick t (λ n.
      use1 𝓛 (‵ (hidden_shr Handle.the_row (n.0 ∷ κ) g l 0) ⊛ ‵ (flft (n.0 ∷ κ) n.1) ⊛ Way 𝓛 κ q l g n) (id⊢ 𝓤 _) $
      split3 t $ next n)

  pub takes_handle : K → Soaks G → (n : ℕ × Share) →
      Step K 𝓛 (‵ (fat full_share handle_ty l 0 heap_val) ∷ ‵ (handle g) ∷ ‵ (flft κ q) ∷ Γ) G
      (‵ (flft (n.0 ∷ κ) n.1) ∷ Way 𝓛 κ q l g n ∷ Γ) G
  takes_handle t z n = step (λ next.
      use2 𝓛 (later (‵ (Whole 𝓛 κ q l g) ⊛ ‵ (flft κ q)))
      (apply∗ 𝓤 (A.lft (n.0 ∷ κ) n.1) (H.⇛ (sep 𝓤 (sem 𝓛 (Whole 𝓛 κ q l g)) (A.lft κ q)))) $ await t z $ split t $
      use1 𝓛 (some (λ (v : Val). ‵ (fat full_share handle_ty l 0 v) ⊛ ‵ ((Handle.the_row).own_val g (v ∷ []))))
      (part_out 𝓛 (param 0 Handle.the_row) refl full_share g l 0) $ pick t (λ v. split t $ move t (1 ∷ []) $
      peeks t Handle.the_row (Is Handle.the_row) (shows 𝓛 Handle.the_row) g (v ∷ []) (λ is.
      rewrite t 0 (λ (us : List Val). ‵ ((Handle.the_row).own_val g us)) (heap_Tells g (v ∷ []) is) refl $
      rewrite t 1 (λ (w : Val). ‵ (fat full_share handle_ty l 0 w)) (ap only (heap_Tells g (v ∷ []) is)) refl $ move t
      (1 ∷ 0 ∷ []) $ next)))

module _ {M : Type 1} {𝓤 : Ura M} (𝓛 : Logic 𝓤) (at_mem : Memory → SProp 𝓤) (run : Routine → Fun 𝓤) where
  open 𝓛 use {H, A}

  abbrev pub Takes : Contract 𝓤
  Takes = triple_of 𝓛 take.signature (take.spec 𝓛 at_mem run)

  abbrev pub Gives : Contract 𝓤
  Gives = triple_of 𝓛 give.signature (give.spec 𝓛 at_mem run)

  module _ (κ : Lft) (q : Share) (l : ℕ) (g : Global) (s al : ℕ) (τ : Ty) where
    abbrev pub at_takes : Takes.Ghost
    at_takes = (
      (
        (κ, tt),
        (q, tt),
        tt,
        (record { ref_ptr = (l, 0); now = g }, (s, (al, tt))),
        (vptr l 0 ∷ [], (vint w64 s ∷ [], (vint w64 al ∷ [], tt))),
      ),
      τ,
    )

    pub takes-goes : HasLayout τ s al → s < 2 ^ 64 → al < 2 ^ 64 →
        ent 𝓤 (sep 𝓤 (sem 𝓛 (hidden_shr Handle.the_row κ g l 0)) (A.lft κ q)) (Takes.pre at_takes)
    takes-goes fits fs fa =
        qed 𝓛 (‵ (hidden_shr Handle.the_row κ g l 0) ∷ ‵ (flft κ q) ∷ []) ∵ use0 𝓛 (raw (fact 𝓤 (HasLayout τ s al)))
        (fact_i 𝓤 (HasLayout τ s al) (emp 𝓤) fits) $
        nothing ! $ flt_i ! al (2 ^ 64) fa $ feq_i ! (List Val) (vint w64 al ∷ []) (vint w64 al ∷ []) refl $ fjoin ! $
        fjoin ! $
        flt_i ! s (2 ^ 64) fs $ feq_i ! (List Val) (vint w64 s ∷ []) (vint w64 s ∷ []) refl $ fjoin ! $ fjoin ! $ move !
        (2 ∷ []) $ feq_i ! (List Val) (vptr l 0 ∷ []) (vptr l 0 ∷ []) refl $ fjoin ! $ move ! (0 ∷ 1 ∷ []) $ fjoin ! $
        nothing ! $ move ! (3 ∷ 0 ∷ []) $ join ! $ join ! $ done !

    -- what a caller has of an answer v
    abbrev pub Had : Val → Answer.Denot → Item 𝓤
    Had v r = ‵ (Answer.own_val r (v ∷ [])) ⊛ ‵ (block_if_ok (ghosts.dealloc_token g) τ r) ⊛ ‵ (flft κ q)

    pub takes-gives : (v : Val) → ent 𝓤 (Takes.post at_takes v) (H.⇛ (ex 𝓤 (λ (r : Answer.Denot). mean 𝓛 (Had v r))))
    takes-gives v =
        qed 𝓛 (raw (Takes.post at_takes v) ∷ []) ∵ updating ! $
        use1 𝓛 (later (some (λ (r : Answer.Denot). ((‵ (flft κ q) ⊛ ‵ ftrue) ⊛ ‵ (Answer.own_val r (v ∷ [])))
        ⊛ some (λ (ws : Unit {0} × (Unit {0} × (Unit {0} × Unit {0}))). ‵ (fsep ftrue (fsep ftrue (fsep ftrue ftrue))) ⊛
        ‵ (block_if_ok (ghosts.dealloc_token g) τ r))))) (id⊢ 𝓤 _) $ await ! tt $ pick ! (λ r.
        split ! $ move ! (1 ∷ []) $ pick ! (λ ws. split ! $ drop ! $ move ! (1 ∷ []) $ split ! $ split ! $ at_once ! $
        show ! (λ (r' : Answer.Denot). mean 𝓛 (Had v r')) r $ keep ! (2 ∷ 3 ∷ 0 ∷ []) $ done !))

  module _ (κ : Lft) (q : Share) (l : ℕ) (g : Global) (b o s al : ℕ) (τ : Ty) where
    abbrev pub at_gives : Gives.Ghost
    at_gives = (
      (
        (κ, tt),
        (q, tt),
        tt,
        (record { ref_ptr = (l, 0); now = g }, (block_ptr b o, (s, (al, tt)))),
        (vptr l 0 ∷ [], (vptr b o ∷ [], (vint w64 s ∷ [], (vint w64 al ∷ [], tt)))),
      ),
      τ,
    )

    pub gives-goes : HasLayout τ s al → s < 2 ^ 64 → al < 2 ^ 64
        → ent 𝓤 (sep 𝓤 (H.room τ b o) (sep 𝓤 (sem 𝓛 (ghosts.dealloc_token g τ (block_ptr b o)))
        (sep 𝓤 (sem 𝓛 (hidden_shr Handle.the_row κ g l 0)) (A.lft κ q)))) (Gives.pre at_gives)
    gives-goes fits fs fa =
        qed 𝓛 (‵ (froom τ b o) ∷ ‵ (ghosts.dealloc_token g τ (block_ptr b o)) ∷ ‵ (hidden_shr Handle.the_row κ g l 0) ∷
        ‵ (flft κ q) ∷ []) ∵ fjoin ! $
        use0 𝓛 (raw (fact 𝓤 (HasLayout τ s al))) (fact_i 𝓤 (HasLayout τ s al) (emp 𝓤) fits) $ join ! $
        nothing ! $ flt_i ! al (2 ^ 64) fa $ feq_i ! (List Val) (vint w64 al ∷ []) (vint w64 al ∷ []) refl $ fjoin ! $
        fjoin ! $
        flt_i ! s (2 ^ 64) fs $ feq_i ! (List Val) (vint w64 s ∷ []) (vint w64 s ∷ []) refl $ fjoin ! $ fjoin ! $
        feq_i ! (List Val) (vptr b o ∷ []) (vptr b o ∷ []) refl $ fjoin ! $ move ! (2 ∷ []) $ feq_i ! (List Val)
        (vptr l 0 ∷ []) (vptr l 0 ∷ []) refl $ fjoin ! $ move ! (0 ∷ 1 ∷ []) $ fjoin ! $
        nothing ! $ move ! (3 ∷ 0 ∷ []) $ join ! $ join ! $ done !

    pub gives-gives : (v : Val) → ent 𝓤 (Gives.post at_gives v) (H.⇛ (guard 𝓤 (v ≡ vunit) (A.lft κ q)))
    gives-gives v =
        qed 𝓛 (raw (Gives.post at_gives v) ∷ []) ∵ updating ! $
        use1 𝓛 (later (some (λ (r : Unit {0}). ((‵ (flft κ q) ⊛ ‵ ftrue) ⊛ ‵ (unit.own_val r (v ∷ [])))
        ⊛ some (λ (ws : Unit {0} × (Unit {0} × (Unit {0} × (Unit {0} × Unit {0})))). ‵
        (fsep ftrue (fsep ftrue (fsep ftrue (fsep ftrue ftrue)))) ⊛ ‵ ftrue)))) (id⊢ 𝓤 _) $ await ! tt $ pick !
        (λ r.
        split ! $ split ! $ move ! (1 ∷ []) $ feq_l ! (λ e. split ! $ at_once ! $ check ! (ap only e) $ keep ! (0 ∷ [])
        $ done !))

module _ {M : Type 1} {𝓤 : Ura M} {𝓛 : Logic 𝓤} {K : Type 0} {Γ : List (Item 𝓤)} {G : Goal 𝓤 𝓛.H} (g : Global) (τ : Ty)
    (v : Val) where
  pub answer : K → (r : Answer.Denot)
      → ((b o : ℕ) → v ≡ answer_val true b o → Seq K 𝓛 (‵ (froom τ b o) ∷ ‵ (ghosts.dealloc_token g τ (block_ptr b o)) ∷
      Γ) G) → (v ≡ answer_val false 0 0 → Seq K 𝓛 Γ G)
      → Seq K 𝓛 (‵ (Answer.own_val r (v ∷ [])) ∷ ‵ (block_if_ok (ghosts.dealloc_token g) τ r) ∷ Γ) G
  answer t (Ok p) ok refused =
      fpick t (λ us. fsplit t $ feq_l t (λ e. fpick t
      (λ vss. fsplit t $ feq_l t (λ e'. fsplit t $ feq_l t (λ e''. drop t $
      in_a_block t p (λ z. owned_block (ghosts.dealloc_token g) τ z)
      (fst∗ 𝓤 (never 𝓤) (sem 𝓛 (ghosts.dealloc_token g τ null_ptr))) (λ b o at. fsplit t $
      ok b o (ap only e ∙ ap (λ (ws : List Val). live 0 (of_list ws))
      (e' ∙ ap (λ (ws : List Val). ws ++ []) (e'' ∙ ap (λ (z : Ptr). ptr_val z ∷ []) at)))))))))
  answer t (Err n) ok refused =
      fpick t (λ us. fsplit t $ feq_l t (λ e. fpick t
      (λ vss. fsplit t $ feq_l t (λ e'. fsplit t $ fpick t
      (λ none. fsplit t $ feq_l t (λ e''. drop t $ drop t $ drop t $
      refused (ap only e ∙ ap (λ (ws : List Val). live 1 (of_list ws))
      (e' ∙ ap (λ (ws : List Val). ws ++ []) e''))))))))
