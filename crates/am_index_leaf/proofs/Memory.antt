-- What the walks of a block's functions share, at values of any type. Assumes `Logic`.
-- block_had, block_made        what a block owns is taken apart, and made:  [its values; the room after them; the right
-- to give the memory back; the handle]
--     block_opens, block_closes    the same after a `&mut`
--     block_seen, value_seen       what a `&` to a block reaches: its pointer and its values;  and one of these
-- one_space, space_one, first_space, wider_space, space_cut     room for one value, and room that is cut and made wider
--     cut, glue, alone, single     values side by side are two runs;  and one value is a run
use mathlib.Core.Path.{◌≡◌, refl, sym, ap, subst, ◌∙◌}
use native.Mathlib.Omega.{arith}
use Prim.Native.Nat.{ℕ, zero, suc, ◌+◌, ◌-◌, ◌*◌, ◌≤◌, ◌<◌, ◌^◌}
use native.Mathlib.Nat.{not-suc-le-zero, le_of_suc-le-suc}
use mathlib.Core.List.{List, [], ◌∷◌, ◌++◌}
use lib.ListN.{length, get_or}
use seplogic.Ra.Ura.{Ura}
use base.Fraction.{full_share}
use mir.Syntax.{ty_array}
use mir.Raw.{raw as bare}
use mir.Val.{Val, vptr, vstruct, vcons, vnil, of_list}
use base.Logic.{ent, sep, emp, via, id⊢, never, guard_i}
use contract.Monad.{fact_use}
use base.Stored.{Gv}
use base.Fml.{Lft, GName, Share, Fml, ftrue, fsep, fat, froom, flft, fobs, fauth, fbor, fobor}
use types.Logic.{Logic, sem}
use types.Kit.{Goal, Soaks, Step, step, Seq, Item, ‵, ◌⊛◌, some, pick, given, mean, ◌$◌, ◌∵◌, !, qed, by, move, keep}
use types.Kit.{drop, use1, use2, split, learn, use0, rewrite, fsplit, fjoin, fpick, fpack, feq_l, feq_i, flt_l, flt_i}
use types.Kit.{done}
use types.SemTy.{Body}
use denote.RattleType.{RattleType, Valss}
use denote.Laws.{Is, shows}
use denote.Memory.{cell_at, part_at, shared_of, hidden_shr, each_shared, mem}
use denote.Array.{Array}
use denote.Index.{row, place, place_is}
use denote.RawPtr.{Ptr, RawPtr, block_ptr, null_ptr, ptr_val, in_block, in_a_block}
use denote.Steps.{opens, closes, nothing, peeks}
use denote.Opens.{hide, unhide}
use denote.Struct.Lending.{lent_at}
use denote.Struct.Struct.{Struct, within}
use denote.Struct.Owning.{Owning, shape, to}
use Rattle.std.specs.declared.alloc.Global.{Global}
use Rattle.std.specs.contracts.alloc.Global as Heap
use Rattle.std.specs.contracts.impls.GlobalAllocator.TheImpl.{ghosts}
use Rattle.std.proofs.Handle.{heap_val, heap_Tells}
use Rattle.std.proofs.GlobalToken.{dealloc_token_start}
use Rattle.std.proofs.RawLayout.{as_raw, as_written}
use Rattle.core.specs.Allocator.{block_with_items}
use Rattle.core.proofs.mem.Param.{El, R, el_x, elτ, Good}
use Rattle.core.proofs.ptr.Rows as rows
use Rattle.core.proofs.ptr.Rows.{add_times}
use Rattle.am_index_leaf.specs.Blocks.{block_owns, block_lends}
use Rattle.am_index_leaf.specs.declared.block.Block.TheInside.{Inside as Fields}
use Rattle.am_index_leaf.specs.contracts.block.Block as Block
use Rattle.am_index_leaf.specs.contracts.block.Block.TheInside as Inside
use prog.Memory.{size}

-- a block's machine value: its pointer and its handle
abbrev pub fields_val : Ptr → Val
fields_val p = vstruct (vcons (ptr_val p) (vcons heap_val vnil))

abbrev pub block_val : ℕ → ℕ → Val
block_val b o = fields_val (block_ptr b o)

module _ (E : El) where
  abbrev pub Br : RattleType
  Br = Block.the_row (R E)

  abbrev pub Ir : RattleType
  Ir = Inside.the_row (R E)

  abbrev pub sz : ℕ
  sz = size (elτ E)

  abbrev owning : Owning
  owning = Inside.the_type (R E)

  -- the two data fields, as a plain struct
  abbrev Words : RattleType
  Words = Struct (shape owning)

  -- values side by side
  abbrev pub vals : List (el_x E) → ℕ → ℕ → Fml
  vals xs b o = part_at (Array (R E) (length xs)) full_share xs b o

  -- room for n values
  abbrev pub space : ℕ → ℕ → ℕ → Fml
  space n b o = froom (ty_array (elτ E) n) b o

  abbrev pub token : Global → ℕ → ℕ → Fml
  token g b o = ghosts.dealloc_token g (bare (ty_array (elτ E) 32)) (block_ptr b o)

abbrev pub handle : Global → Fml
handle g = (Heap.the_row).own_val g (heap_val ∷ [])

module _ (E : El) {M : Type 1} {𝓤 : Ura M} {𝓛 : Logic 𝓤} {K : Type 0} {Γ : List (Item 𝓤)} {G : Goal 𝓤 𝓛.H} where
  -- memory that may be given back is the start of its block
  starts : K → (g : Global) (b o : ℕ) → (o ≡ 0 → Seq K 𝓛 (‵ (token E g b o) ∷ Γ) G) → Seq K 𝓛 (‵ (token E g b o) ∷ Γ) G
  starts t g b o k =
      use1 𝓛 (given (o ≡ 0) (‵ (token E g b o))) (fact_use 𝓤 (o ≡ 0)
      (dealloc_token_start 𝓛 g (bare (ty_array (elτ E) 32)) (block_ptr b o))
      (λ e. guard_i 𝓤 (o ≡ 0) (sem 𝓛 (token E g b o)) e)) $ learn t k

module _ (E : El) {M : Type 1} {𝓤 : Ura M} {𝓛 : Logic 𝓤} {K : Type 0} {Γ : List (Item 𝓤)} {G : Goal 𝓤 𝓛.H} where
  pub block_had : K → (xs : List (el_x E)) (vs : List Val)
      → ((g : Global) (b o : ℕ) → vs ≡ block_val b o ∷ [] → length xs ≤ 32 → 32 * sz E < 2 ^ 63 → o ≡ 0
      → Seq K 𝓛 (‵ (vals E xs b o) ∷ ‵ (space E (32 - length xs) b (o + length xs * sz E)) ∷ ‵ (token E g b o) ∷ ‵
      (handle g) ∷ Γ) G)
      → Seq K 𝓛 (‵ ((Br E).own_val xs vs) ∷ Γ) G
  block_had t xs vs k =
      fpick t (λ h. let d : Fields (el_x E) = h.0 in let seen : d.values ≡ xs = h.1.0 in
      fsplit t $ move t (1 ∷ []) $ drop t $ fsplit t $ move t (1 ∷ []) $
      rewrite t 0 (λ (ys : List (el_x E)). ‵ (block_owns (R E) d.alloc d.at ys)) seen refl $
      fsplit t $ flt_l t (λ fit. in_a_block t d.at (λ p. in_block p
      (block_with_items (ghosts.dealloc_token d.alloc) (R E) p (length xs) 32 xs)) (id⊢ 𝓤 (never 𝓤)) (λ b o e.
      fsplit t $ move t (1 ∷ []) $ fsplit t $ as_written t (ty_array (elτ E) (32 - length xs)) b (o + length xs * sz E)
      $
      move t (3 ∷ []) $ fpick t (λ vss. fsplit t $ feq_l t (λ all. fsplit t $ feq_l t (λ e₀. fsplit t $
      peeks t Heap.the_row (Is Heap.the_row) (shows 𝓛 Heap.the_row) d.alloc vss.1.0 (λ is.
      rewrite t 0 (λ (us : List Val). ‵ ((Heap.the_row).own_val d.alloc us)) (heap_Tells d.alloc vss.1.0 is) refl $
      move t (1 ∷ []) $ drop t $ move t (2 ∷ []) $ starts E t d.alloc b o (λ first. move t (3 ∷ 2 ∷ 0 ∷ 1 ∷ []) $
      k d.alloc b o (all ∙ ((λ i. vstruct (of_list (e₀ i ++ (heap_Tells d.alloc vss.1.0 is i ++ []))) ∷ []) ∙
      ap (λ (p : Ptr). fields_val p ∷ []) e))
      (subst (λ (ys : List (el_x E)). length ys ≤ 32) seen d.fits) fit first))))))))

  pub block_made : K → (xs : List (el_x E)) (g : Global) (b o : ℕ) → length xs ≤ 32 → 32 * sz E < 2 ^ 63
      → Step K 𝓛 (‵ ((Br E).own_val xs (block_val b o ∷ [])) ∷ Γ) G
      (‵ (vals E xs b o) ∷ ‵ (space E (32 - length xs) b (o + length xs * sz E)) ∷ ‵ (token E g b o) ∷ ‵ (handle g) ∷
      Γ) G
  block_made t xs g b o most fit = step (λ s.
      let d : Fields (el_x E) = record { at = block_ptr b o; alloc = g; values = xs; fits = most } in
      move t (1 ∷ []) $ as_raw t (ty_array (elτ E) (32 - length xs)) b (o + length xs * sz E) $ move t (0 ∷ 2 ∷ []) $
      fjoin t $ move t (1 ∷ 0 ∷ []) $ fjoin t $
      flt_i t (32 * sz E) (2 ^ 63) fit $ fjoin t $
      nothing t $ move t (2 ∷ 0 ∷ []) $ fjoin t $ feq_i t (List Val) (vptr b o ∷ []) (vptr b o ∷ []) refl $ fjoin t $
      feq_i t (List Val) (block_val b o ∷ []) (block_val b o ∷ []) refl $ fjoin t $
      fpack t (Valss (shape (owning E)).fields) (within (shape (owning E)) (to (owning E) d) (block_val b o ∷ []))
      (vptr b o ∷ [], (heap_val ∷ [], tt)) $ fjoin t $
      nothing t $ move t (1 ∷ 0 ∷ []) $ fjoin t $
      fpack t ((f : Fields (el_x E)) × ((f.values ≡ xs) × Unit {0}))
      (λ h. fsep ((Ir E).own_val h.0 (block_val b o ∷ [])) ftrue) (d, (refl, tt)) $ s)

module _ (E : El) {M : Type 1} {𝓤 : Ura M} {𝓛 : Logic 𝓤} {K : Type 0} {Γ : List (Item 𝓤)} {G : Goal 𝓤 𝓛.H} where
  -- and besides  [the block's cell; the open borrow; obs; auth]
  pub block_opens : K → Soaks G → {κ : Lft} {q : Share} {γ : GName} (xs : List (el_x E)) (rb ro : ℕ)
      → ((g : Global) (b o : ℕ) → length xs ≤ 32 → 32 * sz E < 2 ^ 63 → o ≡ 0
      → Seq K 𝓛 (‵ (vals E xs b o) ∷ ‵ (space E (32 - length xs) b (o + length xs * sz E)) ∷ ‵ (token E g b o) ∷ ‵
      (handle g) ∷ ‵ (cell_at full_share (Br E).mir (block_val b o ∷ []) rb ro) ∷ ‵
      (fobor κ q (Body (mem (Br E)) rb ro γ)) ∷ ‵ (fobs γ ((Br E).coded.code xs)) ∷ ‵
      (fauth γ ((Br E).coded.code xs)) ∷ Γ) G)
      → Seq K 𝓛 (‵ (fobs γ ((Br E).coded.code xs)) ∷ ‵ (fbor κ (Body (mem (Br E)) rb ro γ)) ∷ ‵ (flft κ q) ∷ Γ) G
  block_opens t z xs rb ro k =
      opens t z (Br E) {h = xs} rb ro (λ vs. move t (1 ∷ []) $ block_had E t xs vs (λ g b o is most fit first.
      rewrite t 4 (λ (ws : List Val). ‵ (cell_at full_share (Br E).mir ws rb ro)) is refl $ k g b o most fit first))

  pub block_closes : K → Soaks G → {κ : Lft} {q : Share} {u v : Gv} {γ : GName} (xs : List (el_x E)) (g : Global)
      (b o rb ro : ℕ) → length xs ≤ 32 → 32 * sz E < 2 ^ 63
      → Step K 𝓛 (‵ (fobs γ ((Br E).coded.code xs)) ∷ ‵ (fbor κ (Body (mem (Br E)) rb ro γ)) ∷ ‵ (flft κ q) ∷ Γ) G
      (‵ (vals E xs b o) ∷ ‵ (space E (32 - length xs) b (o + length xs * sz E)) ∷ ‵ (token E g b o) ∷ ‵ (handle g) ∷ ‵
      (cell_at full_share (Br E).mir (block_val b o ∷ []) rb ro) ∷ ‵ (fobor κ q (Body (mem (Br E)) rb ro γ)) ∷ ‵
      (fobs γ u) ∷ ‵ (fauth γ v) ∷ Γ) G
  block_closes t z xs g b o rb ro most fit = step (λ s. block_made E t xs g b o most fit $ move t (1 ∷ 0 ∷ []) $ closes
      t z (Br E) xs (block_val b o ∷ []) rb ro $ s)

module _ (E : El) {M : Type 1} {𝓤 : Ura M} (𝓛 : Logic 𝓤) (b : ℕ) where
  abbrev F : rows.El
  F = record { row = E.row; laws = E.laws }

  as_row : (xs : List (el_x E)) (o : ℕ) → ent 𝓤 (sem 𝓛 (vals E xs b o)) (sem 𝓛 (row (R E) full_share xs b o))
  as_row xs o = qed 𝓛 (‵ (vals E xs b o) ∷ []) ∵ use1 𝓛
      (given (length xs ≡ length xs) (‵ (row (R E) full_share xs b o))) (rows.apart F 𝓛 full_share (length xs) xs b o) $
      learn ! (λ _. done !)

  of_row : (xs : List (el_x E)) (o : ℕ) → ent 𝓤 (sem 𝓛 (row (R E) full_share xs b o)) (sem 𝓛 (vals E xs b o))
  of_row xs o = rows.whole F 𝓛 full_share (length xs) xs b o refl

  next : (xs : List (el_x E)) (o at n : ℕ) → length xs ≡ n → at ≡ n * sz E + o → at ≡ place (sz E) o (length xs)
  next xs o at n long e = e ∙ ap (λ k. k * sz E + o) (sym long) ∙ sym (place_is (sz E) o (length xs))

  -- n values and then others
  module _ (xs ys : List (el_x E)) (o at n : ℕ) (long : length xs ≡ n) (e : at ≡ n * sz E + o) where
    pub cut : ent 𝓤 (sem 𝓛 (vals E (xs ++ ys) b o)) (sep 𝓤 (sem 𝓛 (vals E xs b o)) (sem 𝓛 (vals E ys b at)))
    cut = qed 𝓛 (‵ (vals E (xs ++ ys) b o) ∷ []) ∵ use1 𝓛 (‵ (row (R E) full_share (xs ++ ys) b o))
        (as_row (xs ++ ys) o) $
        use1 𝓛 (‵ (row (R E) full_share xs b o) ⊛ ‵ (row (R E) full_share ys b (place (sz E) o (length xs))))
        (rows.row_cut F 𝓛 full_share xs ys b o) $ split ! $
        use1 𝓛 (‵ (vals E xs b o)) (of_row xs o) $ move ! (1 ∷ []) $ rewrite ! 0
        (λ (k : ℕ). ‵ (row (R E) full_share ys b k)) (sym (next xs o at n long e)) refl $
        use1 𝓛 (‵ (vals E ys b at)) (of_row ys at) $ move ! (1 ∷ 0 ∷ []) $ done !

    pub glue : ent 𝓤 (sep 𝓤 (sem 𝓛 (vals E xs b o)) (sem 𝓛 (vals E ys b at))) (sem 𝓛 (vals E (xs ++ ys) b o))
    glue = qed 𝓛 (‵ (vals E xs b o) ∷ ‵ (vals E ys b at) ∷ []) ∵ use1 𝓛 (‵ (row (R E) full_share xs b o)) (as_row xs o)
        $ move ! (1 ∷ []) $
        use1 𝓛 (‵ (row (R E) full_share ys b at)) (as_row ys at) $ rewrite ! 0
        (λ (k : ℕ). ‵ (row (R E) full_share ys b k)) (next xs o at n long e) refl $ move ! (1 ∷ 0 ∷ []) $
        use2 𝓛 (‵ (row (R E) full_share (xs ++ ys) b o)) (rows.row_glue F 𝓛 full_share xs ys b o) $ by !
        (of_row (xs ++ ys) o)

  pub alone : (x : el_x E) (o : ℕ) → ent 𝓤 (sem 𝓛 (vals E (x ∷ []) b o)) (sem 𝓛 (part_at (R E) full_share x b o))
  alone x o = qed 𝓛 (‵ (vals E (x ∷ []) b o) ∷ []) ∵ use1 𝓛 (‵ (row (R E) full_share (x ∷ []) b o)) (as_row (x ∷ []) o)
      $ fsplit ! $ keep ! (0 ∷ []) $ done !

  pub single : (x : el_x E) (o : ℕ) → ent 𝓤 (sem 𝓛 (part_at (R E) full_share x b o)) (sem 𝓛 (vals E (x ∷ []) b o))
  single x o = qed 𝓛 (‵ (part_at (R E) full_share x b o) ∷ []) ∵ nothing ! $ move ! (1 ∷ 0 ∷ []) $ fjoin ! $ by !
      (of_row (x ∷ []) o)

  pub no_values : (o : ℕ) → ent 𝓤 (emp 𝓤) (sem 𝓛 (vals E [] b o))
  no_values o = of_row [] o

  -- room for one value
  pub one_space : (o : ℕ) → ent 𝓤 (sem 𝓛 (froom (elτ E) b o)) (sem 𝓛 (space E 1 b o))
  one_space o = qed 𝓛 (‵ (froom (elτ E) b o) ∷ []) ∵ use0 𝓛 (‵ (space E 0 b (o + sz E)))
      (𝓛.laws.room_nil (elτ E) b (o + sz E)) $ move ! (1 ∷ 0 ∷ []) $ by ! (𝓛.laws.room_cons (elτ E) 0 b o)

  pub space_one : (o : ℕ) → ent 𝓤 (sem 𝓛 (space E 1 b o)) (sem 𝓛 (froom (elτ E) b o))
  space_one o = qed 𝓛 (‵ (space E 1 b o) ∷ []) ∵ use1 𝓛 (‵ (froom (elτ E) b o) ⊛ ‵ (space E 0 b (o + sz E)))
      (𝓛.laws.room_uncons (elτ E) 0 b o) $ split ! $ keep ! (0 ∷ []) $ done !

  -- the first place of the room after n values
  pub first_space : (o n at : ℕ) → n < 32 → n * sz E + o ≡ at → ent 𝓤 (sem 𝓛 (space E (32 - n) b (o + n * sz E)))
      (sep 𝓤 (sem 𝓛 (space E 1 b at)) (sem 𝓛 (space E (32 - (n + 1)) b (o + (n + 1) * sz E))))
  first_space o n at lt e = qed 𝓛 (‵ (space E (32 - n) b (o + n * sz E)) ∷ []) ∵
      use1 𝓛 (‵ (froom (elτ E) b (n * sz E + o)) ⊛ ‵ (space E (32 - (n + 1)) b (o + (n + 1) * sz E)))
      (rows.spare F 𝓛 b o n 32 lt) $ split ! $
      use1 𝓛 (‵ (space E 1 b (n * sz E + o))) (one_space (n * sz E + o)) $ rewrite ! 0 (λ (k : ℕ). ‵ (space E 1 b k)) e
      refl $ done !

  -- n places more before the room after m values
  pub wider_space : (o k m n at : ℕ) → m ≡ k + n → m ≤ 32 → k * sz E + o ≡ at →
      ent 𝓤 (sep 𝓤 (sem 𝓛 (space E n b at)) (sem 𝓛 (space E (32 - m) b (o + m * sz E))))
      (sem 𝓛 (space E (32 - k) b (o + k * sz E)))
  wider_space o k m n at more le e = qed 𝓛 (‵ (space E n b at) ∷ ‵ (space E (32 - m) b (o + m * sz E)) ∷ []) ∵
      let here : at ≡ o + k * sz E = omega arith in let after : o + m * sz E ≡ (o + k * sz E) + n * sz E =
      omega (
        arith,
        add_times k n (sz E),
        ap (λ (j : ℕ). j * sz E)
            more,
      ) in
      rewrite ! 0 (λ (j : ℕ). ‵ (space E n b j)) here refl $ rewrite ! 1 (λ (j : ℕ). ‵ (space E (32 - m) b j)) after
      refl $ by ! (rows.glued F 𝓛 n (32 - m) (32 - k) b (o + k * sz E) (omega arith))

  -- the first n places of a block that holds nothing
  pub space_cut : (o n : ℕ) → n ≤ 32 → ent 𝓤 (sem 𝓛 (space E 32 b o))
      (sep 𝓤 (sem 𝓛 (space E n b o)) (sem 𝓛 (space E (32 - n) b (o + n * sz E))))
  space_cut o n le = rows.room_split F 𝓛 n 32 b o le

  -- one value in memory is its bits, with what it owns
  pub value_out : (x : el_x E) (o : ℕ) → ent 𝓤 (sem 𝓛 (vals E (x ∷ []) b o))
      (mean 𝓛 (some (λ (v : Val). given (Good E v) (‵ (fat full_share (elτ E) b o v) ⊛ ‵ (E.row.own_val x (v ∷ []))))))
  value_out x o = via 𝓤 (sem 𝓛 (part_at (R E) full_share x b o)) (alone x o) (rows.el_out F 𝓛 full_share x b o)

  pub value_in : (x : el_x E) (o : ℕ) (v : Val) →
      ent 𝓤 (sep 𝓤 (sem 𝓛 (fat full_share (elτ E) b o v)) (sem 𝓛 (E.row.own_val x (v ∷ []))))
      (sem 𝓛 (vals E (x ∷ []) b o))
  value_in x o v = via 𝓤 (sem 𝓛 (part_at (R E) full_share x b o)) (rows.el_in F 𝓛 full_share x b o v) (single x o)

module _ (E : El) {M : Type 1} {𝓤 : Ura M} (𝓛 : Logic 𝓤) (κ : Lft) where
  -- a `&` to each of the values
  abbrev pub shown : List (el_x E) → ℕ → ℕ → Fml
  shown xs b o = each_shared xs (shared_of (R E)) (sz E) b o κ

  nothing_at_null : (xs : List (el_x E)) → ent 𝓤 (sem 𝓛 (lent_at (Array (R E) (length xs)) null_ptr xs κ)) (never 𝓤)
  nothing_at_null xs = qed 𝓛 (‵ (lent_at (Array (R E) (length xs)) null_ptr xs κ) ∷ []) ∵ fsplit ! $ keep ! (0 ∷ []) $
      done !

  one_seen : (xs : List (el_x E)) (b o i : ℕ) (d : el_x E) → i < length xs →
      ent 𝓤 (sem 𝓛 (shown xs b o)) (sem 𝓛 (hidden_shr (R E) κ (get_or xs i d) b (place (sz E) o i)))
  one_seen [] b o i d lt = absurd (not-suc-le-zero lt)
  one_seen (x ∷ xs) b o zero d lt = qed 𝓛 (‵ (shown (x ∷ xs) b o) ∷ []) ∵ fsplit ! $ hide ! $ keep ! (0 ∷ []) $ done !
  one_seen (x ∷ xs) b o (suc i) d lt = qed 𝓛 (‵ (shown (x ∷ xs) b o) ∷ []) ∵ fsplit ! $ drop ! $ by !
      (one_seen xs b (o + sz E) i d (le_of_suc-le-suc lt))

  pub value_seen : (xs : List (el_x E)) (b o i : ℕ) (d : el_x E) → i < length xs →
      ent 𝓤 (sem 𝓛 (shown xs b o)) (sem 𝓛 (hidden_shr (R E) κ (get_or xs i d) b (i * sz E + o)))
  value_seen xs b o i d lt = qed 𝓛 (‵ (shown xs b o) ∷ []) ∵ use1 𝓛
      (‵ (hidden_shr (R E) κ (get_or xs i d) b (place (sz E) o i))) (one_seen xs b o i d lt) $
      rewrite ! 0 (λ (k : ℕ). ‵ (hidden_shr (R E) κ (get_or xs i d) b k)) (place_is (sz E) o i) refl $ done !

  pointer_seen : (w : (Words E).Denot) (b o : ℕ) → ent 𝓤 (sem 𝓛 (hidden_shr (Words E) κ w b o))
      (sem 𝓛 (hidden_shr RawPtr κ w.0 b (o + 0)))
  pointer_seen w b o = qed 𝓛 (‵ (hidden_shr (Words E) κ w b o) ∷ []) ∵ unhide ! $ fsplit ! $ fsplit ! $ keep ! (0 ∷ [])
      $ done !

  -- the pointer, the bound on the block's size, and the values
  fields_seen : (d : Fields (el_x E)) (b o : ℕ) → ent 𝓤 (sem 𝓛 (hidden_shr (Ir E) κ d b o))
      (sep 𝓤 (sem 𝓛 (hidden_shr RawPtr κ d.at b (o + 0))) (sem 𝓛 (block_lends (R E) d.at d.values κ)))
  fields_seen d b o = qed 𝓛 (‵ (hidden_shr (Ir E) κ d b o) ∷ []) ∵
      use1 𝓛 (‵ (hidden_shr (Words E) κ (to (owning E) d) b o) ⊛ ‵ (block_lends (R E) d.at d.values κ)) (id⊢ 𝓤 _) $
      split ! $
      use1 𝓛 (‵ (hidden_shr RawPtr κ d.at b (o + 0))) (pointer_seen (to (owning E) d) b o) $ done !

module _ (E : El) {M : Type 1} {𝓤 : Ura M} {𝓛 : Logic 𝓤} {K : Type 0} {Γ : List (Item 𝓤)} {G : Goal 𝓤 𝓛.H} where
  -- [the pointer; the values]
  pub block_seen : K → {κ : Lft} (xs : List (el_x E)) (rb ro : ℕ)
      → ((p : Ptr) (b o : ℕ) → p ≡ block_ptr b o → length xs ≤ 32 → 32 * sz E < 2 ^ 63 →
      Seq K 𝓛 (‵ (hidden_shr RawPtr κ p rb (ro + 0)) ∷ ‵ (shown E 𝓛 κ xs b o) ∷ Γ) G)
      → Seq K 𝓛 (‵ (hidden_shr (Br E) κ xs rb ro) ∷ Γ) G
  block_seen t {κ} xs rb ro k =
      use1 𝓛 (some (λ (h : (f : Fields (el_x E)) × ((f.values ≡ xs) × Unit {0})). ‵ (hidden_shr (Ir E) κ h.0 rb ro) ⊛ ‵
      ftrue)) (id⊢ 𝓤 _) $
      pick t (λ h. let d : Fields (el_x E) = h.0 in let seen : d.values ≡ xs = h.1.0 in
      split t $ move t (1 ∷ []) $ drop t $
      use1 𝓛 (‵ (hidden_shr RawPtr κ d.at rb (ro + 0)) ⊛ ‵ (block_lends (R E) d.at d.values κ))
      (fields_seen E 𝓛 κ d rb ro) $ split t $ move t (1 ∷ []) $
      rewrite t 0 (λ (ys : List (el_x E)). ‵ (block_lends (R E) d.at ys κ)) seen refl $
      fsplit t $ flt_l t (λ fit. in_a_block t d.at (λ p. lent_at (Array (R E) (length xs)) p xs κ)
      (nothing_at_null E 𝓛 κ xs) (λ b o e.
      fsplit t $ drop t $ fsplit t $ drop t $ move t (1 ∷ 0 ∷ []) $ k d.at b o e
      (subst (λ (ys : List (el_x E)). length ys ≤ 32) seen d.fits) fit)))
