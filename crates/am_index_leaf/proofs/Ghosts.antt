-- The ghosts of a leaf, by its word of bits.
use Rattle.std.proofs.Common.{◌≡◌, ℕ, zero, suc, ◌/◌, ◌%◌, ◌^◌, ◌<◌, ◌≤◌, Bool, true, false, eqb, List, [], ◌∷◌, length}
use Rattle.std.proofs.Common.{get_or, drop, Some, None, sym, ap, ◌∙◌, subst, ⊎_elim, arith}
use Rattle.std.specs.Prelude.{not, ◌||◌}
use Rattle.std.proofs.lemmas.Bool.{cond-true, cond-false, eq-eqb, ne_eqb}
use Rattle.std.proofs.lemmas.Bool.Decides.{eqb_tells}
use Rattle.am_record.specs.declared.entry.Entry.{Entry}
use Rattle.am_record.specs.EntryOrder.{Place}
use Rattle.am_index.specs.Entries.{first_such}
use Rattle.am_index.proofs.Lists.{first_such_none}
use Rattle.am_index.proofs.Searches.{all_drop}
use Rattle.am_index_leaf.specs.declared.leaf.RawLeaf.TheInside.{Inside}
use Rattle.am_index_leaf.specs.Leaf.{entries, entries_of, IsLeaf}
use Rattle.am_index_leaf.specs.Ghosts.{has_ghost}
use Rattle.am_index_leaf.specs.Bits.{has_bit, IsNextBit}
use Rattle.am_index_leaf.proofs.BitLemmas.{bit_within, pow_double}
use Rattle.am_index_leaf.proofs.Zips.{entries_of-at}
use Rattle.am_index_leaf.proofs.Leaves.{alike, counted}

-- the entry at an index passes the test, and none before it from `from` on does
first_at : (test : Entry → Bool) (es : List Entry) (from i : ℕ) (d : Entry) → from ≤ i → i < length es →
    test (get_or es i d) ≡ true
    → ((k : ℕ) → from ≤ k → k < i → test (get_or es k d) ≡ false) → first_such test (drop from es) ≡ Some
    (get_or es i d)
first_at test [] from i d le lt is none = absurd (omega arith)
first_at test (e ∷ es) zero zero d le lt is none = cond-true (test e) (Some e) (first_such test es) is
first_at test (e ∷ es) zero (suc i) d le lt is none =
    cond-false (test e) (Some e) (first_such test es) (none 0 (omega arith) (omega arith)) ∙
    first_at test es 0 i d (omega arith) (omega arith) is (λ k ge below. none (suc k) (omega arith) (omega arith))
first_at test (e ∷ es) (suc from) zero d le lt is none = absurd (omega arith)
first_at test (e ∷ es) (suc from) (suc i) d le lt is none = first_at test es from i d (omega arith) (omega arith) is
    (λ k ge below. none (suc k) (omega arith) (omega arith))

-- a word has a bit: its lowest one, or one of the others
some_bit : (m : ℕ) → not (eqb m 0) ≡ (eqb (m % 2) 1 || not (eqb (m / 2) 0))
some_bit m =
    ⊎_elim
    (λ low. ap not (ne_eqb m 0 (λ none. absurd (omega (arith, none, low.1)))) ∙
    ap (λ b. b || not (eqb (m / 2) 0)) (sym low.0))
    (λ others. ap not
    (⊎_elim (λ none. eq-eqb m 0 (omega (arith, none.1, others.1)) ∙ sym none.0)
    (λ some. ne_eqb m 0 (λ none. absurd (omega (arith, none, some.1))) ∙ sym some.0) (eqb_tells (m / 2) 0)) ∙
    ap (λ b. b || not (eqb (m / 2) 0)) (sym others.0))
    (eqb_tells (m % 2) 1)

some_ghost : (ps : List Place) (vs : List (List ℕ)) (m : ℕ) → length ps ≡ length vs → m < 2 ^ length ps →
    not (eqb m 0) ≡ has_ghost (entries_of ps vs m)
some_ghost [] vs m e lt = ap not (eq-eqb m 0 (omega arith))
some_ghost (p ∷ ps) [] m e lt = absurd (omega arith)
some_ghost (p ∷ ps) (v ∷ vs) m e lt =
    let d = pow_double (length ps) in
    some_bit m ∙ ap (λ b. eqb (m % 2) 1 || b) (some_ghost ps vs (m / 2) (omega arith) (omega arith))

module _ (a : Inside) (held : IsLeaf a) (es : List Entry) (seen : entries a ≡ es) where
  many : length es ≡ a.len
  many = counted a held es seen

  bit_of : (k : ℕ) (d : Entry) → k < length es → (get_or es k d).is_ghost ≡ has_bit a.ghosts k
  bit_of k d lt =
      ap (λ l. (get_or l k d).is_ghost) (sym seen)
      ∙ ap (λ (e : Entry). e.is_ghost) (entries_of-at a.places.items a.values.items a.ghosts k (d.part, d.key) d.value d
      (alike a held) (omega (arith, held.places, many)))

  pub any_ghost : not (eqb a.ghosts 0) ≡ has_ghost es
  any_ghost =
      some_ghost a.places.items a.values.items a.ghosts (alike a held)
      (subst (λ n. a.ghosts < 2 ^ n) (sym held.places) held.ghosts) ∙ ap has_ghost seen

  pub no_ghost : (from : ℕ) → ((k : ℕ) → from ≤ k → has_bit a.ghosts k ≡ false) →
      first_such (λ e. e.is_ghost) (drop from es) ≡ None
  no_ghost from none = first_such_none (λ e. e.is_ghost) (drop from es)
      (all_drop (λ e. e.is_ghost ≡ false) es from (λ k d le lt. bit_of k d lt ∙ none k le))

  pub ghost_within : (from i : ℕ) → IsNextBit a.ghosts from i → i < length es
  ghost_within from i next = let within = bit_within a.ghosts a.len i held.ghosts next.is_set in
      omega (arith, within, many)

  pub ghost_is : (from i : ℕ) (e : Entry) → IsNextBit a.ghosts from i → e ≡ get_or es i e →
      Some e ≡ first_such (λ e. e.is_ghost) (drop from es)
  ghost_is from i e next here =
      let within : i < length es = ghost_within from i next in
      ap (λ (x : Entry). Some x) here
      ∙ sym (first_at (λ x. x.is_ghost) es from i e next.reached within (bit_of i e within ∙ next.is_set)
      (λ k le lt. bit_of k e (omega (arith, lt, within)) ∙ next.none_before k le lt))
