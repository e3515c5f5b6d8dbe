-- The first ghost below a node, by the bits of its children.
use Rattle.std.proofs.Common.{◌≡◌, ℕ, zero, suc, ◌+◌, ◌<◌, ◌≤◌, Bool, true, false, List, [], ◌∷◌, ◌++◌, length, get_or}
use Rattle.std.proofs.Common.{drop, Option, Some, None, if◌then◌else◌, refl, sym, ap, ◌∙◌, subst, arith}
use Rattle.std.specs.Prelude.{◌||◌, ◌&&◌}
use Rattle.std.proofs.lemmas.Bool.{cond-false, true≢false, or_from, or_parts}
use Rattle.std.proofs.lemmas.List.{get_or_default}
use Rattle.std.proofs.lemmas.List.Folds.{list_any-append}
use Rattle.std.specs.List.{AllByRecursion}
use Rattle.am_record.specs.declared.entry.Entry.{Entry}
use Rattle.am_index.specs.Entries.{first_such}
use Rattle.am_index_leaf.specs.Bits.{has_bit, IsNextBit}
use Rattle.am_index_leaf.specs.Ghosts.{has_ghost}
use Rattle.am_index_leaf.proofs.BitLemmas.{bit_within}
use Rattle.am_index_btree.specs.declared.read.Beginning.{Beginning}
use Rattle.am_index_btree.specs.declared.read.Wanted.TheVariants.{Ghost}
use Rattle.am_index_btree.specs.declared.separator.Separator.{Separator}
use Rattle.am_index_btree.specs.Ghosts.{marks_of}
use Rattle.am_index_btree.specs.Seek.{first_wanted, is_onward, IsChildFrom}
use Rattle.am_index_btree.specs.Shape.{Shape}
use Rattle.am_index_btree.specs.Nodes.{all_entries, depth_of}
use Rattle.am_index_btree.proofs.ChildWalks.{child_within, search_from, search_here, search_on}
use Rattle.am_index_btree.proofs.Inner.{IsOver}
use Rattle.am_index_btree.proofs.Marks.{mark_of, marks_below, others_bits}
use Rattle.am_index_btree.proofs.Seeks.{all_onward, wanted_onward}

abbrev first_ghost : List Entry → Option Entry
first_ghost es = first_such (λ e. e.is_ghost) es

-- ---- in lists

pub none_wanted : (from : Option Beginning) (es : List Entry) → has_ghost es ≡ false →
    None ≡ first_wanted Ghost from es
none_wanted from [] none = refl
none_wanted from (e ∷ es) none =
    let parts = or_parts e.is_ghost (has_ghost es) none in
    none_wanted from es parts.1 ∙ sym (cond-false (e.is_ghost && is_onward from e) (Some e)
    (first_wanted Ghost from es) (ap (λ b. b && is_onward from e) parts.0))

past_none : (xs ys : List Entry) → has_ghost xs ≡ false → first_ghost (xs ++ ys) ≡ first_ghost ys
past_none [] ys none = refl
past_none (x ∷ xs) ys none =
    let parts = or_parts x.is_ghost (has_ghost xs) none in
    cond-false x.is_ghost (Some x) (first_ghost (xs ++ ys)) parts.0 ∙ past_none xs ys parts.1

within_some : (xs ys : List Entry) → has_ghost xs ≡ true → first_ghost xs ≡ first_ghost (xs ++ ys)
within_some [] ys some = absurd (true≢false (sym some))
within_some (x ∷ xs) ys some = choose x.is_ghost some (within_some xs ys)
  where
    choose : (b : Bool) → (b || has_ghost xs) ≡ true → (has_ghost xs ≡ true → first_ghost xs ≡ first_ghost (xs ++ ys)) →
        (if b then Some x else first_ghost xs) ≡ (if b then Some x else first_ghost (xs ++ ys))
    choose true some later = refl
    choose false some later = later some

-- ---- in the children of a node

-- where none of them is marked from the index on
pub none_marked : (ks : List Shape) (n : ℕ) → ((k : ℕ) → n ≤ k → has_bit (marks_of ks) k ≡ false) →
    has_ghost (all_entries (drop n ks)) ≡ false
none_marked [] zero none = refl
none_marked [] (suc n) none = refl
none_marked (c ∷ ks) zero none =
    list_any-append (λ (e : Entry). e.is_ghost) c.entries (all_entries ks) ∙
    or_from (has_ghost c.entries) (has_ghost (all_entries ks))
    (sym (mark_of (c ∷ ks) 0 c (omega arith) refl) ∙ none 0 (omega arith))
    (none_marked ks zero (λ k le. sym (others_bits c ks k) ∙ none (suc k) (omega arith)))
none_marked (c ∷ ks) (suc n) none = none_marked ks n (λ k le. sym (others_bits c ks k) ∙ none (suc k) (omega arith))

-- the first one that is marked has the first ghost
pub next_marked : (ks : List Shape) (n i : ℕ) (k : Shape) → i < length ks → k ≡ get_or ks i k →
    IsNextBit (marks_of ks) n i → first_ghost k.entries ≡ first_ghost (all_entries (drop n ks))
next_marked [] n i k lt here next = absurd (omega arith)
next_marked (c ∷ ks) zero zero k lt here next =
    ap (λ (s : Shape). first_ghost s.entries) here ∙
    within_some c.entries (all_entries ks) (sym (mark_of (c ∷ ks) 0 c (omega arith) refl) ∙ next.is_set)
next_marked (c ∷ ks) zero (suc i) k lt here next =
    next_marked ks zero i k (omega arith) here (record {
      reached = omega arith;
      is_set = sym (others_bits c ks i) ∙ next.is_set;
      none_before = λ j le less. sym (others_bits c ks j) ∙ next.none_before (suc j) (omega arith) (omega arith);
    })
    ∙ sym (past_none c.entries (all_entries ks)
    (sym (mark_of (c ∷ ks) 0 c (omega arith) refl) ∙ next.none_before 0 (omega arith) (omega arith)))
next_marked (c ∷ ks) (suc n) zero k lt here next = let le = next.reached in absurd (omega (arith, le))
next_marked (c ∷ ks) (suc n) (suc i) k lt here next =
    let reached = next.reached in
    next_marked ks n i k (omega arith) here (record {
      reached = omega (arith, reached);
      is_set = sym (others_bits c ks i) ∙ next.is_set;
      none_before = λ j le less. sym (others_bits c ks j) ∙ next.none_before (suc j) (omega arith) (omega arith);
    })

module _ {s : Shape} {ls : List Separator} {ks : List Shape} {rk : ℕ} (node : IsOver s ls ks rk) {marks : ℕ} (are :
    marks ≡ marks_of ks) (from : Option Beginning) (at : ℕ) (child : IsChildFrom from ls at) where
  pub within : at < length ks
  within = child_within node from at child

  begins : (first_wanted Ghost from (all_entries (drop at ks)) ≡ first_wanted Ghost from (all_entries ks)) ×
      AllByRecursion (λ e. is_onward from e ≡ true) (all_entries (drop (suc at) ks))
  begins = search_from Ghost (depth_of ks) ls ks node.inner.children from at child

  whole : first_wanted Ghost from (all_entries ks) ≡ first_wanted Ghost from s.entries
  whole = sym (ap (λ (t : Shape). first_wanted Ghost from t.entries) node.seen)

  -- a ghost that is found in the child with which the walk begins
  pub ghost_here : (k : Shape) → k ≡ get_or ks at k → (e : Entry) → Some e ≡ first_wanted Ghost from k.entries →
      Some e ≡ first_wanted Ghost from s.entries
  ghost_here k here e found = search_here Ghost from ks at k within here e found ∙ begins.0 ∙ whole

  -- where none is there, the later children are looked at
  pub ghost_behind : (k : Shape) → k ≡ get_or ks at k → None ≡ first_wanted Ghost from k.entries →
      first_ghost (all_entries (drop (at + 1) ks)) ≡ first_wanted Ghost from s.entries
  ghost_behind k here none =
      let rest = all_entries (drop (at + 1) ks) in
      sym (wanted_onward Ghost None rest (all_onward rest)) ∙ search_on Ghost from ks at k within here none begins.1 ∙
      begins.0 ∙ whole

  -- and so where it isn't marked
  pub ghost_later : has_bit marks at ≡ false →
      first_ghost (all_entries (drop (at + 1) ks)) ≡ first_wanted Ghost from s.entries
  ghost_later unmarked =
      let k = get_or ks at s in let here = get_or_default ks at s k within in
      ghost_behind k here (none_wanted from k.entries
      (sym (mark_of ks at k within here) ∙ ap (λ (m : ℕ). has_bit m at) (sym are) ∙ unmarked))

  pub no_later : ((k : ℕ) → at + 1 ≤ k → has_bit marks k ≡ false) →
      first_ghost (all_entries (drop (at + 1) ks)) ≡ None
  no_later none =
      let rest = all_entries (drop (at + 1) ks) in
      sym (wanted_onward Ghost None rest (all_onward rest)) ∙ sym (none_wanted None rest
      (none_marked ks (at + 1) (λ k le. ap (λ (m : ℕ). has_bit m k) (sym are) ∙ none k le)))

  module _ (i : ℕ) (next : IsNextBit marks (at + 1) i) where
    pub next_within : i < length ks
    next_within = bit_within (marks_of ks) (length ks) i (marks_below ks)
        (ap (λ (m : ℕ). has_bit m i) (sym are) ∙ next.is_set)

    -- all of a child's entries are looked at
    pub in_next : (k : Shape) → k ≡ get_or ks i k →
        first_wanted Ghost None k.entries ≡ first_ghost (all_entries (drop (at + 1) ks))
    in_next k here =
        wanted_onward Ghost None k.entries (all_onward k.entries) ∙
        next_marked ks (at + 1) i k next_within here (subst (λ (m : ℕ). IsNextBit m (at + 1) i) are next)
