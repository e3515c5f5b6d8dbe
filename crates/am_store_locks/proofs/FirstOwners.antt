-- The first of the owners that pass a test: where they stand by rising number, it is the least of them.
use Rattle.std.proofs.Common.{◌≡◌, ℕ, ◌<◌, ◌≤◌, List, [], ◌∷◌, map, filter, Bool, true, false, cond, not, ◌==◌, ◌&&◌}
use Rattle.std.proofs.Common.{refl, sym, ap, ◌∙◌, Option, Some, None, All, arith}
use Rattle.std.specs.List.{AllByRecursion, list_any}
use Rattle.std.specs.Option.{option_to_list}
use Rattle.std.proofs.lemmas.List.Elements.{All-nil, All-cons, All-head, All-contains}
use Rattle.am_record.specs.OrderedKey.{OrderedKey}
use Rattle.am_record.specs.Locks.{conflicts}
use Rattle.am_record.specs.Asks.{owns}
use Rattle.am_record.specs.ByNumber.{RiseBy}
use Rattle.am_record.specs.Owners.{blocker_among, holder_among}
use Rattle.am_record.specs.declared.lock.Lock.{Lock}
use Rattle.am_store_locks.specs.OwnerLocks.{OwnerLocks, blocks, is_exclusive_at}
use Rattle.am_store_locks.specs.Table.{blockers, exclusive_holders}
use Rattle.am_store_locks.specs.Answers.{IsLeastOf}

abbrev first_of : List ℕ → Option ℕ
first_of [] = None
first_of (n ∷ ns) = Some n

one_first : (b : Bool) (h : OwnerLocks) (rest : List OwnerLocks) →
    first_of (map (λ (h : OwnerLocks). h.owner) (cond b (h ∷ rest) rest)) ≡ cond b (Some h.owner)
    (first_of (map (λ (h : OwnerLocks). h.owner) rest))
one_first true h rest = refl
one_first false h rest = refl

first_only : (o : Option ℕ) → first_of (option_to_list o) ≡ o
first_only None = refl
first_only (Some n) = refl

-- the first is below the others
abbrev FirstLow : List ℕ → Type 0
FirstLow [] = Unit {0}
FirstLow (n ∷ ns) = All (λ k. n ≤ k) (n ∷ ns)

least_first : (ns : List ℕ) (h : ℕ) → FirstLow ns → IsLeastOf ns h → first_of ns ≡ Some h
least_first [] h f l = absurd (All-contains (λ k. ⊥) [] h (All-nil (λ k. ⊥)) l.one_of_them)
least_first (n ∷ ns) h f l =
    let up : n ≤ h = All-contains (λ k. n ≤ k) (n ∷ ns) h f l.one_of_them in
    let down : h ≤ n = All-head (λ k. h ≤ k) n ns l.least in
    let same : n ≡ h = omega arith in
    ap (λ k. Some k) same

blocker_first : (table : List OwnerLocks) (t : ℕ) (asked : Lock) → first_of (blockers table t asked) ≡ blocker_among
    (λ (h : OwnerLocks). h.owner) (λ h. h.locks) table t (Some asked)
blocker_first [] t asked = refl
blocker_first (h ∷ table) t asked =
    one_first (blocks t asked h) h (filter (blocks t asked) table)
    ∙ ap (cond (not (h.owner == t) && list_any (conflicts asked) h.locks) (Some h.owner)) (blocker_first table t asked)

holder_first : (table : List OwnerLocks) (key : OrderedKey) → first_of (exclusive_holders table key) ≡ holder_among
    (λ (h : OwnerLocks). h.owner) (λ h. h.locks) table key
holder_first [] key = refl
holder_first (h ∷ table) key =
    one_first (is_exclusive_at key h) h (filter (is_exclusive_at key) table)
    ∙ ap (cond (owns h.locks key) (Some h.owner)) (holder_first table key)

module _ (test : OwnerLocks → Bool) where
  low : (m : ℕ) (table : List OwnerLocks) → AllByRecursion (λ (h : OwnerLocks). m < h.owner) table →
      All (λ k. m ≤ k) (map (λ (h : OwnerLocks). h.owner) (filter test table))
  low m [] a = All-nil (λ k. m ≤ k)
  low m (h ∷ table) a =
      let rest = low m table a.1 in
      let up : m < h.owner = a.0 in
      elim (test h) as (λ b. All (λ k. m ≤ k)
      (map (λ (g : OwnerLocks). g.owner) (cond b (h ∷ filter test table) (filter test table)))) [
        | true ↦ All-cons (λ k. m ≤ k) h.owner (map (λ (g : OwnerLocks). g.owner) (filter test table)) (omega arith)
            rest
        | false ↦ rest
      ]

  first_low : (table : List OwnerLocks) → RiseBy (λ (h : OwnerLocks). h.owner) table →
      FirstLow (map (λ (h : OwnerLocks). h.owner) (filter test table))
  first_low [] r = tt
  first_low (h ∷ table) r =
      let rest = first_low table r.1 in
      let above = low h.owner table r.0 in
      elim (test h) as (λ b. FirstLow
      (map (λ (g : OwnerLocks). g.owner) (cond b (h ∷ filter test table) (filter test table)))) [
        | true ↦ All-cons (λ k. h.owner ≤ k) h.owner (map (λ (g : OwnerLocks). g.owner) (filter test table))
            (omega arith) above
        | false ↦ rest
      ]

-- what the table answers is what is known of its owners one after another
pub blocked : (table : List OwnerLocks) (t : ℕ) (asked : Lock) (h : ℕ) → RiseBy (λ (h : OwnerLocks). h.owner) table →
    IsLeastOf (blockers table t asked) h → blocker_among (λ (h : OwnerLocks). h.owner) (λ h. h.locks) table t
    (Some asked) ≡ Some h
blocked table t asked h rise least = sym (blocker_first table t asked) ∙ least_first (blockers table t asked) h
    (first_low (blocks t asked) table rise) least

pub free : (table : List OwnerLocks) (t : ℕ) (asked : Lock) → blockers table t asked ≡ [] → blocker_among
    (λ (h : OwnerLocks). h.owner) (λ h. h.locks) table t (Some asked) ≡ None
free table t asked none = sym (blocker_first table t asked) ∙ ap first_of none

pub held : (table : List OwnerLocks) (key : OrderedKey) (holder : Option ℕ) →
    exclusive_holders table key ≡ option_to_list holder → holder_among (λ (h : OwnerLocks). h.owner) (λ h. h.locks)
    table key ≡ holder
held table key holder is = sym (holder_first table key) ∙ ap first_of is ∙ first_only holder
