-- Values that are no longer than the room for them.
use Rattle.std.proofs.Common.{◌≡◌, ℕ, zero, suc, ◌/◌, ◌≤◌, List, [], ◌∷◌, length, set, take, drop, sym, subst, arith}
use Rattle.std.specs.List.{insert, remove, AllByRecursion}
use Rattle.am_record.specs.OrderedKey.{OrderedKey}
use Rattle.am_record.specs.EntryOrder.{Place}
use Rattle.am_record.specs.Plain.{Records}
use Rattle.am_record.specs.declared.entry.Entry.{Entry}
use Rattle.am_record.proofs.Lists.{AllByRecursion-map, AllByRecursion-append, AllByRecursion-take, AllByRecursion-drop}
use Rattle.am_index_leaf.specs.Leaf.{entries_of}
use Rattle.am_index_leaf.specs.LeafCode.{NoneLonger, ValuesFit}
use Rattle.am_index_leaf.proofs.ExtendedLeaves.{values_of}

module _ (n : ℕ) where
  abbrev Short : List ℕ → Type 0
  Short v = length v ≤ n

  pub fit_inserted : (vs : List (List ℕ)) (i : ℕ) (v : List ℕ) → NoneLonger n vs → length v ≤ n →
      NoneLonger n (insert vs i v)
  fit_inserted vs i v a h = AllByRecursion-append Short (take i vs) (v ∷ drop i vs) (AllByRecursion-take Short i vs a)
      (h, AllByRecursion-drop Short i vs a)

  pub fit_removed : (vs : List (List ℕ)) (i : ℕ) → NoneLonger n vs → NoneLonger n (remove vs i)
  fit_removed vs i a = AllByRecursion-append Short (take i vs) (drop (suc i) vs) (AllByRecursion-take Short i vs a)
      (AllByRecursion-drop Short (suc i) vs a)

  pub fit_set : (vs : List (List ℕ)) (i : ℕ) (v : List ℕ) → NoneLonger n vs → length v ≤ n → NoneLonger n (set vs i v)
  fit_set [] i v a h = tt
  fit_set (x ∷ vs) zero v a h = (h, a.1)
  fit_set (x ∷ vs) (suc i) v a h = (a.0, fit_set vs i v a.1 h)

  pub fit_run : (rs : Records) → ValuesFit rs n → NoneLonger n (values_of rs)
  fit_run [] a = tt
  fit_run (r ∷ rs) a = (a.0, fit_run rs a.1)

  -- what the blocks hold, entry by entry
  pub entries_fit : (ps : List Place) (vs : List (List ℕ)) (m : ℕ) → NoneLonger n vs →
      AllByRecursion (λ (e : Entry). length e.value ≤ n) (entries_of ps vs m)
  entries_fit [] vs m a = tt
  entries_fit (p ∷ ps) [] m a = tt
  entries_fit (p ∷ ps) (v ∷ vs) m a = (a.0, entries_fit ps vs (m / 2) a.1)

pub fit_more : (n m : ℕ) (vs : List (List ℕ)) → n ≤ m → NoneLonger n vs → NoneLonger m vs
fit_more n m vs le a = AllByRecursion-map (λ (v : List ℕ). length v ≤ n) (λ (v : List ℕ). length v ≤ m)
    (λ v h. omega arith) vs a

pub fit_run_more : (n m : ℕ) (rs : Records) → n ≤ m → ValuesFit rs n → ValuesFit rs m
fit_run_more n m rs le a = AllByRecursion-map (λ (r : OrderedKey × List ℕ). length r.1 ≤ n)
    (λ (r : OrderedKey × List ℕ). length r.1 ≤ m) (λ r h. omega arith) rs a

pub fit_now : (n : ℕ) (vs : List (List ℕ)) {m : ℕ} {ws : List (List ℕ)} → m ≡ n → ws ≡ vs → NoneLonger n vs →
    NoneLonger m ws
fit_now n vs {m} {ws} room is a = subst (λ (k : ℕ). NoneLonger k ws) (sym room) (subst (NoneLonger n) (sym is) a)
