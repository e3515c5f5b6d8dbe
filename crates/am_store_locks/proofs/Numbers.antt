-- The numbers of the owners, beside the owners.
use Rattle.std.proofs.Common.{◌≡◌, ℕ, suc, List, [], ◌∷◌, ◌++◌, get_or, set, take, drop, refl, sym, ap, ◌∙◌}
use Rattle.std.specs.List.{remove}
use Rattle.std.proofs.Math.Seq.{map-set_same}
use Rattle.std.proofs.lemmas.List.{map-append, take-map, drop-map}
use Rattle.am_store_locks.specs.OwnerLocks.{OwnerLocks}
use Rattle.am_store_locks.specs.Table.{entered, owner_numbers}

-- another owner of the same number in its place
pub numbers-set : (table : List OwnerLocks) (i : ℕ) (h d : OwnerLocks) → h.owner ≡ (get_or table i d).owner →
    owner_numbers (set table i h) ≡ owner_numbers table
numbers-set table i h d e = map-set_same (λ (g : OwnerLocks). g.owner) table i h d e

pub numbers-entered : (table : List OwnerLocks) (tx : ℕ) →
    owner_numbers (entered table tx) ≡ owner_numbers table ++ tx ∷ []
numbers-entered [] tx = refl
numbers-entered (h ∷ table) tx = ap (λ ns. h.owner ∷ ns) (numbers-entered table tx)

pub numbers-removed : (table : List OwnerLocks) (i : ℕ) →
    remove (owner_numbers table) i ≡ owner_numbers (remove table i)
numbers-removed table i =
    let number = λ (h : OwnerLocks). h.owner in
    (λ j. take-map number i table j ++ drop-map number (suc i) table j) ∙
    sym (map-append number (take i table) (drop (suc i) table))
