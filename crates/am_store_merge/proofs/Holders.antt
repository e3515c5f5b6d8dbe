-- Who holds what, by a table of locks.
use Rattle.std.proofs.Common.{◌≡◌, List, [], ◌∷◌, true, false, cond, refl, sym, ap, ◌∙◌, Some}
use Rattle.std.proofs.Common.{option_to_list, option_map, find}
use Rattle.am_record.specs.OrderedKey.{OrderedKey}
use Rattle.am_store_locks.specs.OwnerLocks.{OwnerLocks, is_exclusive_at}
use Rattle.am_store_locks.specs.Table.{exclusive_holders, AreAllApart}
use Rattle.am_store_locks.proofs.Apart.{exclusive_holders-find}
use Rattle.am_law_effect.specs.MergeAnswers.{Holders}
use Rattle.am_store_merge.specs.LockHolders.{holder_of}

found_first : (table : List OwnerLocks) (key : OrderedKey) →
    holder_of table key ≡ option_map (λ (h : OwnerLocks). h.owner) (find (is_exclusive_at key) table)
found_first [] key = refl
found_first (h ∷ table) key =
    elim (is_exclusive_at key h) as (λ b. cond b (Some h.owner) (holder_of table key) ≡ option_map
    (λ (h : OwnerLocks). h.owner) (cond b (Some h) (find (is_exclusive_at key) table))) [
      | true ↦ refl
      | false ↦ found_first table key
    ]

-- there is no other
pub holder_only : (table : List OwnerLocks) (key : OrderedKey) → AreAllApart table →
    exclusive_holders table key ≡ option_to_list (holder_of table key)
holder_only table key apart = exclusive_holders-find table key apart ∙ sym (ap option_to_list (found_first table key))

pub same_holders : (table : List OwnerLocks) (held : Holders) → ((key : OrderedKey) → holder_of table key ≡ held key) →
    holder_of table ≡ held
same_holders table held same = λ i key. same key i
