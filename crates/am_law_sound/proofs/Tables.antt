-- What the table of locks answers is what a step owes.
use Rattle.std.proofs.Common.{ℕ, List, refl, sym, ◌∙◌, Some}
use Rattle.am_record.specs.declared.lock.Lock.{Lock}
use Rattle.am_record.proofs.ByNumber.{RiseBy-map}
use Rattle.am_record.proofs.Owners.{blocker_among-map, holder_among-map}
use Rattle.am_store_locks.specs.OwnerLocks.{OwnerLocks}
use Rattle.am_store_locks.proofs.FirstOwners.{blocked, free, held}
use Rattle.am_law_sound.specs.StoreState.{Active}
use Rattle.am_law_sound.specs.Tables.{owners_of, TableLaws}

abbrev number : Active → ℕ
number x = x.number

abbrev owner : OwnerLocks → ℕ
owner h = h.owner

abbrev locks : Active → List Lock
locks x = x.locks

abbrev owner_of : Active → OwnerLocks
owner_of x = record { owner = x.number; locks = x.locks }

pub table_laws : (xs : List Active) → TableLaws xs
table_laws xs = record {
  blocked = λ t asked h rise least.
      sym (blocker_among-map number owner locks (λ h. h.locks) owner_of (λ x. refl) (λ x. refl) xs t (Some asked))
      ∙ blocked (owners_of xs) t asked h (RiseBy-map number owner owner_of (λ x. refl) xs rise) least;
  free = λ t asked none.
      sym (blocker_among-map number owner locks (λ h. h.locks) owner_of (λ x. refl) (λ x. refl) xs t (Some asked))
      ∙ free (owners_of xs) t asked none;
  held = λ key holder is.
      sym (holder_among-map number owner locks (λ h. h.locks) owner_of (λ x. refl) (λ x. refl) xs key)
      ∙ held (owners_of xs) key holder is;
}
