-- The active transactions as a table of locks, and what the table's answers say of them.
use Rattle.std.specs.Prelude.{◌≡◌, ℕ, List, [], map, Option, Some, None}
use Rattle.std.specs.Option.{option_to_list}
use Rattle.am_record.specs.OrderedKey.{OrderedKey}
use Rattle.am_record.specs.declared.lock.Lock.{Lock}
use Rattle.am_record.specs.ByNumber.{RiseBy}
use Rattle.am_store_locks.specs.OwnerLocks.{OwnerLocks}
use Rattle.am_store_locks.specs.Table.{blockers, exclusive_holders}
use Rattle.am_store_locks.specs.Answers.{IsLeastOf}
use Rattle.am_law_sound.specs.StoreState.{Active, blocker_in, holder_in}

-- their locks
abbrev pub owners_of : List Active → List OwnerLocks
owners_of xs = map (λ (x : Active). record { owner = x.number; locks = x.locks }) xs

-- each number is below all later ones
abbrev pub AreByNumber : List Active → Type 0
AreByNumber xs = RiseBy (λ (x : Active). x.number) xs

-- what the table of locks answers is what a step owes
pub record TableLaws (xs : List Active) : Type 0 where
  pub blocked : (t : ℕ) (asked : Lock) (h : ℕ) → AreByNumber xs → IsLeastOf (blockers (owners_of xs) t asked) h →
      blocker_in xs t (Some asked) ≡ Some h
  pub free : (t : ℕ) (asked : Lock) → blockers (owners_of xs) t asked ≡ [] → blocker_in xs t (Some asked) ≡ None
  pub held : (key : OrderedKey) (holder : Option ℕ) → exclusive_holders (owners_of xs) key ≡ option_to_list holder →
      holder_in xs key ≡ holder
