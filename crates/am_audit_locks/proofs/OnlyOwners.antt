-- The locks of an only active transaction are listed.
use Rattle.std.proofs.Common.{◌≡◌, ℕ, ◌<◌, List, [], ◌∷◌, ◌++◌, length, map, Option, Some, None, true, false, refl}
use Rattle.std.proofs.Common.{sym, ap, ◌∙◌, subst, arith}
use Rattle.std.specs.Option.{option_to_list}
use Rattle.std.proofs.lemmas.Bool.{eq-eqb}
use Rattle.std.proofs.lemmas.List.{append-nil, length-map}
use Rattle.am_record.specs.Asks.{with_asked}
use Rattle.am_record.specs.Refusals.{is_one_too_many}
use Rattle.am_record.specs.declared.lock.Lock.{Lock}
use Rattle.am_store_locks.specs.OwnerLocks.{OwnerLocks}
use Rattle.am_store_locks.specs.Table.{is_owner, locks_owned, with_locks, blockers}
use Rattle.am_law_serial.specs.Machine.{Transaction, is_open, locks_in, blocker}
use Rattle.am_audit_locks.specs.declared.asked_locks.Listed.{Listed}
use Rattle.am_audit_locks.specs.OnlyOwnerLocks.{locks_by, only_owner, lock_at, listed_locks}
use Rattle.am_audit_locks.specs.HeldLocks.{owner_of}
use Rattle.am_audit_locks.proofs.OnlyOwnerLocks.{its_locks, few_locks, meets_nobody, locks_by-push, the_owner}
use Rattle.am_audit_locks.proofs.Tables.{owners_are, locks_are, free, free_of_nothing, not_full_is}

pub few_listed : (listed : List Listed) → length listed < 256 → length (listed_locks listed) < 256
few_listed listed few = omega (arith, few, length-map listed lock_at)

asked_alone : (n : ℕ) (listed : List Lock) (asked : Option Lock) → only_owner n (listed ++ option_to_list asked) ∷ [] ≡
    with_locks (only_owner n listed ∷ []) n (with_asked (locks_by [] listed) asked)
asked_alone n listed None = rw (eq-eqb n n refl, append-nil listed) refl
asked_alone n listed (Some lock) = rw (eq-eqb n n refl, locks_by-push [] listed lock) refl

not_full : (own : List Lock) (asked : Option Lock) → length own < 256 → is_one_too_many own asked ≡ false
not_full own None few = refl
not_full own (Some lock) few = not_full_is own lock (omega arith)
    (λ both. let full = both.1 in let no : ⊥ = omega arith in no)

module _ (txs : List Transaction) (t n : ℕ) (listed : List Lock) (on : is_open txs t ≡ true)
    (is : only_owner n listed ∷ [] ≡ map owner_of txs) where
  same : n ≡ t
  same = the_owner n t listed (ap (λ (table : List OwnerLocks). is_owner table t) is ∙ owners_are txs t ∙ on)

  locks_here : locks_in txs t ≡ locks_by [] listed
  locks_here =
      sym (locks_are txs t) ∙ sym (ap (λ (table : List OwnerLocks). locks_owned table t) is)
      ∙ subst (λ u. locks_owned (only_owner n listed ∷ []) u ≡ locks_by [] listed) same (its_locks n listed)

  pub listed_granted : (asked : Option Lock) → only_owner n (listed ++ option_to_list asked) ∷ [] ≡
      with_locks (only_owner n listed ∷ []) t (with_asked (locks_in txs t) asked)
  listed_granted asked =
      subst (λ u. only_owner n (listed ++ option_to_list asked) ∷ [] ≡ with_locks (only_owner n listed ∷ []) u
      (with_asked (locks_by [] listed) asked)) same (asked_alone n listed asked)
      ∙ ap (λ own. with_locks (only_owner n listed ∷ []) t (with_asked own asked)) (sym locks_here)

  pub listed_free : (asked : Option Lock) → blocker txs t asked ≡ None
  listed_free None = free_of_nothing txs t
  listed_free (Some lock) =
      free txs t lock (sym (ap (λ (table : List OwnerLocks). blockers table t lock) is)
      ∙ subst (λ u. blockers (only_owner n listed ∷ []) u lock ≡ []) same (meets_nobody n listed lock))

  pub listed_few : (asked : Option Lock) → length listed < 256 → is_one_too_many (locks_in txs t) asked ≡ false
  listed_few asked few = not_full (locks_in txs t) asked (omega (arith, few, ap length locks_here, few_locks listed))
