use Rattle.std.proofs.Common.{◌≡◌, ◌≢◌, ◌<◌, ℕ, ◌++◌, ◌∷◌, [], All, List, cond, true, false, length, set, subst, refl}
use Rattle.std.proofs.Common.{sym}
use Rattle.std.proofs.Common.{ap, ◌∙◌, arith}
use Rattle.std.proofs.lemmas.List.{length-set, set-get_or}
use Rattle.std.proofs.lemmas.List.Elements.{All-set}
use Rattle.am_record.specs.Locks.{is_covered, with_lock}
use Rattle.am_record.specs.declared.lock.Lock.{Lock}
use Rattle.am_store_locks.specs.declared.lock_answers.Asked.{Asked}
use Rattle.am_store_locks.specs.declared.lock_answers.Asked.TheVariants.{Granted, Busy, TooManyLocks, NoMemory}
use Rattle.am_store_locks.specs.Answers.{MatchBusy}
use Rattle.am_store_locks.specs.OwnerLocks.{OwnerLocks, HasFew}
use Rattle.am_store_locks.specs.KeyCounts.{all_locks, AreCountsOf}
use Rattle.am_store_locks.specs.Table.{locks_owned, with_locks, blockers, owner_numbers, AreAllApart}
use Rattle.am_store_locks.proofs.Numbers.{numbers-set}
use Rattle.am_store_locks.proofs.AllLocks.{nobody_blocks_covered, all_locks-few, AreCountsOf-added}
use Rattle.am_store_locks.proofs.Apart.{AreAllApart-with_lock}
use Rattle.am_store_locks.proofs.Places.{own_entry}
use Rattle.am_store_locks.proofs.table.LockTable.ask.Goals as goal

-- ---- an own lock covers the asked one

pub returns-then-covers-clause-busy : goal.returns-then-covers-clause-busy
returns-then-covers-clause-busy c =
    let now = c.args.self.now in
    let entry = own_entry _ _ _ _ _ c.index-own.ensures c.self.view_is c.slot_of-slot.ensures.held in
    nobody_blocks_covered now c.args.tx c.args.asked (subst AreAllApart c.self.view_is c.self.invariant.0)
    (ap (λ (h : OwnerLocks). is_covered h.locks c.args.asked) (sym entry) ∙ sym c.if-covers.ensures)

pub returns-then-covers-clause-granted : goal.returns-then-covers-clause-granted
returns-then-covers-clause-granted c = λ _.
    let now = c.args.self.now in
    let slot = c.slot_of-slot.result in
    let old : OwnerLocks = c.index-own.result.now in
    let own = locks_owned now c.args.tx in
    let entry = own_entry _ _ _ _ _ c.index-own.ensures c.self.view_is c.slot_of-slot.ensures.held in
    let covered : is_covered own c.args.asked ≡ true =
    ap (λ (h : OwnerLocks). is_covered h.locks c.args.asked) (sym entry) ∙ sym c.if-covers.ensures in
    sym (set-get_or now slot old) ∙ ap (set now slot) (c.slot_of-slot.ensures.held old) ∙
    c.slot_of-slot.ensures.write own ∙
    ap (λ b. with_locks now c.args.tx (cond b own (own ++ c.args.asked ∷ []))) (sym covered)

-- ---- nobody blocks it, and it is granted

-- the lock is written after the own ones
written : (items now : List OwnerLocks) (slot tx : ℕ) (asked : Lock) (own : List Lock) (old new : OwnerLocks) →
    items ≡ now → old ≡ record { owner = tx; locks = own } → is_covered own asked ≡ false → new.owner ≡ old.owner →
    new.locks ≡ old.locks ++ asked ∷ [] → set items slot new ≡ set now slot
    (record { owner = tx; locks = with_lock own asked })
written items now slot tx asked own old new same entry uncovered owner locks =
    let number = owner ∙ ap (λ (h : OwnerLocks). h.owner) entry in
    let all = locks ∙ ap (λ (h : OwnerLocks). h.locks ++ asked ∷ []) entry ∙
    ap (λ b. cond b own (own ++ asked ∷ [])) (sym uncovered) in
    λ i. set (same i) slot (record { owner = number i; locks = all i })

pub returns-in-Granted-clause-granted : goal.returns-in-Granted-clause-granted
returns-in-Granted-clause-granted c = λ granted.
    let now = c.args.self.now in
    let found = own_entry _ _ _ _ _ c.index-own.ensures c.self.view_is c.slot_of-slot.ensures.held in
    let entry = own_entry _ _ _ _ _ c.index_mut.ensures.value c.self.view_is c.slot_of-slot.ensures.held in
    written _ now c.slot_of-slot.result c.args.tx c.args.asked (locks_owned now c.args.tx) c.index_mut.result.now
    c.add-answer.new.self c.self.view_is entry
    (ap (λ (h : OwnerLocks). is_covered h.locks c.args.asked) (sym found) ∙ sym c.if-covers.ensures)
    c.add-answer.ensures.owner (c.add-answer.ensures.granted granted) ∙ c.slot_of-slot.ensures.write _

pub add-requires-clause-few : goal.add-requires-clause-few
add-requires-clause-few c = (
  all_locks c.self.inside.owners.items,
  c.self.invariant.4,
  omega (arith, all_locks-few c.self.inside.owners.items c.self.invariant.1 c.self.invariant.3),
)

pub invariant_of-self : goal.invariant_of-self
invariant_of-self c =
    let now = c.args.self.now in
    let slot = c.slot_of-slot.result in
    let own = locks_owned now c.args.tx in
    let asked = c.args.asked in
    let items = c.self.inside.owners.items in
    let found = own_entry _ _ _ _ _ c.index-own.ensures c.self.view_is c.slot_of-slot.ensures.held in
    let old : OwnerLocks = c.index_mut.result.now in
    let entry = own_entry _ _ _ _ _ c.index_mut.ensures.value c.self.view_is c.slot_of-slot.ensures.held in
    let uncovered : is_covered own asked ≡ false =
    ap (λ (h : OwnerLocks). is_covered h.locks asked) (sym found) ∙ sym c.if-covers.ensures in
    let free : blockers now c.args.tx asked ≡ [] =
    ap (λ (h : OwnerLocks). blockers now h.owner asked) (sym found) ∙ c.in_default.ensures in
    let granted : c.add-answer.new.self.locks ≡ old.locks ++ asked ∷ [] = c.add-answer.ensures.granted
    c.in-Granted.is in
    let all : set items slot c.add-answer.new.self ≡ with_locks now c.args.tx (with_lock own asked) =
    written items now slot c.args.tx asked own old c.add-answer.new.self c.self.view_is entry uncovered
    c.add-answer.ensures.owner granted ∙ c.slot_of-slot.ensures.write _ in
    let inside : slot < length items = omega (arith, c.slot_of-slot.ensures.in_bounds, ap length c.self.view_is) in (
      subst AreAllApart (sym all) (AreAllApart-with_lock now c.args.tx asked
          (subst AreAllApart c.self.view_is c.self.invariant.0) free),
      omega (arith, c.self.invariant.1, length-set items slot c.add-answer.new.self),
      c.self.invariant.2,
      All-set HasFew items slot c.add-answer.new.self c.add-answer.ensures.few
          c.self.invariant.3,
      AreCountsOf-added items slot old c.add-answer.new.self asked c.add.new.self.buckets.items inside
          c.index_mut.ensures.value granted (c.add.ensures (all_locks items) c.self.invariant.4),
      c.self.invariant.5,
      c.self.invariant.6 ∙ sym (numbers-set items slot c.add-answer.new.self old
          (c.add-answer.ensures.owner ∙ ap (λ (h : OwnerLocks). h.owner) c.index_mut.ensures.value)),
    )

-- ---- it is refused for another reason

pub invariant_of-self-in_default-answer : goal.invariant_of-self-in_default-answer
invariant_of-self-in_default-answer c =
    let items = c.self.inside.owners.items in
    let slot = c.slot_of-slot.result in
    let same : set items slot c.add-answer.new.self ≡ items =
    ap (set items slot) (c.add-answer.ensures.refused c.in_default-answer.not-Granted ∙ c.index_mut.ensures.value) ∙
    set-get_or items slot c.index_mut.result.now in (
      subst AreAllApart (sym same) c.self.invariant.0,
      omega (arith, c.self.invariant.1, length-set items slot c.add-answer.new.self),
      c.self.invariant.2,
      subst (All HasFew) (sym same) c.self.invariant.3,
      subst (λ t. AreCountsOf (all_locks t) c.self.inside.counts.buckets.items) (sym same) c.self.invariant.4,
      c.self.invariant.5,
      c.self.invariant.6 ∙ ap owner_numbers (sym same),
    )

not_busy : (answer : Asked) (P : ℕ → Type 0) (Q : Type 0) → ((h : ℕ) → answer ≢ Busy h) → Q → MatchBusy answer P Q
not_busy Granted P Q n q = q
not_busy (Busy h) P Q n q = absurd (n h refl)
not_busy TooManyLocks P Q n q = q
not_busy NoMemory P Q n q = q

pub returns-in_default-answer : goal.returns-in_default-answer
returns-in_default-answer c =
    let now = c.args.self.now in
    let slot = c.slot_of-slot.result in
    let own = locks_owned now c.args.tx in
    let asked = c.args.asked in
    let items = c.self.inside.owners.items in
    let found = own_entry _ _ _ _ _ c.index-own.ensures c.self.view_is c.slot_of-slot.ensures.held in
    let old : OwnerLocks = c.index_mut.result.now in
    let entry = own_entry _ _ _ _ _ c.index_mut.ensures.value c.self.view_is c.slot_of-slot.ensures.held in
    let long = ap (λ (h : OwnerLocks). length h.locks) entry in
    let uncovered : is_covered own asked ≡ false =
    ap (λ (h : OwnerLocks). is_covered h.locks asked) (sym found) ∙ sym c.if-covers.ensures in
    let free : blockers now c.args.tx asked ≡ [] =
    ap (λ (h : OwnerLocks). blockers now h.owner asked) (sym found) ∙ c.in_default.ensures in
    record {
      busy = not_busy c.add-answer.result _ _ c.add-answer.ensures.busy free;
      too_many_locks = (
        λ e. (free, uncovered, sym long ∙ c.add-answer.ensures.too_many_locks.0 e),
        λ t. c.add-answer.ensures.too_many_locks.1 (long ∙ t.2),
      );
      no_memory = λ e. (uncovered, omega (arith, long, c.add-answer.ensures.no_memory e));
      granted = λ e. absurd (c.in_default-answer.not-Granted e);
      refused = λ _. ap (set items slot) (c.add-answer.ensures.refused c.in_default-answer.not-Granted ∙
          c.index_mut.ensures.value) ∙ set-get_or items slot old ∙ c.self.view_is;
    }
