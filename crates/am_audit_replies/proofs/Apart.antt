-- Operations that leave keys alone.
use Rattle.std.proofs.Common.{◌≡◌, List, [], ◌∷◌, map, true, false, ◌&&◌, not, Option, Some, None, refl, sym, ap, ◌∙◌}
use Rattle.std.specs.List.{list_all}
use Rattle.std.proofs.lemmas.Bool.{and_parts, and_from, both_ways, false_from_ne_true, false≢true}
use Rattle.am_record.specs.OrderedKey.{OrderedKey}
use Rattle.am_record.specs.Interval.{Interval, key_le, within, meets}
use Rattle.am_record.specs.Locks.{is_exclusive}
use Rattle.am_record.specs.Asks.{lock_of, has_key, owns_key}
use Rattle.am_record.specs.declared.lock.Lock.{Lock}
use Rattle.am_record.specs.declared.step.Op.{Op}
use Rattle.am_record.specs.declared.step.Reply.{Reply}
use Rattle.am_record.specs.Plain.{PlainMap, Draft, fresh, draft_after, is_orderly}
use Rattle.am_record.proofs.KeyOrder.{key_le_trans}
use Rattle.am_law_serial.specs.Agreement.{Has}
use Rattle.am_law_serial.specs.Trace.{runs_made}
use Rattle.am_law_serial.proofs.Maps.{of_asked, writes, runs_made_local}
use Rattle.am_law_serial.proofs.Drafts.{fresh_has, still_has}
use Rattle.am_audit_replies.specs.declared.active.OwnAnswer.{OwnAnswer}
use Rattle.am_audit_replies.specs.OwnAnswers.{placed_answer, left_by_all}
use Rattle.am_audit_replies.specs.Trials.{may_write_in, is_apart}

-- intervals with a common key meet
common : (a b : Interval) (q : OrderedKey) → within a q ≡ true → within b q ≡ true → meets a b ≡ true
common a b q h k =
    let ha = and_parts (key_le a.lo q) (key_le q a.hi) h in
    let hb = and_parts (key_le b.lo q) (key_le q b.hi) k in
    and_from (key_le a.lo b.hi) (key_le b.lo a.hi) (key_le_trans a.lo q b.hi ha.0 hb.1)
    (key_le_trans b.lo q a.hi hb.0 ha.1)

unowned : (range : Interval) (asked : Option Lock) (q : OrderedKey) → within range q ≡ true →
    may_write_in range asked ≡ false → of_asked (owns_key q) asked ≡ false
unowned range None q inside free = refl
unowned range (Some lock) q inside free = false_from_ne_true (owns_key q lock) (λ own.
    let parts = and_parts (is_exclusive lock.mode) (within lock.range q) own in
    both_ways (is_exclusive lock.mode && meets lock.range range) free
    (and_from (is_exclusive lock.mode) (meets lock.range range) parts.0 (common lock.range range q parts.1 inside)))

unwritten : (range : Interval) (op : Op) (q : OrderedKey) → within range q ≡ true →
    not (may_write_in range (lock_of op)) ≡ true → writes op q ≡ false
unwritten range op q inside free = unowned range (lock_of op) q inside
    (false_from_ne_true (may_write_in range (lock_of op)) (λ w. false≢true (sym (ap not w) ∙ free)))

stays : (own : List OwnAnswer) (range : Interval) (q : OrderedKey) (m : PlainMap) (d : Draft) →
    list_all (λ (k : OwnAnswer). is_apart range k.op) own ≡ true → within range q ≡ true → Has q m d →
    Has q m (left_by_all (map placed_answer own) d)
stays [] range q m d apart inside h = h
stays (k ∷ own) range q m d apart inside h =
    let parts = and_parts (is_apart range k.op) (list_all (λ (x : OwnAnswer). is_apart range x.op) own) apart in
    let here = and_parts (is_orderly k.op) (not (may_write_in range (lock_of k.op))) parts.0 in
    stays own range q m (draft_after k.op d) parts.1 inside
    (still_has k.op d q m here.0 (unwritten range k.op q inside here.1) h)

-- an operation that reads none of their keys makes as many runs after them
pub made_alike : (own : List OwnAnswer) (op : Op) (lock : Lock) (m : PlainMap) (reply : Reply) →
    lock_of op ≡ Some lock →
    is_orderly op ≡ true → list_all (λ (k : OwnAnswer). is_apart lock.range k.op) own ≡ true →
    runs_made (left_by_all (map placed_answer own) (fresh m)).map op reply ≡ runs_made m op reply
made_alike own op lock m reply asked orderly apart =
    runs_made_local op reply (left_by_all (map placed_answer own) (fresh m)).map m orderly (record {
      at = λ q h. (stays own lock.range q m (fresh m) apart (sym (ap (of_asked (has_key q)) asked) ∙ h)
          (fresh_has q m)).map;
    })
