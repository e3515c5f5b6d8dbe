-- A transaction's block.
use Rattle.std.proofs.Common.{◌≡◌, ◌<◌, ℕ, zero, suc, length, List, [], ◌∷◌, ◌++◌, take, Option, Some, None, false}
use Rattle.std.proofs.Common.{arith, refl}
use Rattle.std.proofs.Common.{sym, ap, ◌∙◌, append-nil}
use Rattle.std.proofs.lemmas.Bool.{true≢false}
use Rattle.std.proofs.lemmas.List.{take_all}
use Rattle.am_record.specs.Plain.{PlainMap, answers}
use Rattle.am_record.specs.Records.{Records}
use Rattle.am_record.specs.declared.step.Op.{Op}
use Rattle.am_record.specs.declared.step.Reply.{Reply}
use Rattle.am_line_dialogue.specs.Actions.{some_wait}
use Rattle.am_replica.specs.declared.block.Block.{Block}
use Rattle.am_replica.specs.Bodies.{kept_ops, replies, given}
use Rattle.am_replica.specs.Ordered.{Sum, same_sum, stands}
use Rattle.am_replica.specs.Told.{still_stands}
use Rattle.am_replica.proofs.Given.{replies_length, given_are_answers}
use Rattle.am_replica.proofs.Kept.{kept_twice}
use Rattle.am_replica_blocks.specs.Blocks.{BlockLine, waiting, asked_ops}
use Rattle.am_replica_entries.specs.declared.block.Told.{Told}
use Rattle.am_replica_lines.specs.Lines.{AsksOps, told_lines}
use Rattle.am_replica_trials.specs.Trials.{TrialState, HasLines, records_wait}

-- all answers of operations, and of those that are kept
answered : (m : PlainMap) (ops : List Op) → given (take (length ops) (replies ops m)) ≡ answers (kept_ops ops) m
answered m ops =
    ap given (take_all (length ops) (replies ops m)
    (let same : length (replies ops m) ≡ length ops = replies_length m [] ops in omega arith))
    ∙ sym (given_are_answers m [] ops)

pub stands_alike : (digest : List Reply → Sum) (own : List BlockLine) (s : TrialState) (block : Block) (m : PlainMap) →
    HasLines own s → block.ops.items ≡ asked_ops [] own → block.told ≡ length (asked_ops [] own) →
    block.digest ≡ s.transaction.digest → stands digest block m ≡ still_stands digest s.transaction [] m
stands_alike digest own s block m has ops told sum =
    let all = asked_ops [] own in
    let block_answers : given (take block.told (replies block.ops.items m)) ≡ answers (kept_ops all) m =
    (λ i. given (take (told i) (replies (ops i) m))) ∙ answered m all in
    let kept_are : s.transaction.ops ++ [] ≡ kept_ops all = append-nil s.transaction.ops ∙ has.ops in
    let trial_answers : given (take (length s.transaction.ops) (replies (s.transaction.ops ++ []) m)) ≡
    answers (kept_ops all) m =
    (λ i. given (take (length (has.ops i)) (replies (kept_are i) m)))
    ∙ answered m (kept_ops all)
    ∙ ap (λ os. answers os m) (kept_twice all) in
    (λ i. same_sum (digest (block_answers i)) (sum i))
    ∙ (λ i. same_sum (digest (sym trial_answers i)) s.transaction.digest)

-- where none waits in the session, none does behind the lines
pub none_wait : (own : List BlockLine) (s : TrialState) → HasLines own s → records_wait s.session ≡ false →
    waiting [] own ≡ []
none_wait own s has none = by (waiting [] own) (ap records_wait (sym has.waits) ∙ none)
  where
    by : (staged : Records) → some_wait staged ≡ false → staged ≡ []
    by [] is = refl
    by (r ∷ rs) is = absurd (true≢false is)

-- its lines, all of which were told
pub asks_all : (own : List BlockLine) (s : TrialState) (first : ℕ) → HasLines own s → waiting [] own ≡ [] →
    first ≡ s.answered →
    AsksOps s.lines first (asked_ops [] own) (length (asked_ops [] own))
asks_all own s first has none all = record {
  lines = own;
  asks = has.asks;
  all = refl;
  none_waits = none;
  of_first = ap (λ lines. length (asked_ops [] lines)) (sym (take_all first own
      (let each : s.answered ≡ length own = has.each in omega arith)));
}

-- how many lines were told
pub told_first : (told : Option Told) (n : ℕ) (sum : List ℕ) → (n ≡ 0 → told ≡ None) →
    (0 < n → told ≡ Some (record { lines = n; digest = sum })) → told_lines told ≡ n
told_first told zero sum none some = ap told_lines (none refl)
told_first told (suc n) sum none some = ap told_lines (some (omega arith))
