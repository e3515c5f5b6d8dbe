-- What a transaction was told before it was put into the log.
use Rattle.std.specs.Prelude.{◌≡◌, length, List, ◌++◌, Bool, true, false, take, drop, refl}
use Rattle.std.specs.Coded.{Coded, code_by, coded×, coded_ℕ, coded_bool, coded_list}
use Rattle.am_record.specs.contracts.step.Op as op
use Rattle.am_record.specs.Plain.{PlainMap, answers}
use Rattle.am_record.specs.declared.step.Op.{Op}
use Rattle.am_record.specs.declared.step.Op.TheVariants.{Get, Scan, ScanBack, Lock, Mark, Back}
use Rattle.am_record.specs.declared.step.Reply.{Reply}
use Rattle.am_replica.specs.Bodies.{kept_ops, replies, given}
use Rattle.am_replica.specs.Ordered.{Sum, same_sum}

-- its lines that were answered, the digest of their answers, and whether an earlier answer no longer came
pub record TransactionState : Type 0 where
  pub ops : List Op
  pub digest : Sum
  pub is_over : Bool

abbrev pub transaction_code : Coded TransactionState
transaction_code = code_by (List Op × (Sum × Bool))
    (coded× (coded_list op.the_row.coded) (coded× (coded_list coded_ℕ) coded_bool))
    (λ t. (t.ops, (t.digest, t.is_over)))
    (λ p. record { ops = p.0; digest = p.1.0; is_over = p.1.1 }) (λ _. refl)

-- whether the answered lines are answered as they were, as far as the digest says, with others after them
abbrev pub still_stands : (List Reply → Sum) → TransactionState → List Op → PlainMap → Bool
still_stands digest t lines m = same_sum (digest (given (take (length t.ops) (replies (t.ops ++ lines) m)))) t.digest

-- the transaction once the lines are answered: those that were refused are forgotten
abbrev pub behind_lines : (List Reply → Sum) → TransactionState → List Op → PlainMap → TransactionState
behind_lines digest t lines m = record {
  ops = kept_ops (t.ops ++ lines);
  digest = digest (given (replies (t.ops ++ lines) m));
  is_over = false;
}

-- A trial is open: the active transaction was answered these operations on this map, none of which is refused after
-- those before it, and its digest has taken the answers.
pub record IsTrialOpen (inside : List Op → PlainMap → Type 0) (holds : List Reply → Type 0) (ops : List Op)
    (m : PlainMap) : Type 0 where
  pub kept : kept_ops ops ≡ ops
  pub active : inside ops m
  pub told : holds (answers ops m)

-- what the lines themselves are answered
abbrev pub untold : TransactionState → List Op → PlainMap → List Reply
untold t lines m = drop (length t.ops) (replies (t.ops ++ lines) m)

-- The premise: these two lists of answers don't collide.
abbrev pub NoCollision : (List Reply → Sum) → List Reply → List Reply → Type 0
NoCollision digest a b = same_sum (digest a) (digest b) ≡ true → a ≡ b

-- A transaction was told this: they are as many answers as it has lines, no line of which is refused after those
-- before it, with that digest.
pub record WasTold (digest : List Reply → Sum) (t : TransactionState) (told : List Reply) : Type 0 where
  pub kept : kept_ops t.ops ≡ t.ops
  pub each : length told ≡ length t.ops
  pub sum : t.digest ≡ digest told

-- Lines that still stand: all that was told before is what the map answers, and so is what is told now, with the lines
-- that are refused answered so.
pub record IsOneState (digest : List Reply → Sum) (t : TransactionState) (told : List Reply) (lines : List Op)
    (m : PlainMap) : Type 0 where
  pub before : told ≡ answers t.ops m
  pub with_lines : told ++ given (untold t lines m) ≡ answers (kept_ops (t.ops ++ lines)) m
  pub on : WasTold digest (behind_lines digest t lines m) (told ++ given (untold t lines m))

-- whether the operation writes nothing, whatever it is answered
abbrev pub only_reads : Op → Bool
only_reads (Get k) = true
only_reads (Scan range max) = true
only_reads (ScanBack range max) = true
only_reads (Lock lock) = true
only_reads Mark = true
only_reads Back = true
only_reads op = false
