-- What a call comes to.
use Rattle.std.specs.Prelude.{◌≡◌, ℕ, ◌<◌, List, [], ◌∷◌, ◌++◌, true, false, Option, Some, None, Result, Ok, Err}
use Rattle.am_record.specs.Plain.{PlainMap}
use Rattle.am_record.specs.declared.step.Step.{Step}
use Rattle.am_record.specs.declared.step.Step.TheVariants as step
use Rattle.am_record.specs.declared.step.Reply.{Reply}
use Rattle.am_law_sound.specs.StoreState.{StoreState, MayAnswer, state_after}
use Rattle.am_line_source.specs.Lines.{line_of, pieces_of, has_lf}
use Rattle.am_line_wire.specs.Replies.{text_of}
use Rattle.am_line_wire.specs.declared.request.Request.TheVariants.{Merge, Clean}
use Rattle.am_line_dialogue.specs.ParsedLine.{parsed}
use Rattle.am_line_dialogue.specs.declared.lines.ParsedLine.{ParsedLine}
use Rattle.am_line_dialogue.specs.declared.lines.ParsedLine.TheVariants.{Asked}
use Rattle.am_replica.specs.Ordered.{Verdict}
use Rattle.am_replica_blocks.specs.Blocks.{BlockLine}
use Rattle.am_replica_entries.specs.Texts.{TheBlock, entry_text}
use Rattle.am_replica_outcomes.specs.Entries.{IsTextTold}
use Rattle.am_replica_outcomes.specs.Trials.{trial_text}
use Rattle.am_replica_records.specs.Records.{HasKeys}
use Rattle.am_replica_store.specs.Alone.{committed_map}
use Rattle.am_replica_texts.specs.Entries.{AreApplied, IsEntryOf, IsNoEntry}
use Rattle.am_replica_trials.specs.Trials.{TrialState, HasLines, IsLineAnswered, records_wait}
use Rattle.am_replica_trials.specs.declared.answer.TrialAnswer.{TrialAnswer}
use Rattle.am_replica_desk.specs.Desks.{ReplicaState, DeskState, ordered, answers_digest}
use Rattle.am_replica_desk.specs.declared.fault.Fault.{Fault}
use Rattle.am_replica_desk.specs.declared.fault.Fault.TheVariants.{Ended, NoEntry, OtherLine, Staged}

-- the replica goes on, from there to here
pub record ReplicaGoesOn (old new : DeskState) (So : ReplicaState → ReplicaState → Type 0) : Type 0 where
  pub before : ReplicaState
  pub after : ReplicaState
  pub was : old.replica ≡ Some before
  pub is : new.replica ≡ Some after
  pub so : So before after

-- it ended, and there is no answer
abbrev pub HasEnded : DeskState → Type 0
HasEnded new = (new.replica ≡ None) × (new.answer ≡ [])

-- it stands where it stood, and there is no answer
abbrev pub IsNothingDone : DeskState → DeskState → Type 0
IsNothingDone old new = ReplicaGoesOn old new (λ r r'. r' ≡ r) × (new.answer ≡ [])

-- the clients of the entry's blocks are told what these came to; where the text is none, nothing is done
abbrev pub TakesText : List ℕ → DeskState → Result (Unit {0}) Fault → DeskState → Type 0
TakesText text old (Ok done) new =
    ReplicaGoesOn old new (λ r r'. IsTextTold answers_digest text (ordered r) (Some new.answer) (ordered r'))
TakesText text old (Err NoEntry) new =
    ReplicaGoesOn old new (λ r r'. IsTextTold answers_digest text (ordered r) None (ordered r')) × (new.answer ≡ [])
TakesText text old (Err OtherLine) new = ⊥
TakesText text old (Err Staged) new = ⊥
TakesText text old (Err Ended) new = HasEnded new

-- the entry's blocks come to what they come to in their turn, and no client is told
pub record IsTextApplied (text : List ℕ) (r r' : ReplicaState) : Type 0 where
  pub verdicts : List Verdict
  pub applied : AreApplied (IsEntryOf answers_digest text) answers_digest (ordered r) verdicts (ordered r')

-- where the text is none of an entry, nothing is done
pub record IsNoneApplied (text : List ℕ) (r r' : ReplicaState) : Type 0 where
  pub none : IsNoEntry answers_digest text
  pub same : ordered r' ≡ ordered r

abbrev pub AppliesText : List ℕ → DeskState → Result (Unit {0}) Fault → DeskState → Type 0
AppliesText text old (Ok done) new = ReplicaGoesOn old new (IsTextApplied text) × (new.answer ≡ [])
AppliesText text old (Err NoEntry) new = ReplicaGoesOn old new (IsNoneApplied text) × (new.answer ≡ [])
AppliesText text old (Err OtherLine) new = ⊥
AppliesText text old (Err Staged) new = ⊥
AppliesText text old (Err Ended) new = HasEnded new

-- the line is answered so
pub record IsLineTold (own : List BlockLine) (t : TrialState) (line : List ℕ) (m : PlainMap) (told : List ℕ)
    (t' : TrialState) : Type 0 where
  pub answer : TrialAnswer
  pub comes : IsLineAnswered answers_digest own t line m answer t'
  pub says : told ≡ trial_text answer

-- that of a transaction that has lines is, and of one that is over
pub record IsTriedOn (m : PlainMap) (t : TrialState) (line told : List ℕ) (t' : TrialState) : Type 0 where
  pub each : (own : List BlockLine) → HasLines own t → IsLineTold own t line m told t'
  pub over : (own : List BlockLine) → t.is_over ≡ true → IsLineTold own t line m told t'

-- the records stay as they were
pub record IsLineTried (t : TrialState) (line told : List ℕ) (t' : TrialState) (r r' : ReplicaState) : Type 0 where
  pub on : IsTriedOn (committed_map r.store) t line told t'
  pub same : ordered r' ≡ ordered r

abbrev pub TakesTrialLine : List ℕ → DeskState → TrialState → Result (Unit {0}) Fault → DeskState → TrialState → Type 0
TakesTrialLine line old t (Ok done) new t' =
    (has_lf line ≡ false) × ReplicaGoesOn old new (IsLineTried t line new.answer t')
TakesTrialLine line old t (Err NoEntry) new t' = ⊥
TakesTrialLine line old t (Err OtherLine) new t' =
    (has_lf line ≡ true) × IsNothingDone old new × (t' ≡ t)
TakesTrialLine line old t (Err Staged) new t' = ⊥
TakesTrialLine line old t (Err Ended) new t' = HasEnded new

-- each of some lines has a line among the answers: an empty one, where it is none of a transaction's
abbrev pub line_told : List ℕ → List ℕ
line_told [] = 10 ∷ []
line_told (b ∷ bytes) = b ∷ bytes

-- they are tried one after another
abbrev pub AreLinesTried : PlainMap → List (List ℕ) → TrialState → List ℕ → TrialState → Type 0
AreLinesTried m [] t told t' = (told ≡ []) × (t' ≡ t)
AreLinesTried m (line ∷ lines) t told t' = (first : List ℕ) × (rest : List ℕ) × (between : TrialState)
    × (told ≡ line_told first ++ rest) × IsTriedOn m t line first between × AreLinesTried m lines between rest t'

pub record IsTextTried (text : List ℕ) (t : TrialState) (told : List ℕ) (t' : TrialState) (r r' : ReplicaState) :
    Type 0 where
  pub lines : AreLinesTried (committed_map r.store) (pieces_of text) t told t'
  pub same : ordered r' ≡ ordered r

abbrev pub TakesTrialLines : List ℕ → DeskState → TrialState → Result (Unit {0}) Fault → DeskState → TrialState → Type 0
TakesTrialLines text old t (Ok done) new t' = ReplicaGoesOn old new (IsTextTried text t new.answer t')
TakesTrialLines text old t (Err NoEntry) new t' = ⊥
TakesTrialLines text old t (Err OtherLine) new t' = ⊥
TakesTrialLines text old t (Err Staged) new t' = ⊥
TakesTrialLines text old t (Err Ended) new t' = HasEnded new

-- the step of a line that merges or cleans
abbrev pub upkeep_step : ParsedLine → Option Step
upkeep_step (Asked (Merge limit)) = Some (step.Merge limit)
upkeep_step (Asked (Clean range limit)) = Some (step.Clean range limit)
upkeep_step parsed = None

-- the store took the step that was asked for, and replied; its records stay as they were
pub record IsStepTaken (asked : Option Step) (p : StoreState) (reply : Reply) (p' : StoreState) : Type 0 where
  pub step : Step
  pub asks : asked ≡ Some step
  pub may : MayAnswer p step reply
  pub leads : p' ≡ state_after p step reply
  pub same : committed_map p' ≡ committed_map p

pub record IsKeptUp (line told : List ℕ) (r r' : ReplicaState) : Type 0 where
  pub reply : Reply
  pub taken : IsStepTaken (upkeep_step (parsed (line_of line))) r.store reply r'.store
  pub commits : r'.commits ≡ r.commits
  pub says : told ≡ text_of reply

abbrev pub KeepsUp : List ℕ → DeskState → Result (Unit {0}) Fault → DeskState → Type 0
KeepsUp line old (Ok done) new = ReplicaGoesOn old new (IsKeptUp line new.answer)
KeepsUp line old (Err NoEntry) new = ⊥
KeepsUp line old (Err OtherLine) new = (upkeep_step (parsed (line_of line)) ≡ None) × IsNothingDone old new
KeepsUp line old (Err Staged) new = ⊥
KeepsUp line old (Err Ended) new = HasEnded new

-- another store has the same records
pub record IsRenewed (r r' : ReplicaState) : Type 0 where
  pub records : HasKeys (committed_map r.store) → committed_map r'.store ≡ committed_map r.store
  pub commits : r'.commits ≡ r.commits

abbrev pub Renews : DeskState → Result (Unit {0}) Fault → DeskState → Type 0
Renews old (Ok done) new = ReplicaGoesOn old new IsRenewed × (new.answer ≡ [])
Renews old (Err NoEntry) new = ⊥
Renews old (Err OtherLine) new = ⊥
Renews old (Err Staged) new = ⊥
Renews old (Err Ended) new = HasEnded new

-- so many blocks have committed
abbrev pub Restores : ℕ → DeskState → Result (Unit {0}) Fault → DeskState → Type 0
Restores commits old (Ok done) new =
    ReplicaGoesOn old new (λ r r'. r' ≡ record { store = r.store; commits = commits }) × (new.answer ≡ [])
Restores commits old (Err NoEntry) new = ⊥
Restores commits old (Err OtherLine) new = ⊥
Restores commits old (Err Staged) new = ⊥
Restores commits old (Err Ended) new = HasEnded new

-- the text of an entry that has the transaction's block alone, where no records wait
pub record IsBlockText (t : TrialState) (text : List ℕ) : Type 0 where
  pub none_waits : records_wait t.session ≡ false
  pub block : TheBlock
  pub lines : block.lines ≡ t.lines
  pub none : t.answered ≡ 0 → block.told ≡ None
  pub told : 0 < t.answered → block.told ≡ Some (record { lines = t.answered; digest = t.transaction.digest })
  pub is : text ≡ entry_text (block ∷ [])

abbrev pub PutsBlock : TrialState → DeskState → Result (Unit {0}) Fault → DeskState → Type 0
PutsBlock t old (Ok done) new = ReplicaGoesOn old new (λ r r'. r' ≡ r) × IsBlockText t new.answer
PutsBlock t old (Err Staged) new = (records_wait t.session ≡ true) × IsNothingDone old new
PutsBlock t old (Err NoEntry) new = ⊥
PutsBlock t old (Err OtherLine) new = ⊥
PutsBlock t old (Err Ended) new = HasEnded new
