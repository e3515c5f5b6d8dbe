-- A transaction's lines in a dialogue.
use Rattle.std.proofs.Common.{◌≡◌, ℕ, ◌+◌, ◌≤◌, ◌<◌, length, nat_le, List, [], ◌∷◌, ◌++◌, Bool, true, false, ◌&&◌, cond}
use Rattle.std.proofs.Common.{map, Option, Some, None}
use Rattle.std.proofs.Common.{refl, sym, ap, ◌∙◌, arith}
use Rattle.std.proofs.lemmas.Bool.{lt-leb}
use Rattle.std.proofs.lemmas.List.{map-append}
use Rattle.am_record.specs.Limits.{max_begun, max_runs}
use Rattle.am_record.specs.Plain.{PlainMap, fresh, answer, left, left_on}
use Rattle.am_record.specs.Records.{Records}
use Rattle.am_record.specs.Asks.{lock_of, locks_of}
use Rattle.am_record.specs.Refusals.{may_make_run, is_one_too_many, lock_refusal, or_else}
use Rattle.am_record.specs.declared.step.Op.{Op}
use Rattle.am_record.specs.declared.step.Reply.{Reply}
use Rattle.am_record.specs.declared.step.Reply.TheVariants.{Begun, Committed, Aborted, Refused}
use Rattle.am_record.specs.declared.step.Refusal.{Refusal}
use Rattle.am_record.specs.declared.step.Refusal.TheVariants.{TooManyTx}
use Rattle.am_law_serial.specs.Trace.{runs_made}
use Rattle.am_line_wire.specs.declared.request.Request.{Request}
use Rattle.am_line_wire.specs.declared.request.Request.TheVariants.{Do, Stage, Commit, Abort}
use Rattle.am_line_dialogue.specs.Actions.{may_wait, with_staged, staged_left}
use Rattle.am_line_dialogue.specs.Say.{DialogueState, refusal_due, refused_or, state_did, response_due}
use Rattle.am_line_dialogue.specs.Say.{state_after_line}
use Rattle.am_line_dialogue.specs.StagedLoads.{responses_to, state_behind}
use Rattle.am_line_dialogue.specs.declared.lines.ParsedLine.{ParsedLine}
use Rattle.am_line_dialogue.specs.declared.lines.ParsedLine.TheVariants.{Asked}
use Rattle.am_line_dialogue.specs.declared.response.Response.{Response}
use Rattle.am_line_dialogue.specs.declared.response.Response.TheVariants.{Replied}
use Rattle.am_line_dialogue.proofs.SaidByMap.{answer_answers, answer_counts}
use Rattle.am_replica.specs.Bodies.{refusal_behind, own_by, own_behind, kept_behind, reply_by, reply_behind}
use Rattle.am_replica.specs.Bodies.{replies_behind}
use Rattle.am_replica_blocks.specs.Blocks.{BlockLine, Asks, Stages, line_request, block_lines, staged_by, waiting}
use Rattle.am_replica_blocks.specs.Blocks.{asked_ops, told}
use Rattle.am_replica_blocks.specs.Blocks.{loads}
use Rattle.am_replica_blocks.specs.Blocks.{standing, IsTakenAlone, IsTried}
use Rattle.am_replica_blocks.proofs.Runs.{same_refusal, room_for, made_few}

same_reply : (why : Option Refusal) (reply : Reply) → refused_or why reply ≡ reply_by why reply
same_reply None reply = refl
same_reply (Some why) reply = refl

module _ (b c : ℕ) (m : PlainMap) where
  -- a transaction is active that was answered these, and these records wait
  abbrev inside : ℕ → List Op → Records → DialogueState
  inside r own staged = record { begun = b; commits = c; runs = r; committed = m; own = Some own; staged = staged }

  due : (r : ℕ) (own : List Op) (staged : Records) (op : Op) → (may_make_run op && nat_le max_runs r) ≡ false
      → refusal_due (inside r own staged) own op ≡ refusal_behind own op
  due r own staged op room =
      ap (λ early. or_else early (lock_refusal None (is_one_too_many (locks_of own) (lock_of op))))
      (same_refusal (length own) r op room)

  -- how many runs there are after an operation
  abbrev runs_by : Option Refusal → ℕ → List Op → Op → ℕ
  runs_by None r own op = r + runs_made (left own m) op (answer op (left_on own (fresh m)))
  runs_by (Some why) r own op = r

  few_by : (why : Option Refusal) (r : ℕ) (own : List Op) (op : Op) → runs_by why r own op ≤ r + cond (may_make_run op)
      1 0
  few_by None r own op =
      let few : runs_made (left own m) op (answer op (left_on own (fresh m))) ≤ cond (may_make_run op) 1 0 =
      made_few (left own m) op (answer op (left_on own (fresh m))) in
      omega (arith, few)
  few_by (Some why) r own op = omega arith

  led : (why : Option Refusal) (r : ℕ) (own : List Op) (staged : Records) (op : Op)
      → state_did (inside r own staged) own op (refused_or why (answer op (left_on own (fresh m)))) ≡ inside
      (runs_by why r own op) (own_by why own op) staged
  led None r own staged op =
      let d = left_on own (fresh m) in
      (answer_counts (answer op d) (answer_answers op d)).did (inside r own staged) own op
  led (Some why) r own staged op = refl

  -- ---- one operation, with the records that it takes along

  module _ (r : ℕ) (own : List Op) (staged : Records) (op : Op)
      (room : (may_make_run (with_staged staged op) && nat_le max_runs r) ≡ false) where
    abbrev all : Op
    all = with_staged staged op

    abbrev behind : DialogueState
    behind = inside (runs_by (refusal_behind own all) r own all) (own_behind own all) (staged_left staged op)

    says : response_due (inside r own staged) (Asked (Do op)) ≡ Some (Replied (reply_behind own m all))
    says =
        ap (λ why. Some (Replied (refused_or why (answer all (left_on own (fresh m)))))) (due r own staged all room)
        ∙ ap (λ reply. Some (Replied reply)) (same_reply (refusal_behind own all) (answer all (left_on own (fresh m))))

    goes : state_after_line (inside r own staged) (Asked (Do op)) ≡ behind
    goes =
        ap (λ why. state_did (inside r own (staged_left staged op)) own all
        (refused_or why (answer all (left_on own (fresh m))))) (due r own staged all room)
        ∙ led (refusal_behind own all) r own (staged_left staged op) all

  stages : (r : ℕ) (own : List Op) (staged records : Records) (test : Bool)
      → cond test (inside r own (staged ++ records)) (inside r own staged) ≡ inside r own
      (cond test (staged ++ records) staged)
  stages r own staged records true = refl
  stages r own staged records false = refl

  -- ---- all lines, and a last one

  record Said (r : ℕ) (own : List Op) (staged : Records) (lines : List BlockLine) (last : ParsedLine) : Type 0 where
    runs : ℕ
    few : runs ≤ r + loads (asked_ops staged lines)
    answers : responses_to (inside r own staged) (map (λ line. Asked (line_request line)) lines ++ last ∷ []) ≡
        map Some (told staged lines (replies_behind own m (asked_ops staged lines)))
        ++ response_due (inside runs (kept_behind own (asked_ops staged lines)) (waiting staged lines)) last ∷ []
    leads : state_behind (inside r own staged) (map (λ line. Asked (line_request line)) lines ++ last ∷ []) ≡
        state_after_line (inside runs (kept_behind own (asked_ops staged lines)) (waiting staged lines)) last

  all_said : (r : ℕ) (own : List Op) (staged : Records) (lines : List BlockLine) (last : ParsedLine)
      → r + loads (asked_ops staged lines) ≤ max_runs → Said r own staged lines last
  all_said r own staged [] last room = record { runs = r; few = omega arith; answers = refl; leads = refl }
  all_said r own staged (Asks op ∷ lines) last room =
      let whole_op = with_staged staged op in
      let left_over = staged_left staged op in
      let next_runs = runs_by (refusal_behind own whole_op) r own whole_op in
      let more = loads (asked_ops left_over lines) in
      let here : (may_make_run whole_op && nat_le max_runs r) ≡ false = room_for whole_op r more room in
      let few : next_runs ≤ r + cond (may_make_run whole_op) 1 0 = few_by (refusal_behind own whole_op) r own
      whole_op in
      let later : r + (cond (may_make_run whole_op) 1 0 + more) ≤ max_runs = room in
      let rest = all_said next_runs (own_behind own whole_op) left_over lines last (omega (arith, few, later)) in
      let rest_few : rest.runs ≤ next_runs + more = rest.few in
      record {
        runs = rest.runs;
        few = omega (arith, few, rest_few);
        answers =
            ap (λ s. response_due (inside r own staged) (Asked (Do op)) ∷ responses_to s
            (map (λ line. Asked (line_request line)) lines ++ last ∷ [])) (goes r own staged op here)
            ∙ ap (λ first. first ∷ responses_to (behind r own staged op here)
            (map (λ line. Asked (line_request line)) lines ++ last ∷ [])) (says r own staged op here)
            ∙ ap (λ others. Some (Replied (reply_behind own m whole_op)) ∷ others) rest.answers;
        leads =
            ap (λ s. state_behind s (map (λ line. Asked (line_request line)) lines ++ last ∷ []))
            (goes r own staged op here)
            ∙ rest.leads;
      }
  all_said r own staged (Stages records ∷ lines) last room =
      let test = may_wait staged records in
      let rest = all_said r own (staged_by staged records) lines last room in
      record {
        runs = rest.runs;
        few = rest.few;
        answers =
            ap (λ s. response_due (inside r own staged) (Asked (Stage records)) ∷ responses_to s
            (map (λ line. Asked (line_request line)) lines ++ last ∷ [])) (stages r own staged records test)
            ∙ ap (λ others. response_due (inside r own staged) (Asked (Stage records)) ∷ others) rest.answers;
        leads =
            ap (λ s. state_behind s (map (λ line. Asked (line_request line)) lines ++ last ∷ []))
            (stages r own staged records test)
            ∙ rest.leads;
      }

-- ---- from BEGIN on

module _ (b c r : ℕ) (m : PlainMap) (lines : List BlockLine) (few : b < max_begun)
    (room : r + loads (asked_ops [] lines) ≤ max_runs) where
  abbrev ops : List Op
  ops = asked_ops [] lines

  begun_answers : (last : Request) → responses_to (standing b c r m) (block_lines lines last) ≡
      Some (Replied (Begun (b + 1))) ∷ responses_to (inside (b + 1) c m r [] [])
      (map (λ line. Asked (line_request line)) lines ++ Asked last ∷ [])
  begun_answers last =
      ap (λ t. Some (Replied (cond t (Refused TooManyTx) (Begun (b + 1)))) ∷ responses_to
      (cond t (standing b c r m) (inside (b + 1) c m r [] []))
      (map (λ line. Asked (line_request line)) lines ++ Asked last ∷ [])) (lt-leb max_begun b few)

  begun_leads : (last : Request) → state_behind (standing b c r m) (block_lines lines last) ≡
      state_behind (inside (b + 1) c m r [] []) (map (λ line. Asked (line_request line)) lines ++ Asked last ∷ [])
  begun_leads last =
      ap (λ t. state_behind (cond t (standing b c r m) (inside (b + 1) c m r [] []))
      (map (λ line. Asked (line_request line)) lines ++ Asked last ∷ [])) (lt-leb max_begun b few)

  -- the responses with the last one
  ended : (end : Response) → map Some (told [] lines (replies_behind [] m ops)) ++ Some end ∷ [] ≡
      map Some (told [] lines (replies_behind [] m ops) ++ end ∷ [])
  ended end = sym (map-append Some (told [] lines (replies_behind [] m ops)) (end ∷ []))

  pub taken : waiting [] lines ≡ [] → IsTakenAlone b c r m lines
  taken none =
      let said = all_said (b + 1) c m r [] [] lines (Asked Commit) room in
      let last = λ (waits : Records). response_due (inside (b + 1) c m said.runs (kept_behind [] ops) waits)
      (Asked Commit) in
      record {
        answers = begun_answers Commit
            ∙ ap (λ rs. Some (Replied (Begun (b + 1))) ∷ rs) (said.answers
            ∙ ap (λ waits. map Some (told [] lines (replies_behind [] m ops)) ++ last waits ∷ []) none
            ∙ ended (Replied (Committed (c + 1))));
        made = said.runs;
        few = said.few;
        leaves = begun_leads Commit ∙ said.leads
            ∙ ap (λ waits. state_after_line (inside (b + 1) c m said.runs (kept_behind [] ops) waits) (Asked Commit))
            none;
      }

  pub tried : IsTried b c r m lines
  tried =
      let said = all_said (b + 1) c m r [] [] lines (Asked Abort) room in
      record {
        answers = begun_answers Abort ∙ ap (λ rs. Some (Replied (Begun (b + 1))) ∷ rs)
            (said.answers ∙ ended (Replied Aborted));
        made = said.runs;
        few = said.few;
        leaves = begun_leads Abort ∙ said.leads;
      }
