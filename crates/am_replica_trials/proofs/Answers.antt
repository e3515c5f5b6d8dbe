-- What a line is answered.
use Rattle.std.proofs.Common.{◌≡◌, ℕ, ◌+◌, ◌-◌, length, List, [], ◌∷◌, ◌++◌, true, false, sym, ap}
use Rattle.std.proofs.Common.{◌∙◌, append-nil}
use Rattle.am_record.specs.Plain.{PlainMap}
use Rattle.am_record.specs.Records.{Records}
use Rattle.am_record.specs.declared.step.Op.{Op}
use Rattle.am_record.specs.declared.step.Reply.{Reply}
use Rattle.am_line_source.specs.Lines.{line_of, HasNoLf}
use Rattle.am_line_wire.specs.Replies.{text_of}
use Rattle.am_line_wire.specs.declared.request.Request.TheVariants.{Do, Stage}
use Rattle.am_line_dialogue.specs.Actions.{with_staged, staged_left, stage_response}
use Rattle.am_line_dialogue.specs.ParsedLine.{parsed}
use Rattle.am_line_dialogue.specs.declared.lines.ParsedLine.TheVariants.{Asked}
use Rattle.am_line_dialogue.specs.declared.response.Response.{Response}
use Rattle.am_replica.specs.Bodies.{kept_ops}
use Rattle.am_replica.specs.Ordered.{Sum}
use Rattle.am_replica.specs.Told.{TransactionState, still_stands, behind_lines, untold}
use Rattle.am_replica_blocks.specs.Blocks.{BlockLine, Asks, Stages, staged_by, waiting, asked_ops}
use Rattle.am_replica_lines.specs.Lines.{at_work}
use Rattle.am_replica_lines.proofs.Lines.{ops_of-push}
use Rattle.am_replica_trials.specs.Trials.{TrialState, HasLines, has_room, has_answer_room, whole_op}
use Rattle.am_replica_trials.specs.Trials.{IsOwnReply, IsStage}
use Rattle.am_replica_trials.proofs.Lines.{has_more, kept_more}

module _ (own : List BlockLine) (s s' : TrialState) (line : List ℕ) (has : HasLines own s) (one : HasNoLf line)
    (room : has_room s line ≡ true) (on : s.is_over ≡ false) where
  pub replied : (digest : List Reply → Sum) (op : Op) (m : PlainMap) (reply : Reply) →
      parsed (line_of line) ≡ Asked (Do op) → still_stands digest s.transaction (whole_op own op) m ≡ true →
      untold s.transaction (whole_op own op) m ≡ reply ∷ [] →
      s'.transaction ≡ behind_lines digest s.transaction (whole_op own op) m →
      s'.session ≡ at_work (staged_left (waiting [] own) op) → s'.lines ≡ s.lines ++ (line ++ 10 ∷ []) →
      s'.answered ≡ s.answered + 1 → s'.is_over ≡ s.is_over → has_answer_room s op ≡ true →
      s'.answers_left ≡ s.answers_left - length (text_of reply) → IsOwnReply digest own s line m reply s'
  replied digest op m reply asks stands told goes_on session lines answered over answer_room left =
      let whole = with_staged (waiting [] own) op in
      record {
        op = op;
        asks = asks;
        room = room;
        answer_room = answer_room;
        not_over = on;
        stands = stands;
        tells = told;
        goes_on = goes_on;
        left = left;
        has = has_more own s s' line (Asks op) has one room asks lines answered
            (ap (λ (t : TransactionState). t.ops) goes_on
            ∙ ap (λ ops. kept_ops (ops ++ whole ∷ [])) has.ops
            ∙ kept_more (asked_ops [] own) whole
            ∙ ap kept_ops (sym (ops_of-push [] own (Asks op))))
            session (over ∙ on ∙ sym (ap (λ (t : TransactionState). t.is_over) goes_on));
      }

  pub stages : (records : Records) (response : Response) → parsed (line_of line) ≡ Asked (Stage records) →
      response ≡ stage_response (waiting [] own) records → s'.transaction ≡ s.transaction →
      s'.session ≡ at_work (staged_by (waiting [] own) records) → s'.lines ≡ s.lines ++ (line ++ 10 ∷ []) →
      s'.answered ≡ s.answered + 1 → s'.is_over ≡ s.is_over → s'.answers_left ≡ s.answers_left →
      IsStage own s line response s'
  stages records response asks says same session lines answered over left = record {
    records = records;
    asks = asks;
    room = room;
    not_over = on;
    says = says;
    goes_on = same;
    left = left;
    has = has_more own s s' line (Stages records) has one room asks lines answered
        (ap (λ (t : TransactionState). t.ops) same
        ∙ has.ops
        ∙ ap kept_ops (sym (ops_of-push [] own (Stages records) ∙ append-nil (asked_ops [] own))))
        session
        (over ∙ has.over ∙ sym (ap (λ (t : TransactionState). t.is_over) same));
  }
