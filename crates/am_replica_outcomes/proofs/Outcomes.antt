-- Answers, line by line.
use Rattle.std.proofs.Common.{◌≡◌, ℕ, ◌+◌, ◌-◌, zero, suc, List, [], ◌∷◌, ◌++◌, length, drop, refl, sym, ap, ◌∙◌}
use Rattle.std.proofs.Common.{append_assoc, append-nil, arith}
use Rattle.std.specs.Prelude.{◌==◌, true}
use Rattle.std.proofs.Math.Seq.{drop-nil}
use Rattle.std.proofs.lemmas.Bool.{eqb-true}
use Rattle.am_record.specs.Records.{Records}
use Rattle.am_record.specs.declared.step.Op.{Op}
use Rattle.am_record.specs.declared.step.Reply.{Reply}
use Rattle.am_line_source.specs.Lines.{pieces_of, line_of}
use Rattle.am_line_wire.specs.declared.request.Request.TheVariants.{Do, Stage}
use Rattle.am_line_dialogue.specs.Actions.{staged_left, stage_response}
use Rattle.am_line_dialogue.specs.ParsedLine.{parsed}
use Rattle.am_line_dialogue.specs.Responses.{response_text}
use Rattle.am_line_dialogue.specs.Session.{SessionState}
use Rattle.am_line_dialogue.specs.declared.lines.ParsedLine.{ParsedLine}
use Rattle.am_line_dialogue.specs.declared.lines.ParsedLine.TheVariants.{Asked}
use Rattle.am_line_dialogue.specs.declared.response.Response.{Response}
use Rattle.am_line_dialogue.specs.declared.response.Response.TheVariants.{Replied}
use Rattle.am_replica_blocks.specs.Blocks.{BlockLine, Asks, Stages, line_request, staged_by, told}
use Rattle.am_replica_lines.specs.Lines.{said, asked_by, at_work}
use Rattle.am_replica_lines.proofs.Lines.{said-cut}
use Rattle.am_replica_outcomes.specs.Outcomes.{response_texts, conflict, conflict_texts, IsWritten}

pub texts-append : (front rest : List Response) →
    response_texts (front ++ rest) ≡ response_texts front ++ response_texts rest
texts-append [] rest = refl
texts-append (r ∷ front) rest = ap (λ text. response_text r ++ text) (texts-append front rest)
    ∙ sym (append_assoc (response_text r) (response_texts front) (response_texts rest))

-- Where the answers stand: the text goes on with these lines, so many responses are still left out, and with all others
-- the text so far is what is to be written.
pub record Goes (rest : List ℕ) (s : SessionState) (untold : ℕ) (replies : List Reply) (so_far whole : List ℕ) : Type 0
  where
    pub lines : List BlockLine
    pub staged : Records
    pub asks : said rest ≡ asked_by lines
    pub at : s ≡ at_work staged
    pub leads : so_far ++ response_texts (drop untold (told staged lines replies)) ≡ whole

-- nothing more is written
none_left : (so_far whole : List ℕ) (untold : ℕ) → so_far ++ response_texts (drop untold []) ≡ whole → so_far ≡ whole
none_left so_far whole untold leads =
    sym (append-nil so_far) ∙ ap (λ rs. so_far ++ response_texts rs) (sym (drop-nil untold)) ∙ leads

pub no_text : (text : List ℕ) → (length text == 0) ≡ true → text ≡ []
no_text [] e = refl
no_text (b ∷ text) e = absurd (omega (arith, eqb-true (suc (length text)) 0 e))

pub ends : (rest : List ℕ) (s : SessionState) (untold : ℕ) (replies : List Reply) (so_far whole : List ℕ) → rest ≡ [] →
    Goes rest s untold replies so_far whole → so_far ≡ whole
ends rest s untold replies so_far whole empty goes =
    at goes.lines (ap said (sym empty) ∙ goes.asks) goes.leads
  where
    at : (lines : List BlockLine) → [] ≡ asked_by lines →
        so_far ++ response_texts (drop untold (told goes.staged lines replies)) ≡ whole → so_far ≡ whole
    at [] asks leads = none_left so_far whole untold leads
    at (l ∷ lines) asks leads = absurd (cc)

-- the first of the lines that are left, and the others
record First (p : ParsedLine) (after : List ℕ) (lines : List BlockLine) : Type 0 where
  pub first : BlockLine
  pub others : List BlockLine
  pub split : lines ≡ first ∷ others
  pub asks : p ≡ Asked (line_request first)
  pub rest : said after ≡ asked_by others

first_of : (rest line after : List ℕ) (lines : List BlockLine) → pieces_of rest ≡ line ∷ pieces_of after →
    said rest ≡ asked_by lines → First (parsed (line_of line)) after lines
first_of rest line after lines cut asks = by lines (sym (said-cut rest line after cut) ∙ asks)
  where
    by : (lines : List BlockLine) → parsed (line_of line) ∷ said after ≡ asked_by lines →
        First (parsed (line_of line)) after lines
    by [] e = absurd (cc)
    by (l ∷ lines) e = record { first = l; others = lines; split = refl; asks = cc; rest = cc }

-- one response is left out, or written
leads_on : (untold : ℕ) (response : Response) (so_far : List ℕ) (untold' : ℕ) (so_far' : List ℕ)
    (others : List Response) (whole : List ℕ) → IsWritten untold response so_far untold' so_far' →
    so_far ++ response_texts (drop untold (response ∷ others)) ≡ whole →
    so_far' ++ response_texts (drop untold' others) ≡ whole
leads_on zero response so_far untold' so_far' others whole (none, wrote) leads =
    (λ i. wrote i ++ response_texts (drop (none i) others))
    ∙ append_assoc so_far (response_text response) (response_texts others) ∙ leads
leads_on (suc n) response so_far untold' so_far' others whole (one_less, same) leads =
    (λ i. same i ++ response_texts (drop (one_less i) others)) ∙ leads

no_replies : (replies : List Reply) → length replies ≡ 0 → replies ≡ []
no_replies [] e = refl
no_replies (r ∷ replies) e = absurd (omega (arith, e))

module _ (rest line after : List ℕ) (s s' : SessionState) (untold untold' : ℕ) (so_far so_far' whole : List ℕ)
    (cut : pieces_of rest ≡ line ∷ pieces_of after) where
  pub answered : (op : Op) (reply : Reply) (replies others : List Reply) → replies ≡ reply ∷ others →
      parsed (line_of line) ≡ Asked (Do op) →
      ((staged : Records) → s ≡ at_work staged → s' ≡ at_work (staged_left staged op)) →
      IsWritten untold (Replied reply) so_far untold' so_far' → Goes rest s untold replies so_far whole →
      Goes after s' untold' others so_far' whole
  answered op reply replies others is asks left wrote goes =
      let f = first_of rest line after goes.lines cut goes.asks in
      by f.first (sym asks ∙ f.asks) f.others f.rest
      (ap (λ lines. so_far ++ response_texts (drop untold (told goes.staged lines (reply ∷ others)))) (sym f.split)
      ∙ ap (λ rs. so_far ++ response_texts (drop untold (told goes.staged goes.lines rs))) (sym is) ∙ goes.leads)
    where
      by : (first : BlockLine) → Asked (Do op) ≡ Asked (line_request first) → (lines : List BlockLine) →
          said after ≡ asked_by lines →
          so_far ++ response_texts (drop untold (told goes.staged (first ∷ lines) (reply ∷ others))) ≡ whole →
          Goes after s' untold' others so_far' whole
      by (Asks asked) e lines more leads =
          let same : asked ≡ op = cc in
          record {
            lines = lines;
            staged = staged_left goes.staged op;
            asks = more;
            at = left goes.staged goes.at;
            leads = leads_on untold (Replied reply) so_far untold' so_far'
                (told (staged_left goes.staged op) lines others)
                whole wrote
                (ap (λ o. so_far ++ response_texts (drop untold (Replied reply ∷ told (staged_left goes.staged o) lines
                others))) (sym same) ∙ leads);
          }
      by (Stages records) e lines more leads = absurd (cc)

  pub staged : (records : Records) (response : Response) (replies : List Reply) →
      parsed (line_of line) ≡ Asked (Stage records) →
      ((staged : Records) → s ≡ at_work staged → response ≡ stage_response staged records) →
      ((staged : Records) → s ≡ at_work staged → s' ≡ at_work (staged_by staged records)) →
      IsWritten untold response so_far untold' so_far' → Goes rest s untold replies so_far whole →
      Goes after s' untold' replies so_far' whole
  staged records response replies asks says left wrote goes =
      let f = first_of rest line after goes.lines cut goes.asks in
      by f.first (sym asks ∙ f.asks) f.others f.rest
      (ap (λ lines. so_far ++ response_texts (drop untold (told goes.staged lines replies))) (sym f.split) ∙ goes.leads)
    where
      by : (first : BlockLine) → Asked (Stage records) ≡ Asked (line_request first) → (lines : List BlockLine) →
          said after ≡ asked_by lines →
          so_far ++ response_texts (drop untold (told goes.staged (first ∷ lines) replies)) ≡ whole →
          Goes after s' untold' replies so_far' whole
      by (Asks asked) e lines more leads = absurd (cc)
      by (Stages others) e lines more leads =
          let same : others ≡ records = cc in
          record {
            lines = lines;
            staged = staged_by goes.staged records;
            asks = more;
            at = left goes.staged goes.at;
            leads = leads_on untold response so_far untold' so_far' (told (staged_by goes.staged records) lines replies)
                whole wrote
                (ap (λ r. so_far ++ response_texts (drop untold (r ∷ told (staged_by goes.staged records) lines
                replies))) (says goes.staged goes.at)
                ∙ ap (λ rs. so_far ++ response_texts (drop untold (stage_response goes.staged rs ∷ told
                (staged_by goes.staged rs) lines replies))) (sym same) ∙ leads);
          }

  -- an operation has no reply, since its replies were fewer
  pub runs_out : (op : Op) (replies : List Reply) → length replies ≡ 0 → parsed (line_of line) ≡ Asked (Do op) →
      Goes rest s untold replies so_far whole → so_far ≡ whole
  runs_out op replies none asks goes =
      let f = first_of rest line after goes.lines cut goes.asks in
      by f.first (sym asks ∙ f.asks) f.others
      (ap (λ lines. so_far ++ response_texts (drop untold (told goes.staged lines []))) (sym f.split)
      ∙ ap (λ rs. so_far ++ response_texts (drop untold (told goes.staged goes.lines rs)))
      (sym (no_replies replies none))
      ∙ goes.leads)
    where
      by : (first : BlockLine) → Asked (Do op) ≡ Asked (line_request first) → (lines : List BlockLine) →
          so_far ++ response_texts (drop untold (told goes.staged (first ∷ lines) [])) ≡ whole → so_far ≡ whole
      by (Asks asked) e lines leads = none_left so_far whole untold leads
      by (Stages records) e lines leads = absurd (cc)

-- Where the conflicts stand: the text goes on with these lines, so many are left out, and with all others the text so
-- far is what is to be written.
pub record Fails (rest : List ℕ) (untold : ℕ) (so_far whole : List ℕ) : Type 0 where
  pub lines : List BlockLine
  pub asks : said rest ≡ asked_by lines
  pub leads : so_far ++ conflict_texts (drop untold lines) ≡ whole

pub all_fail : (rest : List ℕ) (untold : ℕ) (so_far whole : List ℕ) → rest ≡ [] → Fails rest untold so_far whole →
    so_far ≡ whole
all_fail rest untold so_far whole empty fails = at fails.lines (ap said (sym empty) ∙ fails.asks) fails.leads
  where
    at : (lines : List BlockLine) → [] ≡ asked_by lines → so_far ++ conflict_texts (drop untold lines) ≡ whole →
        so_far ≡ whole
    at [] asks leads =
        sym (append-nil so_far) ∙ ap (λ lines. so_far ++ conflict_texts lines) (sym (drop-nil untold)) ∙ leads
    at (l ∷ lines) asks leads = absurd (cc)

module _ (rest line after : List ℕ) (untold : ℕ) (so_far whole : List ℕ) (cut : pieces_of rest ≡ line ∷ pieces_of after)
  where
    -- one is written
    pub fails : untold ≡ 0 → Fails rest untold so_far whole → Fails after untold (so_far ++ conflict) whole
    fails none all =
        let f = first_of rest line after all.lines cut all.asks in
        by untold none f.first f.others f.rest
        (ap (λ lines. so_far ++ conflict_texts (drop untold lines)) (sym f.split) ∙ all.leads)
      where
        by : (n : ℕ) → n ≡ 0 → (l : BlockLine) → (lines : List BlockLine) → said after ≡ asked_by lines →
            so_far ++ conflict_texts (drop n (l ∷ lines)) ≡ whole → Fails after n (so_far ++ conflict) whole
        by zero none l lines asks leads = record {
          lines = lines;
          asks = asks;
          leads = append_assoc so_far conflict (conflict_texts lines) ∙ leads;
        }
        by (suc n) none l lines asks leads = absurd (omega (arith, none))

    -- or left out
    pub failed_before : (untold ≡ 0 → ⊥) → Fails rest untold so_far whole → Fails after (untold - 1) so_far whole
    failed_before some all =
        let f = first_of rest line after all.lines cut all.asks in
        by untold some f.first f.others f.rest
        (ap (λ lines. so_far ++ conflict_texts (drop untold lines)) (sym f.split) ∙ all.leads)
      where
        by : (n : ℕ) → (n ≡ 0 → ⊥) → (l : BlockLine) → (lines : List BlockLine) → said after ≡ asked_by lines →
            so_far ++ conflict_texts (drop n (l ∷ lines)) ≡ whole → Fails after (n - 1) so_far whole
        by zero some l lines asks leads = absurd (some refl)
        by (suc n) some l lines asks leads =
            let one_less : suc n - 1 ≡ n = omega arith in
            record {
              lines = lines;
              asks = asks;
              leads = ap (λ k. so_far ++ conflict_texts (drop k lines)) one_less ∙ leads;
            }
