-- All that a transaction was told is one state's.
use Rattle.std.proofs.Common.{◌≡◌, suc, List, [], ◌∷◌, ◌++◌, true, length, take, refl, sym, ap, subst}
use Rattle.std.proofs.Common.{◌∙◌}
use Rattle.std.proofs.lemmas.List.{take-append-drop}
use Rattle.std.proofs.lemmas.List.Elements.{filter-append}
use Rattle.am_record.specs.Plain.{PlainMap, Draft, fresh, draft_after, answers_on, answers}
use Rattle.am_record.specs.declared.step.Op.{Op}
use Rattle.am_record.specs.declared.step.Reply.{Reply}
use Rattle.am_replica.specs.Bodies.{kept_ops, replies, is_given, given}
use Rattle.am_replica.specs.Ordered.{Sum, same_sum}
use Rattle.am_replica.specs.Told.{TransactionState, still_stands, untold, NoCollision, WasTold}
use Rattle.am_replica.specs.Told.{IsOneState}
use Rattle.am_replica.proofs.Given.{given_are_answers, first_replies}
use Rattle.am_replica.proofs.Kept.{kept_twice}

answers_length : (ops : List Op) (d : Draft) → length (answers_on ops d) ≡ length ops
answers_length [] d = refl
answers_length (op ∷ ops) d = ap (λ n. suc n) (answers_length ops (draft_after op d))

module _ (digest : List Reply → Sum) (t : TransactionState) (told : List Reply) (lines : List Op) (m : PlainMap) where
  abbrev all : List Reply
  all = replies (t.ops ++ lines) m

  abbrev first : List Reply
  first = given (take (length t.ops) all)

  -- what the told lines are answered now
  now : WasTold digest t told → first ≡ answers t.ops m
  now was =
      ap given (first_replies m [] t.ops lines)
      ∙ sym (given_are_answers m [] t.ops)
      ∙ ap (λ ops. answers ops m) was.kept

  both : first ++ given (untold t lines m) ≡ given all
  both = sym (filter-append is_given (take (length t.ops) all) (untold t lines m)) ∙
      ap given (take-append-drop (length t.ops) all)

  pub one_state : WasTold digest t told → NoCollision digest first told → still_stands digest t lines m ≡ true
      → IsOneState digest t told lines m
  one_state was apart stands =
      let same : first ≡ told = apart (subst (λ sum. same_sum (digest first) sum ≡ true) was.sum stands) in
      let whole : told ++ given (untold t lines m) ≡ given all = ap (λ rs. rs ++ given (untold t lines m)) (sym same) ∙
      both in
      let alone : told ++ given (untold t lines m) ≡ answers (kept_ops (t.ops ++ lines)) m =
      whole ∙ sym (given_are_answers m [] (t.ops ++ lines)) in
      record {
        before = sym same ∙ now was;
        with_lines = alone;
        on = record {
          kept = kept_twice (t.ops ++ lines);
          each = ap length alone ∙ answers_length (kept_ops (t.ops ++ lines)) (fresh m);
          sum = ap digest (sym whole);
        };
      }
