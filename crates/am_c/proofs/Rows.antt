-- A scan's reply has no more rows than were asked for.
use Rattle.std.proofs.Common.{ℕ, ◌≤◌, List, length, subst, sym, arith}
use Rattle.std.specs.Prelude.{Option, None, Some, Result, Ok, Err}
use Rattle.am_record.specs.Interval.{Interval}
use Rattle.am_record.specs.declared.step.Op.{Op}
use Rattle.am_record.specs.declared.step.Op.TheVariants.{Scan, ScanBack}
use Rattle.am_record.specs.declared.step.Step.TheVariants.{Do}
use Rattle.am_record.specs.declared.step.Reply.{Reply}
use Rattle.am_record.specs.declared.step.Reply.TheVariants.{Rows}
use Rattle.am_law_sound.specs.StoreState.{StoreState}
use Rattle.am_store.specs.StoreSteps.{IsWithin}
use Rattle.am_c_steps.specs.declared.status.Status.{Status}
use Rattle.am_c_steps.specs.AnswerParts.{answer_rows}
use Rattle.am_c_steps.specs.AskedSteps.{scan_asked, scan_back_asked, of_one}
use Rattle.am_c_steps.specs.Texts.{range_given}
use Rattle.am_c_store.specs.StoreSteps.{Answers}

reply_fits : (tx n : ℕ) (range : Interval) (reply : Reply) → IsWithin (Do tx (Scan range n)) reply →
    length (answer_rows (Ok reply)) ≤ n
reply_fits tx n range (Rows rows) h = h
reply_fits tx n range reply h = omega arith

reply_back_fits : (tx n : ℕ) (range : Interval) (reply : Reply) → IsWithin (Do tx (ScanBack range n)) reply →
    length (answer_rows (Ok reply)) ≤ n
reply_back_fits tx n range (Rows rows) h = h
reply_back_fits tx n range reply h = omega arith

-- what asks for rows of a range, by a reply that has no more of them
module _ (tx n : ℕ) (op : Interval → Op) (fits : (range : Interval) (reply : Reply) →
    IsWithin (Do tx (op range)) reply →
    length (answer_rows (Ok reply)) ≤ n) (answer : Result Reply Status) (held : Option StoreState) where
  by_range : (o : Option StoreState) (r : Result Interval Status) →
      Answers o (of_one (λ (range : Interval). Do tx (op range)) r) answer held → length (answer_rows answer) ≤ n
  by_range None r h = subst (λ (a : Result Reply Status). length (answer_rows a) ≤ n) (sym h.0) (omega arith)
  by_range (Some p) (Err why) h = subst (λ (a : Result Reply Status). length (answer_rows a) ≤ n) (sym h.0)
      (omega arith)
  by_range (Some p) (Ok range) h = subst (λ (a : Result Reply Status). length (answer_rows a) ≤ n) (sym h.replied)
      (fits range h.reply h.takes.owed.within)

pub rows_fit : (old : Option StoreState) (tx n : ℕ) (lo hi : List ℕ) (answer : Result Reply Status)
    (held : Option StoreState) → Answers old (scan_asked tx lo hi n) answer held → length (answer_rows answer) ≤ n
rows_fit old tx n lo hi answer held answers =
    by_range tx n (λ range. Scan range n) (reply_fits tx n) answer held old (range_given lo hi) answers

pub rows_back_fit : (old : Option StoreState) (tx n : ℕ) (lo hi : List ℕ) (answer : Result Reply Status)
    (held : Option StoreState) → Answers old (scan_back_asked tx lo hi n) answer held → length (answer_rows answer) ≤ n
rows_back_fit old tx n lo hi answer held answers =
    by_range tx n (λ range. ScanBack range n) (reply_back_fits tx n) answer held old (range_given lo hi) answers
