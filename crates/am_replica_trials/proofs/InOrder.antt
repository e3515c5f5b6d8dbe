-- Transactions in order, and the operations that their lines ask for.
use Rattle.std.proofs.Common.{◌≡◌, ◌+◌, ℕ, length, take, List, [], ◌∷◌, ◌++◌, refl, sym, ap, ◌∙◌, arith}
use Rattle.std.specs.List.{flat_map}
use Rattle.std.proofs.lemmas.List.{length-append, take-append-le, take_all}
use Rattle.am_replica.specs.Bodies.{kept_ops}
use Rattle.am_replica.specs.Told.{TransactionState}
use Rattle.am_replica_blocks.specs.Blocks.{BlockLine, Asks, Stages, asked_ops}
use Rattle.am_replica_lines.specs.Lines.{asked_by}
use Rattle.am_replica_trials.specs.Trials.{TrialState, HasLines, line_in, kept_in, WereTried}

lines_back : (own : List BlockLine) → flat_map line_in (asked_by own) ≡ own
lines_back [] = refl
lines_back (Asks op ∷ own) = ap (λ ls. Asks op ∷ ls) (lines_back own)
lines_back (Stages records ∷ own) = ap (λ ls. Stages records ∷ ls) (lines_back own)

-- a transaction's operations are those that its lines ask for
pub ops_are : (own : List BlockLine) (s : TrialState) → HasLines own s → kept_in s.lines ≡ s.transaction.ops
ops_are own s has =
    ap (λ says. kept_ops (asked_ops [] (flat_map line_in says))) has.asks
    ∙ ap (λ ls. kept_ops (asked_ops [] ls)) (lines_back own)
    ∙ sym has.ops

pub none_tried : (s : TrialState) → HasLines [] s → WereTried 0 [] s
none_tried s has = record { has = has; within = omega arith; first = sym has.ops }

-- all lines were tried
pub all_tried : (own : List BlockLine) (s : TrialState) (tried : ℕ) → tried ≡ length s.lines → HasLines own s →
    WereTried tried own s
all_tried own s tried all has = record {
  has = has;
  within = omega (arith, all);
  first = ap kept_in (take_all tried s.lines (omega (arith, all))) ∙ ops_are own s has;
}

-- further lines asked for no operation
pub tried_before : (tried : ℕ) (own own' : List BlockLine) (s s' : TrialState) (more : List ℕ) → WereTried tried own s →
    s'.lines ≡ s.lines ++ more → s'.transaction ≡ s.transaction → HasLines own' s' → WereTried tried own' s'
tried_before tried own own' s s' more were lines same has =
    let long : length s'.lines ≡ length s.lines + length more = ap length lines ∙ length-append s.lines more in
    let within = were.within in
    record {
      has = has;
      within = omega (arith, long, within);
      first =
          ap (λ text. kept_in (take tried text)) lines
          ∙ ap kept_in (take-append-le tried s.lines more within)
          ∙ were.first
          ∙ ap (λ (t : TransactionState). t.ops) (sym same);
    }
