-- What all clients of an entry are told.
use Rattle.std.proofs.Common.{◌≡◌, ℕ, List, [], ◌∷◌, ◌++◌, Ok, sym, ap, ◌∙◌, subst}
use Rattle.std.proofs.Common.{append_assoc, append-nil, arith, length, Vec}
use Rattle.std.specs.declared.alloc.Global.{Global}
use Rattle.am_record.specs.declared.step.Reply.{Reply}
use Rattle.am_replica_entries.specs.Reading.{entry_in}
use Rattle.am_replica_entries.specs.Texts.{TheBlock, the_blocks}
use Rattle.am_replica_entries.specs.declared.block.Block.{Block as EntryBlock}
use Rattle.am_replica.specs.Ordered.{Sum, Ordered, Verdict, verdicts}
use Rattle.am_replica.specs.declared.block.Outcome.{Outcome}
use Rattle.am_replica.specs.declared.block.Block.{Block}
use Rattle.am_replica_blocks.specs.Blocks.{BlockLine}
use Rattle.am_replica_lines.specs.Lines.{said, asked_by, told_lines}
use Rattle.am_replica_texts.specs.Entries.{AreBlocksOf, IsEntryApplied}
use Rattle.am_replica_texts.specs.declared.apply.EntryOutcome.{EntryOutcome}
use Rattle.am_replica_texts.specs.declared.apply.EntryOutcome.TheVariants.{Applied}
use Rattle.am_replica_outcomes.specs.Outcomes.{told_at_end}
use Rattle.am_replica_outcomes.specs.Entries.{AreLinesOf, told_to_all, IsOfEntry}

-- ---- an entry whose blocks were read has lines

pub record LinesOf (entry : List TheBlock) : Type 0 where
  pub lines : List (List BlockLine)
  pub asks : AreLinesOf entry lines

pub lines_of_all : (digest : List Reply → Sum) (entry : List TheBlock) (blocks : List Block) →
    AreBlocksOf digest entry blocks → LinesOf entry
lines_of_all digest [] [] of = record { lines = []; asks = tt }
lines_of_all digest (e ∷ entry) (b ∷ blocks) of =
    let rest = lines_of_all digest entry blocks of.1 in
    record { lines = of.0.lines.lines ∷ rest.lines; asks = (of.0.lines.asks, rest.asks) }
lines_of_all digest [] (b ∷ blocks) of = absurd of
lines_of_all digest (e ∷ entry) [] of = absurd of

-- ---- one client after another

-- Where the texts stand: these blocks are left, with these outcomes, and with theirs the text so far is the whole one.
pub record IsLeft (entry : List TheBlock) (verdicts : List Verdict) (so_far whole : List ℕ) : Type 0 where
  pub lines : List (List BlockLine)
  pub asks : AreLinesOf entry lines
  pub leads : so_far ++ told_to_all entry lines verdicts ≡ whole

pub no_blocks : (verdicts : List Verdict) (so_far whole : List ℕ) → IsLeft [] verdicts so_far whole → so_far ≡ whole
no_blocks verdicts so_far whole left = sym (append-nil so_far) ∙ at left.lines left.leads
  where
    at : (lines : List (List BlockLine)) → so_far ++ told_to_all [] lines verdicts ≡ whole → so_far ++ [] ≡ whole
    at [] leads = leads
    at (l ∷ lines) leads = leads

pub no_outcomes : (entry : List TheBlock) (so_far whole : List ℕ) → IsLeft entry [] so_far whole → so_far ≡ whole
no_outcomes entry so_far whole left = sym (append-nil so_far) ∙ at entry left.lines left.leads
  where
    at : (entry : List TheBlock) (lines : List (List BlockLine)) → so_far ++ told_to_all entry lines [] ≡ whole →
        so_far ++ [] ≡ whole
    at [] [] leads = leads
    at [] (l ∷ lines) leads = leads
    at (e ∷ entry) [] leads = leads
    at (e ∷ entry) (l ∷ lines) leads = leads

pub one_told : (e : TheBlock) (entry : List TheBlock) (verdict : Verdict) (verdicts : List Verdict)
    (so_far text whole : List ℕ) →
    ((lines : List BlockLine) → said e.lines ≡ asked_by lines → text ≡ told_at_end (told_lines e.told) lines verdict) →
    IsLeft (e ∷ entry) (verdict ∷ verdicts) so_far whole → IsLeft entry verdicts (so_far ++ text) whole
one_told e entry verdict verdicts so_far text whole tells left = at left.lines left.asks left.leads
  where
    at : (lines : List (List BlockLine)) → AreLinesOf (e ∷ entry) lines →
        so_far ++ told_to_all (e ∷ entry) lines (verdict ∷ verdicts) ≡ whole →
        IsLeft entry verdicts (so_far ++ text) whole
    at [] asks leads = absurd asks
    at (l ∷ lines) asks leads = record {
      lines = lines;
      asks = asks.1;
      leads = append_assoc so_far text (told_to_all entry lines verdicts)
          ∙ ap (λ (t : List ℕ). so_far ++ (t ++ told_to_all entry lines verdicts)) (tells l asks.0) ∙ leads;
    }

-- ---- lists in memory

pub none_left : (blocks : List EntryBlock) (verdicts : List Verdict) (so_far whole : List ℕ) → length blocks ≡ 0 →
    IsLeft (the_blocks blocks) verdicts so_far whole → so_far ≡ whole
none_left [] verdicts so_far whole none left = no_blocks verdicts so_far whole left
none_left (b ∷ blocks) verdicts so_far whole none left = absurd (omega (arith, none))

pub none_came : (entry : List TheBlock) (outcomes : List Outcome) (so_far whole : List ℕ) → length outcomes ≡ 0 →
    IsLeft entry (verdicts outcomes) so_far whole → so_far ≡ whole
none_came entry [] so_far whole none left = no_outcomes entry so_far whole left
none_came entry (o ∷ outcomes) so_far whole none left = absurd (omega (arith, none))

-- ---- the whole entry

pub told_of_entry : (digest : List Reply → Sum) (text told : List ℕ) (old new : Ordered)
    (items applied written : List EntryBlock) (outcomes : Vec Outcome Global) (come : List Outcome)
    (ended : EntryOutcome) →
    applied ≡ items → written ≡ items → come ≡ outcomes.items → ended ≡ Applied outcomes →
    entry_in text ≡ Ok (the_blocks items) → IsEntryApplied digest (the_blocks applied) old ended new →
    ((lines : List (List BlockLine)) → AreLinesOf (the_blocks written) lines →
    told ≡ told_to_all (the_blocks written) lines (verdicts come)) → IsOfEntry digest text old told new
told_of_entry digest text told old new items applied written outcomes come ended a w o is read of tells =
    let done = subst (λ ended. IsEntryApplied digest (the_blocks items) old ended new) is
    (subst (λ entry. IsEntryApplied digest (the_blocks entry) old ended new) a of) in
    let all = lines_of_all digest (the_blocks items) done.blocks done.of in
    record {
      entry = the_blocks items;
      read = read;
      comes = record {
        lines = all.lines;
        asks = all.asks;
        blocks = done.blocks;
        each = done.of;
        tells = tells all.lines (subst (λ entry. AreLinesOf (the_blocks entry) all.lines) (sym w) all.asks)
            ∙ ap (λ entry. told_to_all (the_blocks entry) all.lines (verdicts come)) w
            ∙ ap (λ ends. told_to_all (the_blocks items) all.lines (verdicts ends)) o
            ∙ ap (λ ends. told_to_all (the_blocks items) all.lines ends) done.comes;
        leads = done.leads;
      };
    }
