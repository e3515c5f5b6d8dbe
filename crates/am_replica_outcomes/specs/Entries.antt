-- What the clients of an entry's blocks are told.
use Rattle.std.specs.Prelude.{◌≡◌, ℕ, List, [], ◌∷◌, ◌++◌, Option, Some, None, Ok}
use Rattle.am_record.specs.declared.step.Reply.{Reply}
use Rattle.am_replica_entries.specs.Reading.{entry_in}
use Rattle.am_replica_entries.specs.Texts.{TheBlock}
use Rattle.am_replica.specs.Ordered.{Sum, Ordered, Verdict, outcomes, after_blocks}
use Rattle.am_replica.specs.declared.block.Block.{Block}
use Rattle.am_replica_blocks.specs.Blocks.{BlockLine}
use Rattle.am_replica_lines.specs.Lines.{said, asked_by, told_lines}
use Rattle.am_replica_texts.specs.Entries.{AreBlocksOf, IsNoEntry}
use Rattle.am_replica_outcomes.specs.Outcomes.{told_at_end}

-- these are the lines of each block
abbrev pub AreLinesOf : List TheBlock → List (List BlockLine) → Type 0
AreLinesOf [] [] = Unit {0}
AreLinesOf (block ∷ entry) (lines ∷ each) = (said block.lines ≡ asked_by lines) × AreLinesOf entry each
AreLinesOf entry each = ⊥

-- what the clients are told, one after another
abbrev pub told_to_all : List TheBlock → List (List BlockLine) → List Verdict → List ℕ
told_to_all (block ∷ entry) (lines ∷ each) (verdict ∷ verdicts) =
    told_at_end (told_lines block.told) lines verdict ++ told_to_all entry each verdicts
told_to_all entry each verdicts = []

-- the entry's blocks come to what they come to in their turn, their clients are told so, and they lead where they lead
pub record IsEntryTold (digest : List Reply → Sum) (entry : List TheBlock) (old : Ordered) (told : List ℕ)
    (new : Ordered) : Type 0 where
  pub lines : List (List BlockLine)
  pub asks : AreLinesOf entry lines
  pub blocks : List Block
  pub each : AreBlocksOf digest entry blocks
  pub tells : told ≡ told_to_all entry lines (outcomes digest blocks old)
  pub leads : new ≡ after_blocks digest blocks old

pub record IsOfEntry (digest : List Reply → Sum) (text : List ℕ) (old : Ordered) (told : List ℕ)
    (new : Ordered) : Type 0 where
  pub entry : List TheBlock
  pub read : entry_in text ≡ Ok entry
  pub comes : IsEntryTold digest entry old told new

-- what a text comes to: nothing, where it is none of an entry
abbrev pub IsTextTold : (List Reply → Sum) → List ℕ → Ordered → Option (List ℕ) → Ordered → Type 0
IsTextTold digest text old (Some told) new = IsOfEntry digest text old told new
IsTextTold digest text old None new = IsNoEntry digest text × (new ≡ old)
