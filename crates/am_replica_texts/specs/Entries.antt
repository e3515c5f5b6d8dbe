-- The texts of entries, as a replica takes them.
use Rattle.std.specs.Prelude.{◌≡◌, ℕ, List, [], ◌∷◌, Ok}
use Rattle.am_record.specs.declared.step.Reply.{Reply}
use Rattle.am_replica_entries.specs.Reading.{entry_in}
use Rattle.am_replica_entries.specs.Texts.{TheBlock}
use Rattle.am_replica_lines.specs.Lines.{IsBlockOf}
use Rattle.am_replica.specs.Ordered.{Sum, Ordered, Verdict, verdicts, outcomes, after_blocks}
use Rattle.am_replica.specs.declared.block.Block.{Block}
use Rattle.am_replica_texts.specs.declared.apply.EntryOutcome.{EntryOutcome}
use Rattle.am_replica_texts.specs.declared.apply.EntryOutcome.TheVariants.{Applied, Nothing}

-- each block is that of an entry's, as a replica takes it
abbrev pub AreBlocksOf : (List Reply → Sum) → List TheBlock → List Block → Type 0
AreBlocksOf digest [] [] = Unit {0}
AreBlocksOf digest (e ∷ entry) (b ∷ blocks) = IsBlockOf digest e b × AreBlocksOf digest entry blocks
AreBlocksOf digest entry blocks = ⊥

-- the text is that of an entry with these blocks
pub record IsEntryOf (digest : List Reply → Sum) (text : List ℕ) (blocks : List Block) : Type 0 where
  pub entry : List TheBlock
  pub read : entry_in text ≡ Ok entry
  pub each : AreBlocksOf digest entry blocks

-- it is none of an entry
abbrev pub IsNoEntry : (List Reply → Sum) → List ℕ → Type 0
IsNoEntry digest text = (blocks : List Block) → IsEntryOf digest text blocks → ⊥

-- the blocks that they are come to what they come to in their turn, and lead where they lead
pub record AreApplied (AreOf : List Block → Type 0) (digest : List Reply → Sum) (old : Ordered) (told : List Verdict)
    (new : Ordered) : Type 0 where
  pub blocks : List Block
  pub of : AreOf blocks
  pub comes : told ≡ outcomes digest blocks old
  pub leads : new ≡ after_blocks digest blocks old

-- what became of an entry: a line of one of its blocks may be none of a block's
abbrev pub IsEntryApplied : (List Reply → Sum) → List TheBlock → Ordered → EntryOutcome → Ordered → Type 0
IsEntryApplied digest entry old (Applied told) new =
    AreApplied (AreBlocksOf digest entry) digest old (verdicts told.items) new
IsEntryApplied digest entry old Nothing new =
    ((blocks : List Block) → AreBlocksOf digest entry blocks → ⊥) × (new ≡ old)

-- what became of a text
abbrev pub IsApplied : (List Reply → Sum) → List ℕ → Ordered → EntryOutcome → Ordered → Type 0
IsApplied digest text old (Applied told) new =
    AreApplied (IsEntryOf digest text) digest old (verdicts told.items) new
IsApplied digest text old Nothing new = IsNoEntry digest text × (new ≡ old)
