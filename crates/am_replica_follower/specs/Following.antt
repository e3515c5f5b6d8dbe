-- A replica that follows the log.
use Rattle.std.specs.Prelude.{◌≡◌, ◌⊎◌, ℕ, List, [], ◌∷◌, ◌++◌, Option, Some, None}
use Rattle.am_record.specs.declared.step.Reply.{Reply}
use Rattle.am_replica_log.specs.declared.pieces.Entry.{Entry}
use Rattle.am_replica_log.specs.History.{History, counted_entries}
use Rattle.am_replica_log.specs.LogState.{LogState}
use Rattle.am_replica_log.specs.Readers.{IsAt}
use Rattle.am_replica.specs.Ordered.{Sum, Ordered, after_blocks, commits_of, AreInTurn, left_by}
use Rattle.am_replica.specs.declared.block.Block.{Block}
use Rattle.am_replica_texts.specs.Entries.{IsEntryOf, IsNoEntry, IsApplied}
use Rattle.am_replica_texts.specs.declared.apply.EntryOutcome.{EntryOutcome}
use Rattle.am_replica_texts.specs.declared.apply.EntryOutcome.TheVariants.{Nothing}

-- an entry's blocks: none where not all of its pieces came, or where its text is none of an entry
abbrev pub AreOf : (List Reply → Sum) → Option (List ℕ) → List Block → Type 0
AreOf digest None blocks = blocks ≡ []
AreOf digest (Some text) blocks = IsEntryOf digest text blocks ⊎ (IsNoEntry digest text × (blocks ≡ []))

-- the blocks of entries, of which the newest stands first, in their order
abbrev pub AreOfAll : (List Reply → Sum) → List Entry → List Block → Type 0
AreOfAll digest [] blocks = blocks ≡ []
AreOfAll digest (e ∷ entries) blocks = (front last : List Block) × (blocks ≡ front ++ last)
    × AreOfAll digest entries front × AreOf digest e.text last

-- A reader that was told of all since the log's beginning, and where the replica stands: the blocks of all entries that
-- count led there, one after another; those that committed were answered as if they alone were applied whole, in this
-- order, and their numbers rise by one.
pub record Follows (digest : List Reply → Sum) (start : Ordered) (history : History) (log : LogState) (at : Ordered)
    : Type 0 where
  pub reads : IsAt 0 log history
  pub blocks : List Block
  pub of : AreOfAll digest (counted_entries history) blocks
  pub leads : at ≡ after_blocks digest blocks start
  pub serial : AreInTurn (commits_of digest blocks start) start
  pub left : at.map ≡ left_by (commits_of digest blocks start) start.map

-- what became of an entry's text
abbrev pub IsTaken : (List Reply → Sum) → Option (List ℕ) → Ordered → EntryOutcome → Ordered → Type 0
IsTaken digest None old told new = (told ≡ Nothing) × (new ≡ old)
IsTaken digest (Some text) old told new = IsApplied digest text old told new

-- what is told of a change, by the entry that counts with it
abbrev pub IsTold : (List Reply → Sum) → Option Entry → Ordered → Option EntryOutcome → Ordered → Type 0
IsTold digest None old None new = new ≡ old
IsTold digest (Some entry) old (Some told) new = IsTaken digest entry.text old told new
IsTold digest entry old told new = ⊥
