-- What an entry has, and its one text.
use Rattle.std.specs.Prelude.{◌≡◌, ℕ, ◌<◌, ◌^◌, List, [], ◌∷◌, ◌++◌, length, map, Option, Some, None, IfSome}
use Rattle.std.specs.List.{flat_map, AllByRecursion}
use Rattle.std.specs.Int.{w32, to_be_bytes}
use Rattle.am_replica_entries.specs.declared.block.Block.{Block}
use Rattle.am_replica_entries.specs.declared.block.Told.{Told}

-- a block without where it lies in memory
pub record TheBlock : Type 0 where
  pub lines : List ℕ
  pub told : Option Told

abbrev pub the_block : Block → TheBlock
the_block b = record { lines = b.lines.items; told = b.told }

abbrev pub the_blocks : List Block → List TheBlock
the_blocks blocks = map the_block blocks

-- four bytes of length, and that many bytes
abbrev pub string : List ℕ → List ℕ
string bytes = to_be_bytes w32 (length bytes) ++ bytes

-- a flag, and where it is set the number of answers and their digest
abbrev pub told_bytes : Option Told → List ℕ
told_bytes None = 0 ∷ []
told_bytes (Some t) = 1 ∷ (to_be_bytes w32 t.lines ++ t.digest)

abbrev pub block_bytes : TheBlock → List ℕ
block_bytes b = string b.lines ++ told_bytes b.told

-- the form, how many blocks, and these
abbrev pub entry_text : List TheBlock → List ℕ
entry_text blocks = 1 ∷ (to_be_bytes w32 (length blocks) ++ flat_map block_bytes blocks)

-- what has a text: some lines were answered, or nothing is told
pub record ToldHasText (t : Told) : Type 0 where
  pub some : 0 < t.lines
  pub lines : t.lines < 2 ^ 32
  pub digest : length t.digest ≡ 32

pub record HasEntryText (b : TheBlock) : Type 0 where
  pub lines : length b.lines < 2 ^ 32
  pub told : IfSome b.told ToldHasText

abbrev pub AreBlocks : List TheBlock → Type 0
AreBlocks blocks = (length blocks < 2 ^ 32) × AllByRecursion HasEntryText blocks
