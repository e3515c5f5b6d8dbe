-- What a block of 32 places owns, and what a `&` to it lends, at values of the row R.
use Rattle.std.specs.Prelude.{◌*◌, ◌^◌, List, length}
use Rattle.std.specs.Mem.{type_size}
use base.Fml.{Fml, Lft, fsep, flt}
use denote.RattleType.{RattleType}
use denote.Array.{Array}
use denote.RawPtr.{Ptr, in_block}
use denote.Sharing.{said, beside}
use denote.Struct.Lending.{lent_at}
use Rattle.std.specs.declared.alloc.Global.{Global}
use Rattle.std.specs.contracts.impls.GlobalAllocator.TheImpl.{ghosts}
use Rattle.core.specs.Allocator.{block_with_items}

-- from p on a place for each of 32 values: the first hold xs, the others are room; and the right to give the block back
abbrev pub block_owns : (R : RattleType) → Global → Ptr → List R.Denot → Fml
block_owns R g p xs = fsep (flt (32 * type_size R) (2 ^ 63))
    (in_block p (block_with_items (ghosts.dealloc_token g) R p (length xs) 32 xs))

-- the values, and the bound on the size of the block
abbrev pub block_lends : (R : RattleType) → Ptr → List R.Denot → Lft → Fml
block_lends R p xs = beside (said (flt (32 * type_size R) (2 ^ 63))) (lent_at (Array R (length xs)) p xs)
