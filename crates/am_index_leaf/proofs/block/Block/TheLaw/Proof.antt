-- A `&` to a block is made where one to a value is. It lends the values, and neither the room after them nor the right
-- to give the block back. Assumes `Logic`.
use Rattle.std.specs.Prelude.{List, [], ◌++◌, ◌*◌, ◌^◌, ◌-◌, length}
use Rattle.std.specs.Mem.{type_size}
use seplogic.Ra.Ura.{Ura}
use base.Fraction.{full_share}
use base.Fml.{Lft, Incl-trans, flt, fsep}
use mir.Raw.{raw}
use mir.Syntax.{ty_array}
use types.Logic.{Logic}
use contract.BorrowLft.{meet_⊑_left}
use denote.RattleType.{RattleType}
use denote.Memory.{lone}
use denote.Array.{Array}
use denote.ArrayMemory.{Single}
use denote.RawPtr.{Ptr, block_ptr, null_ptr, lies_at, room_for, in_block, ◌+ₚ◌}
use denote.Sharing.{said}
use denote.Shares.{Shares, Shares-less, Shares-Array}
use denote.Param.Laws.{Laws}
use denote.Param.Shared.{copy_shared}
use denote.Struct.Field.{RawPtr-field}
use denote.Struct.Laws.{RawPtr-copy}
use denote.Struct.Lending.{lent_at, Lends, Lends-false, Lends-lies, Lends-said, Lends-first, Lends-both, of_Lends}
use mathlib.Core.Path.{sym, subst}
use Rattle.std.specs.declared.alloc.Global.{Global}
use Rattle.std.specs.contracts.alloc.Global as Heap
use Rattle.std.specs.contracts.impls.GlobalAllocator.TheImpl.{ghosts}
use Rattle.std.proofs.alloc.Global.TheLaws.{the_field_shared}
use Rattle.core.specs.Allocator.{block_with_items}
use Rattle.std.proofs.SharedLaws.{lent_shr_laws}
use Rattle.am_index_leaf.specs.contracts.block.Block.TheInside as C
use Rattle.am_index_leaf.proofs.block.Block.TheLaw.Statement.{statement}

module _ {M : Type 1} {𝓤 : Ura M} (𝓛 : Logic 𝓤) (g : Global) (R : RattleType) (L : Laws R) (l : Lft) (s : Shares 𝓛 R l)
    (xs : List R.Denot) where
  Lends-values : (p : Ptr) → Lends 𝓛 (in_block p (block_with_items (ghosts.dealloc_token g) R p (length xs) 32 xs))
      (lent_at (Array R (length xs)) p xs) l
  Lends-values null_ptr = Lends-false 𝓛 (lent_at (Array R (length xs)) null_ptr xs) l
  Lends-values (block_ptr b o) =
      let p : Ptr = block_ptr b o in let n = length xs in
      Lends-first 𝓛 (lies_at (Array R n) full_share p xs)
      (fsep (room_for (raw (ty_array (lone R.mir) (32 - n))) (p +ₚ (n * type_size R)))
      (ghosts.dealloc_token g (raw (ty_array (lone R.mir) 32)) p)) (lent_at (Array R n) p xs) l
      (Lends-lies 𝓛 (Array R n) l p xs (Shares-Array 𝓛 R (subst Single (sym L.one) tt) n l s xs))

pub shares : (K : RattleType) (L : Laws K) → statement K L
shares K L = of_Lends (C.struct K) (C.the_codes K.Denot K.coded (Heap.the_row).coded) (C.the_heap K) (C.the_lent K)
    (λ d p. lent_shr_laws K L.shr_laws d.at (length d.values) 32 d.values)
    (copy_shared RawPtr-field RawPtr-copy, (the_field_shared, tt))
    (λ M 𝓤 𝓛 d p.
    let l = (C.the_row K).lives in let small = flt (32 * type_size K) (2 ^ 63) in
    Lends-both 𝓛 small (in_block d.at (block_with_items (ghosts.dealloc_token d.alloc) K d.at (length d.values) 32
    d.values)) (said small) (lent_at (Array K (length d.values)) d.at d.values) l (Lends-said 𝓛 small tt l)
    (Lends-values 𝓛 d.alloc K L l (Shares-less 𝓛 K K.lives l
    (Incl-trans (meet_⊑_left (K.lives ++ []) _) (meet_⊑_left K.lives [])) (L.shares 𝓛)) d.values d.at))
