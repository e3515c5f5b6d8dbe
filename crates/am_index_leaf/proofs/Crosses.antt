-- A block may cross threads as its values may: what it owns and lends names no thread.
use Rattle.std.specs.Prelude.{List, ◌-◌, ◌*◌, length}
use Rattle.std.specs.Mem.{type_size}
use mir.Raw.{raw}
use mir.Syntax.{Ty, ty_array}
use base.Fml.{Fml, ftrue}
use base.Shift.{Keyless}
use base.Fraction.{full_share}
use denote.Exit.{Exit, unchanged, leaves, hidden, under}
use denote.RattleType.{RattleType}
use denote.Array.{Array}
use denote.Memory.{lone}
use denote.RawPtr.{Ptr, block_ptr, null_ptr, block_of, count_of, lies_at, room_for, in_block, ◌+ₚ◌}
use denote.Struct.Struct.{exits_of}
use denote.Struct.Owning.{shape, fields, to}
use denote.Param.Send.{IsSend, IsSync, Quiet, Common, part_keyless, AllSend, AllSync, owning_send, struct_send}
use denote.Param.Send.{struct_sync, array_send, array_sync, view_send, view_sync, sendable}
use Rattle.std.proofs.Crossing.{frees}
use Rattle.std.proofs.alloc.Global.TheSendSync as handle
use Rattle.std.specs.declared.alloc.Global.{Global}
use Rattle.am_index_leaf.specs.Blocks.{block_owns, block_lends}
use Rattle.am_index_leaf.specs.contracts.block.Block as Block
use Rattle.am_index_leaf.specs.contracts.block.Block.TheInside as Inside

quiet : {D X : Type 0} (f : D → X) (e : Exit X) → Quiet e → Quiet (hidden (under f e))
quiet f unchanged q = λ x w. tt
quiet f (leaves L l S s r₀) q = λ d. q (f d)

room-Keyless : (τ : Ty) (p : Ptr) → Keyless (room_for τ p)
room-Keyless τ (block_ptr b o) = tt
room-Keyless τ null_ptr = tt

inside-Keyless : (p : Ptr) (F : Fml) → Keyless F → Keyless (in_block p F)
inside-Keyless (block_ptr b o) F k = k
inside-Keyless null_ptr F k = tt

lies-Keyless : (R : RattleType) → IsSend R → (p : Ptr) (x : R.Denot) → Keyless (lies_at R full_share p x)
lies-Keyless R s (block_ptr b o) x = part_keyless R s full_share x b o
lies-Keyless R s null_ptr x = tt

module _ (R : RattleType) where
  owns-Keyless : IsSend R → (g : Global) (p : Ptr) (xs : List R.Denot) → Keyless (block_owns R g p xs)
  owns-Keyless s g p xs = (
    tt,
    inside-Keyless p _ (
      lies-Keyless (Array R (length xs)) (array_send R (length xs) s) p xs,
      (
        room-Keyless (raw (ty_array (lone R.mir) (32 - length xs))) (p +ₚ length xs * type_size R),
        frees.frees g (raw (ty_array (lone R.mir) 32)) p,
      ),
    ),
  )

  lends-Common : IsSync R → (p : Ptr) (xs : List R.Denot) → Common (block_lends R p xs)
  lends-Common y p xs κ = (
    tt,
    (
      inside-Keyless p ftrue tt,
      (array_sync R (length xs) y).shared xs (block_of p)
          (count_of p) κ,
    ),
  )

  pub Block-send : IsSend R → IsSend (Block.the_row R)
  Block-send s =
      let O = Inside.the_type R in let all : AllSend (fields O) = (search sendable, (handle.the_field_send, tt)) in
      view_send _ _ _ _ _ (owning_send O all (λ d. owns-Keyless s d.alloc d.at d.values)
      (λ k. quiet (to O) (exits_of k (fields O)) ((struct_send (shape O) all).leaving k)))

  pub Block-sync : IsSync R → IsSync (Block.the_row R)
  Block-sync y =
      let O = Inside.the_type R in let all : AllSync (fields O) = (search sendable, (handle.the_field_sync, tt)) in
      let inside : IsSync (Inside.the_row R) = record {
        shared = λ d b o κ.
            ((struct_sync (shape O) all).shared (to O d) b o κ, lends-Common y d.at d.values κ);
      } in
      view_sync _ _ _ _ _ inside
