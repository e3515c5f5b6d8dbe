-- A latch may be lent to several threads, since what lies under it may go to another.
use Rattle.std.proofs.Crossing.{crosses}
use Rattle.std.proofs.alloc.Global.TheSendSync as heap
use Rattle.std.proofs.marker.PhantomData.TheSendSync as phantom
use Rattle.std.proofs.sync.Mutex.TheSendSync as mutex
use denote.RattleType.{RattleType}
use denote.Param.Send.{IsSend, IsSync, sendable, struct_send, struct_sync, recorded_send, recorded_sync, plain_sync}
use denote.Param.Send.{view_send}
use denote.Struct.Declared as declared
use Rattle.atomic_table.proofs.badge.Badge.TheSendSync as badge
use Rattle.atomic_table.proofs.owned.Table.TheSendSync as table
use Rattle.atomic_table.proofs.shared.Seat.TheSendSync as seat
use Rattle.am_record.proofs.step.Step.TheSendSync as step
use Rattle.am_record.proofs.step.Reply.TheSendSync as reply
use Rattle.am_index_btree.proofs.Crosses.{tree_send}
use Rattle.am_store.proofs.store.Store.TheSendSync as store
use Rattle.am_latch.specs.declared.latch_name.LatchName as latch_name
use Rattle.am_latch_ties.specs.contracts.views.View as View
use Rattle.am_latch_engine.specs.contracts.engine.Engine as Engine
use Rattle.am_latch_engine.specs.contracts.hand_outs.Handed as Handed
use Rattle.am_latch.specs.contracts.state.LatchState as LatchState
use Rattle.am_latch.specs.contracts.state.LatchState.TheInside as HeldInside
use Rattle.am_latch.specs.contracts.latch.Latch as Latch
use Rattle.am_latch_ties.specs.contracts.taker_tie.TakenView as TakenView
use Rattle.am_latch.specs.contracts.taker.Taker as Taker
use Rattle.am_latch.proofs.taker.Taker.TheSendSync as taker
use Rattle.am_latch_ties.proofs.call_id.CallId.TheSendSync as call_id

handed_send : IsSend Handed.the_row
handed_send = search (crosses, sendable, table.the_field_send, seat.the_send, heap.the_send) depth 60

engine_send : IsSend Engine.the_row
engine_send = search (
  crosses,
  sendable,
  tree_send,
  store.the_send,
  handed_send,
  step.the_field_send,
  reply.the_field_send,
  call_id.the_field_send,
) depth 60

module _ (T : RattleType) (g : latch_name.Ghosts T.Denot) where
  held_send : IsSend (LatchState.the_row T g)
  held_send = view_send (HeldInside.the_row T g) _ _ _ _
      (recorded_send (HeldInside.the_field T g).row _ _ (HeldInside.the_type T g).to_one
      (struct_send (declared.shape (HeldInside.the_type T g)) (
        engine_send,
        (badge.the_send View.the_row, (badge.the_send TakenView.the_row, (phantom.the_field_send T, tt))),
      )))

  pub latch_sync : IsSync (Latch.the_row T g)
  latch_sync = recorded_sync (Latch.the_field T g).row _ _ (Latch.the_type T g).to_one
      (struct_sync (declared.shape (Latch.the_type T g)) (
        mutex.the_sync (LatchState.the_row T g) held_send,
        (
          search (table.the_field_sync, heap.the_sync, heap.the_send, crosses, sendable) depth 40,
          (
            search (table.the_field_sync, heap.the_sync, heap.the_send, crosses, sendable) depth 40,
            (plain_sync _ _ _ _ _, (phantom.the_field_sync T, tt)),
          ),
        ),
      ))

  -- the taker may have a thread of its own
  pub taker_send : IsSend (Taker.the_row T g)
  taker_send = taker.the_send T g
