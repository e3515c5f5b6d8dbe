-- What is owned behind a pointer that may be null.
use Rattle.std.specs.Prelude.{◌≡◌, Option, None, Some}
use base.Fml.{Fml, ftrue, ffalse}
use denote.RattleType.{RattleType}
use denote.RawPtr.{Ptr, block_ptr, null_ptr}
use Rattle.std.specs.Box.Ownership.{box_owns}
use Rattle.std.specs.declared.alloc.Global.{Global}
use Rattle.std.specs.contracts.impls.GlobalAllocator.TheImpl.{ghosts}

-- at null nothing, and else the box there with the value
abbrev pub held_owns : (R : RattleType) → Global → Ptr → Option R.Denot → Fml
held_owns R heap null_ptr None = ftrue
held_owns R heap null_ptr (Some x) = ffalse
held_owns R heap (block_ptr b o) None = ffalse
held_owns R heap (block_ptr b o) (Some x) = box_owns (ghosts.dealloc_token heap) R (block_ptr b o) x

-- both are none, or what the one gives is the other
abbrev pub IsSame : {X Y : Type 0} → (Y → X) → Option Y → Option X → Type 0
IsSame of None None = Unit {0}
IsSame of None (Some x) = ⊥
IsSame of (Some y) None = ⊥
IsSame of (Some y) (Some x) = of y ≡ x
