-- What a closure captured may go to another thread, where each capture may.
use Rattle.std.proofs.Common.{ℕ, List, [], ◌∷◌}
use denote.RattleType.{RattleType}
use denote.Param.Send.{IsSend, struct_send, recorded_send}
use denote.Struct.Declared.{shape}
use denote.Struct.Tuple.{TupleAt, type_at, field_at}

pub captures_send : (name : List ℕ) (A B C D : RattleType) → IsSend A → IsSend B → IsSend C → IsSend D →
    IsSend (TupleAt name (A ∷ B ∷ C ∷ D ∷ []))
captures_send name A B C D a b c d =
    let captures : List RattleType = A ∷ B ∷ C ∷ D ∷ [] in
    recorded_send (field_at name captures).row _ _ (type_at name captures).to_one
    (struct_send (shape (type_at name captures)) (a, (b, (c, (d, tt)))))
