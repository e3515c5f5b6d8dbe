-- What a closure captured may be lent to several threads, where each capture may.
use Rattle.std.proofs.Common.{ℕ, List, [], ◌∷◌}
use denote.RattleType.{RattleType}
use denote.Param.Send.{IsSync, struct_sync, recorded_sync}
use denote.Struct.Declared.{shape}
use denote.Struct.Tuple.{TupleAt, type_at, field_at}

pub captures_sync : (name : List ℕ) (A B C D E F : RattleType) → IsSync A → IsSync B → IsSync C → IsSync D → IsSync E →
    IsSync F → IsSync (TupleAt name (A ∷ B ∷ C ∷ D ∷ E ∷ F ∷ []))
captures_sync name A B C D E F a b c d e f =
    let captures : List RattleType = A ∷ B ∷ C ∷ D ∷ E ∷ F ∷ [] in
    recorded_sync (field_at name captures).row _ _ (type_at name captures).to_one
    (struct_sync (shape (type_at name captures)) (a, (b, (c, (d, (e, (f, tt)))))))
