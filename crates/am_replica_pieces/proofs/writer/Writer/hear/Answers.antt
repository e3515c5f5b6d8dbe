use Rattle.std.proofs.Common.{◌++◌, ◌∷◌, [], Bool, sym, subst}
use Rattle.am_replica_pieces.specs.WriterState.{WriterState}
use Rattle.am_replica_pieces.specs.Writing.{IsOnWay}
use Rattle.am_replica_pieces.proofs.OnWay.{heard, heard_anew}
use Rattle.am_replica_pieces.proofs.writer.Writer.hear.Goals as goal

pub returns-then-self-generation-clause-on_way : goal.returns-then-self-generation-clause-on_way
returns-then-self-generation-clause-on_way c most text from change since read ok at told is =
    let inside = c.self.inside in
    let w : WriterState =
    record { name = inside.name; generation = inside.generation; next = inside.next; is_seen = inside.is_seen } in
    let here = subst (λ (v : WriterState). IsOnWay most text v (since ++ change ∷ []) read) (sym c.self.view_is) is in
    subst (λ (b : Bool). IsOnWay most text (record w {
      generation = c.generation-generation.result;
      next = 0;
      is_seen = b;
    })
    since (change ∷ read)) (sym c.is_told-self-inside.ensures)
    (rw c.generation-generation.ensures.now
    (heard_anew most text from change since read w c.args.log.now c.args.told.now ok at told here))

pub returns-else-self-generation-clause-on_way : goal.returns-else-self-generation-clause-on_way
returns-else-self-generation-clause-on_way c most text from change since read ok at told is =
    let inside = c.self.inside in
    let w : WriterState =
    record { name = inside.name; generation = inside.generation; next = inside.next; is_seen = inside.is_seen } in
    let here = subst (λ (v : WriterState). IsOnWay most text v (since ++ change ∷ []) read) (sym c.self.view_is) is in
    subst (λ (b : Bool). IsOnWay most text (record w { is_seen = b }) since (change ∷ read))
    (sym c.is_told-self-inside.ensures)
    (heard most text from change since read w c.args.log.now c.args.told.now ok at told here)
