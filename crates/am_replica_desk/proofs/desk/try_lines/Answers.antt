use Rattle.std.proofs.Common.{arith, [], refl, sym, subst}
use Rattle.std.proofs.lemmas.Bool.Decides.{nat_tests}
use Rattle.std.proofs.lemmas.List.{append-nil, nil_from_length}
use Rattle.am_line_source.specs.Lines.{pieces_of}
use Rattle.am_replica_store.specs.Alone.{committed_map}
use Rattle.am_replica_desk.specs.Calls.{AreLinesTried}
use Rattle.am_replica_desk.proofs.Line.{first_has_no_lf}
use Rattle.am_replica_desk.proofs.desk.try_lines.Goals as goal

pub try_line-requires-clause-one : goal.try_line-requires-clause-one
try_line-requires-clause-one c =
    first_has_no_lf c.loop-rest.rest.now c.cut_line.result.0.now (pieces_of c.cut_line.result.1.now)
    c.cut_line.ensures.cut

-- no line is left
pub returns-clause-told : goal.returns-clause-told
returns-clause-told c =
    let m = committed_map c.args.replica.now.machine in
    let t = c.loop-rest.transaction in
    let none = nil_from_length c.loop-rest.rest.now
    (grind (arith, nat_tests, c.is_empty.ensures, c.loop-rest-test.false)) in
    let tried = c.loop-rest.invariant.goes_on [] t
    (subst (λ bytes. AreLinesTried m (pieces_of bytes) t [] t) (sym none) (refl, refl)) in
    subst (λ told. AreLinesTried m (pieces_of c.args.text.now) c.args.transaction.now told t)
    (append-nil c.loop-rest.told.items) tried
