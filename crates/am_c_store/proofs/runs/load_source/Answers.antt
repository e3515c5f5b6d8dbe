use Rattle.std.proofs.Common.{◌<◌, ◌^◌, length, arith}
use Rattle.am_c_store.proofs.Turns.{few}
use Rattle.am_c_store.proofs.runs.load_source.Goals as goal

pub load_in_turn-records-requires : goal.load_in_turn-records-requires
load_in_turn-records-requires g c =
    let records = g.S.RecordSource.records c.args.source.now in
    let low : length records < 2 ^ 64 = omega (arith, c.len.ensures, c.len.type_inv) in
    few 65536 records c.in-Ok.runs c.in-Ok.ensures.cut.pieces low
