use Rattle.std.proofs.Common.{rules}
use mir.Syntax.{named}
use denote.Exit.{no}
use denote.Param.{param}
use denote.Param.Send.{arg_send, param_send}
use Rattle.am_serve_seat.proofs.Crosses.{place_send}
use Rattle.am_serve.proofs.InTurn.{all_in_turn}
use Rattle.am_serve.proofs.server.serve_each.Goals as goal

pub for_each_mut-requires-send-T : goal.for_each_mut-requires-send-T
for_each_mut-requires-send-T g c κs within = param_send _ _
    (arg_send _ no _ (place_send record { mir = named 4; lft = κs.1.1.1.1.0 } (param 0 g.row.L) g.L.LatchName))

pub returns : goal.returns
returns g c = all_in_turn _ _ _ _ c.for_each_mut.auto.s (λ i d lt. search rules)
