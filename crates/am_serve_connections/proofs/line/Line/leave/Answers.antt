use Rattle.std.proofs.Common.{rules, refl}
use Rattle.std.specs.Prelude.{not, ◌==◌}
use Rattle.std.proofs.lemmas.Fn.{filter_same}
use Rattle.am_serve_connections.specs.declared.line.Waiter.{Waiter}
use Rattle.am_serve_connections.proofs.line.Line.leave.Goals as goal

pub returns : goal.returns
returns c = record {
  left = filter_same _ (λ (w : Waiter). not (w.place == c.args.place)) _ (λ x b f' called. search rules) _ _
      c.retain.ensures.filtered;
  same = refl;
}
