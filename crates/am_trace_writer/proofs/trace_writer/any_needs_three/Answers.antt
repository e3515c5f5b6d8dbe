use Rattle.std.proofs.Common.{rules, tests}
use Rattle.std.proofs.lemmas.Iterator.{YieldsList-from_slice}
use Rattle.std.proofs.lemmas.Iterator.Search.{any_from_yields_List}
use Rattle.am_trace_text.specs.Versions.{needs_three}
use Rattle.am_trace_writer.proofs.trace_writer.any_needs_three.Goals as goal

pub returns : goal.returns
returns c = any_from_yields_List needs_three _ _ c.any.result c.any.ensures.ran
    (YieldsList-from_slice c.args.events.now cc) (λ x b q k. search (rules, tests))
