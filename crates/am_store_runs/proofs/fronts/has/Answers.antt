use Rattle.std.proofs.Common.{◌∙◌}
use Rattle.am_store_runs.proofs.Apart.{search_tells}
use Rattle.am_store_runs.proofs.fronts.has.Goals as goal

pub returns : goal.returns
returns c = c.is_ok.ensures.value ∙ search_tells c.args.rising.now c.args.number c.binary_search.result c.requires
    c.binary_search.ensures.position
