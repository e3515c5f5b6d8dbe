use Rattle.std.proofs.Common.{ap, sym, ◌∙◌, arith}
use Rattle.am_index_btree.specs.Fronts.{fronts_of}
use Rattle.am_index_btree.proofs.Fronts.{fronts-insert}
use Rattle.am_index_btree.proofs.separators.Separators.put.Goals as goal

pub invariant_of-self : goal.invariant_of-self
invariant_of-self c =
    let s = c.self.inside in (
      c.put-2.ensures.items ∙ fronts-insert s.places.items s.fronts.items c.self.invariant.0 c.args.at c.args.separator
          c.front.result c.front.ensures ∙ ap fronts_of (sym c.put.ensures.items),
      omega (arith, c.put.ensures.capacity),
      omega (arith, c.put-2.ensures.capacity),
    )
