use Rattle.std.proofs.Common.{ap, sym, ◌∙◌, arith}
use Rattle.am_index_btree.specs.Fronts.{fronts_of}
use Rattle.am_index_btree.proofs.Fronts.{fronts-remove}
use Rattle.am_index_btree.proofs.separators.Separators.take_out.Goals as goal

pub invariant_of-self : goal.invariant_of-self
invariant_of-self c =
    let s = c.self.inside in (
      c.take_out-2.ensures.items ∙ fronts-remove s.places.items s.fronts.items c.self.invariant.0 c.args.at ∙
          ap fronts_of (sym c.take_out.ensures.items),
      omega (arith, c.take_out.ensures.capacity),
      omega (arith, c.take_out-2.ensures.capacity),
    )
