use Rattle.std.proofs.Common.{ap, sym, ◌∙◌, arith}
use Rattle.am_index_btree.specs.Splits.{lower_size}
use Rattle.am_index_btree.specs.Fronts.{fronts_of}
use Rattle.am_index_btree.proofs.Fronts.{fronts-take, fronts-drop}
use Rattle.am_index_btree.proofs.separators.Separators.split_put.Goals as goal

pub invariant_of-self : goal.invariant_of-self
invariant_of-self c =
    let s = c.self.inside in (
      c.split_put-2.ensures.front ∙ fronts-take s.places.items s.fronts.items c.self.invariant.0 c.args.at
          c.args.separator c.front.result c.front.ensures (lower_size c.args.keep c.args.at) ∙
          ap fronts_of (sym c.split_put.ensures.front),
      omega (arith, c.split_put.ensures.capacity),
      omega (arith, c.split_put-2.ensures.capacity),
    )

pub invariant_of-upper : goal.invariant_of-upper
invariant_of-upper c =
    let s = c.self.inside in (
      c.split_put-2.ensures.back ∙ fronts-drop s.places.items s.fronts.items c.self.invariant.0 c.args.at
          c.args.separator c.front.result c.front.ensures (lower_size c.args.keep c.args.at) ∙
          ap fronts_of (sym c.split_put.ensures.back),
      omega (arith, c.split_put.ensures.capacity),
      omega (arith, c.split_put-2.ensures.capacity),
    )
