use Rattle.std.proofs.Common.{◌∙◌, subst, sym}
use Rattle.am_index_btree.specs.Separators.{SeparatorsRise}
use Rattle.am_index_btree.proofs.Fronts.{their_fronts_rise}
use Rattle.am_index_btree.proofs.separators.Separators.pass_groups.Goals as goal

pub pass_groups-requires : goal.pass_groups-requires
pass_groups-requires c = record {
  rising = their_fronts_rise c.fronts_follow_keys.ensures c.self.inside.places.items c.deref.result.now
      (subst SeparatorsRise (sym c.self.view_is) c.requires) (c.deref.ensures.value ∙ c.self.invariant.0);
}
