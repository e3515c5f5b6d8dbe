use Rattle.std.proofs.Common.{[], ap, ◌∙◌}
use Rattle.am_record.specs.OrderedKey.{key_least}
use Rattle.am_c_steps.specs.Texts.{pair_given}
use Rattle.am_c_steps.proofs.Sources.{there_is, pair_there}
use Rattle.am_c_steps.proofs.given_records.GivenRecordsRecordSource.get.Goals as goal

pub record_at-requires : goal.record_at-requires
record_at-requires c = there_is _ c.self.invariant _ c.self.view_is c.args.at c.requires

pub unreachable-requires : goal.unreachable-requires
unreachable-requires c =
    let r = c.record_at.result.now in
    let there = c.pair.ensures ∙ ap (λ r. pair_given r) (c.record_at.ensures r)
    ∙ pair_there c.self.inside.records.now c.self.invariant _ c.self.view_is c.args.at c.requires r (key_least, []) in
    cc

pub returns : goal.returns
returns c =
    let r = c.record_at.result.now in
    let there = c.pair.ensures ∙ ap (λ r. pair_given r) (c.record_at.ensures r)
    ∙ pair_there c.self.inside.records.now c.self.invariant _ c.self.view_is c.args.at c.requires r (key_least, []) in
    cc
