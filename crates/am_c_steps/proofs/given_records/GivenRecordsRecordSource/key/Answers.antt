use Rattle.std.proofs.Common.{[], ap, ◌∙◌}
use Rattle.am_record.specs.OrderedKey.{key_least}
use Rattle.am_c_steps.specs.Texts.{text_key}
use Rattle.am_c_steps.proofs.Sources.{there_is, key_there}
use Rattle.am_c_steps.proofs.given_records.GivenRecordsRecordSource.key.Goals as goal

pub record_at-requires : goal.record_at-requires
record_at-requires c = there_is _ c.self.invariant _ c.self.view_is c.args.at c.requires

pub unreachable-requires : goal.unreachable-requires
unreachable-requires c =
    let r = c.record_at.result.now in
    let there = c.key.ensures ∙ ap (λ r. text_key r.key) (c.record_at.ensures r)
    ∙ key_there c.self.inside.records.now c.self.invariant _ c.self.view_is c.args.at c.requires r (key_least, []) in cc

pub returns : goal.returns
returns c =
    let r = c.record_at.result.now in
    let there = c.key.ensures ∙ ap (λ r. text_key r.key) (c.record_at.ensures r)
    ∙ key_there c.self.inside.records.now c.self.invariant _ c.self.view_is c.args.at c.requires r (key_least, []) in cc
