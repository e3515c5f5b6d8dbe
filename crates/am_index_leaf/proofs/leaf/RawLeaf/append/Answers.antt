use Rattle.std.proofs.Common.{◌∙◌}
use Rattle.am_index_leaf.proofs.leaf.RawLeaf.append.Goals as goal

pub returns-in_err-widen-clause-key_needed : goal.returns-in_err-widen-clause-key_needed
returns-in_err-widen-clause-key_needed c fit =
    c.in_err-widen.ensures.needed.keys (c.longest-key_len.ensures.least_key c.args.self.now.key_room fit)

pub returns-in_err-widen-clause-value_needed : goal.returns-in_err-widen-clause-value_needed
returns-in_err-widen-clause-value_needed c fit =
    c.in_err-widen.ensures.needed.values (c.longest-key_len.ensures.least_value c.args.self.now.value_room fit)

pub returns-clause-key_needed : goal.returns-clause-key_needed
returns-clause-key_needed c fit =
    c.extend.ensures.same_room.keys ∙
    c.in_ok-widen.ensures.needed.keys (c.longest-key_len.ensures.least_key c.args.self.now.key_room fit)

pub returns-clause-value_needed : goal.returns-clause-value_needed
returns-clause-value_needed c fit =
    c.extend.ensures.same_room.values ∙
    c.in_ok-widen.ensures.needed.values (c.longest-key_len.ensures.least_value c.args.self.now.value_room fit)
