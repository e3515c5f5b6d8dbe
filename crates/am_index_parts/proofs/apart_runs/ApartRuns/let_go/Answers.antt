use Rattle.std.proofs.Common.{◌≡◌, List, filter, rules, sym, subst}
use Rattle.std.proofs.lemmas.Fn.{filter_same}
use Rattle.am_index_parts.specs.Catalogs.{parts_of, is_one_of}
use Rattle.am_index_parts.specs.declared.apart_runs.ApartRun.{ApartRun}
use Rattle.am_index_parts.specs.ApartRuns.{AreInOrder, StandsApart}
use Rattle.am_index_parts.proofs.ApartRuns.{in_order_among, stands_among}
use Rattle.am_index_parts.proofs.apart_runs.ApartRuns.let_go.Goals as goal
use Rattle.am_index_parts.proofs.apart_runs.ApartRuns.let_go.Goals.{After-retain}

left : (c : After-retain) → c.retain.new.self.items ≡
    filter (λ (a : ApartRun). is_one_of (parts_of c.args.catalog.now.runs.items) a.part) c.args.self.now.list.items
left c = filter_same _ (λ (a : ApartRun). is_one_of (parts_of c.args.catalog.now.runs.items) a.part) _
    (λ x b f called. search rules) _ _ c.retain.ensures.filtered

pub returns-then-len-few-clause-order : goal.returns-then-len-few-clause-order
returns-then-len-few-clause-order c = subst AreInOrder (sym (left c))
    (in_order_among _ c.args.self.now.list.items c.requires.order)

pub returns-then-len-few-clause-kept : goal.returns-then-len-few-clause-kept
returns-then-len-few-clause-kept c = λ part key stays it.
    subst (λ (l : List ApartRun). StandsApart l part key) (sym (left c))
    (stands_among part key (is_one_of (parts_of c.args.catalog.now.runs.items)) c.args.self.now.list.items stays it)
