use Rattle.std.proofs.Common.{◌≡◌, [], sym, ap, ◌∙◌}
use Rattle.am_index.specs.Entries.{next_from, all_after}
use Rattle.am_store_loads.specs.Walk.{IsWalkFrom}
use Rattle.am_store_loads.proofs.PartitionWalks.{comes_to, reads_on, ends, is_none}
use Rattle.am_store_loads.proofs.walk.Walk.go_to.Given.{Over}
use Rattle.am_store_loads.proofs.walk.Walk.go_to.Goals as goal
use Rattle.am_store_loads.proofs.walk.Walk.go_to.Goals.{After-pass_below-2, then-pass_below-2-via-then-pass_below-2}
use Rattle.am_store_loads.proofs.walk.Walk.go_to.Goals.{then-pass_below-2-via-else-pass_below-2+then-not-more}

-- the walk, after it has read on and passed what is below the key
read_on : (g : Over) (c : After-pass_below-2 g) → IsWalkFrom c.args.parts.now.entries c.args.key c.pass_below-2.new.self
read_on g c =
    let es = c.args.parts.now.entries in
    c.pass_below-2.ensures.walk es
    (reads_on (c.pass_below.ensures.walk es c.requires)
    (is_none _ (sym c.pass_below.ensures.left ∙ c.if-pass_below.false)) c.read_on-more.new.self
    c.read_on-more.ensures.part c.read_on-more.ensures.passed c.read_on-more.ensures.goes_on)

pub returns-then-pass_below-clause-found : goal.returns-then-pass_below-clause-found
returns-then-pass_below-clause-found g c =
    let es = c.args.parts.now.entries in
    comes_to (c.pass_below.ensures.walk es c.requires) (sym c.pass_below.ensures.left ∙ c.if-pass_below.true)
    c.pass_below.ensures.reached ∙ ap (λ p. next_from es p c.args.key) c.pass_below.ensures.part

pub returns-then-pass_below-2-clause-found : goal.returns-then-pass_below-2-clause-found
returns-then-pass_below-2-clause-found g c =
    let es = c.args.parts.now.entries in
    let walk = read_on g (goal.at.returns-then-pass_below-2-clause-found g c).After-pass_below-2 in
    let new = c.pass_below-2.new.self in
    let same_part = c.pass_below-2.ensures.part ∙ c.read_on-more.ensures.part ∙ c.pass_below.ensures.part in
    elim c.then-pass_below-2.branch [
      | then-pass_below-2-via-then-pass_below-2 w ↦ comes_to walk (sym c.pass_below-2.ensures.left ∙
          w.if-pass_below-2.true) c.pass_below-2.ensures.reached ∙ ap (λ p. next_from es p c.args.key) same_part
      | then-pass_below-2-via-else-pass_below-2+then-not-more w ↦
          let rest : all_after es new.part new.last ≡ [] =
          ap (λ p. all_after es p new.last) c.pass_below-2.ensures.part ∙
          ap (λ k. all_after es c.read_on-more.new.self.part k) c.pass_below-2.ensures.last ∙
          c.read_on-more.ensures.ends w.if-not-more.true in
          ends walk (is_none _ (sym c.pass_below-2.ensures.left ∙ w.if-pass_below-2.false)) rest ∙
          ap (λ p. next_from es p c.args.key) same_part
    ]

pub returns-then-pass_below-2-clause-walk : goal.returns-then-pass_below-2-clause-walk
returns-then-pass_below-2-clause-walk g c = read_on g
    (goal.at.returns-then-pass_below-2-clause-walk g c).After-pass_below-2

pub descend-requires-2-clause-walk : goal.descend-requires-2-clause-walk
descend-requires-2-clause-walk g c = record {
  finds =
      (read_on g (goal.at.descend-requires-2-clause-walk g c).After-pass_below-2).finds;
}
