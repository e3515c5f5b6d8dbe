use Rattle.std.proofs.Common.{sym, ap, ◌∙◌, ◌++◌, ◌-◌, ◌≡◌, ℕ, take, length}
use Rattle.std.proofs.lemmas.Bool.{eqb-false}
use Rattle.std.specs.List.{slice_get}
use Rattle.std.specs.Option.{option_copied}
use Rattle.am_index.specs.Entries.{all_after}
use Rattle.am_store_loads.proofs.PartitionWalks.{follows, none_read, no_rest}
use Rattle.am_store_loads.proofs.walk.Walk.read_on.Given.{Over}
use Rattle.am_store_loads.proofs.walk.Walk.read_on.Goals as goal
use Rattle.am_store_loads.proofs.walk.Walk.read_on.Goals.{After-is_full, in-Some, in_default}

-- how many entries a batch has room for
abbrev room : ℕ
room = 16

-- what the batch has then
batch : (g : Over) (c : After-is_full g) → c.read_on.new.batch ≡ take room
    (all_after c.args.parts.now.entries c.args.self.now.part c.args.self.now.last)
batch g c = c.read_on.ensures.read ∙ ap (λ l. take room
    (l ++ all_after c.args.parts.now.entries c.args.self.now.part c.args.self.now.last)) c.clear.ensures

read : (g : Over) (c : After-is_full g) → c.match-last.self.read ≡ take room
    (all_after c.args.parts.now.entries c.args.self.now.part c.args.self.now.last)
read g c = elim c.match-last.branch [ in-Some w ↦ rw w.self-is (batch g c) | in_default w ↦ rw w.self-is (batch g c) ]

pub returns-clause-read : goal.returns-clause-read
returns-clause-read g c = read g c

pub returns-clause-goes_on : goal.returns-clause-goes_on
returns-clause-goes_on g c =
    let es = c.args.parts.now.entries in
    let part = c.args.self.now.part in
    let last = c.args.self.now.last in
    let shown = ap (λ l. slice_get l (length l - 1)) (sym c.entries.ensures.all) ∙ sym c.last.ensures.value in
    elim c.match-last.branch [
      | in-Some w ↦ rw w.self-is (follows room es c.read_on.ensures.sound.rising part last c.read_on.new.batch
          w.in-Some.entry.now (batch g c) (shown ∙ ap (λ o. option_copied o) w.in-Some.is))
      | in_default w ↦ rw w.self-is (ap (λ l. l ++ all_after es part last)
          (sym (none_read c.read_on.new.batch (shown ∙ ap (λ o. option_copied o) w.in_default.is))))
    ]

pub returns-clause-ends : goal.returns-clause-ends
returns-clause-ends g c =
    λ not_full. no_rest room (all_after c.args.parts.now.entries c.args.self.now.part c.args.self.now.last)
    c.match-last.self.read _ (read g c) (returns-clause-goes_on g c)
    (eqb-false _ room (sym c.is_full.ensures.full ∙ not_full))
