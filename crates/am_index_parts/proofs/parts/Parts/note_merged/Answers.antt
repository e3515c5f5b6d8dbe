use Rattle.std.proofs.Common.{◌<◌, ◌≡◌, false, sym, subst, arith}
use Rattle.am_record.specs.Interval.{within}
use Rattle.am_record.proofs.Lists.{AllByRecursion-map}
use Rattle.am_index_parts.specs.MergedRanges.{HasNoneBefore}
use Rattle.am_index_parts.specs.Partitions.{Partitions}
use Rattle.am_index_parts.proofs.parts.Parts.note_merged.Goals as goal

pub invariant_of-self : goal.invariant_of-self
invariant_of-self g c =
    let entries = g.I.PartIndex.entries c.self.inside.index in
    let none = subst (λ (p : Partitions). HasNoneBefore p.entries c.args.range c.args.first_run) (sym c.self.view_is)
    c.requires in (
      c.self.invariant.0,
      c.self.invariant.1,
      c.self.invariant.2,
      c.self.invariant.3,
      c.note.ensures entries c.self.inside.runs (
        record {
          made = omega (arith, c.min.ensures);
          none_before = AllByRecursion-map
              (λ e. 0 < e.part → e.part < c.args.first_run → within c.args.range e.key ≡ false)
              (λ e. 0 < e.part → e.part < c.min.result → within c.args.range e.key ≡ false)
              (λ e h some less. h some (omega (arith, less, c.min.ensures))) entries none;
        },
        c.self.invariant.4,
      ),
      c.self.invariant.5,
    )
