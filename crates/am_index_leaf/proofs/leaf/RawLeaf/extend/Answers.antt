use Rattle.am_record.proofs.Lists.{AllByRecursion-append}
use Rattle.std.proofs.Common.{ℕ, List, ◌+◌, ◌^◌, ◌<◌, ◌≤◌, length, sym, ap, ◌∙◌, subst, length-append, ◌++◌, arith}
use Rattle.std.proofs.lemmas.List.{length-map}
use Rattle.am_record.specs.EntryOrder.{Place}
use Rattle.am_record.proofs.FirstRows.{Record}
use Rattle.am_index.specs.Entries.{IsRising}
use Rattle.am_index.specs.Runs.{run_entries}
use Rattle.am_index_leaf.specs.Leaf.{entries_of}
use Rattle.am_index_leaf.specs.LeafCode.{Seen}
use Rattle.am_index_leaf.proofs.FittingValues.{fit_now, fit_run, fit_run_more}
use Rattle.am_index_leaf.proofs.BitLemmas.{pow_mono}
use Rattle.am_index_leaf.proofs.ExtendedLeaves.{places_of, values_of, entries_of-extend}
use Rattle.am_index_leaf.proofs.Leaves.{alike, counted}
use Rattle.am_index_leaf.proofs.leaf.RawLeaf.extend.Goals as goal

pub extend-requires-clause-free : goal.extend-requires-clause-free
extend-requires-clause-free c = omega (
  arith,
  counted c.self.inside c.self.invariant _
      (ap (λ (s : Seen). s.entries) c.self.view_is),
  c.requires.room,
)

pub extend-requires-2-clause-free : goal.extend-requires-2-clause-free
extend-requires-2-clause-free c = omega (
  arith,
  counted c.self.inside c.self.invariant _
      (ap (λ (s : Seen). s.entries) c.self.view_is),
  c.requires.room,
)

pub returns-clause-entries : goal.returns-clause-entries
returns-clause-entries c =
    let a = c.self.inside in let held = c.self.invariant in let rs = c.args.pairs.now in
    (λ j. entries_of (c.extend.ensures.items j) (c.extend-2.ensures.items j) a.ghosts)
    ∙ entries_of-extend c.args.part rs a.places.items a.values.items a.ghosts (alike a held)
    (subst (λ (n : ℕ). a.ghosts < 2 ^ n) (sym held.places) held.ghosts)
    ∙ ap (λ (s : Seen). s.entries ++ run_entries c.args.part rs) c.self.view_is

pub invariant_of-self : goal.invariant_of-self
invariant_of-self c =
    let a = c.self.inside in let held = c.self.invariant in let rs = c.args.pairs.now in
    let many = counted a held _ (ap (λ (s : Seen). s.entries) c.self.view_is) in
    let up = pow_mono a.len (a.len + length rs) (omega arith) in
    record {
      places = omega (
        arith,
        ap length c.extend.ensures.items,
        length-append a.places.items (places_of c.args.part rs),
        length-map {B = Place} rs (λ (r : Record). (c.args.part, r.0)),
        held.places,
      );
      values = omega (
        arith,
        ap length c.extend-2.ensures.items,
        length-append a.values.items (values_of rs),
        length-map {B = List ℕ} rs (λ (r : Record). r.1),
        held.values,
      );
      most = omega (arith, many, c.requires.room);
      ghosts = omega (arith, held.ghosts, up);
      fit = fit_now a.values.room _ c.extend-2.ensures.room c.extend-2.ensures.items
          (AllByRecursion-append (λ (v : List ℕ). length v ≤ a.values.room) a.values.items (values_of rs) held.fit
          (fit_run a.values.room rs (fit_run_more c.args.value_len a.values.room rs
          (omega (arith, c.requires.fits.value_fits, ap (λ (s : Seen). s.value_room) c.self.view_is))
          c.requires.values)));
      rising = subst IsRising (sym (returns-clause-entries c)) c.requires.rising;
    }
