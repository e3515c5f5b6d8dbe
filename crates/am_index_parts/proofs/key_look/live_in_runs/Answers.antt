use Rattle.std.proofs.Common.{◌≡◌, ℕ, Some, sym, ◌∙◌, ⊎_elim, subst, true}
use Rattle.std.proofs.lemmas.Bool.{both_ways}
use Rattle.am_record.specs.KeyNumber.{key_number}
use Rattle.am_index_parts.specs.ApartRuns.{StandsApart, AreInOrder}
use Rattle.am_index_parts.specs.Partitions.{LivesInNoRun}
use Rattle.am_index_parts.specs.RunFilters.{LivesInRun, MayBeIn}
use Rattle.am_index_parts.specs.declared.apart_runs.ApartRuns.{ApartRuns}
use Rattle.am_index_parts.specs.declared.run_filters.RunFilters.{RunFilters}
use Rattle.am_index_parts.proofs.KeyLooks.{said_of_none, not_none}
use Rattle.am_index_parts.proofs.KnownKeys.{said_of_live, if_none_too}
use Rattle.am_index_parts.proofs.key_look.live_in_runs.Goals as goal

pub holder-requires : goal.holder-requires
holder-requires g c =
    subst (λ (a : ApartRuns). AreInOrder a.list.items) (sym c.apart.ensures) c.requires.known.order

pub returns-then-is_some-clause-absent : goal.returns-then-is_some-clause-absent
returns-then-is_some-clause-absent g c =
    not_none c.live_in_holder-found.result.0 (LivesInNoRun (g.I.PartIndex.entries c.args.index.now) c.args.key)
    (sym c.is_some.ensures ∙ c.if-is_some.true)

pub returns-then-not-spans-clause-absent : goal.returns-then-not-spans-clause-absent
returns-then-not-spans-clause-absent g c = record {
  none = λ part value some live.
      let es = g.I.PartIndex.entries c.args.index.now in
      let key = c.args.key in
      let it : LivesInRun es key part = record { is_run = some; value = value; live = live } in
      ⊎_elim
      (λ stands. said_of_none c.live_in_holder-found.result.0
      ((run : ℕ) → c.holder.result ≡ Some run → LivesInRun es key run → ⊥) (sym c.is_some.ensures ∙ c.if-is_some.false)
      c.live_in_holder-found.ensures.absent part
      (c.holder.ensures.only part (subst (λ (a : ApartRuns). StandsApart a.list.items part key) (sym c.apart.ensures)
      stands)) it)
      (λ by. both_ways c.spans.result c.if-not-spans.true (c.spans.ensures by.0))
      (said_of_live c.args.keys.now c.requires.known it);
}

pub returns-clause-absent : goal.returns-clause-absent
returns-clause-absent g c =
    let es = g.I.PartIndex.entries c.args.index.now in
    let key = c.args.key in
    let f = c.filters.result.now in
    if_none_too c.live_by_filters.result.0 ((run : ℕ) → LivesInRun es key run →
    MayBeIn true f.generations.items run (key_number f.hash key) → ⊥) (LivesInNoRun es key)
    (λ nowhere. record {
      none = λ part value some live.
          let it : LivesInRun es key part = record { is_run = some; value = value; live = live } in
          ⊎_elim
          (λ stands. said_of_none c.live_in_holder-found.result.0
          ((run : ℕ) → c.holder.result ≡ Some run → LivesInRun es key run → ⊥)
          (sym c.is_some.ensures ∙ c.if-is_some.false) c.live_in_holder-found.ensures.absent part
          (c.holder.ensures.only part (subst (λ (a : ApartRuns). StandsApart a.list.items part key)
          (sym c.apart.ensures) stands)) it)
          (λ by. nowhere part it (subst (λ (h : RunFilters). MayBeIn true h.generations.items part
          (key_number h.hash key)) (sym c.filters.ensures) by.1))
          (said_of_live c.args.keys.now c.requires.known it);
    }) c.live_by_filters.ensures.absent
