use Rattle.std.specs.Prelude.{slice_set}
use Rattle.std.proofs.Common.{ℕ, get_or, ◌≡◌, Bool, List, sym, ap, ◌∙◌, subst}
use Rattle.std.specs.List.{list_any}
use Rattle.am_index_filter.specs.Covers.{is_marked}
use Rattle.am_index_parts.specs.declared.run_filters.RunFilter.{RunFilter}
use Rattle.am_index_parts.specs.RunFilters.{IsNamed}
use Rattle.am_index_parts.proofs.Filters.{named_set, some_awake}
use Rattle.am_index_parts.proofs.run_filters.Generation.sleep.Goals as goal

pub returns : goal.returns
returns c = λ live run n other it.
    let fs = c.args.self.now.runs.items in
    let old = c.index_mut.result.now in
    let new = c.sleep.new.self in
    let there : old.part ≡ c.args.part = ap (λ (f : RunFilter). f.part) c.index_mut.ensures.value ∙
    ap (λ (l : List RunFilter). (get_or l c.in-Some.at old).part) (sym c.deref.ensures.value) ∙
    c.in-Some.ensures.1 old in
    let named : IsNamed live (slice_set fs c.in-Some.at new) run n =
    named_set live run n fs c.in-Some.at old new c.index_mut.ensures.value
    (λ is. (
      c.sleep.ensures.part ∙ is.0,
      ap (λ (ws : List ℕ). is_marked ws n) c.sleep.ensures.filter ∙ is.1,
      λ yes. absurd (other yes (sym is.0 ∙ there)),
    )) it.named in
    record {
      from = it.from;
      to = it.to;
      awake = λ yes. c.is_any_awake-self.ensures ∙
          ap (list_any (λ (f : RunFilter). f.is_awake)) c.deref-2.ensures.value ∙
          some_awake run n (slice_set fs c.in-Some.at new)
          (subst (λ (l : Bool). IsNamed l (slice_set fs c.in-Some.at new) run n) yes named);
      covered = it.covered;
      named = named;
    }
