use Rattle.std.proofs.Common.{◌≡◌, inl, inr, ⊎_elim, ℕ, Bool, map, List, Option, true, get_or, refl, sym, ap, ◌∙◌}
use Rattle.std.proofs.Common.{subst}
use Rattle.std.specs.List.{AllByRecursion, All}
use Rattle.am_record.specs.Interval.{within}
use Rattle.am_record.specs.KeyNumber.{key_number}
use Rattle.am_record.specs.OrderedKey.{OrderedKey, key_least}
use Rattle.am_record.specs.declared.entry.Entry.{Entry}
use Rattle.am_record.specs.declared.hash_key.HashKey.{HashKey}
use Rattle.am_record.proofs.Lists.{AllByRecursion-map}
use Rattle.am_index.specs.Entries.{all_from}
use Rattle.am_index_parts.specs.declared.apart_runs.ApartRun.{ApartRun}
use Rattle.am_index_parts.specs.declared.apart_runs.ApartRuns.{ApartRuns}
use Rattle.am_index_parts.specs.declared.run_filters.RunFilters.{RunFilters}
use Rattle.am_index_parts.specs.declared.run_keys.Ends.{Ends}
use Rattle.am_index_parts.specs.ApartRuns.{AreInOrder}
use Rattle.am_index_parts.specs.RunFilters.{MayBeIn}
use Rattle.am_index_parts.specs.RunKeys.{LiesBetween, IsFiltered, IsKnown}
use Rattle.am_index_parts.proofs.KnownKeys.{known_more, known_otherwise}
use Rattle.am_index_parts.proofs.RunNumbers.{said_of_part}
use Rattle.am_index_parts.proofs.run_entry.end_apart.Goals as goal

pub returns-clause-known : goal.returns-clause-known
returns-clause-known g c =
    let es = g.I.PartIndex.entries c.args.index.now in
    let old = c.args.keys.now in
    let mid = c.enter_run.new.self in
    let new = c.end_apart.new.self in
    let run = c.index-runs-at.result in
    let hash = mid.filters.hash in
    let same : run ≡ get_or mid.apart.list.items c.args.at run = c.index-runs-at.is ∙
    ap (λ (l : List ApartRun). get_or l c.args.at run) (c.runs.ensures ∙
    ap (λ (a : ApartRuns). a.list.items) (c.apart.ensures ∙ sym c.enter_run.ensures.apart)) in
    let filtered : (live : Bool) (part : ℕ) (key : OrderedKey) → IsFiltered mid live part key →
    IsFiltered new live part key = λ live part key by. (
      subst (λ (e : Option Ends). LiesBetween e key) (sym c.end_apart.ensures.ends) by.0,
      subst (λ (f : RunFilters). MayBeIn live f.generations.items part (key_number f.hash key))
          (sym c.end_apart.ensures.filters) by.1,
    ) in
    let Q : ℕ → Type 0 = λ n. (key : OrderedKey) → within run.range key ≡ true → n ≡ key_number hash key →
    IsFiltered mid true run.part key in
    let numbers : c.deref.result.now ≡ map (λ (e : Entry). key_number hash e.key) (all_from es run.part key_least) =
    c.deref.ensures.value ∙ c.in_ok-numbers.ensures ∙
    ap (λ (h : HashKey). map (λ (e : Entry). key_number h e.key) (all_from es run.part key_least))
    (c.hash.ensures ∙ ap (λ (f : RunFilters). f.hash) c.filters.ensures ∙ sym c.enter_run.ensures.hash) in
    let each : AllByRecursion (λ (e : Entry). e.part ≡ run.part → Q (key_number hash e.key)) es =
    said_of_part Q (λ (e : Entry). key_number hash e.key) es run.part
    (subst (All Q) numbers (λ k d lt key inside is. c.in_ok-enter_run.ensures.entered key k d inside lt is)) in
    known_otherwise es mid new run.part run.range (λ _. c.end_apart.ensures.order)
    (λ live part key it. ⊎_elim
    (λ stands. ⊎_elim (λ still. inl (inl still)) (λ gone. inr (
      ap (λ (a : ApartRun). a.part) same ∙ gone.0,
      ap (λ (a : ApartRun). within a.range key) same ∙ gone.1,
    )) (c.end_apart.ensures.others part key run stands))
    (λ by. inl (inr (filtered live part key by))) it)
    (AllByRecursion-map (λ (e : Entry). e.part ≡ run.part → Q (key_number hash e.key))
    (λ (e : Entry). e.part ≡ run.part → within run.range e.key ≡ true → IsKnown new true run.part e.key)
    (λ e its is inside. inr (filtered true run.part e.key (its is e.key inside refl))) es each)
    (known_more es old mid (subst (λ (a : ApartRuns). AreInOrder a.list.items) (sym c.enter_run.ensures.apart))
    c.enter_run.ensures.kept c.requires.known)
