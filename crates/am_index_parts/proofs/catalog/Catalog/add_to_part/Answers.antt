use Rattle.std.proofs.Common.{◌≡◌, ◌+◌, ◌∙◌, ℕ, subst, sym, rules}
use Rattle.am_index.specs.Entries.{insert_entry}
use Rattle.am_index_parts.specs.Catalogs.{AreListed, IsRunAt}
use Rattle.am_index_parts.proofs.ListedRuns.{final_more}
use Rattle.am_index_parts.proofs.CatalogCalls.{more_at, as_before}
use Rattle.am_index_parts.proofs.catalog.Catalog.add_to_part.Goals as goal

pub returns-then-part-eq0-clause-ok : goal.returns-then-part-eq0-clause-ok
returns-then-part-eq0-clause-ok c = λ es x p mark h.
    let more : c.in_ok-self.field-0 ≡ c.args.self.now.in_final + 1 = search rules in
    subst (λ (n : ℕ). AreListed (insert_entry es x) n c.args.self.now.runs.items) (sym more)
    (final_more h x (p ∙ c.if-part-eq0.true))

pub returns-in-Ok-clause-ok : goal.returns-in-Ok-clause-ok
returns-in-Ok-clause-ok c =
    let at = subst (λ l. IsRunAt l c.args.part c.in-Ok.at) c.deref.ensures.value c.in-Ok.ensures.found in
    more_at at c.index_mut.result.now c.add.new.self c.index_mut.ensures.value c.args.self.now.in_final
    c.args.is_ghost c.add.result c.if-part-eq0.false c.add.ensures.ok

pub returns-in-Ok-clause-err : goal.returns-in-Ok-clause-err
returns-in-Ok-clause-err c =
    let at = subst (λ l. IsRunAt l c.args.part c.in-Ok.at) c.deref.ensures.value c.in-Ok.ensures.found in
    as_before at c.index_mut.result.now c.add.new.self c.index_mut.ensures.value c.args.self.now.in_final c.add.result
    c.add.ensures.err
