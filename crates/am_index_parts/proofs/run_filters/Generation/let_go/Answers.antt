use Rattle.std.proofs.Common.{List, rules, sym, subst}
use Rattle.std.proofs.lemmas.Fn.{filter_same}
use Rattle.am_index_parts.specs.Catalogs.{parts_of, is_one_of}
use Rattle.am_index_parts.specs.declared.run_filters.RunFilter.{RunFilter}
use Rattle.am_index_parts.specs.RunFilters.{IsNamed}
use Rattle.am_index_parts.proofs.Filters.{named_among}
use Rattle.am_index_parts.proofs.run_filters.Generation.let_go.Goals as goal

pub returns : goal.returns
returns c = λ live run n stays it.
    record {
      from = it.from;
      to = it.to;
      awake = it.awake;
      covered = it.covered;
      named = subst (λ (l : List RunFilter). IsNamed live l run n)
          (sym (filter_same _ (λ (f : RunFilter). is_one_of (parts_of c.args.catalog.now.runs.items) f.part) _
          (λ x b f' called. search rules) _ _ c.retain.ensures.filtered))
          (named_among live run n c.args.catalog.now.runs.items c.args.self.now.runs.items stays it.named);
    }
