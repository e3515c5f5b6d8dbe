use Rattle.std.proofs.Common.{rules, sym, subst, arith}
use Rattle.am_index_parts.specs.Catalogs.{IsCatalog}
use Rattle.am_index_parts.specs.RunKeys.{AreKnown}
use Rattle.am_index_parts.proofs.parts.Parts.new.Goals as goal

pub invariant_of-result : goal.invariant_of-result
invariant_of-result g c = (
  search rules,
  omega arith,
  subst (λ es. IsCatalog es c.new.result) (sym c.requires) c.new.ensures,
  subst (λ es. AreKnown es c.new-2.result) (sym c.requires) c.new-2.ensures,
  search rules,
  c.find.ensures.room,
)
