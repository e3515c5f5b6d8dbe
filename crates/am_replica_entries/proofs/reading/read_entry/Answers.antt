use Rattle.std.proofs.Common.{ap, subst, ◌∙◌, arith}
use Rattle.am_replica_entries.specs.Texts.{the_blocks}
use Rattle.am_replica_entries.specs.Reading.{Gives, entry_in}
use Rattle.am_replica_entries.proofs.Blocks.{is_found, all_again}
use Rattle.am_replica_entries.proofs.reading.read_entry.Goals as goal

pub returns-clause-found : goal.returns-clause-found
returns-clause-found c = is_found c.args.text.now c.entry_of.result (λ i. omega (arith, c.type_inv.text i))
    c.entry_of.ensures

pub returns-clause-again : goal.returns-clause-again
returns-clause-again c = λ blocks fits e. subst (λ f. Gives (λ v. the_blocks v.items) c.entry_of.result f)
    (ap entry_in e ∙ all_again blocks fits) c.entry_of.ensures
