use Rattle.std.proofs.Common.{◌∙◌, Option, sym, subst, ap}
use Rattle.std.specs.Prelude.{is_some}
use Rattle.std.specs.Option.{option_map}
use Rattle.am_record.specs.declared.entry.Entry.{Entry}
use Rattle.am_index.specs.Content.{live_value}
use Rattle.am_index.specs.Entries.{slot_of}
use Rattle.am_index_parts.specs.Catalogs.{IsCatalog}
use Rattle.am_index_parts.specs.MergedRanges.{AreMerged}
use Rattle.am_index_parts.specs.Partitions.{Partitions}
use Rattle.am_index_parts.specs.RunKeys.{AreKnown}
use Rattle.am_index.proofs.Content.{slot_live}
use Rattle.am_index_parts.proofs.Changes.{takes}
use Rattle.am_index_parts.proofs.MergedKnowledge.{merged_removed}
use Rattle.am_index_parts.proofs.KnownKeys.{known_removed}
use Rattle.am_index_parts.proofs.parts.Parts.take.Goals as goal

pub take-requires : goal.take-requires
take-requires g c =
    let found = c.remove-entry.ensures.entry in record {
      entries = g.I.PartIndex.entries c.self.inside.index;
      key = c.args.key;
      catalog = c.self.invariant.2;
      stands = ap (λ (o : Option Entry). is_some (option_map slot_of o)) found;
      mark = ap (λ (o : Option Entry). is_some (live_value (option_map slot_of o))) found ∙
          slot_live c.remove-entry.result;
    }

pub invariant_of-self : goal.invariant_of-self
invariant_of-self g c =
    let es = g.I.PartIndex.entries c.self.inside.index in
    let x = c.remove-entry.result in (
      (takes (ap (λ (p : Partitions). p.entries) c.self.view_is) c.self.invariant.0 c.args.part c.args.key c.requires
          c.remove-entry.ensures.others).sound,
      c.self.invariant.1,
      subst (λ es. IsCatalog es c.take.new.self) (sym c.remove-entry.ensures.others)
          (c.take.ensures es c.args.key c.self.invariant.2
          (ap (λ (o : Option Entry). is_some (option_map slot_of o)) c.remove-entry.ensures.entry)
          (ap (λ (o : Option Entry). is_some (live_value (option_map slot_of o))) c.remove-entry.ensures.entry ∙
          slot_live x)),
      subst (λ es. AreKnown es c.self.inside.keys) (sym c.remove-entry.ensures.others)
          (known_removed c.self.inside.keys es c.self.invariant.3 c.args.part c.args.key),
      subst (λ es. AreMerged es c.self.inside.runs c.self.inside.merged.list.items) (sym c.remove-entry.ensures.others)
          (merged_removed es c.self.inside.runs c.args.part c.args.key c.self.inside.merged.list.items
          c.self.invariant.4),
      c.remove-entry.ensures.rooms.have,
    )

pub returns-clause-content : goal.returns-clause-content
returns-clause-content g c = (takes (ap (λ (p : Partitions). p.entries) c.self.view_is) c.self.invariant.0 c.args.part
    c.args.key c.requires c.remove-entry.ensures.others).has
