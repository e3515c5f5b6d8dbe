use Rattle.std.proofs.Common.{◌≡◌, List, Option, sym, ap, ◌∙◌, subst}
use Rattle.std.specs.Prelude.{is_some}
use Rattle.std.specs.Option.{option_map}
use Rattle.am_record.specs.declared.entry.Entry.{Entry}
use Rattle.am_record.proofs.Outcomes.{on_err}
use Rattle.am_index.specs.Entries.{slot_of, insert_entry}
use Rattle.am_index.specs.Content.{live_value}
use Rattle.am_index.proofs.Edits.{entry_at_inserted, insert_back}
use Rattle.am_index_parts.specs.Catalogs.{IsCatalog}
use Rattle.am_index.proofs.Content.{slot_live}
use Rattle.am_index_parts.proofs.parts.insert_or_forget.Goals as goal

pub take-requires : goal.take-requires
take-requires g c = record {
  entries = insert_entry (g.I.PartIndex.entries c.args.index.now) c.args.entry;
  key = c.args.entry.key;
  catalog = c.requires.counted;
  stands = ap is_some (ap (option_map slot_of) (entry_at_inserted (g.I.PartIndex.entries c.args.index.now)
      c.args.entry));
  mark = ap (λ (o : Option Entry). is_some (live_value (option_map slot_of o)))
      (entry_at_inserted (g.I.PartIndex.entries c.args.index.now) c.args.entry) ∙ slot_live c.args.entry;
}

pub returns-then-is_err-clause-catalog : goal.returns-then-is_err-clause-catalog
returns-then-is_err-clause-catalog g c =
    let es = g.I.PartIndex.entries c.args.index.now in let x = c.args.entry in
    let back : g.I.PartIndex.entries c.insert-added.new.self ≡ es =
    on_err c.insert-added.result (sym c.is_err.ensures.value ∙ c.if-is_err.true) c.insert-added.ensures.err in
    subst (λ (l : List Entry). IsCatalog l c.take.new.self) (insert_back es x ∙ sym back)
    (c.take.ensures (insert_entry es x) x.key c.requires.counted
    (ap (λ (o : Option Entry). is_some (option_map slot_of o)) (entry_at_inserted es x))
    (ap (λ (o : Option Entry). is_some (live_value (option_map slot_of o))) (entry_at_inserted es x) ∙ slot_live x))
