use Rattle.std.proofs.Common.{◌≡◌, List, ℕ, ◌++◌, ◌∷◌, map, ap, ◌∙◌}
use Rattle.std.specs.List.{join_with_byte, flat_map}
use Rattle.am_record.specs.OrderedKey.{OrderedKey}
use Rattle.am_trace_text.specs.Words.{record_word}
use Rattle.am_trace_text.specs.declared.version.Version.TheVariants.{Three}
use Rattle.am_trace_print.proofs.Joins.{joined_records, on_ok, behind}
use Rattle.am_trace_print.proofs.print.Page.put_with_records.Goals as goal

pub returns-clause-text : goal.returns-clause-text
returns-clause-text c =
    let word = c.args.word.now in
    let fields = c.args.fields.now in
    let rs = c.args.records.now in
    let old = c.args.self.now in
    let more = flat_map (λ (r : OrderedKey × List ℕ). 32 ∷ record_word Three r) rs in
    on_ok c.put_records.result (c.put_records.new.self ≡ c.put_fields.new.self ++ more) (c.put_records.new.self ≡ old ++
    join_with_byte 32 (word ∷ (fields ++ map (record_word Three) rs)))
    (λ e. behind c.put_fields.new.self (join_with_byte 32 (word ∷ fields)) more c.put_records.new.self old
    c.in_ok-put_fields.ensures e ∙ ap (λ text. old ++ text) (joined_records fields Three rs word))
    c.put_records.ensures.text
