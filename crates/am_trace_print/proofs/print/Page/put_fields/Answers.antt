use Rattle.std.proofs.Common.{◌≡◌, ◌++◌, ◌∷◌, ap, sym, ◌∙◌}
use Rattle.std.specs.List.{join_with_byte}
use Rattle.am_trace_print.proofs.Joins.{spaced, join_is, on_ok, behind}
use Rattle.am_trace_print.proofs.print.Page.put_fields.Goals as goal

pub returns : goal.returns
returns c =
    let word = c.args.word.now in
    let fields = c.args.fields.now in
    let old = c.args.self.now in
    on_ok c.put_further.result (c.put_further.new.self ≡ c.put.new.self ++ spaced fields)
    (c.put_further.new.self ≡ old ++ join_with_byte 32 (word ∷ fields))
    (λ e. behind c.put.new.self word (spaced fields) c.put_further.new.self old c.in_ok-put.ensures e ∙
    ap (λ text. old ++ text) (sym (join_is word fields)))
    c.put_further.ensures
