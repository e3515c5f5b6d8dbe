use Rattle.std.proofs.Common.{◌≡◌, ◌∙◌, true, false, ◌&&◌, not, sym, ap}
use Rattle.std.specs.Prelude.{nat_eq}
use Rattle.std.specs.List.{list_any, starts_with}
use Rattle.std.proofs.lemmas.Str.Ascii.{trim_ascii_end_is}
use Rattle.am_serve_connections.specs.Http.{ends_request, without_blanks, own_fronts}
use Rattle.am_serve_connections.proofs.http.is_request_line.Goals as goal

pub returns-then-ends_request : goal.returns-then-ends_request
returns-then-ends_request c =
    let line = c.args.line.now in
    let ends : ends_request (without_blanks line) ≡ true =
    ap ends_request (sym (trim_ascii_end_is line c.trim_ascii_end.result.now c.trim_ascii_end.ensures.value)) ∙
    sym c.ends_request.ensures ∙ c.if-ends_request.true in
    ap not c.begins_with_any.ensures ∙
    sym (ap (λ b. b && not (list_any (starts_with nat_eq line) own_fronts)) ends)

pub returns-else-ends_request : goal.returns-else-ends_request
returns-else-ends_request c =
    let line = c.args.line.now in
    let ends : ends_request (without_blanks line) ≡ false =
    ap ends_request (sym (trim_ascii_end_is line c.trim_ascii_end.result.now c.trim_ascii_end.ensures.value)) ∙
    sym c.ends_request.ensures ∙ c.if-ends_request.false in
    c.if-ends_request.false ∙ sym (ap (λ b. b && not (list_any (starts_with nat_eq line) own_fronts)) ends)
