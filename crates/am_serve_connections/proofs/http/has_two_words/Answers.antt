use Rattle.std.proofs.Common.{◌∙◌, ap, drop, refl}
use Rattle.std.specs.Char.{is_ascii_whitespace}
use Rattle.std.specs.List.{list_any, prefix_len}
use Rattle.std.proofs.lemmas.Str.Ascii.{trim_ascii_is}
use Rattle.am_serve_connections.proofs.http.has_two_words.Goals as goal

pub returns : goal.returns
returns c =
    let text = c.args.text.now in
    c.has_blank.ensures ∙ ap (list_any is_ascii_whitespace) (trim_ascii_is text c.trim_ascii.result.now
    (drop (prefix_len is_ascii_whitespace text) text) refl c.trim_ascii.ensures.value)
