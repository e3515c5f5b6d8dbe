use Rattle.std.proofs.Common.{refl, ◌∙◌, ap, sym}
use Rattle.std.specs.Prelude.{option_copied}
use Rattle.am_line_text.specs.Fields.{fields_left}
use Rattle.am_line_text.proofs.Spaces.{line_fields-some}
use Rattle.am_line_text.proofs.fields.Fields.end.Goals as goal

pub returns-in-Some : goal.returns-in-Some
returns-in-Some c =
    let some = line_fields-some c.in-Some.field-0.now in
    ((some.0, some.1, sym c.self.view_is ∙ ap (λ o. fields_left (option_copied o)) c.in-Some.is ∙ some.2), refl)
