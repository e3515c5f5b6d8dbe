use Rattle.std.proofs.Common.{◌≡◌, [], ◌∷◌, Some, sym, ap, ◌∙◌}
use Rattle.std.specs.Option.{option_copied}
use Rattle.am_line_text.specs.Verbs.{verb_among, verb_for}
use Rattle.am_line_text.specs.declared.verb.Verb.TheVariants.{Get, Scan, ScanBack, Insert, Replace, Set}
use Rattle.am_line_text.specs.declared.verb.Verb.TheVariants.{Delete, DeleteRange, Stage, Seen}
use Rattle.am_line_text.proofs.VerbWords.{with_letter, by_g, by_i, by_r, by_s, by_d}
use Rattle.am_line_text.proofs.verb.Verb.of_word.Goals as goal

pub returns-in-Some-eq71 : goal.returns-in-Some-eq71
returns-in-Some-eq71 c =
    c.find.ensures
    ∙ with_letter c.args.word.now 71 (λ w. verb_among (Get ∷ []) w ≡ verb_for w)
    (sym c.first.ensures.value ∙ ap option_copied c.in-Some-eq71.is ∙ ap Some c.in-Some-eq71.field-0-test)
    (λ rest. sym (by_g rest))

pub returns-in-Some-eq73 : goal.returns-in-Some-eq73
returns-in-Some-eq73 c =
    c.find-in-Some-eq73.ensures
    ∙ with_letter c.args.word.now 73 (λ w. verb_among (Insert ∷ []) w ≡ verb_for w)
    (sym c.first.ensures.value ∙ ap option_copied c.in-Some-eq73.is ∙ ap Some c.in-Some-eq73.field-0-test)
    (λ rest. sym (by_i rest))

pub returns-in-Some-eq82 : goal.returns-in-Some-eq82
returns-in-Some-eq82 c =
    c.find-in-Some-eq82.ensures
    ∙ with_letter c.args.word.now 82 (λ w. verb_among (ScanBack ∷ Replace ∷ []) w ≡ verb_for w)
    (sym c.first.ensures.value ∙ ap option_copied c.in-Some-eq82.is ∙ ap Some c.in-Some-eq82.field-0-test)
    (λ rest. sym (by_r rest))

pub returns-in-Some-eq83 : goal.returns-in-Some-eq83
returns-in-Some-eq83 c =
    c.find-in-Some-eq83.ensures
    ∙ with_letter c.args.word.now 83 (λ w. verb_among (Scan ∷ Set ∷ Stage ∷ Seen ∷ []) w ≡ verb_for w)
    (sym c.first.ensures.value ∙ ap option_copied c.in-Some-eq83.is ∙ ap Some c.in-Some-eq83.field-0-test)
    (λ rest. sym (by_s rest))

pub returns-in-Some-eq68 : goal.returns-in-Some-eq68
returns-in-Some-eq68 c =
    c.find-in-Some-eq68.ensures
    ∙ with_letter c.args.word.now 68 (λ w. verb_among (Delete ∷ DeleteRange ∷ []) w ≡ verb_for w)
    (sym c.first.ensures.value ∙ ap option_copied c.in-Some-eq68.is ∙ ap Some c.in-Some-eq68.field-0-test)
    (λ rest. sym (by_d rest))

pub returns-in_default : goal.returns-in_default
unfolding verb_for
returns-in_default c = c.find-in_default.ensures
