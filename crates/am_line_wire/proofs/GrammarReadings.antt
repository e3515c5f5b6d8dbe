-- What a line is read as by its fields is what the grammar says, and nothing else is.
use Rattle.std.proofs.Common.{◌≡◌, ◌≢◌, ℕ, List, [], ◌∷◌, Option, Some, None, Result, Ok, Err, ok_or, option_map, inl}
use Rattle.std.proofs.Common.{inr, refl, sym, ap, subst, ◌∙◌}
use Rattle.std.proofs.lemmas.List.Splits.{join_with_byte-slice_split}
use Rattle.std.specs.List.{join_with_byte}
use Rattle.am_line_text.specs.Verbs.{word_of, verb_for}
use Rattle.am_line_wire.specs.Grammar.{verb_shape, Form, spelling, IsProper, request_with, request_of, Spells, Reads}
use Rattle.am_line_wire.specs.Arguments.{Arguments, fields_of, values_for}
use Rattle.am_line_text.specs.Fields.{line_fields}
use Rattle.am_line_wire.specs.LineReadings.{arguments_in, judged, map_ok, verb_reading, fields_reading, reading}
use Rattle.am_line_wire.specs.LineReadings.{MayRead}
use Rattle.am_line_text.specs.declared.verb.Verb.{Verb}
use Rattle.am_line_wire.specs.declared.request.Request.{Request}
use Rattle.am_line_text.specs.declared.fault.LineFault.{LineFault}
use Rattle.am_line_text.specs.declared.fault.LineFault.TheVariants.{Syntax, Range, NoMemory}
use Rattle.am_line_text.proofs.Spaces.{line_fields-join}
use Rattle.am_line_text.proofs.VerbWords.{verb_for-word_of, word_of-verb_for, word_of-no_space}
use Rattle.am_line_wire.proofs.Forms.{arguments_in-fields_of, fields_of-arguments_in, fields_of-no_space}

-- ---- the form of a line

abbrev form_with : (v : Verb) → Arguments (verb_shape v) → Form
form_with v a = record { verb = v; arguments = a }

abbrev form_by_verb : Option Verb → List (List ℕ) → Option Form
form_by_verb None fs = None
form_by_verb (Some v) fs = option_map (form_with v) (arguments_in (verb_shape v) fs)

-- the form that the fields spell
abbrev form_in : List (List ℕ) → Option Form
form_in [] = None
form_in (word ∷ fs) = form_by_verb (verb_for word) fs

-- a form's fields
abbrev form_fields : Form → List (List ℕ)
form_fields form = word_of form.verb ∷ fields_of (verb_shape form.verb) form.arguments

-- a proper form is found by its fields
form_in-form_fields : (form : Form) → IsProper form → form_in (form_fields form) ≡ Some form
form_in-form_fields form h =
    ap (λ v. form_by_verb v (fields_of (verb_shape form.verb) form.arguments)) (verb_for-word_of form.verb)
    ∙ ap (option_map (form_with form.verb)) (arguments_in-fields_of (verb_shape form.verb) form.arguments h)

-- and by its line
form_in-spelling : (form : Form) → IsProper form → form_in (line_fields (spelling form)) ≡ Some form
form_in-spelling form h =
    ap form_in (line_fields-join (word_of form.verb) (fields_of (verb_shape form.verb) form.arguments)
    (word_of-no_space form.verb) (fields_of-no_space (verb_shape form.verb) form.arguments h))
    ∙ form_in-form_fields form h

-- the form is proper, and these are its fields
abbrev IsOf : List (List ℕ) → Form → Type 0
IsOf fs form = IsProper form × (form_fields form ≡ fs)

with_arguments : (word : List ℕ) (fs : List (List ℕ)) (v : Verb) (form : Form) (o : Option (Arguments (verb_shape v))) →
    word_of v ≡ word → arguments_in (verb_shape v) fs ≡ o → option_map (form_with v) o ≡ Some form →
    IsOf (word ∷ fs) form
with_arguments word fs v form None w e f = cc
with_arguments word fs v form (Some a) w e f =
    let read = fields_of-arguments_in (verb_shape v) fs a e in
    let same : form_with v a ≡ form = cc in
    subst (IsOf (word ∷ fs)) same (
      read.0,
      ap (λ (x : List ℕ). x ∷ fields_of (verb_shape v) a) w ∙
          ap (λ (xs : List (List ℕ)). word ∷ xs) read.1,
    )

with_verb : (word : List ℕ) (fs : List (List ℕ)) (form : Form) (o : Option Verb) → verb_for word ≡ o →
    form_by_verb o fs ≡ Some form → IsOf (word ∷ fs) form
with_verb word fs form None e f = cc
with_verb word fs form (Some v) e f = with_arguments word fs v form (arguments_in (verb_shape v) fs)
    (word_of-verb_for word v e) refl f

form_fields-form_in : (fs : List (List ℕ)) (form : Form) → form_in fs ≡ Some form → IsOf fs form
form_fields-form_in [] form e = cc
form_fields-form_in (word ∷ fs) form e = with_verb word fs form (verb_for word) refl e

-- two proper forms with one line are one
pub one_form : (a b : Form) → IsProper a → IsProper b → spelling a ≡ spelling b → a ≡ b
one_form a b ha hb e =
    let same : Some a ≡ Some b = sym (form_in-spelling a ha) ∙ ap (λ line. form_in (line_fields line)) e ∙
    form_in-spelling b hb in
    cc

-- ---- what a line is read as

asked : {A : Type 0} (f : A → Request) (o : Option A) → map_ok f (ok_or o Range) ≡ ok_or (option_map f o) Range
asked f None = refl
asked f (Some a) = refl

judged_form : (v : Verb) (o : Option (Arguments (verb_shape v))) →
    map_ok (request_with v) (judged (values_for (verb_shape v)) o) ≡ judged request_of (option_map (form_with v) o)
judged_form v None = refl
judged_form v (Some a) = asked (request_with v) (values_for (verb_shape v) a)

by_verb : (o : Option Verb) (fs : List (List ℕ)) → verb_reading o fs ≡ judged request_of (form_by_verb o fs)
by_verb None fs = refl
by_verb (Some v) fs = judged_form v (arguments_in (verb_shape v) fs)

-- the reading by verbs is that by forms
by_form : (fs : List (List ℕ)) → fields_reading fs ≡ judged request_of (form_in fs)
by_form [] = refl
by_form (word ∷ fs) = by_verb (verb_for word) fs

reads_request : (line : List ℕ) (form : Form) (o : Option Request) → IsProper form → line ≡ spelling form →
    request_of form ≡ o → Reads line (ok_or o Range)
reads_request line form None h e q = (form, h, e, q)
reads_request line form (Some request) h e q = (form, h, e, q)

-- a line has the spelling of the form that its fields have
spelled : (line : List ℕ) (form : Form) → form_fields form ≡ line_fields line → line ≡ spelling form
spelled line form e = sym (join_with_byte-slice_split 32 line) ∙ ap (join_with_byte 32) (sym e)

reads_form : (line : List ℕ) (o : Option Form) → form_in (line_fields line) ≡ o → Reads line (judged request_of o)
reads_form line None e = λ form h same.
    let found : None ≡ Some form = sym e ∙ ap (λ l. form_in (line_fields l)) same ∙ form_in-spelling form h in
    cc
reads_form line (Some form) e =
    let of_line = form_fields-form_in (line_fields line) form e in
    reads_request line form (request_of form) of_line.0 (spelled line form of_line.1) refl

-- the reading by fields is in the grammar
pub reads_reading : (line : List ℕ) → Reads line (reading line)
reads_reading line = subst (Reads line) (sym (by_form (line_fields line)))
    (reads_form line (form_in (line_fields line)) refl)

-- what may be read is in the grammar
pub reads_what_may_be : (line : List ℕ) (r : Result Request LineFault) → MayRead (reading line) r → Reads line r
reads_what_may_be line r (inl same) = subst (Reads line) (sym same) (reads_reading line)
reads_what_may_be line r (inr refused) =
    subst (Reads line) (sym refused.0) (refused.1.0, subst (Reads line) refused.1.1 (reads_reading line), refused.1.2)

reading-spelled : (line : List ℕ) (read : Option Request) → Spells line read → reading line ≡ ok_or read Range
reading-spelled line read h =
    by_form (line_fields line) ∙ ap (λ l. judged request_of (form_in (line_fields l))) h.2 ∙
    ap (judged request_of) (form_in-spelling h.0 h.1) ∙ ap (λ o. ok_or o Range) h.3

no_form : (line : List ℕ) (o : Option Form) → form_in (line_fields line) ≡ o →
    ((form : Form) → IsProper form → line ≢ spelling form) → judged request_of o ≡ Err Syntax
no_form line None e none = refl
no_form line (Some form) e none =
    let of_line = form_fields-form_in (line_fields line) form e in
    absurd (none form of_line.0 (spelled line form of_line.1))

-- and nothing else is, but that memory may be refused
pub reading-by_grammar : (line : List ℕ) (r : Result Request LineFault) → Reads line r → r ≢ Err NoMemory →
    reading line ≡ r
reading-by_grammar line (Ok request) h n = reading-spelled line (Some request) h
reading-by_grammar line (Err Syntax) h n = by_form (line_fields line) ∙ no_form line (form_in (line_fields line)) refl h
reading-by_grammar line (Err Range) h n = reading-spelled line None h
reading-by_grammar line (Err NoMemory) h n = absurd (n refl)

-- a line has one reading
pub one_result : (line : List ℕ) (r s : Result Request LineFault) → Reads line r → Reads line s → r ≢ Err NoMemory →
    s ≢ Err NoMemory → r ≡ s
one_result line r s h k m n = sym (reading-by_grammar line r h m) ∙ reading-by_grammar line s k n

-- memory is refused of what brings records alone
pub refused_records : (line : List ℕ) → Reads line (Err NoMemory) → MayRead (reading line) (Err NoMemory)
refused_records line h = inr (refl, (h.0, reading-spelled line (Some h.0) h.1, h.2))
