use Rattle.std.proofs.Common.{◌≡◌, ◌+◌, ◌++◌, [], List, ℕ, length, refl, sym, ap, ◌∙◌, subst, inl, inr}
use Rattle.std.proofs.Common.{append-nil, append_assoc}
use Rattle.am_record.specs.Events.{Event}
use Rattle.am_trace_text.specs.Headers.{IsHeader, line_version}
use Rattle.am_trace_text.specs.Lines.{AreEvents, header_line, trace_text, event_lines, IsTextOf, EndsInBadLine}
use Rattle.am_trace_text.specs.Lines.{IsBadLine, BeginsNoEvent}
use Rattle.am_trace_text.specs.declared.header.Header.{Header}
use Rattle.am_trace_text.proofs.EventTexts.{LineLaws, one_list, no_line}
use Rattle.am_trace_text.proofs.HeaderTexts.{one_header}
use Rattle.am_trace_text.proofs.laws.traces_are_texts.Goals as goal

-- one text, two ways to read it up to where no event begins
both : LineLaws → (h k : Header) (a b : List Event) (r s : List ℕ) → IsHeader h → IsHeader k →
    AreEvents (line_version h) a → AreEvents (line_version k) b → BeginsNoEvent (line_version h) r →
    BeginsNoEvent (line_version k) s → trace_text h a ++ r ≡ trace_text k b ++ s → (a ≡ b) × (r ≡ s)
both laws h k a b r s is fits x y p q e =
    let v = line_version h in
    let w = line_version k in
    let lines : header_line h ++ (event_lines v a ++ r) ≡ header_line k ++ (event_lines w b ++ s) =
    sym (append_assoc (header_line h) (event_lines v a) r) ∙ e ∙ append_assoc (header_line k) (event_lines w b) s in
    let same = one_header laws h k (event_lines v a ++ r) (event_lines w b ++ s) is fits lines in
    one_list laws v a b r s x (subst (λ (z : Header). AreEvents (line_version z) b) (sym same.0) y) p
    (subst (λ (z : Header). BeginsNoEvent (line_version z) s) (sym same.0) q)
    (same.1 ∙ ap (λ (z : Header). event_lines (line_version z) b ++ s) (sym same.0))

nothing_begins : LineLaws → (h : Header) → BeginsNoEvent (line_version h) []
nothing_begins laws h = no_line laws (line_version h) [] refl

traces_same : LineLaws → (text : List ℕ) (a b : List Event) → IsTextOf text a → IsTextOf text b → a ≡ b
traces_same laws text a b h k =
    (both laws h.header k.header a b [] [] h.fits k.fits h.events k.events (nothing_begins laws h.header)
    (nothing_begins laws k.header)
    (append-nil (trace_text h.header a) ∙ sym h.spelled ∙ k.spelled ∙ sym (append-nil (trace_text k.header b)))).0

headers_same : LineLaws → (text : List ℕ) (a b : List Event) (h : IsTextOf text a) (k : IsTextOf text b) →
    h.header ≡ k.header
headers_same laws text a b h k =
    (one_header laws h.header k.header (event_lines (line_version h.header) a) (event_lines (line_version k.header) b)
    h.fits k.fits (sym h.spelled ∙ k.spelled)).0

traces_not_bad : LineLaws → (text : List ℕ) (trace : List Event) (n : ℕ) → IsTextOf text trace → IsBadLine text n → ⊥
traces_not_bad laws text trace n h (inl none) =
    none.1 h.header (event_lines (line_version h.header) trace) h.fits h.spelled
traces_not_bad laws text trace n h (inr found) =
    let bad = found.2 in
    bad.some (sym (both laws h.header bad.header trace found.0 [] bad.rest h.fits bad.fits h.events bad.events
    (nothing_begins laws h.header) bad.bad
    (append-nil (trace_text h.header trace) ∙ sym h.spelled ∙ bad.spelled)).1)

header_there : (text : List ℕ) (a : List Event) (bad : EndsInBadLine text a) → text ≡ header_line bad.header ++
    (event_lines (line_version bad.header) a ++ bad.rest)
header_there text a bad =
    bad.spelled ∙ append_assoc (header_line bad.header) (event_lines (line_version bad.header) a) bad.rest

bad_lines_same : LineLaws → (text : List ℕ) (m n : ℕ) → IsBadLine text m → IsBadLine text n → m ≡ n
bad_lines_same laws text m n (inl a) (inl b) = a.0 ∙ sym b.0
bad_lines_same laws text m n (inl a) (inr b) =
    absurd (a.1 b.2.header (event_lines (line_version b.2.header) b.0 ++ b.2.rest) b.2.fits
    (header_there text b.0 b.2))
bad_lines_same laws text m n (inr a) (inl b) =
    absurd (b.1 a.2.header (event_lines (line_version a.2.header) a.0 ++ a.2.rest) a.2.fits
    (header_there text a.0 a.2))
bad_lines_same laws text m n (inr a) (inr b) =
    let same = (both laws a.2.header b.2.header a.0 b.0 a.2.rest b.2.rest a.2.fits b.2.fits a.2.events b.2.events
    a.2.bad b.2.bad (sym a.2.spelled ∙ b.2.spelled)).0 in
    a.1 ∙ ap (λ (x : List Event). length x + 2) same ∙ sym b.1

pub returns-clause-one_trace : goal.returns-clause-one_trace
returns-clause-one_trace c =
    let k = c.words_are_fields.ensures in
    let laws : LineLaws = record {
      words = record {
        numbers = record { number = k.number; decimal = k.decimal };
        verb = k.verb;
        verb_word = k.verb_word;
        mode = k.mode;
        mode_word = k.mode_word;
      };
      fields = k.fields;
      line = k.line;
    } in
    traces_same laws

pub returns-clause-one_header : goal.returns-clause-one_header
returns-clause-one_header c =
    let k = c.words_are_fields.ensures in
    let laws : LineLaws = record {
      words = record {
        numbers = record { number = k.number; decimal = k.decimal };
        verb = k.verb;
        verb_word = k.verb_word;
        mode = k.mode;
        mode_word = k.mode_word;
      };
      fields = k.fields;
      line = k.line;
    } in
    headers_same laws

pub returns-clause-not_bad : goal.returns-clause-not_bad
returns-clause-not_bad c =
    let k = c.words_are_fields.ensures in
    let laws : LineLaws = record {
      words = record {
        numbers = record { number = k.number; decimal = k.decimal };
        verb = k.verb;
        verb_word = k.verb_word;
        mode = k.mode;
        mode_word = k.mode_word;
      };
      fields = k.fields;
      line = k.line;
    } in
    traces_not_bad laws

pub returns-clause-one_line : goal.returns-clause-one_line
returns-clause-one_line c =
    let k = c.words_are_fields.ensures in
    let laws : LineLaws = record {
      words = record {
        numbers = record { number = k.number; decimal = k.decimal };
        verb = k.verb;
        verb_word = k.verb_word;
        mode = k.mode;
        mode_word = k.mode_word;
      };
      fields = k.fields;
      line = k.line;
    } in
    bad_lines_same laws
