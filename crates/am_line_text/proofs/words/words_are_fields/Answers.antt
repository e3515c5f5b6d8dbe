use Rattle.std.proofs.Common.{◌≡◌, ℕ, ◌<◌, ◌^◌, List, decimal, Some, None, sym, ap, ◌∙◌, subst, ltb}
use Rattle.std.proofs.lemmas.Bool.{cond_both, ltb-true}
use Rattle.std.proofs.lemmas.List.Splits.{join_with_byte-slice_split}
use Rattle.am_line_text.specs.Numbers.{numeral, numeral_value, number_for, IsNumeralOf}
use Rattle.am_line_text.proofs.Spaces.{line_fields-join}
use Rattle.am_line_text.proofs.Numerals.{numeral-numeral_value, numeral_value-numeral, is_numeral-numeral}
use Rattle.am_line_text.proofs.Numerals.{is_numeral-digits}
use Rattle.am_line_text.proofs.Numerals.{numeral-decimal}
use Rattle.am_line_text.proofs.VerbWords.{verb_for-word_of, word_of-verb_for}
use Rattle.am_line_text.proofs.Modes.{mode_for-mode_word, mode_word-mode_for}
use Rattle.am_line_text.proofs.words.words_are_fields.Goals as goal

pub returns-clause-fields : goal.returns-clause-fields
returns-clause-fields c = line_fields-join

pub returns-clause-line : goal.returns-clause-line
returns-clause-line c = join_with_byte-slice_split 32

-- the number has 64 bits, and is the value of the text
small : (v n : ℕ) → number_for v ≡ Some n → (v < 2 ^ 64) × (v ≡ n)
small v n = cond_both (ltb v (2 ^ 64)) (Some v) None (λ o. o ≡ Some n → (v < 2 ^ 64) × (v ≡ n))
    (λ t e. (ltb-true v (2 ^ 64) t, cc)) (λ _ e. cc)

pub returns-clause-number : goal.returns-clause-number
returns-clause-number c = λ text n is e.
    let s = small (numeral_value text) n e in
    sym (numeral-numeral_value text is) ∙ numeral-decimal (numeral_value text) s.0 ∙ ap (λ m. decimal m) s.1

of_numeral : (n : ℕ) → IsNumeralOf (numeral n) n
of_numeral n = record {
  digits = is_numeral-digits (numeral n) (is_numeral-numeral n);
  is_one = is_numeral-numeral n;
  value = numeral_value-numeral n;
}

pub returns-clause-decimal : goal.returns-clause-decimal
returns-clause-decimal c = λ n h. subst (λ (text : List ℕ). IsNumeralOf text n) (numeral-decimal n h) (of_numeral n)

pub returns-clause-verb : goal.returns-clause-verb
returns-clause-verb c = word_of-verb_for

pub returns-clause-verb_word : goal.returns-clause-verb_word
returns-clause-verb_word c = verb_for-word_of

pub returns-clause-mode : goal.returns-clause-mode
returns-clause-mode c = mode_word-mode_for

pub returns-clause-mode_word : goal.returns-clause-mode_word
returns-clause-mode_word c = mode_for-mode_word
