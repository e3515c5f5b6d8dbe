-- The words that replies begin with: each has one text.
use Rattle.std.proofs.Common.{◌≡◌, ℕ, Bool, true, false, cond, List, [], ◌∷◌, Option, Some, None, option_map, refl}
use Rattle.std.proofs.Common.{subst}
use Rattle.std.specs.Prelude.{bytes_eq, find}
use Rattle.std.specs.List.{AllByRecursion}
use Rattle.std.proofs.lemmas.Slice.Eq.{bytes_eq-Decides}
use Rattle.am_record.specs.declared.step.Refusal.{Refusal}
use Rattle.am_trace_text.proofs.IsText.{same_some}
use Rattle.am_line_text.specs.ReplyWords.{word_text, refusal_code}
use Rattle.am_line_text.specs.declared.reply_word.ReplyWord.{ReplyWord}
use Rattle.am_trace_text.specs.FieldReadings.{word_for, all_words, refusal_for, coded_refusals}
use Rattle.am_line_text.specs.declared.reply_word.ReplyWord.TheVariants.{Begun, Done, Found}

pub word_for-word_text : (w : ReplyWord) → word_for (word_text w) ≡ Some w
unfolding word_for
word_for-word_text Begun = refl
word_for-word_text word = refl

-- an element that is found is one of the list, and passes the test
module _ {A : Type 0} (test : A → Bool) (P : A → Type 0) where
  first_passes : (b : Bool) (y x : A) (rest : Option A) → test y ≡ b → P y → (rest ≡ Some x → P x × (test x ≡ true)) →
      cond b (Some y) rest ≡ Some x → P x × (test x ≡ true)
  first_passes true y x rest t here later e = subst (λ z. P z × (test z ≡ true)) (same_some y x e) (here, t)
  first_passes false y x rest t here later e = later e

  found_passes : (all : List A) → AllByRecursion P all → (x : A) → find test all ≡ Some x → P x × (test x ≡ true)
  found_passes [] every x e = cc
  found_passes (y ∷ ys) every x e = first_passes (test y) y x (find test ys) refl every.0
      (λ h. found_passes ys every.1 x h) e

any_word : (all : List ReplyWord) → AllByRecursion (λ _. Unit {0}) all
any_word [] = tt
any_word (w ∷ ws) = (tt, any_word ws)

pub word_text-word_for : (text : List ℕ) (w : ReplyWord) → word_for text ≡ Some w → word_text w ≡ text
unfolding word_for
word_text-word_for text w e = (bytes_eq-Decides (word_text w) text).0
    (found_passes (λ v. bytes_eq (word_text v) text) (λ _. Unit {0}) all_words (any_word all_words) w e).1

-- what holds of the refusals that have a code holds of each that is read, and the code is its own
pub refusal_for-code : (P : Refusal → Type 0) → AllByRecursion P coded_refusals → (code : List ℕ) (r : Refusal) →
    refusal_for code ≡ Some r → P r × (refusal_code r ≡ code)
unfolding refusal_for
refusal_for-code P every code r e =
    let f = found_passes (λ why. bytes_eq (refusal_code why) code) P coded_refusals every r e in
    (f.0, (bytes_eq-Decides (refusal_code r) code).0 f.1)

pub option_map-itself : {A : Type 0} (o : Option A) → option_map (λ x. x) o ≡ o
option_map-itself None = refl
option_map-itself (Some x) = refl

-- a word whose letter no other begins with is told by it
module _ (rest : List ℕ) where
  pub done_by_letter : word_for (79 ∷ rest) ≡ cond (bytes_eq (word_text Done) (79 ∷ rest)) (Some Done) None
  unfolding word_for
  done_by_letter = refl

  pub found_by_letter : word_for (86 ∷ rest) ≡ cond (bytes_eq (word_text Found) (86 ∷ rest)) (Some Found) None
  unfolding word_for
  found_by_letter = refl
