-- The words of verbs: each verb has one, and no space stands in it.
use Rattle.std.proofs.Common.{◌≡◌, ℕ, Bool, true, false, cond, List, [], ◌∷◌, Option, Some, refl, subst}
use Rattle.std.specs.Prelude.{bytes_eq, find, slice_get}
use Rattle.std.proofs.lemmas.Slice.Eq.{bytes_eq-Decides}
use Rattle.am_line_text.specs.Verbs.{word_of, verb_among, verb_for, verbs}
use Rattle.am_line_text.specs.declared.verb.Verb.{Verb}
use Rattle.am_line_text.specs.declared.verb.Verb.TheVariants.{Begin, Get, Scan, ScanBack, Insert, Replace, Set}
use Rattle.am_line_text.specs.declared.verb.Verb.TheVariants.{Delete, DeleteRange, Stage, Seen}
use Rattle.am_line_text.specs.Fields.{has_no_space}

pub verb_for-word_of : (verb : Verb) → verb_for (word_of verb) ≡ Some verb
unfolding verb_for
verb_for-word_of Begin = refl
verb_for-word_of verb = refl

pub word_of-no_space : (verb : Verb) → has_no_space (word_of verb) ≡ true
word_of-no_space Begin = refl
word_of-no_space verb = refl

-- an element that is found passes the test
found_passes : (test : Verb → Bool) (all : List Verb) (verb : Verb) → find test all ≡ Some verb → test verb ≡ true
found_passes test [] verb e = cc
found_passes test (v ∷ vs) verb e = first (test v) v (find test vs) verb refl (λ h. found_passes test vs verb h) e
  where
    first : (b : Bool) (v : Verb) (rest : Option Verb) (verb : Verb) → test v ≡ b →
        (rest ≡ Some verb → test verb ≡ true) → cond b (Some v) rest ≡ Some verb → test verb ≡ true
    first true v rest verb t others e = cc
    first false v rest verb t others e = others e

-- the verb that is found for a word has it
pub word_of-verb_for : (word : List ℕ) (verb : Verb) → verb_for word ≡ Some verb → word_of verb ≡ word
unfolding verb_for
word_of-verb_for word verb e = (bytes_eq-Decides (word_of verb) word).0
    (found_passes (λ v. bytes_eq (word_of v) word) verbs verb e)

-- what holds of each word with the letter holds of this one
pub with_letter : (word : List ℕ) (letter : ℕ) (P : List ℕ → Type 0) → slice_get word 0 ≡ Some letter →
    ((rest : List ℕ) → P (letter ∷ rest)) → P word
with_letter [] letter P e h = absurd (cc)
with_letter (b ∷ rest) letter P e h = let same : letter ≡ b = cc in subst (λ l. P (l ∷ rest)) same (h rest)

-- a word is sought among the verbs that begin with its letter
module _ (rest : List ℕ) where
  pub by_g : verb_for (71 ∷ rest) ≡ verb_among (Get ∷ []) (71 ∷ rest)
  unfolding verb_for
  by_g = refl

  pub by_i : verb_for (73 ∷ rest) ≡ verb_among (Insert ∷ []) (73 ∷ rest)
  unfolding verb_for
  by_i = refl

  pub by_r : verb_for (82 ∷ rest) ≡ verb_among (ScanBack ∷ Replace ∷ []) (82 ∷ rest)
  unfolding verb_for
  by_r = refl

  pub by_s : verb_for (83 ∷ rest) ≡ verb_among (Scan ∷ Set ∷ Stage ∷ Seen ∷ []) (83 ∷ rest)
  unfolding verb_for
  by_s = refl

  pub by_d : verb_for (68 ∷ rest) ≡ verb_among (Delete ∷ DeleteRange ∷ []) (68 ∷ rest)
  unfolding verb_for
  by_d = refl
