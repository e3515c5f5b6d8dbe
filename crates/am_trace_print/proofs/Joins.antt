-- Fields that a space parts: the first of them, and each further one after a space.
use Rattle.std.proofs.Common.{◌≡◌, ℕ, List, [], ◌∷◌, ◌++◌, map, sym, ap, ◌∙◌, append_assoc, append-nil}
use Rattle.std.specs.Prelude.{OnOk, Result, Ok, Err}
use Rattle.std.specs.List.{join_with_byte, flat_map}
use Rattle.am_record.specs.OrderedKey.{OrderedKey}
use Rattle.am_trace_text.specs.Words.{record_word}
use Rattle.am_trace_text.specs.declared.version.Version.{Version}

abbrev pub spaced : List (List ℕ) → List ℕ
spaced fs = flat_map (λ (f : List ℕ). 32 ∷ f) fs

pub join_is : (word : List ℕ) (fs : List (List ℕ)) → join_with_byte 32 (word ∷ fs) ≡ word ++ spaced fs
join_is word [] = sym (append-nil word)
join_is word (f ∷ fs) = ap (λ rest. word ++ 32 ∷ rest) (join_is f fs)

-- records after some fields
pub joined_records : (words : List (List ℕ)) (v : Version) (rs : List (OrderedKey × List ℕ)) (word : List ℕ) →
    join_with_byte 32 (word ∷ words) ++ flat_map (λ (r : OrderedKey × List ℕ). 32 ∷ record_word v r) rs ≡ join_with_byte
    32 (word ∷ (words ++ map (record_word v) rs))
joined_records [] v [] word = append-nil word
joined_records [] v (r ∷ rs) word = ap (λ rest. word ++ 32 ∷ rest) (joined_records [] v rs (record_word v r))
joined_records (w ∷ words) v rs word = append_assoc word (32 ∷ join_with_byte 32 (w ∷ words))
    (flat_map (λ (r : OrderedKey × List ℕ). 32 ∷ record_word v r) rs) ∙
    ap (λ rest. word ++ 32 ∷ rest) (joined_records words v rs w)

pub on_ok : {A E : Type 0} (r : Result A E) (P Q : Type 0) → (P → Q) → OnOk r P → OnOk r Q
on_ok (Ok x) P Q f h = f h
on_ok (Err e) P Q f h = tt

-- what is written after what stands already
pub behind : (a b c d old : List ℕ) → a ≡ old ++ b → d ≡ a ++ c → d ≡ old ++ (b ++ c)
behind a b c d old e f = f ∙ ap (λ x. x ++ c) e ∙ append_assoc old b c
