-- The text of a request is cut into words in one way, whatever follows it.
use Rattle.std.proofs.Common.{◌≡◌, ℕ, List, [], ◌∷◌, ◌++◌, length, refl, sym, ap, ◌∙◌, arith, append_assoc}
use Rattle.am_resp_text.specs.Counts.{count_line, bulk_text}
use Rattle.am_resp_text.specs.Requests.{words_text, request_text}
use Rattle.am_resp_text.proofs.Cuts.{cut_count, cut_bytes}

pub cut_words : (vs ws : List (List ℕ)) (x y : List ℕ) → length vs ≡ length ws → words_text vs ++ x ≡ words_text ws ++
    y →
    (vs ≡ ws) × (x ≡ y)
cut_words [] [] x y n e = (refl, e)
cut_words [] (w ∷ ws) x y n e = absurd (omega (arith, n))
cut_words (v ∷ vs) [] x y n e = absurd (omega (arith, n))
cut_words (v ∷ vs) (w ∷ ws) x y n e =
    let both = sym (append_assoc (bulk_text v) (words_text vs) x) ∙ e ∙ append_assoc (bulk_text w) (words_text ws) y in
    let first = cut_bytes v w (words_text vs ++ x) (words_text ws ++ y) both in
    let rest = cut_words vs ws x y (omega (arith, n)) first.1 in
    (ap (λ z. z ∷ vs) first.0 ∙ ap (λ z. w ∷ z) rest.0, rest.1)

pub cut_request : (vs ws : List (List ℕ)) (x y : List ℕ) → request_text vs ++ x ≡ request_text ws ++ y → (vs ≡ ws) ×
    (x ≡ y)
cut_request vs ws x y e =
    let left = append_assoc (count_line 42 (length vs)) (words_text vs) x in
    let right = append_assoc (count_line 42 (length ws)) (words_text ws) y in
    let count = cut_count 42 42 (length vs) (length ws) (words_text vs ++ x) (words_text ws ++ y) (sym left ∙ e ∙
    right) in
    cut_words vs ws x y count.1 count.2
