-- The texts of sessions, one after another.
use Rattle.std.proofs.Common.{◌≡◌, ℕ, ◌+◌, ◌<◌, List, [], ◌∷◌, ◌++◌, length, take, drop, get_or, append_assoc}
use Rattle.std.proofs.Common.{append-nil, refl, sym, ap, ◌∙◌}
use Rattle.std.proofs.lemmas.List.{take_more, take-append-drop}
use Rattle.std.specs.Prelude.{codes, decimal}
use Rattle.am_line_dialogue.specs.Responses.{told_words, sessions_words, who_text}
use Rattle.am_line_dialogue.specs.declared.told_sessions.ToldSession.{ToldSession}

sessions_words-append : (sessions more : List ToldSession) → sessions_words (sessions ++ more) ≡
    sessions_words sessions ++ sessions_words more
sessions_words-append [] more = refl
sessions_words-append (one ∷ sessions) more = ap (λ (text : List ℕ). told_words one ++ text)
    (sessions_words-append sessions more) ∙
    sym (append_assoc (told_words one) (sessions_words sessions) (sessions_words more))

module _ (sessions : List ToldSession) (i : ℕ) (d : ToldSession) (inside : i < length sessions) where
  abbrev one : ToldSession
  one = get_or sessions i d

  -- one session more
  pub sessions_words-more : sessions_words (take (i + 1) sessions) ≡ sessions_words (take i sessions) ++ told_words one
  sessions_words-more =
      ap sessions_words (take_more sessions i d inside)
      ∙ sessions_words-append (take i sessions) (one ∷ [])
      ∙ ap (λ (text : List ℕ). sessions_words (take i sessions) ++ text) (append-nil (told_words one))

  -- those before it, it and those after it are all
  pub around_told : (sessions_words (take i sessions) ++ told_words one) ++
      sessions_words (drop (i + 1) sessions) ≡ sessions_words sessions
  around_told =
      ap (λ (text : List ℕ). text ++ sessions_words (drop (i + 1) sessions)) (sym sessions_words-more)
      ∙ sym (sessions_words-append (take (i + 1) sessions) (drop (i + 1) sessions))
      ∙ ap sessions_words (take-append-drop (i + 1) sessions)

-- the head, the sessions, and the end of the line
pub in_pieces : (sessions : List ToldSession) (head word : List ℕ) → head ≡ word ++ decimal (length sessions) →
    word ≡ codes "WHO " → (head ++ sessions_words sessions) ++ (10 ∷ []) ≡ who_text sessions
in_pieces sessions head word e f =
    ap (λ (text : List ℕ). (text ++ sessions_words sessions) ++ (10 ∷ []))
    (e ∙ ap (λ (text : List ℕ). text ++ decimal (length sessions)) f)
