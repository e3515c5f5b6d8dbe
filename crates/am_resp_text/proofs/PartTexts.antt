-- The texts of parts, one after another.
use Rattle.std.proofs.Common.{◌≡◌, ℕ, ◌+◌, ◌<◌, List, [], ◌∷◌, ◌++◌, length, take, drop, get_or, append_assoc}
use Rattle.std.proofs.Common.{append-nil, refl, sym, ap, ◌∙◌}
use Rattle.std.proofs.lemmas.List.{take_more, take-append-drop}
use Rattle.am_resp_text.specs.declared.part.Part.{Part}
use Rattle.am_resp_text.specs.Answers.{part_text, parts_text}

parts_text-append : (parts more : List Part) → parts_text (parts ++ more) ≡ parts_text parts ++ parts_text more
parts_text-append [] more = refl
parts_text-append (part ∷ parts) more = ap (λ (text : List ℕ). part_text part ++ text) (parts_text-append parts more) ∙
    sym (append_assoc (part_text part) (parts_text parts) (parts_text more))

pub parts_text-more : (parts : List Part) (i : ℕ) (part : Part) → i < length parts → part ≡ get_or parts i part →
    parts_text (take (i + 1) parts) ≡ parts_text (take i parts) ++ part_text part
parts_text-more parts i part inside e =
    ap parts_text (take_more parts i part inside)
    ∙ parts_text-append (take i parts) (get_or parts i part ∷ [])
    ∙ ap (λ (text : List ℕ). parts_text (take i parts) ++ text) (append-nil (part_text (get_or parts i part)))
    ∙ ap (λ (p : Part). parts_text (take i parts) ++ part_text p) (sym e)

pub around_part : (parts : List Part) (i : ℕ) (part : Part) → i < length parts → part ≡ get_or parts i part →
    (parts_text (take i parts) ++ part_text part) ++ parts_text (drop (i + 1) parts) ≡ parts_text parts
around_part parts i part inside e =
    ap (λ (text : List ℕ). text ++ parts_text (drop (i + 1) parts)) (sym (parts_text-more parts i part inside e))
    ∙ sym (parts_text-append (take (i + 1) parts) (drop (i + 1) parts))
    ∙ ap parts_text (take-append-drop (i + 1) parts)
