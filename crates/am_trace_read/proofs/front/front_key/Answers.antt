use Rattle.std.proofs.Common.{◌∷◌, ◌++◌, ◌≤◌, List, ℕ, length, decimal, refl, sym, ◌∙◌, ap, subst, append_assoc}
use Rattle.am_record.specs.OrderedKey.{bytes_of}
use Rattle.am_trace_text.specs.Words.{hex}
use Rattle.am_trace_text.specs.Bounds.{IsByteList}
use Rattle.am_trace_read.proofs.Fronts.{bytes_of_key}
use Rattle.am_trace_read.proofs.front.front_key.Goals as goal

pub returns-clause-key : goal.returns-clause-key
returns-clause-key c =
    let bytes = c.in-Some-front_bytes.bytes.items in
    let same = bytes_of_key c.in_ok-key.key c.as_slice.result.now bytes c.in_ok-key.ensures.value
    c.as_slice.ensures.value in
    let short = subst (λ (x : List ℕ). length x ≤ 32) c.as_slice.ensures.value
    (c.in_ok-key.ensures.short.0 refl) in
    subst (λ (x : List ℕ). IsByteList x × (length x ≤ 32)) (sym same) (c.in-Some-front_bytes.ensures.bytes, short)

pub returns-clause-text : goal.returns-clause-text
returns-clause-text c =
    let bytes = c.in-Some-front_bytes.bytes.items in
    let same = bytes_of_key c.in_ok-key.key c.as_slice.result.now bytes c.in_ok-key.ensures.value
    c.as_slice.ensures.value in
    c.in-Some.ensures.1 ∙ ap (λ (l : List ℕ). decimal c.in-Some.tx ++ l) (c.in_ok-rest.ensures ∙
    ap (λ (l : List ℕ). 32 ∷ l) (c.in-Some-front_bytes.ensures.text ∙
    ap (λ (x : List ℕ). hex x ++ c.in-Some-front_bytes.rest.now) (sym same)))
    ∙ sym (append_assoc (decimal c.in-Some.tx) (32 ∷ hex (bytes_of c.in_ok-key.key)) c.in-Some-front_bytes.rest.now)
