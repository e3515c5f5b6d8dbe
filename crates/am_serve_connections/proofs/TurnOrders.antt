-- Who goes on at a turnstile, in which order.
use Rattle.std.proofs.Common.{◌≡◌, ◌∙◌, List, [], ◌∷◌, ◌++◌, length, Bool, true, false, cond, ltb}
use Rattle.std.proofs.Common.{refl, sym, ap, append_assoc, append-nil}
use Rattle.std.specs.Prelude.{option_to_list}
use Rattle.am_serve_connections.specs.declared.line.Waiter.{Waiter}
use Rattle.am_serve_connections.specs.Turnstiles.{joined_by, next_waiter, waiting_after}
use Rattle.am_serve_connections.specs.WaitingLaws.{Turn, Joins, GoesOn, Turns, no_turns, turns_after, turns_behind}
use Rattle.am_serve_connections.specs.WaitingLaws.{GoOnInOrder}

joins : (waiting : List Waiter) (waiter : Waiter) → joined_by waiting waiter ≡
    waiting ++ cond (ltb (length waiting) 512) (waiter ∷ []) []
joins waiting waiter =
    elim (ltb (length waiting) 512) as (λ b. cond b (waiting ++ waiter ∷ []) waiting ≡ waiting ++
    cond b (waiter ∷ []) [])
    [ true ↦ refl | false ↦ sym (append-nil waiting) ]

goes_on : (is_shut : Bool) (waiting : List Waiter) →
    option_to_list (next_waiter is_shut waiting) ++ waiting_after is_shut waiting ≡ waiting
goes_on true waiting = refl
goes_on false [] = refl
goes_on false (first ∷ waiting) = refl

in_order : (turns : List Turn) (t : Turns) → t.went ++ t.waiting ≡ t.joined →
    (turns_behind turns t).went ++ (turns_behind turns t).waiting ≡ (turns_behind turns t).joined
in_order [] t same = same
in_order (Joins waiter ∷ turns) t same =
    in_order turns (turns_after (Joins waiter) t)
    (ap (λ (l : List Waiter). t.went ++ l) (joins t.waiting waiter) ∙
    sym (append_assoc t.went t.waiting (cond (ltb (length t.waiting) 512) (waiter ∷ []) [])) ∙
    ap (λ (l : List Waiter). l ++ cond (ltb (length t.waiting) 512) (waiter ∷ []) []) same)
in_order (GoesOn is_shut ∷ turns) t same =
    in_order turns (turns_after (GoesOn is_shut) t)
    (append_assoc t.went (option_to_list (next_waiter is_shut t.waiting)) (waiting_after is_shut t.waiting) ∙
    ap (λ (l : List Waiter). t.went ++ l) (goes_on is_shut t.waiting) ∙ same)

pub go_on_in_order : GoOnInOrder
go_on_in_order turns = in_order turns no_turns refl
