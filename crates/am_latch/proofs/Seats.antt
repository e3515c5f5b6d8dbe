-- A seat after a call.
use Rattle.std.proofs.Common.{◌≡◌, ℕ, ◌+◌, ◌<◌, ◌≤◌, List, [], ◌∷◌, ◌++◌, Option, Some, None, refl, sym, ap, ◌∙◌, subst}
use Rattle.std.proofs.Common.{arith, add_assoc, add-zero, zero-add}
use Rattle.am_record.specs.Sessions.{IsAllowed}
use Rattle.am_record.specs.declared.step.Step.{Step}
use Rattle.am_record.specs.declared.step.Step.TheVariants.{Begin, Do, Commit, Abort, Merge, Clean}
use Rattle.am_record.specs.declared.step.Reply.{Reply}
use Rattle.am_latch_engine.specs.declared.change.Change.{Change}
use Rattle.am_latch_engine.specs.declared.change.Change.TheVariants.{Ends}
use Rattle.am_latch_engine.specs.Changes.{change, end_of, open_after, moves_in}
use Rattle.am_latch_ties.specs.declared.receipt.Receipt.{Receipt}
use Rattle.am_latch.specs.Receipts.{moved_in}
use Rattle.am_latch.specs.Ties.{EndsTx, HasRoomForReceipt, receipts_needed, receipts_with}
use Rattle.am_latch_engine.proofs.Replies.{did_nothing}

any_room : (o : Option ℕ) (len cap : ℕ) → len + 2 ≤ cap → len < 1000000 → HasRoomForReceipt o (len + 1) cap
any_room None len cap more few = omega arith
any_room (Some t) len cap more few = (omega arith, omega arith)

with_room : (o : Option ℕ) (len cap : ℕ) → HasRoomForReceipt o len cap → len + receipts_with o ≤ cap → len < 1000000 →
    HasRoomForReceipt o (len + 1) cap
with_room None len cap h more few = omega arith
with_room (Some t) len cap h more few = (omega arith, omega arith)

pub wider : (o : Option ℕ) (len cap cap' : ℕ) → HasRoomForReceipt o len cap → cap ≤ cap' → HasRoomForReceipt o len cap'
wider None len cap cap' h le = h
wider (Some t) len cap cap' h le = (omega (arith, h.0), h.1)

end_room : (o : Option ℕ) (e : Change) (t len cap : ℕ) → o ≡ Some t → e ≡ Ends t → HasRoomForReceipt o len cap →
    HasRoomForReceipt (open_after o e) (len + 1) cap
end_room o e t len cap is ends h =
    let here : HasRoomForReceipt (Some t) len cap = subst (λ (p : Option ℕ). HasRoomForReceipt p len cap) is h in
    subst (λ (p : Change). HasRoomForReceipt (open_after o p) (len + 1) cap) (sym ends) (omega (arith, here.1))

pub room_after : (o : Option ℕ) (st : Step) (r : Reply) (len cap : ℕ) → IsAllowed o st → EndsTx st r →
    HasRoomForReceipt o len cap → len + receipts_needed o st ≤ cap → (end_of st ≡ None → len < 1000000) →
    HasRoomForReceipt (open_after o (change st r)) (len + 1) cap
room_after o Begin r len cap may ended h more few = any_room (open_after o (change Begin r)) len cap more (few refl)
room_after o (Do t op) r len cap may ended h more few =
    subst (λ (e : Change). HasRoomForReceipt (open_after o e) (len + 1) cap)
    (sym (did_nothing t op r)) (with_room o len cap h more (few refl))
room_after o (Commit t) r len cap may ended h more few = end_room o (change (Commit t) r) t len cap may (ended t refl) h
room_after o (Abort t) r len cap may ended h more few = end_room o (change (Abort t) r) t len cap may (ended t refl) h
room_after o (Merge n) r len cap may ended h more few = with_room o len cap h more (few refl)
room_after o (Clean range n) r len cap may ended h more few = with_room o len cap h more (few refl)

pub moved_in-snoc : (rs : List Receipt) (x : Receipt) → moved_in (rs ++ x ∷ []) ≡ moved_in rs + moves_in x.reply
moved_in-snoc [] x = add-zero (moves_in x.reply) ∙ sym (zero-add (moves_in x.reply))
moved_in-snoc (r ∷ rs) x = ap (λ (n : ℕ). moves_in r.reply + n) (moved_in-snoc rs x) ∙
    sym (add_assoc (moves_in r.reply) (moved_in rs) (moves_in x.reply))
