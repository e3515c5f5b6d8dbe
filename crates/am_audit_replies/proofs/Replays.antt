-- The operations of a body, applied one after another.
use Rattle.std.proofs.Common.{◌≡◌, ℕ, ◌+◌, ◌<◌, List, [], ◌∷◌, ◌++◌, length, map, get_or, take, drop, refl, sym, ap}
use Rattle.std.proofs.Common.{◌∙◌, subst, arith, zero, suc}
use Rattle.std.proofs.lemmas.List.{take_more, drop_more, take-append-drop, length-map}
use Rattle.am_record.specs.Plain.{Draft, answer, draft_after, answers_on, left_on}
use Rattle.am_record.specs.declared.step.Op.{Op}
use Rattle.am_record.specs.declared.step.Reply.{Reply}
use Rattle.am_record.proofs.Bodies.{answers_on_push, left_on_push}
use Rattle.am_law_serial.specs.Trace.{ops_of, replies_of}
use Rattle.am_audit_replies.specs.declared.active.OwnAnswer.{OwnAnswer}
use Rattle.am_audit_replies.specs.OwnAnswers.{PlacedAnswer, placed_answer, answered_of, AreAnsweredOn, left_by_all}
use Rattle.am_audit_replies.specs.OwnAnswers.{IsFirstWrong}

-- the first of them were answered rightly, and left this
pub record IsReplayedTo (own : List PlacedAnswer) (d now : Draft) (i : ℕ) : Type 0 where
  pub right : AreAnsweredOn (take i own) d
  pub left : now ≡ left_by_all (take i own) d

ops_push : (own : List PlacedAnswer) (n : ℕ) (op : Op) (reply : Reply) →
    ops_of (answered_of (own ++ (n, (op, reply)) ∷ [])) ≡ ops_of (answered_of own) ++ op ∷ []
ops_push [] n op reply = refl
ops_push (p ∷ own) n op reply = ap (λ ops. p.1.0 ∷ ops) (ops_push own n op reply)

replies_push : (own : List PlacedAnswer) (n : ℕ) (op : Op) (reply : Reply) →
    replies_of (answered_of (own ++ (n, (op, reply)) ∷ [])) ≡ replies_of (answered_of own) ++ reply ∷ []
replies_push [] n op reply = refl
replies_push (p ∷ own) n op reply = ap (λ rs. p.1.1 ∷ rs) (replies_push own n op reply)

-- the operation that comes next in the body, with its place
pub record IsNext (own : List PlacedAnswer) (i position : ℕ) (op : Op) (reply : Reply) : Type 0 where
  pub less : i < length own
  pub is : (position, (op, reply)) ≡ get_or own i (position, (op, reply))

next_taken : (own : List PlacedAnswer) (i position : ℕ) (op : Op) (reply : Reply) → IsNext own i position op reply →
    take (i + 1) own ≡ take i own ++ (position, (op, reply)) ∷ []
next_taken own i position op reply n = take_more own i (position, (op, reply)) n.less ∙
    ap (λ p. take i own ++ p ∷ []) (sym n.is)

-- what it leaves
pub left_more : (own : List PlacedAnswer) (i position : ℕ) (op : Op) (reply : Reply) (d : Draft) →
    IsNext own i position op reply → draft_after op (left_by_all (take i own) d) ≡ left_by_all (take (i + 1) own) d
left_more own i position op reply d n =
    sym (left_on_push (ops_of (answered_of (take i own))) op d)
    ∙ ap (λ ops. left_on ops d) (sym (ops_push (take i own) position op reply))
    ∙ ap (λ l. left_by_all l d) (sym (next_taken own i position op reply n))

pub one_more : (own : List PlacedAnswer) (d now now' : Draft) (i position : ℕ) (op : Op) (reply told : Reply) →
    IsReplayedTo own d now i → IsNext own i position op reply → told ≡ answer op now → told ≡ reply →
    now' ≡ draft_after op now → IsReplayedTo own d now' (i + 1)
one_more own d now now' i position op reply told h n answered same moved =
    let done = take i own in
    let taken = next_taken own i position op reply n in
    let right : replies_of (answered_of (done ++ (position, (op, reply)) ∷ [])) ≡ answers_on
    (ops_of (answered_of (done ++ (position, (op, reply)) ∷ []))) d =
    replies_push done position op reply
    ∙ (λ j. h.right j ++ (sym same ∙ answered ∙ ap (answer op) h.left) j ∷ [])
    ∙ sym (answers_on_push (ops_of (answered_of done)) op d)
    ∙ ap (λ ops. answers_on ops d) (sym (ops_push done position op reply)) in
    record {
      right = subst (λ l. AreAnsweredOn l d) (sym taken) right;
      left = moved ∙ ap (draft_after op) h.left ∙ left_more own i position op reply d n;
    }

pub wrong_here : (own : List PlacedAnswer) (d now : Draft) (i position : ℕ) (op : Op) (reply told : Reply) →
    IsReplayedTo own d now i → IsNext own i position op reply → told ≡ answer op now → (told ≡ reply → ⊥) →
    IsFirstWrong own d position
wrong_here own d now i position op reply told h n answered differ = record {
  earlier = take i own;
  op = op;
  reply = reply;
  later = drop (i + 1) own;
  split = sym (take-append-drop i own) ∙ ap (λ l. take i own ++ l) (drop_more own i (position, (op, reply)) n.less ∙
      ap (λ p. p ∷ drop (i + 1) own) (sym n.is));
  first = h.right;
  wrong = λ e. differ (answered ∙ ap (answer op) h.left ∙ sym e);
}

-- the operation that the loop is at
pub next_is : (own : List OwnAnswer) (i : ℕ) (kept : OwnAnswer) → i < length own → kept ≡ get_or own i kept →
    IsNext (map placed_answer own) i kept.position kept.op kept.reply
next_is own i kept less is = record {
  less = let long : length (map placed_answer own) ≡ length own = length-map own placed_answer in omega arith;
  is = ap placed_answer is ∙ get_placed own i kept;
}
  where
    get_placed : (own : List OwnAnswer) (i : ℕ) (kept : OwnAnswer) → placed_answer (get_or own i kept) ≡ get_or
        (map placed_answer own) i (placed_answer kept)
    get_placed [] i kept = refl
    get_placed (k ∷ own) zero kept = refl
    get_placed (k ∷ own) (suc i) kept = get_placed own i kept
