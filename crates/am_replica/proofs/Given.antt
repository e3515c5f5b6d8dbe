-- What isn't refused is answered as the map answers it.
use Rattle.std.proofs.Common.{◌≡◌, ℕ, suc, List, [], ◌∷◌, ◌++◌, Bool, true, false, cond, length, take, refl, sym, ap}
use Rattle.std.proofs.Common.{◌∙◌, append_assoc, append-nil, Option, Some, None}
use Rattle.std.specs.FinMap.{get, contains_key}
use Rattle.am_record.specs.OrderedKey.{OrderedKey}
use Rattle.am_record.specs.Plain.{PlainMap, Draft, fresh, found, exists_or_done, went_back, least_taken, answer}
use Rattle.am_record.specs.Plain.{answers_on, left_on}
use Rattle.am_record.specs.declared.step.Op.{Op}
use Rattle.am_record.specs.declared.step.Op.TheVariants.{Get, Insert, Replace, Delete, Load, Back}
use Rattle.am_record.specs.declared.step.Reply.{Reply}
use Rattle.am_record.specs.declared.step.Reply.TheVariants.{Done, Exists, Missing}
use Rattle.am_record.specs.declared.step.Refusal.{Refusal}
use Rattle.am_record.proofs.Bodies.{answers_on_push}
use Rattle.am_replica.specs.Bodies.{refusal_behind, own_by, own_behind, kept_behind, reply_by, reply_behind}
use Rattle.am_replica.specs.Bodies.{replies_behind, is_given, given, given_ops}

-- ---- an answer of the map refuses nothing

found_given : (v : Option (List ℕ)) → is_given (found v) ≡ true
found_given None = refl
found_given (Some v) = refl

either_given : (b : Bool) (r s : Reply) → is_given r ≡ true → is_given s ≡ true → is_given (cond b r s) ≡ true
either_given true r s h k = h
either_given false r s h k = k

loaded_given : (o : Option OrderedKey) → is_given (exists_or_done o) ≡ true
loaded_given None = refl
loaded_given (Some k) = refl

back_given : (saved : List PlainMap) → is_given (went_back saved) ≡ true
back_given [] = refl
back_given (m ∷ ms) = refl

pub answer_given : (op : Op) (d : Draft) → is_given (answer op d) ≡ true
answer_given (Get k) d = found_given (get d.map k)
answer_given (Insert k v) d = either_given (contains_key d.map k) (Exists k) Done refl refl
answer_given (Replace k v) d = either_given (contains_key d.map k) Done Missing refl refl
answer_given (Delete k) d = either_given (contains_key d.map k) Done Missing refl refl
answer_given (Load pairs) d = loaded_given (least_taken pairs d.map)
answer_given Back d = back_given d.saved
answer_given op d = refl

-- ---- lines, one after another

module _ (m : PlainMap) where
  kept_first : (reply : Reply) (replies : List Reply) → is_given reply ≡ true → given (reply ∷ replies) ≡ reply ∷ given
      replies
  kept_first reply replies h = ap (λ b. cond b (reply ∷ given replies) (given replies)) h

  given_step : (own : List Op) (op : Op) (ops : List Op) (why : Option Refusal)
      → answers_on (kept_behind (own_by why own op) ops) (fresh m)
      ≡ answers_on (own_by why own op) (fresh m) ++ given (replies_behind (own_by why own op) m ops)
      → answers_on (kept_behind (own_by why own op) ops) (fresh m)
      ≡ answers_on own (fresh m) ++ given (reply_by why (answer op (left_on own (fresh m))) ∷ replies_behind
      (own_by why own op) m ops)
  given_step own op ops None rest =
      let reply = answer op (left_on own (fresh m)) in
      let others = replies_behind (own ++ op ∷ []) m ops in
      rest
      ∙ ap (λ rs. rs ++ given others) (answers_on_push own op (fresh m))
      ∙ append_assoc (answers_on own (fresh m)) (reply ∷ []) (given others)
      ∙ ap (λ rs. answers_on own (fresh m) ++ rs) (sym
      (kept_first reply others (answer_given op (left_on own (fresh m)))))
  given_step own op ops (Some why) rest = rest

  -- the replies that are given are those to the kept operations alone
  pub given_are_answers : (own ops : List Op)
      → answers_on (kept_behind own ops) (fresh m) ≡ answers_on own (fresh m) ++ given (replies_behind own m ops)
  given_are_answers own [] = sym (append-nil (answers_on own (fresh m)))
  given_are_answers own (op ∷ ops) = given_step own op ops (refusal_behind own op)
      (given_are_answers (own_behind own op) ops)

  ops_step : (own : List Op) (op : Op) (ops : List Op) (why : Option Refusal)
      → kept_behind (own_by why own op) ops ≡ own_by why own op ++
      given_ops ops (replies_behind (own_by why own op) m ops)
      → kept_behind (own_by why own op) ops
      ≡ own ++ given_ops (op ∷ ops) (reply_by why (answer op (left_on own (fresh m))) ∷ replies_behind
      (own_by why own op) m ops)
  ops_step own op ops None rest =
      let others = given_ops ops (replies_behind (own ++ op ∷ []) m ops) in
      rest
      ∙ append_assoc own (op ∷ []) others
      ∙ ap (λ os. own ++ os) (sym (ap (λ b. cond b (op ∷ others) others) (answer_given op (left_on own (fresh m)))))
  ops_step own op ops (Some why) rest = rest

  -- and the operations whose replies are given are the kept ones
  pub given_are_kept : (own ops : List Op) → kept_behind own ops ≡ own ++ given_ops ops (replies_behind own m ops)
  given_are_kept own [] = sym (append-nil own)
  given_are_kept own (op ∷ ops) = ops_step own op ops (refusal_behind own op) (given_are_kept (own_behind own op) ops)

  -- each line has a reply, whatever comes after it
  pub replies_length : (own ops : List Op) → length (replies_behind own m ops) ≡ length ops
  replies_length own [] = refl
  replies_length own (op ∷ ops) = ap (λ n. suc n) (replies_length (own_behind own op) ops)

  pub first_replies : (own ops lines : List Op) → take (length ops) (replies_behind own m (ops ++ lines)) ≡
      replies_behind own m ops
  first_replies own [] lines = refl
  first_replies own (op ∷ ops) lines = ap (λ rs. reply_behind own m op ∷ rs)
      (first_replies (own_behind own op) ops lines)
