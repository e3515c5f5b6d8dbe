-- One operation more of a transaction that is open.
use Rattle.std.proofs.Common.{◌≡◌, List, [], ◌∷◌, ◌++◌, false, length, take, drop, refl, sym, ap, ◌∙◌}
use Rattle.am_record.specs.Plain.{PlainMap, answers}
use Rattle.am_record.specs.declared.step.Op.{Op}
use Rattle.am_record.specs.declared.step.Reply.{Reply}
use Rattle.am_replica.specs.Bodies.{kept_behind, kept_ops, own_behind, reply_behind, replies_behind, replies, given}
use Rattle.am_replica.specs.Ordered.{Sum, same_sum}
use Rattle.am_replica.specs.Told.{TransactionState, still_stands, behind_lines, untold}
use Rattle.am_replica.proofs.Given.{given_are_answers, first_replies}
use Rattle.am_replica.proofs.Kept.{kept_push}

last_reply : (m : PlainMap) (own ops : List Op) (op : Op) →
    drop (length ops) (replies_behind own m (ops ++ op ∷ [])) ≡ reply_behind (kept_behind own ops) m op ∷ []
last_reply m own [] op = refl
last_reply m own (o ∷ ops) op = last_reply m (own_behind own o) ops op

-- the answers of lines, none of which is refused, whatever comes after them
pub first_answers : (ops lines : List Op) (m : PlainMap) → kept_ops ops ≡ ops →
    given (take (length ops) (replies (ops ++ lines) m)) ≡ answers ops m
first_answers ops lines m kept =
    ap given (first_replies m [] ops lines)
    ∙ sym (given_are_answers m [] ops)
    ∙ ap (λ os. answers os m) kept

pub stands_by : (digest : List Reply → Sum) (t : TransactionState) (lines : List Op) (m : PlainMap) →
    kept_ops t.ops ≡ t.ops → still_stands digest t lines m ≡ same_sum (digest (answers t.ops m)) t.digest
stands_by digest t lines m kept =
    ap (λ told. same_sum (digest told) t.digest) (first_answers t.ops lines m kept)

pub tells_one : (t : TransactionState) (op : Op) (m : PlainMap) → kept_ops t.ops ≡ t.ops →
    untold t (op ∷ []) m ≡ reply_behind t.ops m op ∷ []
tells_one t op m kept = last_reply m [] t.ops op ∙ ap (λ own. reply_behind own m op ∷ []) kept

-- where the transaction stands after it
pub gone_on : (digest : List Reply → Sum) (t t' : TransactionState) (op : Op) (m m' : PlainMap) →
    kept_ops t.ops ≡ t.ops → t.is_over ≡ false → m' ≡ m → t'.ops ≡ own_behind t.ops op →
    t'.digest ≡ digest (answers (own_behind t.ops op) m') → t'.is_over ≡ t.is_over →
    t' ≡ behind_lines digest t (op ∷ []) m
gone_on digest t t' op m m' kept not_over same ops sum over =
    let own : own_behind t.ops op ≡ kept_ops (t.ops ++ op ∷ []) =
    sym (kept_push [] t.ops op ∙ ap (λ os. own_behind os op) kept) in
    let told : answers (own_behind t.ops op) m' ≡ given (replies (t.ops ++ op ∷ []) m) =
    (λ i. answers (own i) (same i)) ∙ given_are_answers m [] (t.ops ++ op ∷ []) in
    λ i. record { ops = (ops ∙ own) i; digest = (sum ∙ ap digest told) i; is_over = (over ∙ not_over) i }
