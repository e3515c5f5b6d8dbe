-- Lists of active transactions.
use Rattle.std.proofs.Common.{◌≡◌, ℕ, List, ◌++◌, Vec, Global, length, map, take}
use Rattle.std.proofs.Common.{refl, sym, ap, ◌∙◌, arith}
use Rattle.std.specs.Prelude.{◌==◌, not, filter}
use Rattle.std.proofs.lemmas.List.{drop_all}
use Rattle.std.proofs.lemmas.List.{take_all, append-nil}
use Rattle.std.specs.Vec.{with_items}
use Rattle.am_record.proofs.ByNumber.{without_number-map}
use Rattle.am_audit_replies.specs.declared.active.Active.{Active}
use Rattle.am_audit_replies.specs.OwnAnswers.{Listed, listed}

-- the list without a transaction
pub list_kept : (t : ℕ) (all : List Active) → map listed (filter (λ (x : Active). not (x.number == t)) all) ≡ filter
    (λ (x : Listed). not (x.0 == t)) (map listed all)
list_kept t all = sym (without_number-map (λ (x : Active). x.number) (λ (x : Listed). x.0) listed (λ x. refl) t all)

-- a vector whose elements were changed has those elements
pub items_kept : (v : Vec Active Global) (all lent : List Active) → lent ≡ v.items → length all ≡ length lent →
    (with_items v all).items ≡ all
items_kept v all lent same long =
    let full = v.ok.0 in
    let long' : length lent ≡ length v.items = ap length same in
    ap (λ l. take v.len (all ++ l)) (drop_all (length all) v.items (omega arith))
    ∙ ap (take v.len) (append-nil all)
    ∙ take_all v.len all (omega arith)
