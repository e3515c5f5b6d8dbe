-- A map beside the key that was changed.
use Rattle.std.proofs.Common.{◌≡◌, List, ℕ, false, Some, None, ◌∙◌}
use Rattle.std.specs.Ordering.{eq_by_cmp}
use Rattle.std.specs.FinMap.{get, insert, remove, get-insert, get-remove}
use Rattle.std.proofs.lemmas.Bool.{cond-false}
use Rattle.am_record.specs.OrderedKey.{OrderedKey, key_cmp, key_cmp-total}
use Rattle.am_record.specs.Plain.{PlainMap}

pub get_beside_inserted : (m : PlainMap) (k : OrderedKey) (v : List ℕ) (q : OrderedKey) →
    eq_by_cmp key_cmp q k ≡ false → get (insert m k v) q ≡ get m q
get_beside_inserted m k v q n = get-insert key_cmp-total m k v q ∙ cond-false (eq_by_cmp key_cmp q k) (Some v) (get m q)
    n

pub get_beside_removed : (m : PlainMap) (k q : OrderedKey) → eq_by_cmp key_cmp q k ≡ false →
    get (remove m k) q ≡ get m q
get_beside_removed m k q n = get-remove key_cmp-total m k q ∙ cond-false (eq_by_cmp key_cmp q k) None (get m q) n
