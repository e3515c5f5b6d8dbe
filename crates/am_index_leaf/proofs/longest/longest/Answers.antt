use Rattle.std.proofs.Common.{◌≡◌, ◌+◌, ◌<◌, ◌≤◌, List, [], ◌∷◌, ℕ, length, get_or, take, sym, ap, ◌∙◌, subst}
use Rattle.std.proofs.Common.{add-one, arith}
use Rattle.std.proofs.Math.Seq.{take-suc}
use Rattle.std.specs.List.{AllByRecursion}
use Rattle.am_record.specs.OrderedKey.{bytes_of}
use Rattle.am_record.specs.Plain.{Records}
use Rattle.am_record.proofs.FirstRows.{Record}
use Rattle.am_record.proofs.Lists.{AllByRecursion-append, AllByRecursion-at, AllByRecursion-map}
use Rattle.am_index_leaf.proofs.longest.longest.Goals as goal

-- one record more
one_more : (P Q : Record → Type 0) → ((r : Record) → P r → Q r) → (rs : Records) (i : ℕ) (r : Record) →
    i < length rs → r ≡ get_or rs i r → AllByRecursion P (take i rs) → Q r → AllByRecursion Q (take (i + 1) rs)
one_more P Q f rs i r lt here a q =
    subst (AllByRecursion Q) (sym (ap (λ n. take n rs) (add-one i) ∙ take-suc rs i r lt))
    (AllByRecursion-append Q (take i rs) (get_or rs i r ∷ []) (AllByRecursion-map P Q f (take i rs) a)
    (subst Q here q, tt))

pub loop-pair-preserved : goal.loop-pair-preserved
loop-pair-preserved c =
    let rs = c.args.pairs.now in let i = c.loop-pair.pair-index in let r = c.pair-item.result in
    let so_far = c.loop-pair.invariant in let lt = c.loop-pair-test.true in let here = c.pair-item.is in
    let key_len : Record → ℕ = λ q. length (bytes_of q.0) in let value_len : Record → ℕ = λ q. length q.1 in
    let bytes = ap (λ (l : List ℕ). length l) c.bytes.ensures.all in
    let keys = c.max-key_len.ensures in let values = c.max-value_len.ensures in
    record {
      keys = one_more (λ q. key_len q ≤ c.loop-pair.key_len) (λ q. key_len q ≤ c.max-key_len.result)
          (λ q h. omega (arith, h, keys)) rs i r lt here so_far.keys (omega (arith, keys, bytes));
      values = one_more (λ q. value_len q ≤ c.loop-pair.value_len) (λ q. value_len q ≤ c.max-value_len.result)
          (λ q h. omega (arith, h, values)) rs i r lt here so_far.values (omega (arith, values, c.len.ensures.all));
      least_key = λ n fit.
          let before = so_far.least_key n fit in
          let now = subst (λ q. key_len q ≤ n) (sym here) (AllByRecursion-at (λ q. key_len q ≤ n) rs i r fit lt) in
          omega (arith, before, now, keys, bytes);
      least_value = λ n fit.
          let before = so_far.least_value n fit in
          let now = subst (λ q. value_len q ≤ n) (sym here) (AllByRecursion-at (λ q. value_len q ≤ n) rs i r fit lt) in
          omega (arith, before, now, values, c.len.ensures.all);
      key = omega (arith, so_far.key, keys, bytes, c.bytes.ensures.short);
      value = omega (arith, so_far.value, values, c.len.ensures.all, c.len.ensures.short);
    }
