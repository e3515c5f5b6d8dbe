use Rattle.std.proofs.Common.{◌≤◌, ℕ, take}
use Rattle.am_index_leaf.specs.LeafCode.{KeysFit, ValuesFit}
use Rattle.am_index_leaf.proofs.longest.longest.Given as goal

abbrev pub invariant-loop-pair : goal.invariant-loop-pair
invariant-loop-pair l = record {
  keys : KeysFit (take l.pair-index l.pairs) l.key_len;
  values : ValuesFit (take l.pair-index l.pairs) l.value_len;
  least_key : (n : ℕ) → KeysFit l.pairs n → l.key_len ≤ n;
  least_value : (n : ℕ) → ValuesFit l.pairs n → l.value_len ≤ n;
  key : l.key_len ≤ 32;
  value : l.value_len ≤ 64;
}
