-- Reading blocks one after another, as a loop does.
use Rattle.std.proofs.Common.{◌≡◌, ℕ, suc, ◌-◌, ◌+◌, ◌≤◌, ◌<◌, List, [], ◌∷◌, ◌++◌, Result, Ok, Err, refl, sym, ap}
use Rattle.std.proofs.Common.{◌∙◌, append_assoc, arith}
use Rattle.std.proofs.lemmas.List.{append-nil}
use Rattle.am_replica_entries.specs.declared.fault.Fault.{Fault}
use Rattle.am_replica_entries.specs.declared.fault.ReadError.{ReadError}
use Rattle.am_replica_entries.specs.declared.fault.ReadError.TheVariants as errors
use Rattle.am_replica_entries.specs.Texts.{TheBlock}
use Rattle.am_replica_entries.specs.Reading.{◌>>=◌, Fails, block_at, blocks_at}

-- what was read before, and what is still read
abbrev pub with_front : List TheBlock → Result (List TheBlock × List ℕ) Fault → Result (List TheBlock × List ℕ) Fault
with_front front read = read >>= λ x. Ok (front ++ x.0, x.1)

regroup : (front : List TheBlock) (b : TheBlock) (read : Result (List TheBlock × List ℕ) Fault) →
    with_front front (read >>= λ x. Ok (b ∷ x.0, x.1)) ≡ with_front (front ++ b ∷ []) read
regroup front b (Ok x) = ap (λ (bs : List TheBlock). Ok (bs, x.1)) (simp append_assoc)
regroup front b (Err f) = refl

module _ (front : List TheBlock) (count i : ℕ) (bytes : List ℕ) (total : Result (List TheBlock × List ℕ) Fault) where
  pub goes_on : (b : TheBlock) (after : List ℕ) → i < count → block_at bytes ≡ Ok (b, after)
      → with_front front (blocks_at (count - i) bytes) ≡ total
      → with_front (front ++ b ∷ []) (blocks_at (count - (i + 1)) after) ≡ total
  unfolding blocks_at
  goes_on b after lt h so_far =
      let k : count - i ≡ suc (count - (i + 1)) = omega arith in
      let one : with_front front (blocks_at (count - i) bytes) ≡ with_front (front ++ b ∷ [])
      (blocks_at (count - (i + 1)) after) = rw (k, h) (regroup front b (blocks_at (count - (i + 1)) after)) in
      sym one ∙ so_far

  pub ends : (e : ReadError) → i < count → Fails e (block_at bytes)
      → with_front front (blocks_at (count - i) bytes) ≡ total → Fails e total
  unfolding blocks_at
  ends errors.NoMemory lt h so_far = tt
  ends (errors.NoEntry f) lt h so_far =
      let k : count - i ≡ suc (count - (i + 1)) = omega arith in
      let one : with_front front (blocks_at (count - i) bytes) ≡ Err f = rw (k, h) refl in
      sym so_far ∙ one

  pub is_done : count ≤ i → with_front front (blocks_at (count - i) bytes) ≡ total → total ≡ Ok (front, bytes)
  unfolding blocks_at
  is_done le so_far =
      let k : count - i ≡ 0 = omega arith in
      let one : with_front front (blocks_at (count - i) bytes) ≡ Ok (front, bytes) =
      rw k (ap (λ (bs : List TheBlock). Ok (bs, bytes)) (append-nil front)) in
      sym so_far ∙ one
