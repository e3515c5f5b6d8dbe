-- A leaf's columns with those of a run after them.
use Rattle.std.proofs.Common.{◌≡◌, ℕ, ◌/◌, ◌^◌, ◌<◌, List, [], ◌∷◌, ◌++◌, length, map, refl, ap, ◌∙◌, arith}
use Rattle.am_record.specs.EntryOrder.{Place}
use Rattle.am_record.specs.Plain.{Records}
use Rattle.am_record.proofs.FirstRows.{Record}
use Rattle.am_index.specs.Runs.{live_entry, run_entries}
use Rattle.am_index_leaf.specs.Bits.{has_bit}
use Rattle.am_index_leaf.specs.Leaf.{entries_of}
use Rattle.am_index_leaf.proofs.BitLemmas.{pow_double}
use Rattle.am_index_leaf.proofs.Zips.{entry_of}

abbrev pub places_of : ℕ → Records → List Place
places_of part rs = map (λ (r : Record). (part, r.0)) rs

abbrev pub values_of : Records → List (List ℕ)
values_of rs = map (λ (r : Record). r.1) rs

-- live entries have no bit
fresh : (part : ℕ) (rs : Records) → entries_of (places_of part rs) (values_of rs) 0 ≡ run_entries part rs
fresh part [] = refl
fresh part (r ∷ rs) = ap (λ l. live_entry part r ∷ l) (fresh part rs)

pub entries_of-extend : (part : ℕ) (rs : Records) (ps : List Place) (vs : List (List ℕ)) (m : ℕ) →
    length ps ≡ length vs → m < 2 ^ length ps
    → entries_of (ps ++ places_of part rs) (vs ++ values_of rs) m ≡ entries_of ps vs m ++ run_entries part rs
entries_of-extend part rs [] [] m e lt = let none : m ≡ 0 = omega arith in
    ap (λ (k : ℕ). entries_of (places_of part rs) (values_of rs) k) none ∙ fresh part rs
entries_of-extend part rs [] (v ∷ vs) m e lt = absurd (omega arith)
entries_of-extend part rs (p ∷ ps) [] m e lt = absurd (omega arith)
entries_of-extend part rs (p ∷ ps) (v ∷ vs) m e lt =
    let double = pow_double (length ps) in
    ap (λ l. entry_of p v (has_bit m 0) ∷ l) (entries_of-extend part rs ps vs (m / 2) (omega arith) (omega arith))
