-- Entries that follow one another in a leaf are taken out.
use Rattle.std.proofs.Common.{◌≡◌, ℕ, zero, suc, ◌+◌, ◌<◌, ◌≤◌, List, [], ◌∷◌, ◌++◌, length, get_or, take, drop, refl}
use Rattle.std.proofs.Common.{sym, ap, ◌∙◌, arith}
use Rattle.std.proofs.Math.Seq.{drop-cons}
use Rattle.std.proofs.lemmas.List.{take-append-drop, drop-drop}
use Rattle.std.specs.List.{remove}
use Rattle.am_record.specs.OrderedKey.{OrderedKey}
use Rattle.am_record.specs.EntryOrder.{place_of, place_cmp, place_cmp-exact}
use Rattle.am_record.specs.declared.entry.Entry.{Entry}
use Rattle.am_index.specs.Entries.{remove_entry, remove_from}
use Rattle.am_index.specs.Places.{IsPlaceOf}
use Rattle.am_index.proofs.Removals.{remove_from-at, remove_one}

-- the last one before those that stay goes
pub cut_one : {X : Type 0} (zs : List X) (i : ℕ) (xs : List X) → i < length xs →
    remove (take (suc i) xs ++ zs) i ≡ take i xs ++ zs
cut_one zs i [] lt = absurd (omega (arith, lt))
cut_one zs zero (x ∷ xs) lt = refl
cut_one zs (suc i) (x ∷ xs) lt = ap (λ l. x ∷ l) (cut_one zs i xs (omega (arith, lt)))

module _ (es : List Entry) (part : ℕ) (key : OrderedKey) (i : ℕ) (found : IsPlaceOf es part key i) (e : Entry)
    (here : e ≡ get_or es i e) (n : ℕ) where
  rest_is : drop i es ≡ e ∷ drop (suc i) es
  rest_is = drop-cons es i e found.in_range ∙ ap (λ x. x ∷ drop (suc i) es) (sym here)

  pub cut_found : take i es ++ drop (i + n) es ≡ remove_from es part key n
  cut_found =
      ap (λ l. take i es ++ l) (sym (drop-drop n i es) ∙ ap (drop n) rest_is)
      ∙ sym (remove_from-at part key (take i es) e (drop (suc i) es) n found.below
      (place_cmp-exact (place_of e) (part, key) (ap (λ x. place_cmp (place_of x) (part, key)) here ∙ found.here e)))
      ∙ ap (λ l. remove_from l part key n)
      (ap (λ l. take i es ++ l) (sym rest_is) ∙ take-append-drop i es)

-- where one may be taken out at most, it is the one
pub just_one : (es : List Entry) (part : ℕ) (key : OrderedKey) (n : ℕ) → 1 ≤ n → n ≤ 1 →
    remove_from es part key n ≡ remove_entry es part key
just_one es part key n some most = let one : n ≡ 1 = omega (arith, some, most) in
    ap (remove_from es part key) one ∙ remove_one part key es
