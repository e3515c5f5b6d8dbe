-- Working off the first candidate leaves the others.
use Rattle.std.proofs.Common.{◌≡◌, ℕ, zero, suc, List, [], ◌∷◌, filter, take, drop, Bool, true, false, cond, ◌&&◌, refl}
use Rattle.std.proofs.Common.{sym, ap, ◌∙◌, ⊎_elim}
use Rattle.std.specs.Prelude.{nat_le, is_some}
use Rattle.std.specs.Ordering.{is_lt}
use Rattle.std.proofs.lemmas.Bool.{cases_Bool, cond-true, cond-false}
use Rattle.am_record.specs.OrderedKey.{OrderedKey}
use Rattle.am_record.specs.EntryOrder.{Place, place_of, place_cmp}
use Rattle.am_record.specs.Interval.{Interval, within}
use Rattle.am_record.specs.declared.entry.Entry.{Entry}
use Rattle.am_record.proofs.Lists.{filter-no}
use Rattle.am_index.specs.Entries.{find, insert_entry, set_entry, remove_entry, IsRising}
use Rattle.am_index.specs.Edits.{same_place}
use Rattle.am_index.proofs.Edits.{one_place, filter-removed}
use Rattle.am_law_effect.specs.Places.{put}
use Rattle.am_law_effect.specs.MergeAnswers.{candidates, worked_off, all_worked_off}
use Rattle.am_law_effect.proofs.Merges.{rising-worked_off}

-- what fails the test is put in
filter-inserted : (test : Entry → Bool) (x : Entry) (es : List Entry) → test x ≡ false →
    filter test (insert_entry es x) ≡ filter test es
filter-inserted test x [] h = filter-no test x [] h
filter-inserted test x (e ∷ es) h =
    let ih = filter-inserted test x es h in
    elim (is_lt (place_cmp (place_of e) (place_of x))) as
    (λ b. filter test (cond b (e ∷ insert_entry es x) (x ∷ e ∷ es)) ≡ filter test (e ∷ es)) [
      | true ↦ ap (λ (l : List Entry). cond (test e) (e ∷ l) l) ih
      | false ↦ filter-no test x (e ∷ es) h
    ]

module _ (range : Interval) where
  abbrev passes : Entry → Bool
  passes e = nat_le 1 e.part && within range e.key

  fails_at_0 : (e : Entry) → e.part ≡ 0 → passes e ≡ false
  fails_at_0 e h = ap (λ p. nat_le 1 p && within range e.key) h

  filter-set : (k : OrderedKey) (v : List ℕ) (g : Bool) (es : List Entry) → candidates (set_entry es 0 k v g) range ≡
      candidates es range
  filter-set k v g [] = refl
  filter-set k v g (e ∷ es) = ⊎_elim
      (λ hit.
      let zero_ : e.part ≡ 0 = ap (λ (a : Place). a.0) (one_place (place_of e) (0, k) hit) in
      ap (filter passes) (cond-true (same_place e.part e.key 0 k) (record e { value = v; is_ghost = g } ∷ es)
      (e ∷ set_entry es 0 k v g) hit)
      ∙ filter-no passes (record e { value = v; is_ghost = g }) es (fails_at_0 e zero_) ∙
      sym (filter-no passes e es (fails_at_0 e zero_)))
      (λ miss.
      ap (filter passes) (cond-false (same_place e.part e.key 0 k) (record e { value = v; is_ghost = g } ∷ es)
      (e ∷ set_entry es 0 k v g) miss)
      ∙ ap (λ (l : List Entry). cond (passes e) (e ∷ l) l) (filter-set k v g es))
      (cases_Bool (same_place e.part e.key 0 k))

  candidates-put : (x : Entry) (es : List Entry) → x.part ≡ 0 → candidates (put x es) range ≡ candidates es range
  candidates-put x es z =
      elim (is_some (find es x.part x.key)) as (λ b. candidates
      (cond b (set_entry es x.part x.key x.value x.is_ghost) (insert_entry es x)) range ≡ candidates es range) [
        | true ↦ ap (λ p. candidates (set_entry es p x.key x.value x.is_ghost) range) z ∙
            filter-set x.key x.value x.is_ghost es
        | false ↦ filter-inserted passes x es (fails_at_0 x z)
      ]

  candidates-one : (es : List Entry) (c : Entry) (cs : List Entry) → IsRising es → candidates es range ≡ c ∷ cs →
      candidates (worked_off c es) range ≡ cs
  candidates-one es c cs r h =
      let out = filter-removed passes es c cs r h in
      elim c.is_ghost as (λ b. candidates (cond b (remove_entry es c.part c.key)
      (put (record c { part = 0 }) (remove_entry es c.part c.key))) range ≡ cs) [
        | true ↦ out
        | false ↦ candidates-put (record c { part = 0 }) (remove_entry es c.part c.key) refl ∙ out
      ]

  -- after the first n are worked off, the candidates are those that were left
  pub candidates-left : (n : ℕ) (es cs : List Entry) → IsRising es → candidates es range ≡ cs →
      candidates (all_worked_off (take n cs) es) range ≡ drop n cs
  candidates-left zero es cs r h = h
  candidates-left (suc n) es [] r h = h
  candidates-left (suc n) es (c ∷ cs) r h = candidates-left n (worked_off c es) cs (rising-worked_off c es r)
      (candidates-one es c cs r h)
