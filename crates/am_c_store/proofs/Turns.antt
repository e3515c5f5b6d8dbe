-- Runs that are loaded one after another.
use Rattle.std.proofs.Common.{◌≡◌, ◌≢◌, ℕ, ◌+◌, ◌^◌, ◌<◌, List, [], ◌∷◌, length, Some, None}
use Rattle.std.proofs.Common.{true, refl, sym, ap, ◌∙◌, subst, arith, length-append, take, drop, inl, inr, ⊎_elim}
use Rattle.std.specs.Prelude.{slice_get}
use Rattle.std.proofs.lemmas.Option.{none-some}
use Rattle.std.proofs.lemmas.List.{take-append-drop}
use Rattle.std.proofs.lemmas.List.Sorted.{length_permutation}
use Rattle.am_record.specs.Plain.{Records}
use Rattle.am_record.specs.declared.step.Step.TheVariants.{Do}
use Rattle.am_record.specs.declared.step.Reply.{Reply}
use Rattle.am_record.specs.declared.step.Reply.TheVariants.{Done, Refused}
use Rattle.am_record.specs.declared.step.Refusal.TheVariants.{NoMemory}
use Rattle.am_store_runs.specs.Cuts.{AreRunsOf, records_of}
use Rattle.am_law_sound.specs.StoreState.{StoreState}
use Rattle.am_c_steps.specs.declared.bringing.Bringing.{Bringing}
use Rattle.am_c_steps.specs.Bringings.{brings, copies}
use Rattle.am_c_store.specs.StoreSteps.{Takes}
use Rattle.am_c_store.specs.Loads.{Brings, LoadGoesOn, LoadInTurn}

-- the runs in front of the rest were loaded, which have so many records: loading the rest is loading all
pub record IsLoading (tx : ℕ) (bringing : Bringing) (all : List Records) (old : StoreState) (rest : List Records)
    (records : ℕ)
    (p : StoreState) : Type 0 where
  pub on : (more : ℕ) (reply : Reply) (new : StoreState) → LoadInTurn tx bringing rest p more reply new →
      LoadInTurn tx bringing all old (records + more) reply new
  pub sum : records + length (records_of rest) ≡ length (records_of all)

pub starts : (tx : ℕ) (bringing : Bringing) (all rest : List Records) (p : StoreState) → rest ≡ all →
    IsLoading tx bringing all p rest 0 p
starts tx bringing all rest p is = record {
  on = λ more reply new turns. let same : more ≡ 0 + more = omega arith in
      subst (λ (n : ℕ). LoadInTurn tx bringing all p n reply new) same
      (subst (λ (rs : List Records). LoadInTurn tx bringing rs p more reply new) is turns);
  sum = omega (arith, ap (λ (rs : List Records). length (records_of rs)) is);
}

-- the reply ends the load
refusal : (run : Records) (Others : StoreState → ℕ → Reply → StoreState → Type 0) (first : Reply) (p : StoreState) →
    first ≢ Done → LoadGoesOn run Others first p 0 first p
refusal run Others Done p not = absurd (not refl)
refusal run Others first p not = (refl, refl, refl)

-- the first of the runs that are left
first_of : (rest : List Records) (run : Records) → Some run ≡ slice_get rest 0 → rest ≡ run ∷ drop 1 rest
first_of [] run is = cc
first_of (r ∷ rest) run is = let same : r ≡ run = cc in ap (λ (s : Records). s ∷ rest) same

pub sum_fits : (tx : ℕ) (bringing : Bringing) (all rest : List Records) (old p : StoreState) (records : ℕ)
    (run : Records) → IsLoading tx bringing all old rest records p → Some run ≡ slice_get rest 0 →
    length (records_of all) < 2 ^ 64 → records + length run < 2 ^ 64
sum_fits tx bringing all rest old p records run h next few = omega (
  arith,
  h.sum,
  few,
  ap (λ (rs : List Records). length (records_of rs)) (first_of rest run next),
  length-append run (records_of (drop 1 rest)),
)

module _ (tx : ℕ) (bringing : Bringing) (all rest : List Records) (old p q : StoreState) (records : ℕ) (run : Records)
    (reply : Reply) (h : IsLoading tx bringing all old rest records p) (next : Some run ≡ slice_get rest 0)
    (takes : Takes p (Do tx (brings bringing run)) reply q) where
  is : rest ≡ run ∷ drop 1 rest
  is = first_of rest run next

  goes_on : reply ≡ Done → IsLoading tx bringing all old (drop 1 rest) (records + length run) q
  goes_on done = record {
    on = λ more last new turns.
        let first : LoadInTurn tx bringing (run ∷ drop 1 rest) p (length run + more) last new =
        inr (
          Done,
          q,
          subst (λ (r : Reply). Takes p (Do tx (brings bringing run)) r q) done takes,
          (more, refl, turns),
        ) in
        let all_more : records + (length run + more) ≡ records + length run + more = omega arith in
        subst (λ (n : ℕ). LoadInTurn tx bringing all old n last new) all_more
        (h.on (length run + more) last new
        (subst (λ (rs : List Records). LoadInTurn tx bringing rs p (length run + more) last new) (sym is) first));
    sum = omega (
      arith,
      h.sum,
      ap (λ (rs : List Records). length (records_of rs)) is,
      length-append run (records_of (drop 1 rest)),
    );
  }

  ends : reply ≢ Done → LoadInTurn tx bringing all old records reply q
  ends not =
      let first : LoadInTurn tx bringing (run ∷ drop 1 rest) p 0 reply q =
      inr (reply, q, takes, refusal run (LoadInTurn tx bringing (drop 1 rest)) reply q not) in
      let none : records + 0 ≡ records = omega arith in
      subst (λ (n : ℕ). LoadInTurn tx bringing all old n reply q) none
      (h.on 0 reply q (subst (λ (rs : List Records). LoadInTurn tx bringing rs p 0 reply q) (sym is) first))

-- there is a run left that is to be copied, and no room for that
has_no_room : (tx : ℕ) (bringing : Bringing) (all rest : List Records) (old p : StoreState) (records : ℕ) →
    IsLoading tx bringing all old rest records p → 0 < length rest → copies bringing ≡ true →
    LoadInTurn tx bringing all old records (Refused NoMemory) p
has_no_room tx bringing all [] old p records h left copied = absurd (omega (arith, left))
has_no_room tx bringing all (run ∷ rest) old p records h left copied =
    let none : records + 0 ≡ records = omega arith in
    subst (λ (n : ℕ). LoadInTurn tx bringing all old n (Refused NoMemory) p) none
    (h.on 0 (Refused NoMemory) p (inl (copied, refl, refl, refl)))

module _ (tx : ℕ) (bringing : Bringing) (all rest : List Records) (old p q : StoreState) (records : ℕ) (run : Records)
    (reply : Reply) (h : IsLoading tx bringing all old rest records p) (next : Some run ≡ slice_get rest 0)
    (brought : Brings p tx bringing run reply q) where
  pub brought_in : reply ≡ Done → IsLoading tx bringing all old (drop 1 rest) (records + length run) q
  brought_in done = ⊎_elim
      (λ takes. goes_on tx bringing all rest old p q records run reply h next takes done)
      (λ refused. absurd (not_done (sym refused.1 ∙ done))) brought
    where
      not_done : ◌≡◌ {A = Reply} (Refused NoMemory) Done → ⊥
      not_done e = cc

  pub not_brought : reply ≢ Done → LoadInTurn tx bringing all old records reply q
  not_brought not = ⊎_elim
      (λ takes. ends tx bringing all rest old p q records run reply h next takes not)
      (λ refused. subst (λ (r : Reply). LoadInTurn tx bringing all old records r q) (sym refused.1)
      (subst (λ (s : StoreState). LoadInTurn tx bringing all old records (Refused NoMemory) s) (sym refused.2)
      (has_no_room tx bringing all rest old p records h
      (omega (arith, ap (λ (rs : List Records). length rs) (first_of rest run next))) refused.0))) brought

pub is_over : (tx : ℕ) (bringing : Bringing) (all rest : List Records) (old p : StoreState) (records : ℕ) →
    IsLoading tx bringing all old rest records p → None ≡ slice_get rest 0 → LoadInTurn tx bringing all old records Done
    p
is_over tx bringing all [] old p records h is =
    let none : records + 0 ≡ records = omega arith in
    subst (λ (n : ℕ). LoadInTurn tx bringing all old n Done p) none
    (h.on 0 Done p (refl, refl, refl))
is_over tx bringing all (run ∷ rest) old p records h is = absurd (none-some run is)

-- the runs have as many records as were cut
pub records_of_cut : (n : ℕ) (records : Records) (runs : List Records) → AreRunsOf n records runs →
    length (records_of runs) ≡ length records
records_of_cut n records [] none = ap length (sym none)
records_of_cut n records (run ∷ runs) are = omega (
  arith,
  length-append run (records_of runs),
  length_permutation (take n records) run are.0.same,
  records_of_cut n (drop n records) runs are.1,
  ap length (take-append-drop n records),
  length-append (take n records) (drop n records),
)

pub few : (n : ℕ) (records : Records) (runs : List Records) → AreRunsOf n records runs → length records < 2 ^ 64 →
    length (records_of runs) < 2 ^ 64
few n records runs are low = omega (arith, records_of_cut n records runs are, low)
