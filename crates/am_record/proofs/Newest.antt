-- Lists with the newest item first: those that came since there were so many, and those that were there.
use Rattle.std.proofs.Common.{◌≡◌, ℕ, ◌-◌, ◌+◌, ◌≤◌, List, [], ◌∷◌, ◌++◌, length, reverse, take, drop, arith, sym, ap}
use Rattle.std.proofs.Common.{◌∙◌, subst, length-append, length-drop}
use Rattle.std.proofs.lemmas.List.{take-append-drop, reverse-append, length-reverse}
use Rattle.std.proofs.Math.Seq.{take-append-add, take-append_seam, drop-append_seam}
use Rattle.am_record.specs.Marks.{since, until, since_mark, until_mark}

pub since-new : {X : Type 0} (new items : List X) (mark : ℕ) → mark ≤ length items → since mark (new ++ items) ≡ new ++
    since mark items
since-new new items mark h =
    let e : length (new ++ items) - mark ≡ length new + (length items - mark) =
    omega (arith, length-append new items) in
    ap (λ n. take n (new ++ items)) e ∙ take-append-add new items (length items - mark)

pub since-none : {X : Type 0} (items : List X) → since (length items) items ≡ []
since-none items = let e : length items - length items ≡ 0 = omega arith in ap (λ n. take n items) e

pub since-until : {X : Type 0} (items : List X) (mark : ℕ) → since mark items ++ until mark items ≡ items
since-until items mark = take-append-drop (length items - mark) items

pub length-until : {X : Type 0} (items : List X) (mark : ℕ) → mark ≤ length items → length (until mark items) ≡ mark
length-until items mark h = length-drop (length items - mark) items ∙ omega arith

-- those since an older mark are those since the newer one and those before that
pub since-older : {X : Type 0} (items : List X) (mark old : ℕ) → mark ≤ length items → old ≤ mark →
    since old items ≡ since mark items ++ since old (until mark items)
since-older items mark old h k =
    let len = length-until items mark h in
    ap (since old) (sym (since-until items mark))
    ∙ since-new (since mark items) (until mark items) old (subst (λ n. old ≤ n) (sym len) k)

-- ---- of lists with the newest last

parts : {X : Type 0} (items : List X) (mark : ℕ) → reverse items ≡ reverse (drop mark items) ++
    reverse (take mark items)
parts items mark = ap reverse (sym (take-append-drop mark items)) ∙ reverse-append (take mark items) (drop mark items)

long : {X : Type 0} (items : List X) (mark : ℕ) → length (reverse items) - mark ≡ length (reverse (drop mark items))
long items mark = ap (λ n. n - mark) (length-reverse items) ∙
    sym (length-reverse (drop mark items) ∙ length-drop mark items)

pub since-reverse : {X : Type 0} (items : List X) (mark : ℕ) → since mark (reverse items) ≡ reverse (drop mark items)
since-reverse items mark =
    ap (λ n. take n (reverse items)) (long items mark) ∙ ap (take (length (reverse (drop mark items))))
    (parts items mark)
    ∙ take-append_seam (reverse (drop mark items)) (reverse (take mark items))

pub until-reverse : {X : Type 0} (items : List X) (mark : ℕ) → until mark (reverse items) ≡ reverse (take mark items)
until-reverse items mark =
    ap (λ n. drop n (reverse items)) (long items mark) ∙ ap (drop (length (reverse (drop mark items))))
    (parts items mark)
    ∙ drop-append_seam (reverse (drop mark items)) (reverse (take mark items))

module _ {X : Type 0} (items notes : List X) (inside marks : List ℕ) (notes_are : reverse items ≡ notes)
    (marks_are : reverse inside ≡ marks) (rest : List ℕ) (mark : ℕ) (is : inside ≡ rest ++ mark ∷ []) where
  newest_mark : marks ≡ mark ∷ reverse rest
  newest_mark = sym marks_are ∙ ap reverse is ∙ reverse-append rest (mark ∷ [])

  pub since_mark_is : since_mark marks notes ≡ reverse (drop mark items)
  since_mark_is = ap (λ ms. since_mark ms notes) newest_mark ∙ ap (since mark) (sym notes_are) ∙
      since-reverse items mark

  pub until_mark_is : until_mark marks notes ≡ reverse (take mark items)
  until_mark_is = ap (λ ms. until_mark ms notes) newest_mark ∙ ap (until mark) (sym notes_are) ∙
      until-reverse items mark
