-- A walk over all entries, one after another.
use Rattle.std.proofs.Common.{◌≡◌, ◌≢◌, ◌≤◌, ◌<◌, ◌+◌, ◌^◌, ◌++◌, ◌-◌, ℕ, List, [], ◌∷◌, length, Bool, true, false}
use Rattle.std.proofs.Common.{cond, Option, Some, None, refl, sym, ap, ◌∙◌, subst, arith, append_assoc, length-append}
use Rattle.std.specs.Prelude.{slice_get, ◌==◌}
use Rattle.std.specs.declared.cmp.Ordering.TheVariants.{Less, Greater}
use Rattle.std.specs.Ordering.{is_lt}
use Rattle.std.specs.List.{AllByRecursion}
use Rattle.std.specs.Cmp.{tied_itself}
use Rattle.std.proofs.lemmas.Bool.{false≢true, eqb-false}
use Rattle.std.proofs.lemmas.List.{append-nil}
use Rattle.am_record.specs.OrderedKey.{OrderedKey, key_cmp, IsLeast}
use Rattle.am_record.specs.EntryOrder.{place_of, place_cmp, place_cmp-part, place_cmp-total, place_cmp-same}
use Rattle.am_record.specs.declared.entry.Entry.{Entry}
use Rattle.am_record.proofs.Lists.{AllByRecursion-map, AllByRecursion-append, AllByRecursion-back}
use Rattle.am_record.proofs.PlaceOrder.{turned_less, turned_greater, lower_part}
use Rattle.am_index.specs.Entries.{next_any, after, IsRising}
use Rattle.am_index.specs.Places.{AllBelow, NoneBelow, AllAbove, only_of}
use Rattle.am_index.proofs.Lists.{rising_back, next_any-append, next_any_front, after-append, after_front, below_itself}
use Rattle.am_index_parts.specs.Partitions.{AreWellFormed}
use Rattle.am_store.specs.EntryWalks.{IsListed}

-- ---- the first place of a partition

not_below_at : (part : ℕ) (least : OrderedKey) (x : Entry) → IsLeast least → part ≤ x.part →
    place_cmp (place_of x) (part, least) ≢ Less
not_below_at part least x is up less =
    let down : x.part ≤ part = place_cmp-part (place_of x) (part, least) (λ g. absurd (cc)) in
    let same : x.part ≡ part = omega arith in
    let keys : key_cmp x.key least ≡ Less = sym (place_cmp-same part x.key least) ∙
    ap (λ n. place_cmp (n, x.key) (part, least)) (sym same) ∙ less in
    false≢true (sym (is x.key) ∙ ap is_lt keys)

none_below : (part : ℕ) (least : OrderedKey) → IsLeast least → (xs : List Entry) →
    AllByRecursion (λ (x : Entry). part ≤ x.part) xs → NoneBelow (part, least) xs
none_below part least is xs up = AllByRecursion-map (λ (x : Entry). part ≤ x.part)
    (λ (x : Entry). place_cmp (place_of x) (part, least) ≢ Less) (λ x h. not_below_at part least x is h) xs up

all_from : (xs : List Entry) → AllByRecursion (λ (x : Entry). 0 ≤ x.part) xs
all_from [] = tt
all_from (x ∷ xs) = (omega arith, all_from xs)

-- ---- the walk

pub starts : (es : List Entry) (least : OrderedKey) (next : Option Entry) → IsLeast least → next ≡ next_any es 0 least →
    IsListed es [] next
starts es least next is e = record {
  rest = es;
  all = refl;
  at = e ∙ next_any_front 0 least es (none_below 0 least is es (all_from es));
}

one_of : (o : Option Entry) (e : Entry) (rest : List Entry) → o ≡ slice_get rest 0 → o ≡ Some e →
    (behind : List Entry) × (rest ≡ e ∷ behind)
one_of o e [] at is = cc
one_of o e (x ∷ xs) at is = let same : x ≡ e = cc in (xs, λ i. same i ∷ xs)

pub goes_on : (es done : List Entry) (next next' : Option Entry) (e : Entry) → IsListed es done next → next ≡ Some e
    → ((before behind : List Entry) → es ≡ before ++ e ∷ behind → next' ≡ slice_get behind 0) →
    IsListed es (done ++ e ∷ []) next'
goes_on es done next next' e l is after =
    let more = one_of next e l.rest l.at is in
    let all = l.all ∙ ap (λ (rs : List Entry). done ++ rs) more.1 in
    record { rest = more.0; all = all ∙ sym (append_assoc done (e ∷ []) more.0); at = after done more.0 all }

pub goes_down : (es done : List Entry) (next : Option Entry) (e : Entry) → IsListed es done next → next ≡ Some e →
    length es - length (done ++ e ∷ []) < length es - length done
goes_down es done next e l is =
    let more = one_of next e l.rest l.at is in
    omega (arith, ap length l.all, length-append done l.rest, ap length more.1, length-append done (e ∷ []))

nothing : (rest : List Entry) → None ≡ slice_get rest 0 → rest ≡ []
nothing [] e = refl
nothing (x ∷ xs) e = cc

pub ends : (es done : List Entry) (next : Option Entry) → IsListed es done next → next ≡ None → done ≡ es
ends es done next l is = sym (append-nil done) ∙
    ap (λ (rs : List Entry). done ++ rs) (sym (nothing l.rest (sym is ∙ l.at))) ∙ sym l.all

-- ---- the entry after one

module _ (es : List Entry) (e : Entry) (sound : AreWellFormed es) (before behind : List Entry)
    (is : es ≡ before ++ e ∷ behind) where
  rising : IsRising (before ++ e ∷ behind)
  rising = subst IsRising is sound.rising

  upto : es ≡ (before ++ e ∷ []) ++ behind
  upto = is ∙ sym (append_assoc before (e ∷ []) behind)

  front : AllByRecursion (λ (x : Entry). place_cmp (place_of x) (place_of e) ≢ Greater) (before ++ e ∷ [])
  front = AllByRecursion-append (λ (x : Entry). place_cmp (place_of x) (place_of e) ≢ Greater) before (e ∷ [])
      (AllByRecursion-map (λ (x : Entry). place_cmp (place_of x) (place_of e) ≡ Less)
      (λ (x : Entry). place_cmp (place_of x) (place_of e) ≢ Greater) (λ x less g. absurd (cc)) before
      (below_itself before e behind rising))
      ((λ g. absurd (let tied = tied_itself place_cmp-total (place_of e) in cc)), tt)

  above : AllAbove (place_of e) behind
  above = AllByRecursion-map (λ (f : Entry). place_cmp (place_of e) (place_of f) ≡ Less)
      (λ (f : Entry). place_cmp (place_of f) (place_of e) ≡ Greater)
      (λ f less. turned_less (place_of e) (place_of f) less) behind (rising_back before (e ∷ behind) rising).0

  in_part : after es e.part e.key ≡ only_of e.part (slice_get behind 0)
  in_part = ap (λ l. after l e.part e.key) upto ∙ after-append e.part e.key (before ++ e ∷ []) behind front ∙
      after_front e.part e.key behind (rising_back before (e ∷ behind) rising).1 above

  the_one : (o : Option Entry) (y : Entry) → only_of e.part o ≡ Some y → Some y ≡ o
  the_one None y h = cc
  the_one (Some x) y h = by_part (x.part == e.part) h
    where
      by_part : (b : Bool) → cond b (Some x) None ≡ Some y → Some y ≡ Some x
      by_part true k = sym k
      by_part false k = cc

  pub here : (r : Option Entry) (y : Entry) → r ≡ after es e.part e.key → r ≡ Some y → Some y ≡ slice_get behind 0
  here r y found is' = the_one (slice_get behind 0) y (sym in_part ∙ sym found ∙ is')

  -- where its partition has no more, all that is after stands in later ones
  other_part : (x : Entry) → only_of e.part (Some x) ≡ None → x.part ≢ e.part
  other_part x h same = by_part (x.part == e.part) refl h
    where
      by_part : (b : Bool) → (x.part == e.part) ≡ b → cond b (Some x) None ≡ None → ⊥
      by_part true k l = cc
      by_part false k l = eqb-false x.part e.part k same

  far_from : (xs : List Entry) → AllAbove (place_of e) xs → IsRising xs → only_of e.part (slice_get xs 0) ≡ None →
      AllByRecursion (λ (x : Entry). e.part + 1 ≤ x.part) xs
  far_from [] a r h = tt
  far_from (x ∷ xs) a r h =
      let other = other_part x h in
      let up : e.part ≤ x.part = place_cmp-part (place_of e) (place_of x)
      (λ g. absurd (let t = turned_greater' x a.0 in cc)) in
      let first : e.part + 1 ≤ x.part = omega arith in (
        first,
        AllByRecursion-map (λ (f : Entry). place_cmp (place_of x) (place_of f) ≡ Less)
            (λ (f : Entry). e.part + 1 ≤ f.part)
            (λ f less. let more : x.part ≤ f.part = place_cmp-part (place_of x) (place_of f) (λ g. absurd (cc)) in
            omega arith) xs r.0,
      )
    where
      turned_greater' : (x : Entry) → place_cmp (place_of x) (place_of e) ≡ Greater →
          place_cmp (place_of e) (place_of x) ≡ Less
      turned_greater' x g = turned_greater (place_of x) (place_of e) g

  far : None ≡ after es e.part e.key → AllByRecursion (λ (x : Entry). e.part + 1 ≤ x.part) behind
  far none = far_from behind above (rising_back before (e ∷ behind) rising).1 (sym in_part ∙ sym none)

  passed : (part : ℕ) (least : OrderedKey) → part ≡ e.part + 1 → AllBelow (part, least) (before ++ e ∷ [])
  passed part least is_next = AllByRecursion-map (λ (x : Entry). place_cmp (place_of x) (place_of e) ≢ Greater)
      (λ (x : Entry). place_cmp (place_of x) (part, least) ≡ Less)
      (λ x n. let le : x.part ≤ e.part = place_cmp-part (place_of x) (place_of e) n in
      lower_part (place_of x) (part, least) (omega arith)) (before ++ e ∷ []) front

  pub there : (r : Option Entry) (part : ℕ) (least : OrderedKey) → IsLeast least → None ≡ after es e.part e.key →
      part ≡ e.part + 1 → r ≡ next_any es part least → r ≡ slice_get behind 0
  there r part least is_least none is_next found =
      found ∙ ap (λ l. next_any l part least) upto ∙ next_any-append part least (before ++ e ∷ []) behind
      (passed part least is_next)
      ∙ next_any_front part least behind (none_below part least is_least behind
      (subst (λ n. AllByRecursion (λ (x : Entry). n ≤ x.part) behind) (sym is_next) (far none)))

  -- there is no partition above the last number
  pub nowhere : (e.part + 1 < 2 ^ 32 → ⊥) → None ≡ after es e.part e.key → None ≡ slice_get behind 0
  nowhere past none = by_rest behind (far none) (AllByRecursion-back (λ (x : Entry). x.part < 2 ^ 32) (before ++ e ∷ [])
      behind (subst (λ l. AllByRecursion (λ (x : Entry). x.part < 2 ^ 32) l) upto sound.fits))
    where
      by_rest : (xs : List Entry) → AllByRecursion (λ (x : Entry). e.part + 1 ≤ x.part) xs →
          AllByRecursion (λ (x : Entry). x.part < 2 ^ 32) xs → None ≡ slice_get xs 0
      by_rest [] f s = refl
      by_rest (x ∷ xs) f s = absurd (past (omega (arith, f.0, s.0)))
