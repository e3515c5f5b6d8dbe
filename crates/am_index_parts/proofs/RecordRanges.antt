-- Records between two places, and the range from the first key of records that rise to the last.
use Rattle.std.proofs.Common.{◌≡◌, ◌-◌, ◌+◌, ◌<◌, ◌≤◌, ℕ, suc, true, [], ◌∷◌, length, get_or, take, drop, refl, sym, ap}
use Rattle.std.proofs.Common.{◌∙◌, arith, subst}
use Rattle.std.proofs.Math.Seq.{take-suc}
use Rattle.std.proofs.lemmas.List.{get_or-drop, length-drop}
use Rattle.std.specs.List.{AllByRecursion}
use Rattle.std.specs.FinMap.{is_sorted}
use Rattle.std.specs.FinMap.Entries.{below_all}
use Rattle.std.specs.Ordering.{is_lt, is_le}
use Rattle.std.proofs.lemmas.Bool.{and_parts, and_from}
use Rattle.am_record.specs.OrderedKey.{OrderedKey, key_cmp}
use Rattle.am_record.specs.Interval.{Interval, key_le, key_le-itself, within}
use Rattle.am_record.specs.Plain.{Records, is_rising}
use Rattle.am_record.proofs.FirstRows.{Record}
use Rattle.am_record.proofs.KeyOrder.{key_le_trans}
use Rattle.am_record.proofs.Lists.{AllByRecursion-append}
use Rattle.am_record.proofs.Orderings.{is_less}

not_above : (a b : OrderedKey) → is_lt (key_cmp a b) ≡ true → key_le a b ≡ true
not_above a b less = ap is_le (is_less (key_cmp a b) less)

above_first : (key : OrderedKey) (rs : Records) → below_all key_cmp key rs ≡ true →
    AllByRecursion (λ (r : Record). key_le key r.0 ≡ true) rs
above_first key [] below = tt
above_first key (r ∷ rs) below =
    let parts = and_parts (is_lt (key_cmp key r.0)) (below_all key_cmp key rs) below in
    (not_above key r.0 parts.0, above_first key rs parts.1)

up_to_last : (r : Record) (rs : Records) (last d : Record) → is_sorted key_cmp (r ∷ rs) ≡ true →
    last ≡ get_or (r ∷ rs) (length rs) d → AllByRecursion (λ (q : Record). key_le q.0 last.0 ≡ true) (r ∷ rs)
up_to_last r [] last d sorted is = (ap (λ (q : Record). key_le r.0 q.0) is ∙ key_le-itself r.0, tt)
up_to_last r (q ∷ rs) last d sorted is =
    let parts = and_parts (below_all key_cmp r.0 (q ∷ rs)) (is_sorted key_cmp (q ∷ rs)) sorted in
    let later = up_to_last q rs last d parts.1 is in
    let next = above_first r.0 (q ∷ rs) parts.0 in
    (key_le_trans r.0 q.0 last.0 next.0 later.0, later)

both : (lo hi : OrderedKey) (rs : Records) → AllByRecursion (λ (r : Record). key_le lo r.0 ≡ true) rs →
    AllByRecursion (λ (r : Record). key_le r.0 hi ≡ true) rs →
    AllByRecursion (λ (r : Record). within (record { lo = lo; hi = hi }) r.0 ≡ true) rs
both lo hi [] above below = tt
both lo hi (r ∷ rs) above below = (
  and_from (key_le lo r.0) (key_le r.0 hi) above.0 below.0,
  both lo hi rs above.1 below.1,
)

module _ (r : Record) (rs : Records) (first last d : Record) (sorted : is_sorted key_cmp (r ∷ rs) ≡ true)
    (begins : first ≡ r) (ends : last ≡ get_or (r ∷ rs) (length rs) d) where
  above : AllByRecursion (λ (q : Record). key_le first.0 q.0 ≡ true) (r ∷ rs)
  above = subst (λ (f : Record). AllByRecursion (λ (q : Record). key_le f.0 q.0 ≡ true) (r ∷ rs)) (sym begins)
      (key_le-itself r.0, above_first r.0 rs (and_parts (below_all key_cmp r.0 rs) (is_sorted key_cmp rs) sorted).0)

  pub in_order : key_le first.0 last.0 ≡ true
  in_order = ap (λ (f : Record). key_le f.0 last.0) begins ∙ (up_to_last r rs last d sorted ends).0

  pub all_between : AllByRecursion (λ (q : Record). within (record { lo = first.0; hi = last.0 }) q.0 ≡ true) (r ∷ rs)
  all_between = both first.0 last.0 (r ∷ rs) above (up_to_last r rs last d sorted ends)

pub ends_in_order : (rs : Records) (d : Record) → is_rising rs ≡ true →
    key_le (get_or rs 0 d).0 (get_or rs (length rs - 1) d).0 ≡ true
ends_in_order [] d rising = absurd (cc rising)
ends_in_order (r ∷ rs) d rising = in_order r rs r (get_or (r ∷ rs) (length (r ∷ rs) - 1) d) d rising refl
    (ap (λ (i : ℕ). get_or (r ∷ rs) i d) (omega arith))

pub range_between : (rs : Records) (d : Record) (range : Interval) → is_rising rs ≡ true →
    range ≡ record { lo = (get_or rs 0 d).0; hi = (get_or rs (length rs - 1) d).0 } →
    AllByRecursion (λ (q : Record). within range q.0 ≡ true) rs
range_between [] d range rising is = absurd (cc rising)
range_between (r ∷ rs) d range rising is =
    subst (λ (i : Interval). AllByRecursion (λ (q : Record). within i q.0 ≡ true) (r ∷ rs)) (sym is)
    (all_between r rs r (get_or (r ∷ rs) (length (r ∷ rs) - 1) d) d rising refl
    (ap (λ (i : ℕ). get_or (r ∷ rs) i d) (omega arith)))

-- what is so of several records, and of the next one
pub all_further : (P : Record → Type 0) (rs : Records) (from at : ℕ) (d : Record) → from ≤ at → at < length rs →
    AllByRecursion P (take (at - from) (drop from rs)) → P (get_or rs at d) →
    AllByRecursion P (take (at + 1 - from) (drop from rs))
all_further P rs from at d order inside all next =
    let l = drop from rs in
    let k = at - from in
    let short : k < length l = omega (arith, length-drop from rs, order, inside) in
    let there : get_or l k d ≡ get_or rs at d = get_or-drop from rs k d ∙
    ap (λ (i : ℕ). get_or rs i d) (omega (arith, order)) in
    let more : suc k ≡ at + 1 - from = omega (arith, order) in
    subst (λ (n : ℕ). AllByRecursion P (take n l)) more (subst (AllByRecursion P) (sym (take-suc l k d short))
    (AllByRecursion-append P (take k l) (get_or l k d ∷ []) all (subst P (sym there) next, tt)))
