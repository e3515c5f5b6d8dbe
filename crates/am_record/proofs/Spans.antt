-- From the first key of a load's records to the last.
use Rattle.std.proofs.Common.{◌≡◌, ◌-◌, true, [], ◌∷◌, length, Some, refl, ap, ◌∙◌, sub-one}
use Rattle.std.specs.Prelude.{slice_get}
use Rattle.std.specs.Ordering.{is_le}
use Rattle.std.specs.declared.cmp.Ordering.TheVariants.{Less}
use Rattle.std.proofs.lemmas.Bool.{false≢true}
use Rattle.am_record.specs.OrderedKey.{OrderedKey, key_cmp}
use Rattle.am_record.specs.Interval.{Interval, key_le, key_le-itself}
use Rattle.am_record.specs.Plain.{Records, is_rising}
use Rattle.am_record.specs.Asks.{last_key, span}
use Rattle.am_record.proofs.FirstRows.{Record}
use Rattle.am_record.proofs.RisingRecords.{Below, sorted_parts}

last_record : Record → Records → Record
last_record r [] = r
last_record r (s ∷ rs) = last_record s rs

last-key : (r : Record) (rs : Records) → (last_record r rs).0 ≡ last_key r.0 rs
unfolding last_record
last-key r [] = refl
last-key r (s ∷ rs) = last-key s rs

last-get : (r : Record) (rs : Records) → slice_get (r ∷ rs) (length rs) ≡ Some (last_record r rs)
unfolding last_record
last-get r [] = refl
last-get r (s ∷ rs) = last-get s rs

last_below : (k l : OrderedKey) (rs : Records) → key_cmp k l ≡ Less → Below k rs → key_cmp k (last_key l rs) ≡ Less
last_below k l [] h b = h
last_below k l (r ∷ rs) h b = last_below k r.0 rs b.0 b.1

in_order : (r : Record) (rs : Records) → Below r.0 rs → key_le r.0 (last_key r.0 rs) ≡ true
in_order r [] b = key_le-itself r.0
in_order r (s ∷ rs) b = ap is_le (last_below r.0 s.0 rs b.0 b.1)

-- the first record and the last one
pub ordered : (rs : Records) (a b : Record) → is_rising rs ≡ true → Some a ≡ slice_get rs 0 →
    Some b ≡ slice_get rs (length rs - 1) → key_le a.0 b.0 ≡ true
ordered [] a b h p q = absurd (false≢true h)
ordered (r ∷ rs) a b h p q =
    let first : a ≡ r = cc in
    let last : Some b ≡ Some (last_record r rs) = (rw sub-one at q) ∙ last-get r rs in
    let last' : b ≡ last_record r rs = cc in
    (λ i. key_le (first i).0 (last' i).0) ∙ ap (key_le r.0) (last-key r rs) ∙ in_order r rs (sorted_parts r rs h).0

pub spanned : (rs : Records) (a b : Record) → is_rising rs ≡ true → Some a ≡ slice_get rs 0 →
    Some b ≡ slice_get rs (length rs - 1) → ◌≡◌ {A = Interval} (record { lo = a.0; hi = b.0 }) (span rs)
spanned [] a b h p q = absurd (false≢true h)
spanned (r ∷ rs) a b h p q =
    let first : a ≡ r = cc in
    let last : Some b ≡ Some (last_record r rs) = (rw sub-one at q) ∙ last-get r rs in
    let last' : b ≡ last_record r rs = cc in
    let key = last-key r rs in
    (λ i. record { lo = (first i).0; hi = (last' i).0 }) ∙ (λ i. record { lo = r.0; hi = key i })
