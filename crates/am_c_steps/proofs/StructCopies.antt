-- Structs that are copied in another order.
use Rattle.std.proofs.Common.{◌≡◌, ℕ, suc, ◌+◌, ◌*◌, ◌≤◌, ◌<◌, List, [], ◌∷◌, ◌++◌, take, drop, length, get_or}
use Rattle.std.proofs.Common.{sym, ap, ◌∙◌, arith}
use Rattle.std.proofs.Math.Nat.{suc-mul}
use Rattle.std.proofs.lemmas.List.{length-take-le, length-drop, length-append, take_all, map_more}
use Rattle.am_record.proofs.Lists.{AllByRecursion-at}
use Rattle.am_record.specs.OrderedKey.{key_least}
use Rattle.am_record.specs.Plain.{Records}
use Rattle.am_store_runs.specs.RecordPlaces.{records_at, IsSpot, AreSpots}
use Rattle.am_store_runs.specs.declared.record_order.Spot.{Spot}
use Rattle.am_c_steps.specs.declared.structs.Layout.{Layout}
use Rattle.am_c_steps.specs.Structs.{struct_at, structs_given, records_given, AreWholeStructs}
use Rattle.am_c_steps.proofs.Wholes.{records_of, copied_more, given, lies_there, there}

module _ (l : Layout) (bytes : List ℕ) (n : ℕ) (are : AreWholeStructs l bytes n) (all : Records)
    (is : records_given (structs_given l bytes n) ≡ all) (spots : List Spot) (named : AreSpots all spots) where
  module _ (i : ℕ) (low : i < length spots) (d : Spot) where
    abbrev spot : Spot
    spot = get_or spots i d

    abbrev one : List ℕ
    one = struct_at l bytes spot.place

    within : spot.place < length all
    within = (AllByRecursion-at (IsSpot all) spots i d named.each low).within

    pub inside : spot.place * l.size + l.size ≤ length bytes
    inside = lies_there l bytes n are all is spot.place within

    whole : length one ≡ l.size
    whole = length-take-le l.size (drop (spot.place * l.size) bytes)
        (omega (arith, inside, length-drop (spot.place * l.size) bytes))

    module _ (copied new : List ℕ) (pushed : new ≡ copied ++ one) (long : length copied ≡ i * l.size) where
      pub longer : length new ≡ (i + 1) * l.size
      longer = let more : i + 1 ≡ suc i = omega arith in
          ap length pushed ∙ length-append copied one
          ∙ omega (arith, long, whole, ap (λ k. k * l.size) more, suc-mul i l.size)

      pub one_more : records_of l copied i ≡ records_at all (take i spots) →
          records_of l new (i + 1) ≡ records_at all (take (i + 1) spots)
      one_more so_far =
          let more : i + 1 ≡ suc i = omega arith in
          ap (λ bs. records_of l bs (i + 1)) pushed ∙ ap (λ k. records_of l (copied ++ one) k) more
          ∙ copied_more l copied one i long whole
          ∙ (λ j. so_far j ++ there l bytes n are all is spot.place within (key_least, []) j ∷ [])
          ∙ sym (map_more (λ (s : Spot). get_or all s.place (key_least, [])) spots i d low)

-- the copy's records
pub all_copied : (l : Layout) (copied : List ℕ) (all : Records) (spots : List Spot) (i : ℕ) → i ≡ length spots →
    AreWholeStructs l copied (length spots) → records_of l copied i ≡ records_at all (take i spots) →
    records_given (structs_given l copied (length spots)) ≡ records_at all spots
all_copied l copied all spots i ended are so_far =
    ap records_given (given l copied (length spots) are) ∙ ap (records_of l copied) (sym ended) ∙ so_far
    ∙ ap (records_at all) (take_all i spots (omega (arith, ended)))
