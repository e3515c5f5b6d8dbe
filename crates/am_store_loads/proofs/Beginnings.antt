-- The first entries at or above a key, from partition to partition.
use Rattle.std.proofs.Common.{◌≡◌, ℕ, List, true, Option, Some, None, refl, sym, ap, ◌∙◌}
use Rattle.std.proofs.lemmas.Option.{none-some}
use Rattle.std.specs.declared.cmp.Ordering.{Ordering}
use Rattle.std.specs.declared.cmp.Ordering.TheVariants.{Less, Equal, Greater}
use Rattle.std.specs.Ordering.{ordering_reverse}
use Rattle.am_record.specs.OrderedKey.{OrderedKey, key_cmp, key_cmp-total, key_cmp-exact}
use Rattle.am_record.specs.Interval.{key_le}
use Rattle.am_record.specs.declared.entry.Entry.{Entry}
use Rattle.am_index.specs.Entries.{slot_of, entry_at, find, next_from}
use Rattle.am_index.specs.Walks.{WalkLaws}
use Rattle.am_index.proofs.Edits.{entry_at_slot}

-- ---- places

-- ---- one partition

module _ {es : List Entry} (walks : WalkLaws es) (part : ℕ) (low : OrderedKey) where
  pub first_is : (e : Entry) → entry_at es part e.key ≡ Some e → key_le low e.key ≡ true →
      ((key : OrderedKey) → key_le low key ≡ true → key_cmp key e.key ≡ Less → find es part key ≡ None) →
      next_from es part low ≡ Some e
  first_is e stands reached none_before = by_cases (next_from es part low) refl
    where
      by_cases : (o : Option Entry) → next_from es part low ≡ o → next_from es part low ≡ Some e
      by_cases None h = absurd (none-some (slot_of e) (sym (walks.from_none part low h e.key reached) ∙
          entry_at_slot es part e.key e stands))
      by_cases (Some x) h = by_order (key_cmp x.key e.key) refl
        where
          by_order : (o : Ordering) → key_cmp x.key e.key ≡ o → next_from es part low ≡ Some e
          by_order Less less =
              let first = walks.from_some part low x h in
              absurd (none-some (slot_of x) (sym (none_before x.key first.is_reached less) ∙
              entry_at_slot es part x.key x first.stands))
          by_order Equal same = let first = walks.from_some part low x h in h ∙ sym first.stands ∙
              ap (entry_at es part) (key_cmp-exact x.key e.key same) ∙ stands
          by_order Greater greater =
              let first = walks.from_some part low x h in
              absurd (none-some (slot_of e) (sym (first.none_before e.key reached (key_cmp-total.antisymm e.key x.key ∙
              ap ordering_reverse greater)) ∙ entry_at_slot es part e.key e stands))
