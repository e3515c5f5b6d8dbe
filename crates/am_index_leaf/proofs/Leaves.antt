-- How many entries a leaf has.
use Rattle.std.proofs.Common.{◌≡◌, List, [], ◌^◌, ◌<◌, length, sym, ap, ◌∙◌, subst, arith}
use Rattle.std.proofs.lemmas.List.{nil_from_length}
use Rattle.am_record.specs.declared.entry.Entry.{Entry}
use Rattle.am_index.specs.Entries.{IsRising}
use Rattle.am_index_leaf.specs.declared.leaf.RawLeaf.TheInside.{Inside}
use Rattle.am_index_leaf.specs.Leaf.{entries, IsLeaf}
use Rattle.am_index_leaf.proofs.BitLemmas.{pow_mono}
use Rattle.am_index_leaf.proofs.Zips.{length-entries_of}

module _ (a : Inside) (held : IsLeaf a) where
  pub alike : length a.places.items ≡ length a.values.items
  alike = held.places ∙ sym held.values

  pub counted : (es : List Entry) → entries a ≡ es → length es ≡ a.len
  counted es seen = sym (ap length seen) ∙ length-entries_of a.places.items a.values.items a.ghosts alike ∙ held.places

  pub rising : (es : List Entry) → entries a ≡ es → IsRising es
  rising es seen = subst IsRising seen held.rising

  -- the highest bit is free
  pub room_in_ghosts : a.len < 32 → a.ghosts < 2 ^ 31
  room_in_ghosts room = let up = pow_mono a.len 31 (omega arith) in omega (arith, held.ghosts)

  -- a leaf with no entries has nil_from_length in its blocks
  pub no_places : entries a ≡ [] → a.places.items ≡ []
  no_places empty = nil_from_length a.places.items (held.places ∙ sym (counted [] empty))

  pub no_values : entries a ≡ [] → a.values.items ≡ []
  no_values empty = nil_from_length a.values.items (held.values ∙ sym (counted [] empty))
