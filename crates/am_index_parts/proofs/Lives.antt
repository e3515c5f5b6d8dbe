-- Where a key is live in sound entries.
use Rattle.std.proofs.Common.{◌≡◌, ℕ, List, None, sym, ◌∙◌}
use Rattle.std.proofs.lemmas.Option.{none-some}
use Rattle.std.specs.FinMap.{get}
use Rattle.am_record.specs.OrderedKey.{OrderedKey}
use Rattle.am_record.specs.declared.entry.Entry.{Entry}
use Rattle.am_index.specs.Content.{content, IsLiveAt, ContentLaws}
use Rattle.am_index.proofs.ContentLaws.{content_laws}
use Rattle.am_index_parts.specs.Partitions.{AreWellFormed, LivesIn, LivesNowhereElse}

-- all that am_index says of their content
pub laws_of : {es : List Entry} → AreWellFormed es → ContentLaws es
laws_of {es} sound = content_laws es sound.rising sound.one_place

module _ {es : List Entry} (sound : AreWellFormed es) {key : OrderedKey} where
  pub lives_in : {part : ℕ} {value : List ℕ} → IsLiveAt es part key value → LivesIn es part key
  lives_in {part} {value} live = record {
    value = value;
    live = live;
    in_content = (laws_of sound).reads.live part key value live;
  }

  -- a key that is live in a partition is live in no other
  pub live_only : {part : ℕ} {value : List ℕ} → IsLiveAt es part key value → LivesNowhereElse es part key
  live_only {part} {value} live = record {
    only = λ part' value' live'. sound.one_place.one key part' part value' value
        live' live;
  }

  -- a key that the content lacks is live nowhere
  pub live_nowhere : (part : ℕ) → get (content es) key ≡ None → LivesNowhereElse es part key
  live_nowhere part none = record {
    only = λ part' value live. absurd
        (none-some value (sym none ∙ (laws_of sound).reads.live part' key value live));
  }
