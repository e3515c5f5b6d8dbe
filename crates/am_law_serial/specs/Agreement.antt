-- Maps, and drafts with all that they saved, that agree on some keys.
use Rattle.std.specs.Prelude.{◌≡◌, List, [], ◌∷◌, Bool, true}
use Rattle.std.specs.FinMap.{get}
use Rattle.am_record.specs.OrderedKey.{OrderedKey}
use Rattle.am_record.specs.Plain.{PlainMap, Draft}

-- the maps have the same at each key of the set
pub record Agree (S : OrderedKey → Bool) (m n : PlainMap) : Type 0 where
  pub at : (q : OrderedKey) → S q ≡ true → get m q ≡ get n q

-- as many maps, and each agrees with its like
abbrev pub AllAgree : (OrderedKey → Bool) → List PlainMap → List PlainMap → Type 0
AllAgree S [] [] = Unit {0}
AllAgree S (m ∷ ms) (n ∷ ns) = Agree S m n × AllAgree S ms ns
AllAgree S _ _ = ⊥

pub record Alike (S : OrderedKey → Bool) (d e : Draft) : Type 0 where
  pub map : Agree S d.map e.map
  pub saved : AllAgree S d.saved e.saved

-- the draft's map and all that it saved have at the key what this map has
abbrev pub AllHave : OrderedKey → PlainMap → List PlainMap → Type 0
AllHave q m [] = Unit {0}
AllHave q m (n ∷ ns) = (get n q ≡ get m q) × AllHave q m ns

pub record Has (q : OrderedKey) (m : PlainMap) (d : Draft) : Type 0 where
  pub map : get d.map q ≡ get m q
  pub saved : AllHave q m d.saved
