-- How far a walk over all entries has come.
use Rattle.std.specs.Prelude.{◌≡◌, List, ◌++◌, slice_get, Option}
use Rattle.am_record.specs.declared.entry.Entry.{Entry}

-- some entries are listed, and the walk stands at the first of the rest, or at none
pub record IsListed (es done : List Entry) (next : Option Entry) : Type 0 where
  pub rest : List Entry
  pub all : es ≡ done ++ rest
  pub at : next ≡ slice_get rest 0
