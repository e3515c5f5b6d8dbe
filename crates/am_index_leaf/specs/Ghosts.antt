-- Whether there is a ghost.
use Rattle.std.specs.Prelude.{Bool, List}
use Rattle.std.specs.List.{list_any}
use Rattle.am_record.specs.declared.entry.Entry.{Entry}

-- one of the entries is a ghost
abbrev pub has_ghost : List Entry → Bool
has_ghost es = list_any (λ e. e.is_ghost) es
