-- The least of some keys.
use Rattle.std.specs.Prelude.{Option, Some, None, cond}
use Rattle.std.specs.Ordering.{is_lt}
use Rattle.am_record.specs.OrderedKey.{OrderedKey, key_cmp}

-- the lesser of the keys, of which there may be one alone
abbrev pub lesser_key : Option OrderedKey → OrderedKey → OrderedKey
lesser_key None key = key
lesser_key (Some least) key = cond (is_lt (key_cmp least key)) least key
