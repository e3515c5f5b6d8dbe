-- What may stand after the verb of a line.

-- nothing, a key, a record's key and value, a number, the ends of a range and a number, a mode and the ends of a range,
-- records written k=v, one at least, or a word for all sessions, which may be left out
pub data VerbShape : Type 0 where
  bare : VerbShape
  one_key : VerbShape
  one_record : VerbShape
  one_number : VerbShape
  range_and_number : VerbShape
  mode_and_range : VerbShape
  some_records : VerbShape
  which_sessions : VerbShape
