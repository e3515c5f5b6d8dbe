-- What a sink over one of std's writers is made of.
use Rattle.std.specs.Prelude.{ℕ, Bool}
use Rattle.am_line_sink.specs.declared.writing.Writing.{Writing}

abbrev pub writer_of : {W : Type 0} → Writing W → W
writer_of s = s.writer

abbrev pub failed_writes : {W : Type 0} → Writing W → ℕ
failed_writes s = s.failures

abbrev pub is_unsent : {W : Type 0} → Writing W → Bool
is_unsent s = s.is_pending
