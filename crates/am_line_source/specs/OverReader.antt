-- What a source over one of std's readers is made of.
use Rattle.std.specs.Prelude.{ℕ}
use Rattle.am_line_source.specs.declared.reading.Reading.{Reading}

abbrev pub reader_of : {R : Type 0} → Reading R → R
reader_of s = s.reader

abbrev pub failed_reads : {R : Type 0} → Reading R → ℕ
failed_reads s = s.failures
