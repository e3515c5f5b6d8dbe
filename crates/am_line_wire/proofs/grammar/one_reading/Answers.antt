use Rattle.am_line_text.proofs.Numerals.{numeral-decimal}
use Rattle.am_line_wire.proofs.GrammarReadings.{one_form, one_result, reads_reading, refused_records}
use Rattle.am_line_wire.proofs.VisibleRequests.{asks_visible}
use Rattle.am_line_wire.proofs.grammar.one_reading.Goals as goal

pub returns-clause-one_form : goal.returns-clause-one_form
returns-clause-one_form c = one_form

pub returns-clause-one_result : goal.returns-clause-one_result
returns-clause-one_result c = one_result

pub returns-clause-by_fields : goal.returns-clause-by_fields
returns-clause-by_fields c = reads_reading

pub returns-clause-memory : goal.returns-clause-memory
returns-clause-memory c = refused_records

pub returns-clause-printed : goal.returns-clause-printed
returns-clause-printed c = numeral-decimal

pub returns-clause-visible : goal.returns-clause-visible
returns-clause-visible c = asks_visible
