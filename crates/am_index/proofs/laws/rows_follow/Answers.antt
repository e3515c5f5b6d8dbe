use Rattle.am_index.proofs.RowLaws.{rows_of_content, rows_read}
use Rattle.am_index.proofs.laws.rows_follow.Goals as goal

pub returns-clause-reads : goal.returns-clause-reads
returns-clause-reads c = λ es part range rising. rows_read part range es rising

pub returns-clause-alone : goal.returns-clause-alone
returns-clause-alone c = λ es part range rising one alone. rows_of_content part range es rising one alone
