-- What a replica's desk, a transaction, a log's reader and those that wait own in memory.
use denote.RattleType.{RattleType}
use Rattle.std.specs.Coded.{Coded}
use Rattle.am_replica_desk.specs.contracts.desk.Desk as desk
use Rattle.am_replica_trials.specs.contracts.transaction.LineTransaction as transaction
use Rattle.am_replica_reader.specs.contracts.reader.Reader as reader
use Rattle.am_replica_waits.specs.declared.waits.Waits.{Waits}
use Rattle.am_replica_waits.specs.contracts.waits.Waits as waits

abbrev pub desk_row : RattleType
desk_row = desk.the_row

abbrev pub transaction_row : RattleType
transaction_row = transaction.the_row

abbrev pub reader_row : RattleType
reader_row = reader.the_row

abbrev pub waits_row : RattleType
waits_row = waits.the_row

abbrev pub waits_code : Coded Waits
waits_code = waits_row.coded
