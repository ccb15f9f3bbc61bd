use Rattle.pgn_extract.proofs.laws.MemberNames.{names_are_as_asked}
use Rattle.pgn_extract.proofs.laws.OneObject.{one_reading}
use Rattle.pgn_extract.proofs.laws.RowObjects.{one_row, one_table, row_is_read, row_is_utf8}
use Rattle.pgn_extract.proofs.laws.RowObjects.{rows_are_read}
use Rattle.pgn_extract.proofs.laws.one_object.Goals as goal

pub returns-clause-read : goal.returns-clause-read
returns-clause-read c = row_is_read

pub returns-clause-reading : goal.returns-clause-reading
returns-clause-reading c = one_reading

pub returns-clause-once : goal.returns-clause-once
returns-clause-once c = one_row

pub returns-clause-names : goal.returns-clause-names
returns-clause-names c = names_are_as_asked

pub returns-clause-utf8 : goal.returns-clause-utf8
returns-clause-utf8 c = row_is_utf8

pub returns-clause-lines_read : goal.returns-clause-lines_read
returns-clause-lines_read c = rows_are_read

pub returns-clause-lines_once : goal.returns-clause-lines_once
returns-clause-lines_once c = one_table
