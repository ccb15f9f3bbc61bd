use Rattle.pgn_extract.proofs.laws.CsvRows as csv
use Rattle.pgn_extract.proofs.laws.JsonStrings as json
use Rattle.pgn_extract.proofs.laws.TsvRows as tsv
use Rattle.pgn_extract.proofs.laws.one_row.Goals as goal

pub returns-clause-csv_read : goal.returns-clause-csv_read
returns-clause-csv_read c = csv.row_is_read

pub returns-clause-csv_reading : goal.returns-clause-csv_reading
returns-clause-csv_reading c = csv.one_reading

pub returns-clause-csv_once : goal.returns-clause-csv_once
returns-clause-csv_once c = csv.one_row

pub returns-clause-tsv_read : goal.returns-clause-tsv_read
returns-clause-tsv_read c = tsv.row_is_read

pub returns-clause-tsv_reading : goal.returns-clause-tsv_reading
returns-clause-tsv_reading c = tsv.one_reading

pub returns-clause-tsv_once : goal.returns-clause-tsv_once
returns-clause-tsv_once c = tsv.one_row

pub returns-clause-string_read : goal.returns-clause-string_read
returns-clause-string_read c = json.string_is_read

pub returns-clause-string_reading : goal.returns-clause-string_reading
returns-clause-string_reading c = json.one_reading

pub returns-clause-string_once : goal.returns-clause-string_once
returns-clause-string_once c = json.one_string

pub returns-clause-table_read : goal.returns-clause-table_read
returns-clause-table_read c = csv.rows_are_read

pub returns-clause-table_once : goal.returns-clause-table_once
returns-clause-table_once c = csv.one_table
