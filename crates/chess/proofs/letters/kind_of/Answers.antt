use Rattle.std.proofs.Common.{arith}
use Rattle.chess.proofs.letters.KindTable.{table_kind, kind_found}
use Rattle.chess.proofs.letters.kind_of.Goals as goal

pub returns : goal.returns
returns c = let fits = table_kind c.args.letter (omega arith) in
    record { found = kind_found c.args.letter _ fits; answer = fits }
