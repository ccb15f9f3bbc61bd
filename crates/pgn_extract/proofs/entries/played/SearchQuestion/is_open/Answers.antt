use Rattle.pgn_extract.proofs.Common.{◌≡◌, arith, nat_tests, length}
use Rattle.pgn_extract.proofs.entries.PlayedFacts.{asks_none}
use Rattle.pgn_extract.proofs.entries.played.SearchQuestion.is_open.Goals as goal

pub returns : goal.returns
returns c off =
    let none : length c.args.self.now ≡ 0 = let is = c.is_empty.ensures in
    grind (arith, nat_tests) in
    asks_none c.args.self.now none c.args.arg2
