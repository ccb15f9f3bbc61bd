use Rattle.pgn_extract.proofs.Common.{IfSome_then, MatchResult-weaker}
use Rattle.pgn_extract.proofs.entries.PlayedFacts.{moves_on, fails_moved}
use Rattle.pgn_extract.proofs.entries.played.PlayedLine.advance.Goals as goal

pub returns-clause-moved : goal.returns-clause-moved
returns-clause-moved g c =
    let Asks = g.Q.Question.Asks c.args.self.now.question in
    let old = c.args.self.now.line in
    MatchResult-weaker c.advance.result c.advance.ensures
    (moves_on Asks old c.advance.new.self c.args.is_open)
    (λ fault met. IfSome_then _ met (fails_moved old Asks))
