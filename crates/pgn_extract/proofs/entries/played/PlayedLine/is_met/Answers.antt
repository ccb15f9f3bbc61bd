use Rattle.pgn_extract.proofs.Common.{subst}
use Rattle.pgn_extract.proofs.entries.PlayedFacts.{met_played}
use Rattle.pgn_extract.specs.Private.PlayedLines.{TellsAt}
use Rattle.pgn_extract.proofs.entries.played.PlayedLine.is_met.Goals as goal

pub returns : goal.returns
returns g c =
    let Asks = g.Q.Question.Asks c.args.self.now.question in
    let line = c.args.self.now.line in
    met_played line Asks c.is_met.result (λ criteria game asks.
    subst (λ Q. TellsAt c.is_met.result line.plies Q criteria game) c.position.ensures
    (subst (λ n. TellsAt c.is_met.result n c.position.result.now criteria game) c.plies.ensures
    (c.is_met.ensures criteria game asks)))
