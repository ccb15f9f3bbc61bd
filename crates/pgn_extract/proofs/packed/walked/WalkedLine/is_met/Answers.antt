use Rattle.pgn_extract.proofs.Finds.{met_here}
use Rattle.pgn_extract.proofs.packed.walked.WalkedLine.is_met.Goals as goal

pub returns : goal.returns
returns c aim game before P at =
    met_here aim game c.args.self.now.search at.asks before P c.is_met.result
    (c.is_met.ensures P at.to.sight)
