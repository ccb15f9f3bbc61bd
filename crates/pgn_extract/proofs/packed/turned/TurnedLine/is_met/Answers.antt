use Rattle.pgn_extract.proofs.Common.{ℕ, ◌↔◌, IsTrue, subst, Replay, Heading}
use Rattle.pgn_criteria.specs.Public.Meeting.{Meets}
use Rattle.pgn_criteria.specs.Public.Turns.{IsTurn}
use Rattle.pgn_extract.proofs.packed.TurnedLines.{turned_met}
use Rattle.pgn_extract.proofs.packed.turned.TurnedLine.is_met.Goals as goal

pub returns : goal.returns
returns c aim game before P at =
    let line = c.args.self.now in
    turned_met at.to aim line.search at.asks line.next at.next c.is_met.result
    (subst (λ Q. (heading : Heading) (replay : Replay) (ply : ℕ)
    → IsTurn replay ply line.before line.last Q line.next
    → IsTrue c.is_met.result ↔ Meets heading replay ply line.search) at.here c.is_met.ensures)
