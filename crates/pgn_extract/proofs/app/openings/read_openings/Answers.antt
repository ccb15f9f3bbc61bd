-- One more game is one more line; where no piece is left, all are read.
use Rattle.pgn_extract.proofs.Common.{◌∙◌, sym, subst, IsGameText}
use Rattle.pgn_game.specs.Public.Openings.{named_of}
use Rattle.pgn_extract.proofs.app.OpeningLines.{AreRead, all_read, more_read}
use Rattle.pgn_extract.proofs.app.openings.read_openings.Goals as goal

pub loop-piece-preserved : goal.loop-piece-preserved
loop-piece-preserved c =
    let takes = rw c.in_ok-piece.was at c.in-Some.ensures.steps in
    let good = subst IsGameText c.game.view_is c.game.invariant in
    subst (AreRead c.into_iter-piece-iterator.result c.next.new.self)
    (sym c.in_ok-openings-2.ensures)
    (more_read c.in_ok-piece.piece c.in-Game-piece.game (named_of c.in-Ok.line)
    c.loop-piece.invariant takes c.in-Game-piece.is good c.in-Ok.ensures.own)

pub returns : goal.returns
returns c =
    all_read c.args.text.now c.loop-piece.invariant
    (c.into_iter-piece-iterator.ensures.into_iter_gives ∙ c.games-piece-items.ensures)
    c.in-None.ensures.steps.0
