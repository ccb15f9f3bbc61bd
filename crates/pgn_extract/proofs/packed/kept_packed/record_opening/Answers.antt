-- The opening of the line that the codes spell is that of the game.
use Rattle.pgn_extract.proofs.packed.KeptPackedFacts.{opening_of}
use Rattle.pgn_extract.proofs.packed.kept_packed.record_opening.Goals as goal

pub returns-in-Ok-clause-ok : goal.returns-in-Ok-clause-ok
returns-in-Ok-clause-ok c =
    opening_of c.args.raw.now c.in-Ok.start c.args.openings.now c.opening_of_codes.result
    c.plies.result.now c.plies.ensures c.in-Ok.ensures.ok c.opening_of_codes.ensures.found
