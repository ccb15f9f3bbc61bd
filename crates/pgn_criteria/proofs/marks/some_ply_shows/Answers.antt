use Rattle.std.proofs.Common.{arith, refl}
use Rattle.pgn_criteria.proofs.Common.{LacksMarks}
use Rattle.pgn_criteria.proofs.MarkFacts.{plies_end, plies_on}
use Rattle.pgn_criteria.proofs.StandFacts.{rest_is}
use Rattle.pgn_criteria.proofs.marks.some_ply_shows.Goals as goal

pub loop-rest-init : goal.loop-rest-init
loop-rest-init c = c.after_eights-rest.ensures.lacks

pub loop-rest-preserved : goal.loop-rest-preserved
loop-rest-preserved c = λ later.
    c.loop-rest.invariant
    (plies_on (LacksMarks c.args.check c.args.stuck) c.loop-rest.rest.now _
    c.in-len3-up.len_at_least
    (rest_is c.loop-rest.rest.now _ refl)
    (λ both. let yes = c.shows.ensures.1 both in let no = c.if-shows.false in absurd (cc)) later)

pub returns : goal.returns
returns c =
    λ none. c.loop-rest.invariant
    (plies_end (LacksMarks c.args.check c.args.stuck) c.loop-rest.rest.now
    (omega (arith, c.in_default.len_below)))
