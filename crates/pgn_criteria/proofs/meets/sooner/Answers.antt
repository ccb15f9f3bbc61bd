use Rattle.pgn_criteria.proofs.Common.{◌∷◌, ◌+◌, [], None, Some, unwrap_or, heading_of, Heading}
use Rattle.pgn_criteria.proofs.StageFacts.{next_best, fits_first, no_first}
use Rattle.pgn_criteria.proofs.meets.sooner.Goals as goal

pub returns-then-not-is_of_game : goal.returns-then-not-is_of_game
returns-then-not-is_of_game c before first =
    let heading : Heading = heading_of c.args.game.now in
    next_best heading c.args.replayed.now before (c.args.alternative.now
    ∷ []) c.args.bounds.min c.args.bounds.max c.args.best None first
    (no_first heading c.args.replayed.now c.args.alternative.now c.args.bounds.min
    (unwrap_or c.args.best (c.args.bounds.max + 1)) c.is_of_game.result c.if-not-is_of_game.true
    c.is_of_game.ensures)

pub returns-in-Some : goal.returns-in-Some
returns-in-Some c before first =
    let heading : Heading = heading_of c.args.game.now in
    let own = c.args.alternative.now ∷ [] in
    next_best heading c.args.replayed.now before own c.args.bounds.min c.args.bounds.max c.args.best
    (Some c.in-Some.plies) first
    (rw (← c.unwrap_or-end.ensures) (fits_first heading c.args.replayed.now c.args.alternative.now
    c.args.bounds.min c.unwrap_or-end.result (Some c.in-Some.plies) (c.is_of_game.ensures.0
    c.if-not-is_of_game.false) c.in-Some.ensures))

pub returns-in-None : goal.returns-in-None
returns-in-None c before first =
    let heading : Heading = heading_of c.args.game.now in
    let own = c.args.alternative.now ∷ [] in
    next_best heading c.args.replayed.now before own c.args.bounds.min c.args.bounds.max c.args.best
    None first
    (rw (← c.unwrap_or-end.ensures) (fits_first heading c.args.replayed.now c.args.alternative.now
    c.args.bounds.min c.unwrap_or-end.result None (c.is_of_game.ensures.0 c.if-not-is_of_game.false)
    c.in-None.ensures))
