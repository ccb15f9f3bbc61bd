-- A line that ends there is the opening; where none does, what was found stays.
use Rattle.pgn_game.proofs.Common.{◌++◌, ◌∷◌, [], subst}
use Rattle.pgn_game.specs.Public.Openings.{ends_of, IsOpeningOf}
use Rattle.pgn_game.proofs.OpeningFacts.{opening_here, opening_stays}
use Rattle.pgn_game.proofs.openings.Openings.after.Goals as goal

pub returns-in-Some : goal.returns-in-Some
returns-in-Some c = λ seen plies before.
    let ends = ends_of c.args.self.now in
    let P = c.args.position.now in
    subst (λ n. IsOpeningOf ends (seen ++ P ∷ []) (record { ply = n; line = c.in-Some.line })) plies
    (opening_here ends seen P c.in-Some.line c.in-Some.ensures)

pub returns-in-None : goal.returns-in-None
returns-in-None c = λ seen plies before.
    opening_stays (ends_of c.args.self.now) seen c.args.position.now c.args.found c.in-None.ensures
    before
