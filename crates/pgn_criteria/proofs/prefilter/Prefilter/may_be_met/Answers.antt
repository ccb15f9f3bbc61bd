use Rattle.pgn_criteria.proofs.StandFacts.{none_taken}
use Rattle.pgn_criteria.proofs.prefilter.Prefilter.may_be_met.Goals as goal

pub returns : goal.returns
returns g c = λ none fits.
    let men = g.S.Seen.men c.args.position.now in
    let yes = c.is_met.ensures c.args.self.now.man men c.squares_with-squares.ensures
    (none_taken men c.new.result c.new.ensures) fits in
    absurd (cc (yes, none))
