use Rattle.pgn_criteria.proofs.SetupFacts.{are_same, are_alike}
use Rattle.pgn_criteria.proofs.setup.are_men_alike.Goals as goal

pub returns : goal.returns
returns c =
    let p = c.args.one.now.men in
    let q = c.args.other.now.men in (
      (λ is. are_same p q c.invariant.ensures.on_board c.invariant-2.ensures.on_board
          (c.are_squares_alike.ensures.0 is)),
      (λ same. c.are_squares_alike.ensures.1 (are_alike p q same)),
    )
