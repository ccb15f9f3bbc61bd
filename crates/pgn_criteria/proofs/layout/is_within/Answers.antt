use Rattle.chess.specs.declared.board.man.Man.{Man}
use Rattle.pgn_criteria.specs.Private.Layouts.{KindWithin}
use Rattle.pgn_criteria.proofs.layout.is_within.Goals as goal

pub returns : goal.returns
unfolding KindWithin
returns g c =
    let man : Man = record { side = c.args.side; kind = c.args.kind } in (
      λ reports s here. c.is_within.ensures.0 reports s
          ((c.squares_with.ensures s).1 (c.invariant.ensures s man here, here)),
      λ within. c.is_within.ensures.1 (λ s here. within s ((c.squares_with.ensures s).0 here).1),
    )
