use Rattle.pgn_criteria.proofs.SetupFacts.{men_alike, kinds_alike, each_kind}
use Rattle.pgn_criteria.specs.Private.MenAlike.{KindAlike}
use Rattle.chess.specs.declared.board.man.Kind.TheVariants.{King}
use Rattle.pgn_criteria.proofs.setup.are_squares_alike.Goals as goal

pub returns : goal.returns
returns c =
    let p = c.args.one.now.men in
    let q = c.args.other.now.men in (
      (λ t. men_alike p q
          (each_kind (KindAlike p q) (c.is_kind_alike.ensures.0 c.if-not-is_kind_alike.false)
          (c.is_kind_alike-2.ensures.0 c.if-not-is_kind_alike-2.false)
          (c.is_kind_alike-3.ensures.0 c.if-not-is_kind_alike-3.false)
          (c.is_kind_alike-4.ensures.0 c.if-not-is_kind_alike-4.false)
          (c.is_kind_alike-5.ensures.0 c.if-not-is_kind_alike-5.false)
          (c.is_kind_alike-6.ensures.0 t))),
      (λ alike. c.is_kind_alike-6.ensures.1 (kinds_alike p q alike King)),
    )
