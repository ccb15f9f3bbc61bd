use Rattle.pgn_game.proofs.Common.{sym, subst, ◌∙◌, false≢true, RefusesTurn}
use Rattle.pgn_game.proofs.explain.RefusalSearch.{none_named}
use Rattle.pgn_game.proofs.explain.why_refused.Goals as goal

pub returns-then-is_null_move : goal.returns-then-is_null_move
returns-then-is_null_move c =
    let (plies, fault, refused) = c.requires in (
      sym c.is_null_move.ensures ∙ c.if-is_null_move.true,
      (subst (λ b. RefusesTurn b c.args.position.now plies c.args.word.now fault)
          (sym c.is_null_move.ensures ∙ c.if-is_null_move.true) refused).0,
    )

pub why_unnamed-requires : goal.why_unnamed-requires
why_unnamed-requires c =
    let (plies, fault, refused) = c.requires in
    none_named c.args.position.now plies c.args.word.now fault
    (subst (λ b. RefusesTurn b c.args.position.now plies c.args.word.now fault)
    (sym c.is_null_move.ensures ∙ c.if-is_null_move.false) refused)
    (λ several. false≢true (sym c.if-is_ambiguous.false ∙ c.is_ambiguous.ensures.1 several))

pub returns : goal.returns
returns c =
    let (plies, fault, refused) = c.requires in (
      none_named c.args.position.now plies c.args.word.now fault
          (subst (λ b. RefusesTurn b c.args.position.now plies c.args.word.now fault)
          (sym c.is_null_move.ensures ∙ c.if-is_null_move.false) refused)
          (λ several. false≢true (sym c.if-is_ambiguous.false ∙ c.is_ambiguous.ensures.1 several)),
      c.why_unnamed.ensures,
    )
