use Rattle.pgn_game.proofs.Common.{refl, sym, ap, subst, inl, IfSome_then, err_from_is_err_and}
use Rattle.pgn_game.proofs.Common.{item_of, IsMoveFault, IsStuck}
use Rattle.pgn_game.proofs.WalkFacts.{main_word}
use Rattle.pgn_game.proofs.replays.main_line.MainWalk.step.Goals as goal

pub returns-in_err-m-clause-stepped : goal.returns-in_err-m-clause-stepped
returns-in_err-m-clause-stepped c =
    let walk = c.args.self.now in
    let p = err_from_is_err_and c.from_residual.result c.from_residual.ensures.1 in
    rw (
      p.1,
      p.2,
    ) (subst (λ item. IsStuck walk item c.in_err-m.field-0.0) (sym (ap item_of c.in-Move.is))
    (λ items. IfSome_then _ (c.in_err-m.ensures walk.plies refl)
    (λ fault refused.
    subst (λ words. IsMoveFault walk.position walk.plies words fault)
    (sym (main_word c.in-Move.word.now items walk.depth c.if-self-eq0.true)) (inl refused))))
