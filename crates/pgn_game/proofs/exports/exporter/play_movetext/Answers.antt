-- The movetext is played from the start of the game.
use Rattle.pgn_game.proofs.Common.{◌++◌, ap, sym, subst, ◌∙◌, inr, IfSome_then, fault_of}
use Rattle.pgn_game.proofs.Common.{err_from_is_err_and}
use Rattle.pgn_game.specs.Public.Exports.{IsMovetext}
use Rattle.pgn_game.proofs.exports.exporter.play_movetext.Goals as goal

pub returns-in_err-put_movetext-clause-fault : goal.returns-in_err-put_movetext-clause-fault
returns-in_err-put_movetext-clause-fault c =
    let given = c.from_residual-in_err-put_movetext in
    let p = err_from_is_err_and given.result given.ensures.1 in
    let is_start = rw c.tags.ensures.tags at c.in_ok-start.ensures in
    rw (p.1, p.2) (IfSome_then (fault_of c.in_err-put_movetext.field-0.0)
    c.in_err-put_movetext.ensures.fault (λ f has. inr (c.in_ok-start.start, is_start, has)))

pub returns-clause-text : goal.returns-clause-text
returns-clause-text c =
    let is_start = rw c.tags.ensures.tags at c.in_ok-start.ensures in
    let (movetext, is, put) = c.in_ok-put_movetext.ensures.text in (
      c.in_ok-start.start,
      is_start,
      subst (IsMovetext c.args.style.now c.in_ok-start.start c.args.game.now)
          (sym (put ∙ ap (λ xs. xs ++ movetext) c.in_ok-movetext.ensures.items)) is,
    )
