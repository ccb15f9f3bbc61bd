use Rattle.std.proofs.Common.{sym, ◌∙◌, arith}
use Rattle.pgn_text.proofs.PartsAt.{kept_digits}
use Rattle.pgn_text.proofs.lex.place.number_at.Goals.{else-end-block-via-then-end-block+else-is_in}
use Rattle.pgn_text.proofs.lex.place.number_at.Goals.{else-end-block-via-else-end-block}
use Rattle.pgn_text.proofs.lex.place.number_at.Goals as goal

pub returns : goal.returns
returns c f =
    kept_digits f c.args.block.now c.args.at c.run_end-end.result c.requires (sym c.is_in.ensures
    ∙ c.if-not-is_in.false) c.run_end-end.ensures
    (λ below. elim c.else-end-block.branch [
      | else-end-block-via-then-end-block+else-is_in w ↦ sym w.is_in-then-end-block.ensures
          ∙ w.if-is_in.false
      | else-end-block-via-else-end-block w ↦ absurd (omega (arith, w.if-end-block.false))
    ])
