use Rattle.pgn_game.proofs.Common.{refl}
use Rattle.pgn_game.proofs.turns.starting.given_position.Goals as goal

pub returns : goal.returns
returns c = (
  (
    c.in_ok-text.text.items,
    c.in-Err.field-0,
    c.in_ok-text.ensures,
    rw (← c.as_slice.ensures.value) c.in-Err.ensures.answer,
  ),
  refl,
)
