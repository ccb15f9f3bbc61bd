use Rattle.pgn_game.proofs.Common.{◌∙◌}
use Rattle.pgn_game.proofs.exports.game_line.push_turn_san.Goals as goal

pub returns-clause-text : goal.returns-clause-text
returns-clause-text c =
    let (says, position, spells) = c.in_ok-play_turn_san.ensures in record {
      turn = c.in_ok-play_turn_san.field-0;
      own = c.as_bytes.result.now;
      says = says;
      spells = rw (c.as_bytes.ensures.value ∙ c.deref.ensures.0) spells;
      position = position;
      put = c.in_ok-push_text.ensures.text;
    }
