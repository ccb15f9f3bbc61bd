use Rattle.pgn_game.proofs.Common.{refl, ◌∙◌, err_from_is_err_and}
use Rattle.pgn_game.proofs.exports.game_line.push_san.Goals as goal

pub returns-in_err-play_named_san-clause-fault : goal.returns-in_err-play_named_san-clause-fault
returns-in_err-play_named_san-clause-fault c =
    let p = err_from_is_err_and c.from_residual.result c.from_residual.ensures.1 in
    rw (p.1, p.2) (c.in_err-play_named_san.ensures c.args.walk.now.plies refl)

pub returns-clause-text : goal.returns-clause-text
returns-clause-text c =
    let (named, position, spells) = c.in_ok-play_named_san.ensures in record {
      m = c.in_ok-play_named_san.field-0;
      own = c.as_bytes.result.now;
      named = named;
      spells = rw (c.as_bytes.ensures.value ∙ c.deref.ensures.0) spells;
      position = position;
      plies = refl;
      depth = refl;
      put = c.in_ok-push_text.ensures.text;
    }
