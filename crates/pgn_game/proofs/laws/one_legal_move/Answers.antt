use Rattle.std.specs.Prelude.{Some}
use Rattle.pgn_game.proofs.Common.{◌≡◌, ◌+◌, suc, subst, arith, slice_get, after, main_words}
use Rattle.pgn_game.proofs.OneReplay.{move_at}
use Rattle.pgn_game.proofs.laws.one_legal_move.Goals as goal

pub returns : goal.returns
returns c = λ lines fen items replay is i m at.
    let there = move_at is.start (main_words items 0) replay.positions replay.played is.line i m at
    in
    let next : suc i ≡ i + 1 = omega arith in (
      there.0,
      there.1,
      there.2,
      there.3,
      there.4,
      subst (λ n. slice_get replay.positions n ≡ Some (after there.1 m)) next there.5,
    )
