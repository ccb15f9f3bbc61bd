use Rattle.pgn_text.proofs.Common.{◌≡◌, false, true, refl, is_digit}
use Rattle.pgn_text.proofs.error.FrontLengths.{run_front}
use Rattle.pgn_text.proofs.error.Stuck.{move_most, word_most, word_longest}
use Rattle.pgn_text.proofs.error.error_position.word_stop.Goals as goal

pub returns-then-not-closed : goal.returns-then-not-closed
returns-then-not-closed c =
    let moves : c.max-moves.result ≡ move_most c.args.text.now =
    rw (
      c.max-moves.ensures,
      c.max-numbers.ensures,
      c.max-castling.ensures,
      c.run.ensures.front,
      c.common.ensures,
      c.castling_stop.ensures,
      c.castling_stop-2.ensures,
      ← (run_front is_digit c.args.text.now),
    ) refl in
    rw (c.if-not-closed.true, moves) (word_longest false c.args.text.now)

pub returns : goal.returns
returns c =
    let all : c.max-2.result ≡ word_most true c.args.text.now =
    rw (
      c.max-2.ensures,
      c.max-moves.ensures,
      c.max-numbers.ensures,
      c.max-castling.ensures,
      c.run.ensures.front,
      c.common.ensures,
      c.castling_stop.ensures,
      c.castling_stop-2.ensures,
      ← (run_front is_digit c.args.text.now),
      c.max.ensures,
      c.max-wins.ensures,
      c.common-2.ensures,
      c.common-3.ensures,
      c.common-4.ensures,
    ) refl in
    rw (c.if-not-closed.false, all) (word_longest true c.args.text.now)
