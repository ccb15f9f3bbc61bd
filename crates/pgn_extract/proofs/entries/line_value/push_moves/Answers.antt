use Rattle.pgn_extract.proofs.Common.{List, sym, subst, Move, on_ok_weaker}
use Rattle.pgn_game.specs.Public.CodeLines.{AreLegalMoves}
use Rattle.pgn_game.specs.declared.exports.notation.Notation.{Notation}
use Rattle.pgn_game.specs.declared.exports.notation.Notation.TheVariants.{San, Uci}
use Rattle.pgn_extract.specs.Private.KeptLines.{line_of, replay_of}
use Rattle.pgn_extract.specs.Public.Rows.{AreMovesCell}
use Rattle.pgn_extract.proofs.entries.line_value.push_moves.Goals as goal

pub push_squares-requires : goal.push_squares-requires
push_squares-requires c = (
  c.args.line.now.start,
  subst (AreLegalMoves c.args.line.now.start) (sym c.deref-in-Uci.ensures.value) c.requires,
)

pub returns-in-San : goal.returns-in-San
returns-in-San c =
    let line = c.args.line.now in
    on_ok_weaker c.push_sans.result
    (λ (value, plain, is, items). (
      value,
      plain,
      subst (λ (k : Notation). AreMovesCell k (line_of line) value) (sym c.in-San.is)
          (subst (λ (ms : List Move). AreMovesCell San (replay_of line.start ms) value)
          c.deref.ensures.value is),
      items,
    ))
    c.push_sans.ensures

pub returns-in-Uci : goal.returns-in-Uci
returns-in-Uci c =
    let line = c.args.line.now in
    on_ok_weaker c.push_squares.result
    (λ (value, plain, is, items). (
      value,
      plain,
      subst (λ (k : Notation). AreMovesCell k (line_of line) value) (sym c.in-Uci.is)
          (subst (λ (ms : List Move). AreMovesCell Uci (replay_of line.start ms) value)
          c.deref-in-Uci.ensures.value
          (is line.start (subst (AreLegalMoves line.start) (sym c.deref-in-Uci.ensures.value)
          c.requires))),
      items,
    ))
    c.push_squares.ensures
