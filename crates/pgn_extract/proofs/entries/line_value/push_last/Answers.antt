use Rattle.std.specs.Prelude.{IfSome}
use Rattle.pgn_extract.proofs.Common.{◌-◌, ◌≡◌, [], List, Move, IsLegal, MatchOption}
use Rattle.pgn_extract.proofs.Common.{arith, on_ok_weaker, slice_get, sym, subst}
use Rattle.pgn_game.specs.Public.GameLines.{IsMoveText}
use Rattle.pgn_extract.specs.Private.KeptLines.{line_of}
use Rattle.pgn_extract.proofs.entries.KeptMoves.{legal_of, moved_there}
use Rattle.pgn_extract.proofs.entries.LineValues.{led_to}
use Rattle.pgn_extract.proofs.entries.line_value.push_last.Goals as goal

pub push_played-requires-clause-legal : goal.push_played-requires-clause-legal
push_played-requires-clause-legal c =
    let line = c.args.line.now in
    let P = c.last_position.result.now in
    subst (λ (ms : List Move). IfSome (slice_get ms (line.ply - 1)) (IsLegal P))
    (sym c.deref.ensures.value)
    (legal_of line.start line.played.items (line.ply - 1) P c.requires.legal
    c.last_position.ensures)

pub returns : goal.returns
returns c =
    let line = c.args.line.now in
    let P = c.last_position.result.now in
    on_ok_weaker c.push_played.result
    (λ (value, plain, is, items). (
      value,
      plain,
      led_to c.args.notation (line_of line) (line.ply - 1) line.ply value
          (omega (arith, c.if-line-eq0.false))
          (moved_there c.args.notation line.start line.played.items (line.ply - 1) P value
          c.last_position.ensures (slice_get line.played.items (line.ply - 1))
          (subst (λ (ms : List Move). MatchOption (slice_get ms (line.ply - 1)) (value ≡ [])
          (λ m. IsMoveText c.args.notation P m value)) c.deref.ensures.value is)),
      items,
    ))
    c.push_played.ensures
