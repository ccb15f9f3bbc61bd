use Rattle.pgn_extract.proofs.Common.{subst, IsRecordOf, fault_of, Main}
use Rattle.pgn_extract.proofs.engine.AllTaken.{put_or_left, stops_left}
use Rattle.pgn_extract.proofs.engine.exporting.push_game_record.Goals as goal

pub returns : goal.returns
returns c =
    let id = c.args.context.own in
    let game = c.args.game.now in
    let put = c.push_record.ensures in
    put_or_left c.push_record.result put.record put.record put.fault put.left
    (λ own _. (
      own.0,
      subst (λ name. IsRecordOf name id.number id.offset game own.0) c.shown_name.ensures own.1,
      own.3,
    ))
    (λ fault fails left.
    stops_left Main game c.args.text.now.items c.push_record.new.out.items (fault_of fault) fails
    left)
