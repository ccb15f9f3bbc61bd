use Rattle.pgn_game.proofs.Common.{◌∙◌, arith}
use Rattle.pgn_game.proofs.OnBoard.{line_legal}
use Rattle.pgn_game.proofs.RecordWriting.{put_another, put_begins, put_kept, replay_put}
use Rattle.pgn_game.proofs.RecordWriting.{written}
use Rattle.pgn_game.proofs.pack.writing.put_replayed.Goals as goal

pub loop-plies-init : goal.loop-plies-init
loop-plies-init c = record {
  start = c.position.result.now;
  first = c.position.ensures;
  here = c.position.result.now;
  there = c.position.ensures;
  put = put_begins c.position.result.now (Unit {0}) c.put_fields.new.out.items;
}

pub loop-plies-preserved : goal.loop-plies-preserved
loop-plies-preserved c =
    let marks = c.of-marks-in-loop-plies.result in
    put_another c.args.replayed.now c.loop-plies.plies c.plies-count.result
    c.position-in-loop-plies-2.result.now c.position-in-loop-plies.result.now c.played-m.result
    marks.check marks.stuck c.put_fields.new.out.items c.loop-plies.out.items c.coded_move.result
    c.extend_from_slice.new.self.items c.requires c.plies-count.ensures.count
    c.loop-plies.invariant c.played-m.ensures c.position-in-loop-plies-2.ensures
    c.position-in-loop-plies.ensures c.of-marks-in-loop-plies.ensures c.coded_move.ensures
    c.in_ok-extend_from_slice.ensures.items

pub coded_move-requires : goal.coded_move-requires
coded_move-requires c =
    let replay = c.args.replayed.now in
    let line = c.requires in
    (line_legal line.1 line.0 replay.positions replay.played line.2 c.loop-plies.plies
    c.position-in-loop-plies-2.result.now c.played-m.result c.position-in-loop-plies-2.ensures
    c.played-m.ensures).pseudo_legal

pub returns-clause-record : goal.returns-clause-record
returns-clause-record c =
    let marks = c.of-marks.result in
    let start = c.position.result.now in
    written c.args.origin.now c.args.game.now c.args.replayed.now start c.plies-count.result
    marks.check marks.stuck c.args.out.now.items c.put_fields.new.out.items c.loop-plies.out.items
    c.requires c.plies-count.ensures.count c.position.ensures c.of-marks.ensures
    c.in_ok-put_fields.ensures.fields
    (replay_put c.args.replayed.now c.loop-plies.plies start c.put_fields.new.out.items
    c.loop-plies.out.items (omega (arith, c.plies-count.ensures.count)) c.position.ensures
    c.loop-plies.invariant)

pub returns-in_err-extend_from_slice-clause-kept : goal.returns-in_err-extend_from_slice-clause-kept
returns-in_err-extend_from_slice-clause-kept c =
    let kept = put_kept c.args.out.now.items c.loop-plies.invariant.put c.put_fields.ensures.kept in
    (kept.0, c.in_err-extend_from_slice.ensures.items ∙ kept.1)
