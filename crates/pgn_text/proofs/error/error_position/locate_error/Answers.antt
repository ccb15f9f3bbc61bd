use Rattle.pgn_text.proofs.Common.{◌≡◌, ◌+◌, ◌-◌, ◌≤◌, length, length-drop}
use Rattle.pgn_text.proofs.Common.{arith, depth_limit, state_of}
use Rattle.pgn_text.proofs.error.StopContexts.{stands_within}
use Rattle.pgn_text.proofs.error.StopWalk.{walk_stops}
use Rattle.pgn_text.proofs.error.error_position.locate_error.Goals as goal

pub returns-in-Stuck-clause-place : goal.returns-in-Stuck-clause-place
returns-in-Stuck-clause-place c =
    walk_stops depth_limit c.args.file_start c.args.block.now c.args.begin c.in-Stuck.at
    c.part_stop.result (state_of c.in-Stuck.progress)
    c.in-Stuck.ensures.0 c.in-Stuck.ensures.1 c.part_stop.ensures

pub returns-in-Stuck-clause-within : goal.returns-in-Stuck-clause-within
returns-in-Stuck-clause-within c =
    let low : c.in-Stuck.at + c.part_stop.result ≤ length c.args.block.now =
    omega (
      arith,
      c.part_stop.ensures.within,
      c.in-Stuck.ensures.0.within,
      length-drop c.in-Stuck.at c.args.block.now,
    ) in
    let same : c.part_stop.result ≡ c.in-Stuck.at + c.part_stop.result - c.in-Stuck.at =
    omega arith in
    let here =
    rw same at c.part_stop.ensures.here in
    stands_within depth_limit c.args.file_start c.args.block.now c.args.begin c.in-Stuck.at
    (c.in-Stuck.at + c.part_stop.result)
    (state_of c.in-Stuck.progress) c.front_within.result c.in-Stuck.ensures.0 c.in-Stuck.ensures.1
    here (omega arith) low c.front_within.ensures
