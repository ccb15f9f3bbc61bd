-- Both bits of the place are set, and every bit stays.
use Rattle.pgn_game.proofs.Common.{and_parts}
use Rattle.std.proofs.Common.{◌^◌, ◌/◌, ◌%◌}
use Rattle.std.proofs.lemmas.Bool.{and_from}
use Rattle.pgn_game.specs.Private.Filing.{is_set}
use Rattle.pgn_game.proofs.openings.sieve.Sieve.put.Goals as goal

pub returns-clause-here : goal.returns-clause-here
returns-clause-here c =
    let words = c.set-2.new.self in
    and_from (is_set words (c.args.place % 2 ^ 16)) (is_set words (c.args.place / 2 ^ 16))
    (c.set-2.ensures.kept (c.args.place % 2 ^ 16) c.set.ensures.here) c.set-2.ensures.here

pub returns-clause-kept : goal.returns-clause-kept
returns-clause-kept c other there =
    let old = c.args.self.now in
    let new = c.set-2.new.self in
    let low = other % 2 ^ 16 in
    let high = other / 2 ^ 16 in
    let both = and_parts (is_set old low) (is_set old high) there in
    and_from (is_set new low) (is_set new high)
    (c.set-2.ensures.kept low (c.set.ensures.kept low both.0))
    (c.set-2.ensures.kept high (c.set.ensures.kept high both.1))
