use Rattle.chess.proofs.LoopFacts.{fewer}
use Rattle.chess.proofs.PlaceFacts.{true_not_false}
use Rattle.chess.proofs.board.AttackerFacts.{searched_start, searched_more, searched_none}
use Rattle.chess.proofs.board.AttackerFacts.{attackers_are}
use Rattle.chess.proofs.board.AttackerFacts.{one_open, one_blocked}
use Rattle.chess.proofs.board.attack_tables.attackers_of.Goals as goal

pub returns-then-is_unblocked : goal.returns-then-is_unblocked
returns-then-is_unblocked c p men =
    let only =
    rw c.in-Some.is at c.only.ensures in
    attackers_are p c.args.man c.args.target c.args.own c.pseudo_attacks_on.result c.args.occupied
    c.of_bitboard-left.result c.pseudo_attacks_on.ensures
    (one_open c.args.target _ c.args.occupied c.of_bitboard-left.result c.in-Some.square
    c.of_bitboard-left.ensures only (c.is_unblocked.ensures.0 c.if-is_unblocked.true)) men

pub returns-in-Some : goal.returns-in-Some
returns-in-Some c p men =
    let only =
    rw c.in-Some.is at c.only.ensures in
    attackers_are p c.args.man c.args.target c.args.own c.pseudo_attacks_on.result c.args.occupied
    c.new.result c.pseudo_attacks_on.ensures
    (one_blocked c.args.target _ c.args.occupied c.of_bitboard-left.result c.new.result
    c.in-Some.square
    c.of_bitboard-left.ensures only c.new.ensures
    (λ clear_way. true_not_false _ (c.is_unblocked.ensures.1 clear_way) c.if-is_unblocked.false))
    men

pub loop-square-init : goal.loop-square-init
loop-square-init c =
    searched_start c.args.target _ c.args.occupied c.of_bitboard-left.result c.new-set.result
    c.of_bitboard-left.ensures c.new-set.ensures

pub loop-square-preserved : goal.loop-square-preserved
loop-square-preserved c =
    searched_more c.args.target _ c.args.occupied c.loop-square.left c.take_first.new.self
    c.loop-square.set c.insert_if.new.self
    c.in-Some-take_first.square c.is_unblocked-in-Some-take_first.result c.loop-square.invariant
    (rw c.in-Some-take_first.is at c.take_first.ensures)
    c.is_unblocked-in-Some-take_first.ensures c.insert_if.ensures

pub returns : goal.returns
returns c p men =
    attackers_are p c.args.man c.args.target c.args.own c.pseudo_attacks_on.result c.args.occupied
    c.loop-square.set c.pseudo_attacks_on.ensures
    (searched_none c.args.target _ c.args.occupied c.loop-square.left c.take_first.new.self
    c.loop-square.set c.loop-square.invariant
    (rw c.in_default-take_first.is at c.take_first.ensures)) men

pub loop-square-smaller : goal.loop-square-smaller
loop-square-smaller c =
    fewer c.loop-square.left c.take_first.new.self c.in-Some-take_first.square
    (rw c.in-Some-take_first.is at c.take_first.ensures)
