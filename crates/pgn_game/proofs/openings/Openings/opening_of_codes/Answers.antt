-- Each code tells a move that is legal, or the bytes are those of no line; and past the positions
-- that are counted no line ends.
use Rattle.pgn_game.proofs.Common.{◌<◌, ◌*◌, ◌+◌, length, arith, sym, ◌∙◌, subst, false≢true, State}
use Rattle.pgn_game.specs.Public.Openings.{ends_of}
use Rattle.pgn_game.proofs.CodeLineFacts.{no_line}
use Rattle.pgn_game.proofs.openings.CodedOpenings.{HasFound, found_none, found_on, found_within}
use Rattle.pgn_game.proofs.openings.PawnLines.{found_up_to}
use Rattle.pgn_game.proofs.openings.Openings.opening_of_codes.Goals as goal

pub returns-then-count-eq0-clause-found : goal.returns-then-count-eq0-clause-found
returns-then-count-eq0-clause-found c moves coded ply line there =
    c.count_with_pawns-count.ensures.none moves coded ply line
    (omega (arith, c.if-count-eq0.true)) there

pub loop-ply-init : goal.loop-ply-init
loop-ply-init c =
    found_none (ends_of c.args.self.now) c.args.start c.args.plies.now c.after-found.result
    c.after-found.ensures

pub returns-then-not-is_legal-clause-found : goal.returns-then-not-is_legal-clause-found
returns-then-not-is_legal-clause-found c moves line =
    let up = c.count_with_pawns-count.ensures.within in
    let within : 3 * c.loop-ply.ply + 2 < length c.args.plies.now =
    omega (arith, up, c.loop-ply-test.true) in
    absurd (no_line c.loop-ply.invariant.2 c.told_move.result c.told_move.ensures (λ legal.
    false≢true (sym c.if-not-is_legal.true ∙ c.is_legal.ensures.1 legal)) within moves line)

pub returns-then-not-is_legal-clause-within : goal.returns-then-not-is_legal-clause-within
returns-then-not-is_legal-clause-within c =
    found_within c.args.self.now c.loop-ply.found c.loop-ply.invariant

pub loop-ply-preserved : goal.loop-ply-preserved
loop-ply-preserved c =
    let ends = ends_of c.args.self.now in
    let up = c.count_with_pawns-count.ensures.within in
    let within : 3 * c.loop-ply.ply + 2 < length c.args.plies.now =
    omega (arith, up, c.loop-ply-test.true) in
    let P = c.play-next.ensures.position in
    subst (λ (here : State). HasFound ends c.args.start c.args.plies.now (c.loop-ply.ply + 1) here
    c.after-found-in-loop-ply.result) (sym P)
    (found_on ends c.loop-ply.found c.after-found-in-loop-ply.result c.told_move.result
    c.loop-ply.invariant c.told_move.ensures (c.is_legal.ensures.0 c.if-not-is_legal.false) within
    (rw (← P) c.after-found-in-loop-ply.ensures))

pub returns-clause-found : goal.returns-clause-found
returns-clause-found c =
    found_up_to (ends_of c.args.self.now) c.loop-ply.found c.count_with_pawns-count.result
    c.loop-ply.invariant (omega (arith, c.loop-ply-test.false))
    c.count_with_pawns-count.ensures.none

pub returns-clause-within : goal.returns-clause-within
returns-clause-within c = found_within c.args.self.now c.loop-ply.found c.loop-ply.invariant
