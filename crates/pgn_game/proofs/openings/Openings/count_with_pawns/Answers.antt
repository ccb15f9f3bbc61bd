-- Each ply moves the pawns; where they may change, it is asked again whether a line may end with
-- them.
use Rattle.pgn_game.proofs.Common.{◌≡◌, ◌+◌, true, false, ap, arith, Placement}
use Rattle.pgn_game.specs.Public.Openings.{ends_of}
use Rattle.pgn_game.proofs.openings.PawnLines.{MayEndWith, come_none, come_on, come_all, is_pair}
use Rattle.pgn_game.proofs.openings.PawnLines.{at_most_one}
use Rattle.pgn_game.proofs.openings.Openings.count_with_pawns.Goals.{then-may_change}
use Rattle.pgn_game.proofs.openings.Openings.count_with_pawns.Goals.{else-may_change}
use Rattle.pgn_game.proofs.openings.Openings.count_with_pawns.Goals.{then-may_end, else-may_end}
use Rattle.pgn_game.specs.Public.PlyCodes.{moved}
use Rattle.pgn_game.specs.Private.PawnWalks.{HavePawns, IsPair}
use Rattle.pgn_game.proofs.CodeLineFacts.{code_at}
use Rattle.pgn_game.proofs.openings.Openings.count_with_pawns.Goals as goal
use mir.Val.{bool_byte}

pub loop-ply-init : goal.loop-ply-init
loop-ply-init c =
    let pair = is_pair c.args.start.now c.pawns-pawns.result c.pawns-pawns.ensures in
    record {
      come = come_none (ends_of c.args.self.now) c.args.start.now c.args.plies.now
          c.pawns-pawns.result c.may_end_with-may_end.result
          (bool_byte c.may_end_with-may_end.result) c.pawns-pawns.ensures
          c.may_end_with-may_end.ensures (λ e. ap bool_byte e) (λ e. ap bool_byte e) pair;
      tells = c.may_end_with-may_end.ensures;
      pair = pair;
      within = at_most_one c.may_end_with-may_end.result;
    }

pub loop-ply-preserved : goal.loop-ply-preserved
loop-ply-preserved c =
    let ends = ends_of c.args.self.now in
    let old = c.loop-ply.invariant in
    let new = c.if-may_change.pawns in
    let code = code_at c.args.plies.now c.loop-ply.ply in
    let goes : (men : Placement) → HavePawns men c.loop-ply.pawns → HavePawns (moved men code) new =
    elim c.if-may_change.branch [
      | then-may_change w ↦ rw w.pawns-is w.pawns_after-next.ensures.moved
      | else-may_change w ↦ rw w.pawns-is (c.may_change.ensures w.if-may_change.false)
    ] in
    let pair : IsPair new = elim c.if-may_change.branch [
      | then-may_change w ↦ rw w.pawns-is w.pawns_after-next.ensures.pair
      | else-may_change w ↦ rw w.pawns-is old.pair
    ] in
    let tells : MayEndWith ends new c.if-may_change.may_end = elim c.if-may_change.branch [
      | then-may_change w ↦ rw (
        w.pawns-is,
        w.may_end-is,
      ) w.may_end_with-may_end-then-may_change.ensures
      | else-may_change w ↦ rw (w.pawns-is, w.may_end-is) old.tells
    ] in
    let known : c.if-may_change.may_end ≡ true → c.if-may_end.count ≡ c.loop-ply.ply + 2 =
    λ e. elim c.if-may_end.branch [
      | then-may_end w ↦ w.count-is
      | else-may_end w ↦ let no = w.if-may_end.false in absurd (cc)
    ] in
    let other : c.if-may_change.may_end ≡ false → c.if-may_end.count ≡ c.loop-ply.count =
    λ e. elim c.if-may_end.branch [
      | then-may_end w ↦ let yes = w.if-may_end.true in absurd (cc)
      | else-may_end w ↦ w.count-is
    ] in
    record {
      come = come_on ends c.args.start.now c.args.plies.now c.loop-ply.pawns new c.loop-ply.ply
          c.loop-ply.count c.if-may_end.count c.if-may_change.may_end old.come
          (omega (arith, c.loop-ply-test.true)) pair goes tells known other;
      tells = tells;
      pair = pair;
      within = elim c.if-may_end.branch [
        | then-may_end w ↦ let is = w.count-is in omega arith
        | else-may_end w ↦ let is = w.count-is in omega arith
      ];
    }

pub returns-clause-none : goal.returns-clause-none
returns-clause-none c =
    come_all (ends_of c.args.self.now) c.args.start.now c.args.plies.now c.loop-ply.pawns
    c.loop-ply.ply c.loop-ply.count c.loop-ply.invariant.come c.loop-ply-test.false
