use Rattle.pgn_game.proofs.Common.{sym, ◌∙◌, arith, false≢true}
use Rattle.pgn_game.proofs.CodeLineFacts.{replayed_none, replayed_on, replayed_all, no_line}
use Rattle.pgn_game.proofs.CodeLineFacts.{no_part}
use Rattle.pgn_game.proofs.pack.replaying.replay_codes.Goals as goal

pub returns-then-plies-ne0 : goal.returns-then-plies-ne0
returns-then-plies-ne0 c is =
    no_part c.args.start c.args.plies.now (λ n size.
    absurd (omega (arith, size, c.if-plies-ne0.true)))

pub loop-ply-init : goal.loop-ply-init
loop-ply-init c =
    rw (
      c.in_ok-line.ensures.before,
      c.in_ok-line.ensures.played,
    ) (replayed_none c.args.start c.args.plies.now)

pub returns-then-not-is_legal : goal.returns-then-not-is_legal
returns-then-not-is_legal c is =
    no_line c.loop-ply.invariant c.told_move-m.result c.told_move-m.ensures (λ legal.
    false≢true (sym c.if-not-is_legal.true ∙ c.is_legal.ensures.1 legal))
    (omega (arith, c.loop-ply-test.true))

pub loop-ply-preserved : goal.loop-ply-preserved
loop-ply-preserved c =
    rw (c.in_ok-keep.ensures.before, c.in_ok-keep.ensures.played, c.play-next.ensures.position)
    (replayed_on c.loop-ply.invariant c.told_move-m.result c.told_move-m.ensures
    (c.is_legal.ensures.0 c.if-not-is_legal.false) (omega (arith, c.loop-ply-test.true)))

pub replayed-requires : goal.replayed-requires
replayed-requires c = c.loop-ply.invariant.size ∙ sym c.loop-ply.invariant.count

pub returns : goal.returns
returns c =
    rw (c.in_ok-replayed.ensures)
    (replayed_all c.loop-ply.invariant (omega (arith, c.loop-ply-test.false, c.if-plies-ne0.false)))
