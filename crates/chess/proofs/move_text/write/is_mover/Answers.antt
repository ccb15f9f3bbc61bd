use Rattle.chess.proofs.move_text.write.is_mover.Goals as goal

pub returns : goal.returns
returns g c =
    let there = c.squares_of.ensures c.args.m.now.from in
    rw (c.has.ensures, ← c.side.ensures) (
      λ is. (there.0 is).1,
      λ here. there.1 (c.invariant.ensures, here),
    )
