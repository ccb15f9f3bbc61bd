use Rattle.std.proofs.Common.{refl, inl, inr}
use Rattle.pgn_game.proofs.explain.push_named.Goals as goal

pub returns-in_default : goal.returns-in_default
returns-in_default c = inl (refl, c.in_default.ensures)

pub returns : goal.returns
returns c =
    let found = c.in-Some.ensures in
    inr (c.in-Some.m, c.in_ok-push.ensures.items, found.0, found.1, found.2)
