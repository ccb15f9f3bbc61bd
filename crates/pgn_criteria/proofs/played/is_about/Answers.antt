use Rattle.pgn_criteria.proofs.MeetFacts.{reports_taken}
use Rattle.pgn_criteria.proofs.SetupFacts.{set_up_at}
use Rattle.pgn_criteria.proofs.TurnAbout.{last_like, next_like}
use Rattle.pgn_criteria.proofs.played.is_about.Goals as goal

pub returns-in-Setup : goal.returns-in-Setup
returns-in-Setup c replay ply about =
    rw (c.in-Here.is, c.in-Setup.is)
    (reports_taken c.args.condition.now.is_denied c.is_alike.result
    (set_up_at replay ply c.in-Setup.setup c.args.position.now c.is_alike.result
    (rw c.in-Here.is at about) c.is_alike.ensures))

pub returns-in-Next-claim : goal.returns-in-Next-claim
returns-in-Next-claim c replay ply about =
    let next = rw c.in-Next.is at about in
    rw (c.in-Next.is, c.in-Next-claim.is)
    (reports_taken c.args.condition.now.is_denied c.is_some_like.result
    (next_like replay ply c.in-Next-claim.word.items c.args.position.now c.args.m.now
    c.is_some_like.result next.0 next.1 (rw c.deref.ensures.value at c.is_some_like.ensures)))

pub returns-in-Played : goal.returns-in-Played
returns-in-Played c replay ply about =
    rw (c.in-Last.is, c.in-Played.is)
    (reports_taken c.args.condition.now.is_denied c.is_some_like-in-Played.result
    (last_like replay ply c.in-Played.word.items c.args.position.now c.args.m.now
    c.is_some_like-in-Played.result (rw c.in-Last.is at about)
    (rw c.deref-in-Played.ensures.value at c.is_some_like-in-Played.ensures)))
