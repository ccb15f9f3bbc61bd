use Rattle.pgn_criteria.proofs.Common.{slice_get}
use Rattle.pgn_criteria.proofs.MeetFacts.{reports_taken}
use Rattle.pgn_criteria.proofs.TurnAbout.{last_like, next_like}
use Rattle.pgn_criteria.proofs.walked.told_about.Goals as goal

pub returns-in_ok-told_some_like-in-Next-claim : goal.returns-in_ok-told_some_like-in-Next-claim
returns-in_ok-told_some_like-in-Next-claim c P moves replay ply sight legal are about =
    let is = c.in_ok-told_some_like-in-Next-claim.field-0 in
    let next = rw c.in-Next.is at about in
    rw (c.in-Next.is, c.in-Next-claim.is)
    (reports_taken c.args.condition.now.is_denied is
    (next_like replay ply c.in-Next-claim.word.items P (slice_get moves 0) is next.0 next.1
    (rw c.deref.ensures.value at
    (c.in_ok-told_some_like-in-Next-claim.ensures P moves sight legal are))))

pub returns-in_ok-told_some_like-in-Played : goal.returns-in_ok-told_some_like-in-Played
returns-in_ok-told_some_like-in-Played c P moves replay ply sight legal are about =
    let is = c.in_ok-told_some_like-in-Played.field-0 in
    rw (c.in-Last.is, c.in-Played.is)
    (reports_taken c.args.condition.now.is_denied is
    (last_like replay ply c.in-Played.word.items P (slice_get moves 0) is
    (rw c.in-Last.is at about)
    (rw c.deref-in-Played.ensures.value at
    (c.in_ok-told_some_like-in-Played.ensures P moves sight legal are))))
