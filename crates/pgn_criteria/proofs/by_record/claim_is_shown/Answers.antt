use Rattle.pgn_criteria.proofs.by_record.claim_is_shown.Goals as goal

pub returns-in-Played : goal.returns-in-Played
returns-in-Played c none P replay by ply so =
    let reached = rw c.in-Played.is at so in
    let shown = rw c.deref-in-Played.ensures.value at c.word_is_shown-in-Played.ensures in
    shown none P replay by reached.0 reached.2
