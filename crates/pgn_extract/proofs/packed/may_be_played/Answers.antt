use Rattle.pgn_extract.proofs.Common.{List, Option, subst, heading_of, Conditions, IsMet}
use Rattle.pgn_extract.proofs.packed.WalkedLines.{played_by}
use Rattle.pgn_extract.proofs.packed.may_be_played.Goals as goal

pub returns-in-Err-clause-err : goal.returns-in-Err-clause-err
returns-in-Err-clause-err c is = c.in-Err.ensures.err is

pub returns-clause-none : goal.returns-clause-none
returns-clause-none c none game replay packed own n within entry =
    let there = c.in_default.ensures.ok game replay packed own in
    let met = subst (λ (o : Option (List Conditions)). IsMet o (heading_of game) replay n)
    c.requires.criteria entry.0.2 in
    c.may_meet_packed.ensures none game replay packed own.kept own.fits own.shows there.0 there.2
    (played_by own there.0 there.1) n met
