use Rattle.pgn_extract.proofs.Common.{◌↔◌, [], false≢true, IsTrue, List, Option}
use Rattle.pgn_extract.proofs.Common.{refl, sym, subst}
use Rattle.pgn_extract.proofs.Common.{Conditions, IsMet, heading_of, record_aim}
use Rattle.pgn_extract.specs.Private.Packed.{bare_aim}
use Rattle.pgn_extract.proofs.Finds.{none_yet}
use Rattle.pgn_extract.proofs.entries.KeptLines.{begins_kept}
use Rattle.pgn_extract.proofs.packed.push_told.Goals as goal

pub invariant_of-line : goal.invariant_of-line
invariant_of-line c = record { within = rw c.in-Some.is at c.in-Ok.ensures.some }

pub push_found-requires-clause-stands : goal.push_found-requires-clause-stands
push_found-requires-clause-stands c game replay packed own =
    let aim = record_aim (bare_aim c.args.context.settings.now) c.args.context.record.now in
    let met = (rw c.in-Some.is at c.in-Ok.ensures.met) game replay packed own in
    let at = begins_kept game replay own.is_replay c.in-Some.met.items aim met.each
    (λ n r here. subst (λ (o : Option (List Conditions)). IsTrue r ↔ IsMet o (heading_of game)
    replay n) (sym c.requires.criteria) (met.reports n r here)) in
    ([], at.0, (replay, at.1), none_yet aim game)

pub push_found-requires-clause-makes : goal.push_found-requires-clause-makes
push_found-requires-clause-makes c game replay packed own = tt

pub push_found-requires-clause-shows : goal.push_found-requires-clause-shows
push_found-requires-clause-shows c =
    (λ is. absurd (false≢true is), λ is. absurd (false≢true is))

pub returns-in-Err-clause-err : goal.returns-in-Err-clause-err
returns-in-Err-clause-err c is = (refl, c.in-Err.ensures.err is)
