use Rattle.std.proofs.lemmas.Option.{IfSome_then}
use Rattle.pgn_extract.proofs.Common.{◌<◌, arith, length, heading_of, EachOfRecord}
use Rattle.pgn_criteria.specs.Public.Meeting.{AreMet}
use Rattle.pgn_extract.proofs.packed.WalkedLines.{played_by}
use Rattle.pgn_extract.proofs.packed.met_by_codes.Goals as goal

pub returns-clause-some : goal.returns-clause-some
returns-clause-some c =
    IfSome_then c.in_ok-told.told {Q = λ met. 0 < length met.items} c.in_ok-told.ensures.each
    (λ met size. omega (arith, size))

pub returns-clause-met : goal.returns-clause-met
returns-clause-met c =
    IfSome_then c.in_ok-told.told
    {Q = λ met. EachOfRecord c.args.context.record.now (λ game replay packed.
    AreMet (heading_of game) replay c.args.criteria.now met.items)} c.in_ok-told.ensures.met
    (λ met are game replay packed own.
    let there = c.in_default.ensures.ok game replay packed own in
    are game replay packed own.kept own.fits own.shows there.0 there.2
    (played_by own there.0 there.1))
