use Rattle.pgn_extract.proofs.Common.{refl}
use Rattle.pgn_extract.specs.Private.Packed.{bare_aim}
use Rattle.pgn_extract.proofs.packed.TurnedLines.{turns_record}
use Rattle.pgn_extract.proofs.packed.push_asked.Goals as goal

pub push_found-requires-clause-stands : goal.push_found-requires-clause-stands
push_found-requires-clause-stands c =
    turns_record c.args.context.record.now (bare_aim c.args.context.settings.now)
    c.in-Ok.start _ refl c.in-Ok.ensures.ok c.requires.asks refl refl refl c.plies-left.ensures
    c.in_ok-next.ensures.ok

pub push_found-requires-clause-makes : goal.push_found-requires-clause-makes
push_found-requires-clause-makes c game replay packed own = tt

pub push_found-requires-clause-shows : goal.push_found-requires-clause-shows
push_found-requires-clause-shows c = (λ is. tt, λ is. tt)
