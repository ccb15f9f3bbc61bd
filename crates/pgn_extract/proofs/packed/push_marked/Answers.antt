use Rattle.pgn_extract.proofs.Common.{refl}
use Rattle.pgn_extract.specs.Private.Packed.{bare_aim}
use Rattle.pgn_extract.proofs.PackedFacts.{lists_none}
use Rattle.pgn_extract.proofs.packed.push_marked.Goals as goal

pub returns-in_default-clause-ok : goal.returns-in_default-clause-ok
returns-in_default-clause-ok c =
    let aim = bare_aim c.args.context.settings.now in
    lists_none aim c.args.context.record.now c.args.text.now.items
    (c.in_default.ensures aim refl c.requires.met)

pub push_found-requires-clause-stands : goal.push_found-requires-clause-stands
push_found-requires-clause-stands c =
    c.in-Some.ensures (bare_aim c.args.context.settings.now) refl c.requires.met

pub push_found-requires-clause-makes : goal.push_found-requires-clause-makes
push_found-requires-clause-makes c game replay packed own = tt

pub returns-in-Err-clause-err : goal.returns-in-Err-clause-err
returns-in-Err-clause-err c is = (refl, c.in-Err.ensures.err is)

pub push_found-requires-clause-shows : goal.push_found-requires-clause-shows
push_found-requires-clause-shows c = (λ is. tt, λ is. tt)
