-- The opening that is found is that of the game.
use Rattle.pgn_extract.proofs.Common.{sym, subst, refl, on_ok_weaker, aim_of, Option, List}
use Rattle.pgn_game.specs.Public.Openings.{NamedLine}
use Rattle.pgn_extract.specs.Public.Listing.{CountsAs}
use Rattle.pgn_extract.specs.Public.Rows.{IsOpeningBy}
use Rattle.pgn_extract.specs.Private.Packed.{EachOfRecord}
use Rattle.pgn_game.specs.declared.openings.Opening.{Opening}
use Rattle.pgn_extract.proofs.Common.{Some}
use Rattle.pgn_extract.proofs.packed.Renamed.{counted_so, counts_unnamed}
use Rattle.pgn_extract.proofs.packed.push_counted.Goals as goal

pub push_named-requires-clause-found : goal.push_named-requires-clause-found
push_named-requires-clause-found c =
    subst (λ (found : Option Opening). EachOfRecord c.args.context.record.now
    (λ game replay packed. IsOpeningBy (Some c.args.openings.now) replay.positions found))
    c.in-Ok-Some.field-0-is c.in-Ok-Some.ensures.ok

pub returns-in-Ok-None-clause-ok : goal.returns-in-Ok-None-clause-ok
returns-in-Ok-None-clause-ok c =
    let raw = c.args.context.record.now in
    let lines = c.args.openings.now in
    let none =
    subst (λ (found : Option Opening). EachOfRecord raw
    (λ game replay packed. IsOpeningBy (Some lines) replay.positions found))
    c.in-Ok-None.field-0-is c.in-Ok-None.ensures.ok in
    on_ok_weaker c.push_entries.result
    (counted_so (aim_of c.args.context.settings.now) raw c.args.text.now.items
    c.push_entries.new.text.items (λ game replay packed own.
    subst (λ (o : Option (List NamedLine)). CountsAs o game game) (sym c.requires.openings)
    (counts_unnamed lines own (none game replay packed own)))) c.push_entries.ensures.ok

pub returns-in-Err-clause-err : goal.returns-in-Err-clause-err
returns-in-Err-clause-err c is = (refl, c.in-Err.ensures.err is)
