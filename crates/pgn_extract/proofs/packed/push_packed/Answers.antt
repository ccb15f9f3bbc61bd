use Rattle.pgn_extract.proofs.Common.{on_ok_weaker, IfErr-weaker, aim_of, List, Option, refl, subst}
use Rattle.pgn_extract.proofs.Common.{sym}
use Rattle.pgn_game.specs.Public.Openings.{NamedLine}
use Rattle.pgn_extract.specs.Public.Listing.{CountsAs}
use Rattle.pgn_extract.proofs.PackedFacts.{puts_record, leaves_record}
use Rattle.pgn_extract.proofs.packed.Renamed.{counted_so}
use Rattle.pgn_extract.proofs.packed.push_packed.Goals as goal

pub returns-in-Some-clause-ok : goal.returns-in-Some-clause-ok
returns-in-Some-clause-ok c =
    on_ok_weaker c.push_counted.result
    (puts_record (aim_of c.args.settings.now) c.args.record.now c.args.text.now.items
    c.push_counted.new.text.items c.in-List.is) c.push_counted.ensures.ok

pub returns-in-Some-clause-err : goal.returns-in-Some-clause-err
returns-in-Some-clause-err c =
    IfErr-weaker c.push_counted.result _ _ (λ fault so is.
    ((so is).0, leaves_record c.args.record.now (so is).1)) c.push_counted.ensures.err

pub returns-in-None-clause-ok : goal.returns-in-None-clause-ok
returns-in-None-clause-ok c =
    let aim = aim_of c.args.settings.now in
    on_ok_weaker c.push_entries.result (λ lists.
    puts_record aim c.args.record.now c.args.text.now.items c.push_entries.new.text.items
    c.in-List.is
    (counted_so aim c.args.record.now c.args.text.now.items c.push_entries.new.text.items
    (λ game replay packed own.
    subst (λ (o : Option (List NamedLine)). CountsAs o game game) (sym c.in-None.is) refl) lists))
    c.push_entries.ensures.ok

pub returns-in-None-clause-err : goal.returns-in-None-clause-err
returns-in-None-clause-err c =
    IfErr-weaker c.push_entries.result _ _ (λ fault so is.
    ((so is).0, leaves_record c.args.record.now (so is).1)) c.push_entries.ensures.err
