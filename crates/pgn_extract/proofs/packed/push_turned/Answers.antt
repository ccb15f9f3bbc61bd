use Rattle.pgn_extract.proofs.Common.{◌++◌, ◌∙◌, ap, subst, heading_of}
use Rattle.pgn_extract.specs.Private.Packed.{ListsRecord, bare_aim}
use Rattle.pgn_extract.proofs.PackedFacts.{moves_counted}
use Rattle.pgn_extract.proofs.Picks.{same_met}
use Rattle.pgn_extract.proofs.packed.TurnedLines.{lists_added}
use Rattle.pgn_extract.proofs.packed.push_turned.Goals as goal

pub push_asked-requires : goal.push_asked-requires
push_asked-requires c = record {
  asks = λ game replay packed own other is ply within.
      same_met (heading_of game) other c.args.context.settings.now.criteria c.args.criteria.now
      c.in-Some.search ply c.requires.criteria
      ((rw c.in-Some.is at c.in_ok-search.ensures) game replay packed own.kept own.fits own.shows
      other (moves_counted own other is) ply);
}

pub returns-in-Ok-clause-seen : goal.returns-in-Ok-clause-seen
returns-in-Ok-clause-seen c is =
    let aim = bare_aim c.args.context.settings.now in
    let raw = c.args.context.record.now in
    let old = c.args.text.now.items in
    let found = c.push_asked.new.text.items in
    lists_added aim raw old found c.extend_from_slice.new.self.items
    (c.in_ok-extend_from_slice-in-Ok.ensures.items ∙ ap (λ t. old ++ t) c.deref.ensures.value)
    (subst (λ bytes. ListsRecord aim raw bytes found) c.new-found.ensures.items c.in-Ok.ensures)
