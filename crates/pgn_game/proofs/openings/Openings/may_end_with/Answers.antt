-- Where the sieve has no such pawns, no line ends.
use Rattle.pgn_game.proofs.Common.{◌∙◌, ap, sym, subst, None}
use Rattle.std.proofs.Common.{map}
use Rattle.pgn_game.specs.Private.Filing.{has_place}
use Rattle.pgn_game.specs.Public.Openings.{ends_of, named_of, IsFirstIn}
use Rattle.pgn_game.proofs.openings.FilingFacts.{pawns_passed}
use Rattle.pgn_game.proofs.openings.Openings.may_end_with.Goals as goal

pub returns : goal.returns
returns c none P are =
    subst (λ lines. IsFirstIn (ends_of lines) P None) c.self.view_is
    (pawns_passed (ends_of (map named_of c.self.inside.lines.items)) c.self.inside.pawns
    c.self.inside.keys P c.args.pawns are c.self.invariant.sieved
    (ap (has_place c.self.inside.pawns) (sym c.pawns_place.ensures.place) ∙ sym c.has.ensures
    ∙ none))
