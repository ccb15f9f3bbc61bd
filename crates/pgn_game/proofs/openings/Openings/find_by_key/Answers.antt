-- Where the sieve has no such key, no line ends; else the map has the first line, if one does.
use Rattle.pgn_game.proofs.Common.{◌∙◌, ap, sym, subst, None}
use Rattle.std.proofs.Common.{map}
use Rattle.pgn_game.specs.Private.Filing.{has_place}
use Rattle.pgn_game.specs.Public.Openings.{ends_of, named_of, IsFirstIn}
use Rattle.pgn_game.proofs.openings.FilingFacts.{key_passed}
use Rattle.pgn_game.proofs.openings.Openings.find_by_key.Goals as goal

pub returns-then-not-has : goal.returns-then-not-has
returns-then-not-has c =
    subst (λ lines. IsFirstIn (ends_of lines) c.args.position.now None) c.self.view_is
    (key_passed (ends_of (map named_of c.self.inside.lines.items)) c.self.inside.pawns
    c.self.inside.keys c.args.position.now c.key-key.result c.invariant.ensures c.key-key.ensures
    c.self.invariant.sieved
    (ap (has_place c.self.inside.keys) (sym c.key_place.ensures.place) ∙ sym c.has.ensures
    ∙ c.if-not-has.true))

pub returns : goal.returns
returns c =
    subst (λ lines. IsFirstIn (ends_of lines) c.args.position.now c.copied.result) c.self.view_is
    (subst (λ o. IsFirstIn (ends_of (map named_of c.self.inside.lines.items))
    c.args.position.now o) (sym (c.copied.ensures ∙ c.get.ensures.value))
    (c.self.invariant.filed c.args.position.now c.key-key.result c.invariant.ensures
    c.key-key.ensures))
