-- The head of the game keeps what it had, and the elements are those that are given.
use Rattle.pgn_text.proofs.Common.{ap, ◌∙◌, map}
use Rattle.pgn_text.specs.Public.Elements.{item_of}
use Rattle.pgn_text.specs.Public.GameTexts.{GameText}
use Rattle.pgn_text.proofs.game.RawGame.with_elements.Goals as goal

pub invariant_of-own : goal.invariant_of-own
invariant_of-own c = record {
  ordered = c.own.invariant.ordered;
  strings = c.own.invariant.strings;
  names = c.own.invariant.names;
  paired = c.requires;
  ends = c.own.invariant.ends;
}

pub returns : goal.returns
returns c = let is = c.own.view_is ∙ c.in_ok-own.ensures in λ i. record {
  at = ap (λ (game : GameText). game.at) is i;
  text = ap (λ (game : GameText). game.text) is i;
  tags = ap (λ (game : GameText). game.tags) is i;
  elements = map item_of c.args.elements.items;
  result = ap (λ (game : GameText). game.result) is i;
}
