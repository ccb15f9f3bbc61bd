-- The first elements are those of the game, after none.
use Rattle.std.proofs.lemmas.List.{map-append}
use Rattle.std.specs.List.{take-map}
use Rattle.pgn_text.proofs.Common.{◌≡◌, ◌++◌, ap, ◌∙◌, sym, subst, map, take}
use Rattle.pgn_text.specs.Public.Elements.{item_of}
use Rattle.pgn_text.specs.Public.GameTexts.{GameText, IsPaired}
use Rattle.pgn_text.proofs.game.RawGame.beginning.Goals as goal

elements : (c : goal.In_ok-extend_from_slice) → map item_of c.extend_from_slice.new.self.items
    ≡ take c.args.count c.args.self.now.elements
elements c =
    let some = c.deref.result.now in
    ap (map item_of) c.in_ok-extend_from_slice.ensures.items
    ∙ map-append item_of c.own.inside.elements.items (take c.args.count some)
    ∙ ap (λ own. own ++ map item_of (take c.args.count some))
    (ap (λ (game : GameText). game.elements) (c.own.view_is ∙ c.in_ok-own.ensures))
    ∙ sym (take-map item_of c.args.count some)
    ∙ ap (λ items. take c.args.count (map item_of items)) c.deref.ensures.value
    ∙ ap (λ (game : GameText). take c.args.count game.elements) c.self.view_is

pub invariant_of-own : goal.invariant_of-own
invariant_of-own c = record {
  ordered = c.own.invariant.ordered;
  strings = c.own.invariant.strings;
  names = c.own.invariant.names;
  paired = subst (IsPaired 0) (sym (elements c)) c.requires.paired;
  ends = c.own.invariant.ends;
}

pub returns : goal.returns
returns c = let is = c.own.view_is ∙ c.in_ok-own.ensures in λ i. record {
  at = ap (λ (game : GameText). game.at) is i;
  text = ap (λ (game : GameText). game.text) is i;
  tags = ap (λ (game : GameText). game.tags) is i;
  elements = elements c i;
  result = ap (λ (game : GameText). game.result) is i;
}
