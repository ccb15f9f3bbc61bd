use Rattle.std.proofs.Common.{◌+◌, ap, subst, map, drop, arith, List}
use Rattle.std.proofs.lemmas.List.{drop_more}
use Rattle.pgn_text.specs.Public.Elements.{item_of}
use Rattle.pgn_text.specs.Public.Games.{Item}
use Rattle.pgn_text.specs.declared.game.Element.{Element}
use Rattle.std.proofs.Common.{Vec, Global}
use Rattle.pgn_extract.specs.Public.Annotations.{annotation_lists}
use Rattle.pgn_extract.specs.Private.AnnotationLists.{MakesLists}
use Rattle.pgn_extract.proofs.entries.AnnotationFacts.{none_kept}
use Rattle.pgn_extract.proofs.entries.annotations.Annotations.of_elements.Goals as goal

pub loop-element-init : goal.loop-element-init
loop-element-init c = record {
  depth = omega arith;
  makes = none_kept (map (λ (own : Vec Element Global). map item_of own.items) c.new.result.items)
      (map item_of c.new-2.result.items) (map item_of c.args.elements.now)
      (ap (map (λ (own : Vec Element Global). map item_of own.items)) c.new.ensures.items)
      (ap (map item_of) c.new-2.ensures.items);
}

pub loop-element-preserved : goal.loop-element-preserved
loop-element-preserved c =
    let elements = c.args.elements.now in
    let i = c.loop-element.element-index in
    record {
      depth = omega arith;
      makes = c.in_ok-step.ensures.kept (map item_of (drop (i + 1) elements))
          (annotation_lists (map item_of elements))
          (subst (λ (items : List Item). MakesLists c.loop-element.keeper items
          (annotation_lists (map item_of elements)))
          (ap (map item_of) (drop_more elements i _ (omega arith)))
          c.loop-element.invariant.makes);
    }
