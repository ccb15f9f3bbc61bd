use Rattle.std.proofs.Common.{◌≤◌, drop, map}
use Rattle.pgn_text.specs.Public.Elements.{item_of}
use Rattle.pgn_extract.specs.Public.Annotations.{annotation_lists}
use Rattle.pgn_extract.specs.Private.AnnotationLists.{MakesLists}
use Rattle.pgn_extract.proofs.entries.annotations.Annotations.of_elements.Given as goal

abbrev pub invariant-loop-element : goal.invariant-loop-element
invariant-loop-element l = record {
  depth : l.keeper.depth ≤ l.element-index;
  makes : MakesLists l.keeper (map item_of (drop l.element-index l.elements))
      (annotation_lists (map item_of l.elements));
}
