use Rattle.std.proofs.Common.{◌≡◌, ◌++◌, take, map, flat_map}
use Rattle.pgn_text.specs.Public.Elements.{item_of}
use Rattle.pgn_extract.specs.Private.AnnotationLists.{annotation_words, spaced}
use Rattle.pgn_extract.proofs.entries.annotations.push_annotations.Given as goal

abbrev pub invariant-loop-element : goal.invariant-loop-element
invariant-loop-element l =
    l.own.items ≡ l.fn.own.items
    ++ spaced (flat_map (annotation_words l.column) (map item_of (take l.element-index l.elements)))
