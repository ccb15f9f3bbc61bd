use Rattle.std.proofs.Common.{◌≡◌, ◌++◌, ap, ◌∙◌, map, flat_map, drop, false}
use Rattle.std.proofs.lemmas.Result.{on_ok_weaker}
use Rattle.pgn_text.specs.Public.Elements.{item_of}
use Rattle.pgn_extract.specs.Private.AnnotationLists.{annotation_value, annotation_words}
use Rattle.pgn_extract.specs.Private.AnnotationLists.{shown_of, spaced}
use Rattle.pgn_extract.specs.Private.RowTexts.{value_text}
use Rattle.pgn_extract.proofs.entries.AnnotationFacts.{spaced_joined}
use Rattle.pgn_extract.proofs.entries.annotations.push_annotation_value.Goals as goal

pub returns : goal.returns
returns c =
    let words = flat_map (annotation_words c.args.column) (map item_of c.args.elements.now) in
    let is : c.shown_of.result.now ≡ annotation_value c.args.column
    (map item_of c.args.elements.now) =
    c.shown_of.ensures
    ∙ ap (shown_of c.args.column) (c.without_first.ensures
    ∙ ap (drop 1) (c.deref.ensures.value ∙ c.in_ok-push_annotations.ensures
    ∙ ap (λ t. t ++ spaced words) c.new-own.ensures.items)
    ∙ spaced_joined words) in
    on_ok_weaker c.push_value.result
    (λ pushed. pushed
    ∙ ap (λ v. c.args.text.now.items ++ value_text c.args.format false v) is)
    c.push_value.ensures
