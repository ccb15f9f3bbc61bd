use Rattle.pgn_extract.proofs.Common.{[], List, length, sym, ap, ◌∙◌, subst, get_or, on_ok_weaker}
use Rattle.std.proofs.Common.{false, map}
use Rattle.pgn_text.specs.Public.Elements.{item_of}
use Rattle.pgn_text.specs.Public.Games.{Item}
use Rattle.pgn_extract.specs.Private.AnnotationLists.{annotation_value, lists_in}
use Rattle.pgn_extract.specs.Private.RowTexts.{IsPartText, IsShownWith, value_text}
use Rattle.pgn_extract.specs.declared.entries.row_maker.PartColumn.{PartColumn}
use Rattle.pgn_extract.proofs.entries.row_maker.RowMaker.push_part.Goals as goal

pub returns-in-OfPly-clause-shown : goal.returns-in-OfPly-clause-shown
returns-in-OfPly-clause-shown g c =
    let format = c.args.self.now.row.now.format in
    let lists = lists_in c.args.self.now.annotations in
    on_ok_weaker c.push_value.result
    (λ (value, plain, shows, pushed). (
      value,
      λ aim game before P at has replay of rest is. subst (λ (k : PartColumn).
          IsPartText format lists k replay (length before) value) (sym c.in-OfPly.is)
          (shows aim game before P at has replay of rest is, plain),
      pushed,
    ))
    c.push_value.ensures.shown

pub returns-in_ok-push_annotation_value-in-OfAnnotations-clause-shown :
    goal.returns-in_ok-push_annotation_value-in-OfAnnotations-clause-shown
returns-in_ok-push_annotation_value-in-OfAnnotations-clause-shown g c =
    let format = c.args.self.now.row.now.format in
    let lists = lists_in c.args.self.now.annotations in
    let own = c.in-OfAnnotations.own in
    let shown = λ (items : List Item). value_text format false (annotation_value own items) in (
      shown (map item_of c.at-elements.result.now),
      λ aim game before P at has replay of rest is. subst (λ (k : PartColumn).
          IsPartText format lists k replay (length before)
          (shown (map item_of c.at-elements.result.now))) (sym c.in-OfAnnotations.is)
          (ap shown (c.at-elements.ensures
          ∙ ap (λ n. get_or lists n []) (c.ply.ensures aim game before P at))),
      c.in_ok-push_annotation_value-in-OfAnnotations.ensures,
    )

pub push_value-requires-clause-shows : goal.push_value-requires-clause-shows
push_value-requires-clause-shows g c =
    subst (λ (k : PartColumn). IsShownWith g.L.Line.Shows k) c.in-OfPly.is c.requires.shows
