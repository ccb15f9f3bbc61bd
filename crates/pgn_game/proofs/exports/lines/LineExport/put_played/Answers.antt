use Rattle.pgn_game.proofs.Common.{◌∷◌, [], ◌++◌, ap, sym, subst, on_ok_weaker}
use Rattle.std.specs.Prelude.{option_map}
use Rattle.pgn_game.specs.Public.Edits.{order_of}
use Rattle.pgn_game.specs.Public.Exports.{IsLineExport}
use Rattle.pgn_game.specs.Public.TagLines.{AreTagLines}
use Rattle.pgn_game.specs.Private.LinePaths.{IsRetaggedLine}
use Rattle.pgn_game.proofs.exports.EditFacts.{line_export_with}
use Rattle.pgn_game.proofs.exports.LineTags.{plain_line}
use Rattle.pgn_game.proofs.exports.lines.LineExport.put_played.Goals as goal

pub returns-in_default-clause-text : goal.returns-in_default-clause-text
returns-in_default-clause-text c =
    let line = c.args.line.now in
    let movetext = c.args.movetext.now in
    let all = option_map (λ edits. edits.now) c.args.self.now.edits in
    on_ok_weaker c.put_parts.result (λ (lines, tags, put) inside start is_start is_movetext.
    let (is, exports) =
    plain_line inside all c.args.self.now.style.now line start lines movetext
    (ap (option_map (λ edits. edits.now)) c.in_default.is) is_start tags is_movetext in
    (line, lines ++ 10 ∷ (movetext ++ 10 ∷ []), is, exports, put)) c.put_parts.ensures.text

pub returns-clause-text : goal.returns-clause-text
returns-clause-text c =
    let line = c.args.line.now in
    let movetext = c.args.movetext.now in
    let style = c.args.self.now.style.now in
    let edits = c.in-Some.edits.now in
    let head = c.in_ok-head.head in
    let given = ap (option_map (λ own. own.now)) c.in-Some.is in
    on_ok_weaker c.put_parts-2.result (λ (lines, tags, put) inside start is_start is_movetext.
    let (own, is, exports) =
    line_export_with inside style edits line head start lines movetext c.invariant-2.ensures
    c.invariant.ensures is_start c.in_ok-head.ensures.able c.in_ok-head.ensures.edited
    c.in_ok-head.ensures.start
    (subst (λ order. AreTagLines order style head.tags head.result lines) c.order.ensures tags)
    is_movetext in
    let text = lines ++ 10 ∷ (movetext ++ 10 ∷ []) in (
      own,
      text,
      subst (λ all. IsRetaggedLine all line own) (sym given) is,
      subst (λ all. IsLineExport inside (order_of all) style own text) (sym given) exports,
      put,
    )) c.put_parts-2.ensures.text
