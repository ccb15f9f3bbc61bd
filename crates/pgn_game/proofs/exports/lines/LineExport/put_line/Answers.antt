use Rattle.std.specs.Prelude.{IfSome, option_map}
use Rattle.pgn_game.proofs.Common.{sym, subst, map, item_of, tag_in, fen_tag, fault_of, IsPaired}
use Rattle.pgn_game.proofs.Common.{GameText}
use Rattle.pgn_game.proofs.Common.{on_ok_weaker}
use Rattle.pgn_game.specs.Public.Exports.{IsLineMovetext}
use Rattle.pgn_game.specs.Private.LinePaths.{IsSoundLine, last_ply_of}
use Rattle.pgn_game.specs.Private.MovetextWalks.{IsFaultOfLine}
use Rattle.pgn_game.proofs.exports.LineSounds.{none_of_line, sound_cut, sound_paired}
use Rattle.pgn_game.proofs.exports.LineTags.{line_edited}
use Rattle.pgn_game.proofs.exports.lines.LineExport.put_line.Goals as goal

pub with_elements-requires : goal.with_elements-requires
with_elements-requires c =
    let fen = tag_in fen_tag c.args.game.now.tags in
    let items = map item_of c.args.elements.items in
    let last = last_ply_of (option_map (λ edits. edits.now) c.args.self.now.edits) in
    subst (IsPaired 0) (sym c.cut.ensures)
    (sound_paired c.args.inside fen _ (sound_cut c.args.inside fen last items c.requires))

pub returns-in-Ok-clause-text : goal.returns-in-Ok-clause-text
returns-in-Ok-clause-text c =
    let game = c.args.game.now in
    let edits = option_map (λ edits. edits.now) c.args.self.now.edits in
    let items = map item_of c.args.elements.items in
    let (start, is_start, is_movetext) = c.in-Ok.ensures.text in
    on_ok_weaker c.put_played.result (λ given.
    let (own, text, is, exports, put) =
    given c.args.inside start is_start
    (subst (IsLineMovetext c.args.inside c.args.self.now.style.now start c.in_ok-line.line)
    (sym c.deref.ensures.value) is_movetext) in (
      text,
      (
        own,
        line_edited edits game c.in_ok-line.line own items _ c.cut.ensures
            c.in_ok-line.ensures is,
        exports,
      ),
      put,
    )) c.put_played.ensures.text

pub refused-requires : goal.refused-requires
refused-requires c =
    let game = c.args.game.now in
    let fen = tag_in fen_tag game.tags in
    let inside = c.args.inside in
    let variations = c.args.self.now.style.now.variations in
    let items = map item_of c.args.elements.items in
    let last = last_ply_of (option_map (λ edits. edits.now) c.args.self.now.edits) in
    let left = map item_of c.cut.new.elements.items in
    let sound = subst (IsSoundLine inside fen) (sym c.cut.ensures)
    (sound_cut inside fen last items c.requires) in
    none_of_line inside variations fen left (fault_of c.in-Err.fault) sound
    (subst (λ (line : GameText). IfSome (fault_of c.in-Err.fault)
    (IsFaultOfLine inside variations (tag_in fen_tag line.tags) line.elements))
    c.in_ok-line.ensures c.in-Err.ensures.fault)
