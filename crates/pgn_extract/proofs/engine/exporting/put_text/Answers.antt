use Rattle.pgn_extract.proofs.Common.{[], refl, MatchResult-weaker, on_ok_weaker}
use Rattle.pgn_extract.proofs.Common.{fault_of, aim_of, by_itself, EachLine, FromEntry}
use Rattle.pgn_extract.proofs.Common.{Form, LineOfEach, subst}
use Rattle.pgn_game.specs.Public.LineGames.{AreLineTexts, AsExports, OnLines}
use Rattle.pgn_extract.specs.Private.Blockwise.{line_layout}
use Rattle.pgn_extract.specs.Public.Exports.{line_begin}
use Rattle.pgn_extract.proofs.Common.{as_it_stands, line_with, Standard, AsItStands, Line, Record}
use Rattle.pgn_extract.proofs.Common.{lines_with}
use Rattle.pgn_extract.proofs.engine.AllTaken.{put_as, put_or_left, stops_left}
use Rattle.pgn_extract.proofs.Finds.{on_result}
use Rattle.pgn_extract.proofs.GameExport.{own_record}
use Rattle.pgn_game.specs.declared.replays.replayer.Lines.TheVariants.{All}
use Rattle.pgn_extract.proofs.LineExports.{own_line_texts}
use Rattle.pgn_extract.proofs.SomeEdited.{own_edited_export}
use Rattle.pgn_extract.proofs.LaterGames.{own_from}
use Rattle.pgn_extract.proofs.engine.exporting.put_text.Goals as goal

pub returns-in-Standard : goal.returns-in-Standard
returns-in-Standard c =
    let aim = aim_of c.args.context.settings.now in
    let game = c.args.game.now in
    let old = c.args.text.now.items in
    let new = c.put_export.new.text.items in
    let put = c.put_export.ensures in
    put_as aim c.args.context.own game old new c.put_export.result (λ fault. fault_of fault)
    Standard c.in-Standard.is
    (put_or_left c.put_export.result put.text put.sound put.fault put.left
    (λ text sound. (
      sound.0,
      sound.1,
      text.0,
      own_edited_export aim.edits aim.style game text.0 text.1,
      text.2,
    ))
    (λ fault fails left.
    stops_left (lines_with aim.style.variations) game old new (fault_of fault) fails left))

pub returns-in-FromEntry : goal.returns-in-FromEntry
returns-in-FromEntry c =
    let aim = aim_of c.args.context.settings.now in
    let game = c.args.game.now in
    let old = c.args.text.now.items in
    let new = c.put_later.new.text.items in
    let put = c.put_later.ensures in
    put_as aim c.args.context.own game old new c.put_later.result (λ fault. fault_of fault)
    FromEntry c.in-FromEntry.is
    (put_or_left c.put_later.result put.text put.sound put.fault put.left
    (λ (text, (replay, first, own, is, least, begins, export), added) sound. (
      sound.0,
      sound.1,
      text,
      (
        replay,
        first,
        by_itself own,
        is,
        least,
        own_from first game own begins,
        own_edited_export aim.edits aim.style own text export,
      ),
      added,
    ))
    (λ fault fails left.
    stops_left (lines_with aim.style.variations) game old new (fault_of fault) fails left))

pub returns-in-EachLine : goal.returns-in-EachLine
returns-in-EachLine c =
    let aim = aim_of c.args.context.settings.now in
    let game = c.args.game.now in
    let old = c.args.text.now.items in
    let new = c.put_lines.new.text.items in
    let put = c.put_lines.ensures in
    put_as aim c.args.context.own game old new c.put_lines.result (λ fault. fault_of fault)
    EachLine c.in-EachLine.is
    (put_or_left c.put_lines.result put.text put.sound put.fault put.left
    (λ text sound. (
      sound.0,
      sound.1,
      text.0,
      own_line_texts (AsExports aim.edits aim.style) game text.0
          (subst (λ (f : Form). AreLineTexts (line_layout f aim
          (line_begin aim.name c.args.context.own)) game text.0) c.in-EachLine.is text.1),
      text.2,
    ))
    (λ fault fails left. stops_left All game old new (fault_of fault) fails left))

pub returns-in-LineOfEach : goal.returns-in-LineOfEach
returns-in-LineOfEach c =
    let aim = aim_of c.args.context.settings.now in
    let id = c.args.context.own in
    let game = c.args.game.now in
    let old = c.args.text.now.items in
    let new = c.put_lines-in-LineOfEach.new.text.items in
    let put = c.put_lines-in-LineOfEach.ensures in
    let notation = c.in-LineOfEach.field-0 in
    put_as aim id game old new c.put_lines-in-LineOfEach.result (λ fault. fault_of fault)
    (LineOfEach notation) c.in-LineOfEach.is
    (put_or_left c.put_lines-in-LineOfEach.result put.text put.sound put.fault put.left
    (λ text sound. (
      sound.0,
      sound.1,
      text.0,
      own_line_texts (OnLines notation (line_begin aim.name id)) game text.0
          (subst (λ (f : Form). AreLineTexts (line_layout f aim (line_begin aim.name id)) game
          text.0) c.in-LineOfEach.is text.1),
      text.2,
    ))
    (λ fault fails left. stops_left All game old new (fault_of fault) fails left))

pub returns-in-AsItStands : goal.returns-in-AsItStands
returns-in-AsItStands c =
    let put = rw c.in-AsItStands.is at c.put_as_is.ensures in
    put_as (aim_of c.args.context.settings.now) c.args.context.own c.args.game.now
    c.args.text.now.items c.put_as_is.new.text.items c.put_as_is.result (λ fault. fault_of fault)
    AsItStands c.in-AsItStands.is
    (MatchResult-weaker c.put_as_is.result put
    (λ _ sound. (sound.0.0, sound.0.1, as_it_stands c.args.game.now.text, refl, sound.1))
    (λ fault stops. stops))

pub returns-in-Line : goal.returns-in-Line
returns-in-Line c =
    let aim = aim_of c.args.context.settings.now in
    let put = c.push_game_line.ensures in
    put_as aim c.args.context.own c.args.game.now
    c.args.text.now.items c.push_game_line.new.text.items c.push_game_line.result
    (λ fault. fault_of fault) (Line c.in-Line.notation) c.in-Line.is
    (on_result c.push_game_line.result _ _
    (on_ok_weaker c.push_game_line.result
    (λ line. (
      record { positions = line.1.positions; played = line.1.played; turns = [] },
      record {
        start = line.1.start;
        is_start = line.1.is_start;
        line = line.1.line;
        turns = refl;
      },
      line_with aim.name c.args.context.own line.0,
      (line.0, line.1, refl),
      line.2,
    ))
    put.text) put.fault)

pub returns-in-Record : goal.returns-in-Record
returns-in-Record c =
    let aim = aim_of c.args.context.settings.now in
    let id = c.args.context.own in
    put_as aim id c.args.game.now
    c.args.text.now.items c.push_game_record.new.text.items c.push_game_record.result
    (λ fault. fault_of fault) Record c.in-Record.is
    (MatchResult-weaker c.push_game_record.result c.push_game_record.ensures
    (λ _ put. (
      put.1.replay,
      put.1.is_replay,
      put.0,
      own_record aim.name id.number id.offset c.args.game.now put.0 put.1,
      put.2,
    ))
    (λ fault stops. stops))
