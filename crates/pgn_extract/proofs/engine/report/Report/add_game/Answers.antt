use Rattle.pgn_extract.proofs.Common.{refl, on_ok_weaker, aim_of}
use Rattle.pgn_extract.proofs.engine.GameVerdict.{game_added, game_indexed, sound_added}
use Rattle.pgn_extract.proofs.engine.report.Report.add_game.Goals as goal

pub returns-in-Index : goal.returns-in-Index
returns-in-Index c =
    on_ok_weaker c.push_mark_line.result
    (λ line.
    game_indexed (aim_of c.args.context.settings.now) c.args.context.own c.args.game
    c.in-Index.is (sound_added line refl refl refl))
    c.push_mark_line.ensures

pub returns-in-List : goal.returns-in-List
returns-in-List c =
    on_ok_weaker c.add_counted.result (λ adds.
    game_added (aim_of c.args.context.settings.now) c.args.context.own c.args.game
    c.invariant.ensures (λ index. let list = c.in-List.is in cc) adds) c.add_counted.ensures

pub returns-in-EachLine : goal.returns-in-EachLine
returns-in-EachLine c =
    on_ok_weaker c.add_counted-in-EachLine.result (λ adds.
    game_added (aim_of c.args.context.settings.now) c.args.context.own c.args.game
    c.invariant.ensures (λ index. let lines = c.in-EachLine.is in cc) adds)
    c.add_counted-in-EachLine.ensures

pub returns-in-Export : goal.returns-in-Export
returns-in-Export c =
    on_ok_weaker c.add_counted-in-Export.result (λ adds.
    game_added (aim_of c.args.context.settings.now) c.args.context.own c.args.game
    c.invariant.ensures (λ index. let export = c.in-Export.is in cc) adds)
    c.add_counted-in-Export.ensures
