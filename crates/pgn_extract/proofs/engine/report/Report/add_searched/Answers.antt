use Rattle.pgn_extract.proofs.Common.{[], refl, sym, on_ok_weaker, aim_of}
use Rattle.pgn_extract.proofs.Common.{SoundGame, append-nil, by_itself}
use Rattle.pgn_extract.proofs.TagsFirst.{unplayed_verdict, played_verdict}
use Rattle.pgn_extract.proofs.engine.GameVerdict.{sound_added}
use Rattle.pgn_extract.proofs.engine.report.Report.add_searched.Goals as goal

pub returns-then-is_ruled_out : goal.returns-then-is_ruled_out
returns-then-is_ruled_out c =
    let settings = c.args.context.settings.now in (
      SoundGame [],
      unplayed_verdict settings.mode (aim_of settings) c.args.context.own
          (by_itself c.args.game.now) (c.is_ruled_out.ensures.0 c.if-is_ruled_out.true),
      sound_added (sym (append-nil c.args.self.now.output.items)) refl refl refl,
    )

pub returns : goal.returns
returns c =
    let settings = c.args.context.settings.now in
    on_ok_weaker c.add_replayed.result (λ adds. (
      adds.0,
      played_verdict settings.tags_first settings.mode (aim_of settings) c.args.context.own
          (by_itself c.args.game.now) adds.0
          (λ out. let is = c.is_ruled_out.ensures.1 out in let off = c.if-is_ruled_out.false in cc)
          adds.1,
      adds.2,
    )) c.add_replayed.ensures
