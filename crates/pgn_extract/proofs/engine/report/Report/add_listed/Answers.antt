-- By the lines of its entries, or by none where it can have no entry.
use Rattle.pgn_extract.proofs.Common.{refl, sym, aim_of, append-nil, on_ok_weaker}
use Rattle.pgn_extract.proofs.engine.FollowedGames.{listed_kept, listed_none}
use Rattle.pgn_extract.proofs.engine.GameVerdict.{sound_added}
use Rattle.pgn_extract.proofs.engine.report.Report.add_listed.Goals as goal

pub returns-then-lists_none : goal.returns-then-lists_none
returns-then-lists_none c =
    listed_none (aim_of c.args.context.settings.now) c.args.context.own c.args.game.now
    c.requires.sound.0 c.requires.sound.1 (c.lists_none.ensures.0 c.if-lists_none.true)
    (sound_added (sym (append-nil c.args.self.now.output.items)) refl refl refl)

pub returns : goal.returns
returns c =
    let old = c.args.self.now in
    on_ok_weaker c.push_of_sound.result (λ adds.
    listed_kept (aim_of c.args.context.settings.now) c.args.context.own {old = old}
    {new = record old { output = c.push_of_sound.new.text }} c.args.game.now c.requires.mode
    (λ none. let is = c.lists_none.ensures.1 none in let off = c.if-lists_none.false in cc) adds
    (λ text added. sound_added added refl refl refl)) c.push_of_sound.ensures
