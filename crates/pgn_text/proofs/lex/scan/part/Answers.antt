use Rattle.pgn_text.proofs.Common.{refl, gap_front, game_front, standing_view}
use Rattle.pgn_text.proofs.laws.PartLemmas.{kept-or}
use Rattle.pgn_text.proofs.lex.scan.part.Goals as goal

pub returns-in-Some : goal.returns-in-Some
returns-in-Some c =
    rw (
      kept-or (gap_front (standing_view c.args.place) c.args.text.now)
          (game_front c.args.text.now),
      ← c.in-Some.ensures,
    ) refl

pub returns-in-None : goal.returns-in-None
returns-in-None c =
    rw (
      kept-or (gap_front (standing_view c.args.place) c.args.text.now)
          (game_front c.args.text.now),
      ← c.in-None.ensures,
    ) c.game_part.ensures
