use Rattle.pgn_criteria.proofs.Common.{◌∙◌, refl, sym, subst, fen_tag, tag_in, AllGood}
use Rattle.pgn_criteria.proofs.MeetFacts.{legal_moves}
use Rattle.pgn_criteria.proofs.meets.Criteria.met_plies.Goals as goal

pub met_by-requires : goal.met_by-requires
met_by-requires c k = (
  (refl, tt),
  (
    tt,
    (
      subst AllGood (sym c.deref.ensures.value) c.self.invariant.good,
      legal_moves c.one_legal_move.ensures (tag_in fen_tag c.args.game.now.tags)
          c.args.game.now.elements c.args.replayed.now c.requires.of_game,
    ),
  ),
)

pub returns : goal.returns
returns c = rw (← (c.deref.ensures.value ∙ c.self.view_is)) c.met_by.ensures
