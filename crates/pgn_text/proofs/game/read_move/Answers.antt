use Rattle.std.proofs.Common.{Some, refl, sym, ap}
use Rattle.pgn_text.proofs.Common.{KeptMove, State}
use Rattle.pgn_text.proofs.PartsAt.{kept_letters}
use Rattle.pgn_text.proofs.game.read_move.Goals as goal

pub returns : goal.returns
returns g c f = (
  record {
    token = KeptMove _;
    here = kept_letters f c.args.block.now c.args.at c.run_end-end.result c.requires.place
        c.requires.letter c.run_end-end.ensures;
    no_result = refl;
    steps = ap Some (sym c.pass_move.ensures);
    keeps = c.in_ok-keep.ensures;
  },
  ap (λ (state : State). state.in_tags) c.pass_move.ensures,
  ap (λ (state : State). state.has_move) c.pass_move.ensures,
)
