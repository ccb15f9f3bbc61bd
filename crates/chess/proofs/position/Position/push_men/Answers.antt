use Rattle.chess.proofs.MarkFacts.{no_letters, all_letters}
use Rattle.chess.proofs.position.Position.push_men.Goals as goal

pub push_ranks-requires : goal.push_ranks-requires
push_ranks-requires g c =
    let p = c.args.self.now.men in
    record {
      room = c.requires;
      letters =
          (p, all_letters p _ (c.mark_side-2.ensures (c.mark_side.ensures (no_letters p))));
    }

pub returns : goal.returns
returns g c =
    let p = c.args.self.now.men in
    record {
      text = c.push_ranks.ensures.text p
          (all_letters p _ (c.mark_side-2.ensures (c.mark_side.ensures (no_letters p))));
      short = c.push_ranks.ensures.short;
    }
