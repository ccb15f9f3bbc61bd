use Rattle.pgn_game.proofs.Common.{◌+◌, ◌*◌, ◌/◌, ◌%◌, [], ◌∷◌, refl, after, PlyCode, AreMarks}
use Rattle.pgn_game.proofs.Common.{IsCode}
use Rattle.pgn_game.proofs.pack.ply.coded_move.Goals as goal

pub returns : goal.returns
returns c =
    let m = c.args.m.now in
    let P = c.args.position.now in
    let code : PlyCode = record {
      from = m.from;
      to = m.to;
      taken = c.capture_square.result;
      man = c.arriving_man.result;
      castle = m.castle;
      check = c.args.marks.check;
      stuck = c.args.marks.stuck;
    } in
    let is : AreMarks (after P m) c.args.marks.check c.args.marks.stuck → IsCode P m code =
    λ marks. record {
      from = refl;
      to = refl;
      taken = c.capture_square.ensures;
      man = c.arriving_man.ensures;
      castle = refl;
      marks = marks;
    } in (
      code,
      is,
      λ i. (c.index.ensures.place i + 64 * c.number.ensures.number i)
          ∷ (c.index-2.ensures.place i + 64 * (c.man_number-man.ensures.number i % 4))
          ∷ (c.index-3.ensures.place i + 64 * (c.man_number-man.ensures.number i / 4)) ∷ [],
    )
