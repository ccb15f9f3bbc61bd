use Rattle.pgn_criteria.proofs.Common.{◌≡◌, ◌+◌, ◌∙◌, Place, ap, arith, man_at, refl}
use Rattle.pgn_criteria.proofs.Common.{square_at, sym, with_man}
use Rattle.chess.specs.Public.Placements.{first_men}
use Rattle.pgn_criteria.proofs.CellFacts.{more_men, whole_men}
use Rattle.pgn_criteria.proofs.walk.board_like.Goals.{then-is_empty, else-is_empty}
use Rattle.pgn_criteria.proofs.walk.board_like.Goals as goal

pub loop-index-init : goal.loop-index-init
unfolding first_men
loop-index-init g c = c.empty-own.ensures

pub loop-index-preserved : goal.loop-index-preserved
loop-index-preserved g c =
    let men = g.B.Board.men c.args.board.now in
    let at = c.of_index-square.ensures.square in
    let is : c.if-is_empty.man ≡ man_at men (square_at c.loop-index.index) =
    elim c.if-is_empty.branch [
      | then-is_empty w ↦ w.man-is ∙ sym (c.is_empty.ensures.0 w.if-is_empty.true)
          ∙ ap (man_at men) at
      | else-is_empty w ↦ w.man-is ∙ w.at-man.ensures ∙ ap (man_at men) at
    ] in
    more_men (λ n. man_at men (square_at n)) c.loop-index.index (c.loop-index.index + 1)
    (g.C.Board.men c.loop-index.own) (g.C.Board.men c.put.new.self) c.if-is_empty.man refl
    c.loop-index.invariant
    (c.put.ensures ∙ ap (λ (s : Place). with_man (g.C.Board.men c.loop-index.own) s
    c.if-is_empty.man) at) is

pub returns : goal.returns
returns g c =
    let men = g.B.Board.men c.args.board.now in
    let end : c.loop-index.index ≡ 64 = omega arith in
    c.loop-index.invariant
    ∙ ap (first_men (λ n. man_at men (square_at n))) end
    ∙ whole_men men (g.met.B.Board.on_board c.args.board.now)
