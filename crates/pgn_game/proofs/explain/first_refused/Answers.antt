use Rattle.pgn_game.proofs.Common.{◌≡◌, ◌∙◌, map, length, subst, arith, length-map}
use Rattle.pgn_game.proofs.Common.{item_of, IsCounted}
use Rattle.pgn_game.proofs.explain.RefusalSearch.{element_at, search_begins, search_on, search_past}
use Rattle.pgn_game.proofs.explain.RefusalSearch.{search_ends, search_finds_none}
use Rattle.pgn_game.proofs.explain.first_refused.Goals.{then-is_played+in_ok-refused+in_default}
use Rattle.pgn_game.proofs.explain.first_refused.Goals.{else-is_played}
use Rattle.pgn_game.proofs.explain.first_refused.Goals as goal

pub loop-index-init : goal.loop-index-init
loop-index-init c =
    search_begins c.args.lines c.args.start.now (map item_of c.args.elements.now) c.new-stack.result
    c.new-stack.ensures.around (c.new-stack.ensures.line ∙ c.first.ensures)

pub returns-in-Some : goal.returns-in-Some
returns-in-Some c =
    let at = c.loop-index in
    search_ends c.args.lines c.args.start.now (map item_of c.args.elements.now) at.index at.stack
    at.depth c.is_played.new.depth _
    (element_at c.args.elements.now at.index _ c.loop-index-test.true) at.invariant
    c.is_played.ensures.within c.in-Some.refused
    (subst (IsCounted c.args.lines _ at.depth c.is_played.new.depth) c.if-is_played.true
    c.is_played.ensures.counted)
    (rw c.in-Some.is at c.in_ok-refused.ensures)

pub loop-index-preserved : goal.loop-index-preserved
loop-index-preserved c =
    let at = c.loop-index in
    let items = map item_of c.args.elements.now in
    elim c.if-is_played.branch [
      | then-is_played+in_ok-refused+in_default w ↦
          rw w.stack-is (search_on c.args.lines c.args.start.now items at.index at.stack at.depth
          c.is_played.new.depth _ (element_at c.args.elements.now at.index _ c.loop-index-test.true)
          at.invariant c.is_played.ensures.within w.go_on.new.stack (subst (IsCounted c.args.lines _
          at.depth c.is_played.new.depth) w.if-is_played.true c.is_played.ensures.counted) (rw
          w.in_default.is at w.in_ok-refused.ensures))
      | else-is_played w ↦
          rw w.stack-is (search_past c.args.lines c.args.start.now items at.index at.stack at.depth
          c.is_played.new.depth _ (element_at c.args.elements.now at.index _ c.loop-index-test.true)
          at.invariant c.is_played.ensures.within (subst (IsCounted c.args.lines _ at.depth
          c.is_played.new.depth) w.if-is_played.false c.is_played.ensures.counted))
    ]

pub returns : goal.returns
returns c =
    let items = map item_of c.args.elements.now in
    let stack = c.loop-index.stack in
    let all : c.loop-index.index ≡ length items = simp length-map (omega arith) in
    search_finds_none c.args.lines c.args.start.now items stack c.loop-index.depth c.requires
    (rw (← all) c.loop-index.invariant)
