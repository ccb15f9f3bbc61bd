use Rattle.pgn_extract.proofs.Common.{◌∙◌, inl, inr, arith, aim_of}
use Rattle.pgn_extract.proofs.entries.LineListings.{lists_all, lists_more}
use Rattle.pgn_extract.proofs.entries.each_line.push_variations.Goals as goal

pub returns-then-not-branch : goal.returns-then-not-branch
returns-then-not-branch c =
    let aim = aim_of c.args.context.settings.now in
    let id = c.args.context.own in
    let old = c.args.text.now.items in
    let was = c.loop-left.left in
    let now = c.go_on.new.self in
    lists_all aim id c.args.game.now old now.lines c.in_ok-count.count c.push_here.new.text.items
    (c.in_ok-go_on.ensures.ends.1 c.if-not-branch.true)
    (lists_more aim id c.args.game.now old was.game was.lines was.begun now.lines c.loop-left.count
    c.in_ok-count.count c.loop-left.text.items c.push_here.new.text.items
    c.loop-left.invariant.game c.in_ok-go_on.ensures.left c.in_ok-count.ensures.count
    c.loop-left.invariant.done c.in_ok-count.ensures.text)

pub loop-left-preserved : goal.loop-left-preserved
loop-left-preserved c =
    let aim = aim_of c.args.context.settings.now in
    let id = c.args.context.own in
    let old = c.args.text.now.items in
    let was = c.loop-left.left in
    let now = c.go_on.new.self in
    let less = c.in_ok-go_on.ensures.ends.0 c.if-not-branch.false in
    let room = c.loop-left.invariant.room in
    record {
      done = lists_more aim id c.args.game.now old was.game was.lines was.begun now.lines
          c.loop-left.count c.in_ok-count.count c.loop-left.text.items c.push_here.new.text.items
          c.loop-left.invariant.game c.in_ok-go_on.ensures.left c.in_ok-count.ensures.count
          c.loop-left.invariant.done c.in_ok-count.ensures.text;
      game = c.in_ok-go_on.ensures.game ∙ c.loop-left.invariant.game;
      room = elim c.in_ok-count.ensures.room [
        | inl same ↦ omega (arith, less, room, same)
        | inr (more, some) ↦ omega (arith, less, room, more)
      ];
    }
