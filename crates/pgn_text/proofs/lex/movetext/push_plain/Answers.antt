use Rattle.pgn_text.proofs.Common.{◌++◌, [], map, sym, ap, ◌∙◌, append-nil, append_assoc, item_of}
use Rattle.pgn_text.proofs.PlainWalk.{with_none, with_both}
use Rattle.pgn_text.proofs.lex.movetext.push_plain.Goals as goal

pub loop-at-init : goal.loop-at-init
loop-at-init c = ([], with_none c.args.block.now c.args.from c.requires, sym (append-nil _))

pub loop-at-preserved : goal.loop-at-preserved
loop-at-preserved c =
    let kept = c.loop-at.invariant in
    let more = c.in_ok-push_moves.ensures in (
      kept.0 ++ more.0,
      with_both c.args.block.now c.args.from kept.0 c.loop-at.at more.0 _ kept.1 more.1,
      more.2 ∙ ap (λ xs. xs ++ more.0) kept.2
          ∙ append_assoc (map item_of c.args.elements.now.items) kept.0 more.0,
    )

pub returns-then-block-lt64 : goal.returns-then-block-lt64
returns-then-block-lt64 c =
    ([], with_none c.args.block.now c.args.from c.requires, sym (append-nil _))

pub returns-then-swept-lt-MOSTLY_PLAIN : goal.returns-then-swept-lt-MOSTLY_PLAIN
returns-then-swept-lt-MOSTLY_PLAIN c =
    let kept = c.loop-at.invariant in
    let more = c.in_ok-push_moves.ensures in (
      kept.0 ++ more.0,
      with_both c.args.block.now c.args.from kept.0 c.loop-at.at more.0 _ kept.1 more.1,
      more.2 ∙ ap (λ xs. xs ++ more.0) kept.2
          ∙ append_assoc (map item_of c.args.elements.now.items) kept.0 more.0,
    )
