-- The roster, then those that are asked for first, then the others.
use Rattle.std.specs.Prelude.{not, ◌&&◌}
use Rattle.pgn_game.proofs.Common.{◌++◌, ◌∙◌, ap, subst, filter, is_some, map, tag_in, tag_names}
use Rattle.pgn_game.proofs.Common.{fen_tag, roster, is_beside, AreLinesOf}
use Rattle.pgn_game.proofs.TagsInOrder.{both_tests, in_a_row, ordered_parts}
use Rattle.pgn_game.proofs.exports.TagLineFacts.{lines_join}
use Rattle.pgn_game.specs.Public.TagLines.{is_among}
use Rattle.pgn_game.proofs.exports.tag_lines.put_tags.Goals as goal

pub returns-clause-lines : goal.returns-clause-lines
returns-clause-lines c =
    let (first, first_are, one) = c.in_ok-put_all_named.ensures.lines in
    let (more, more_are, two) = c.in_ok-put_first.ensures.lines in
    let (last, last_are, three) = c.in_ok-put_others.ensures.lines in
    let tags = c.args.game.now.tags in
    let result = c.args.game.now.result in
    let order = map (λ name. name.items) c.args.order.now in
    let test = is_beside c.args.style.now (is_some (tag_in fen_tag tags)) in
    let shown = filter test (tag_names tags) in
    let others =
    filter (λ name. test name && not (is_among order name)) (tag_names tags) in (
      first ++ (more ++ last),
      lines_join tags result roster _ first (more ++ last) first_are
          (subst (λ names. AreLinesOf tags result names (more ++ last))
          (ap (λ own. filter (is_among shown) order ++ own)
          (both_tests test (λ name. not (is_among order name)) (tag_names tags))
          ∙ ordered_parts order shown)
          (lines_join tags result (filter (is_among shown) order) others more last more_are
          last_are)),
      in_a_row c.args.out.now.items first more last _ _ _ one two three,
    )
