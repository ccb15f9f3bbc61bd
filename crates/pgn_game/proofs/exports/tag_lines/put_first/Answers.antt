-- Each name that is asked for has a line where the game has it and the style writes it.
use Rattle.std.proofs.lemmas.List.{append_assoc}
use Rattle.pgn_game.proofs.Common.{◌++◌, ◌∷◌, ◌≡◌, ◌+◌, ◌∙◌, [], ap, subst, sym, arith}
use Rattle.pgn_game.proofs.Common.{filter, is_some, map, take, tag_in, tag_names, fen_tag}
use Rattle.pgn_game.proofs.Common.{is_beside, take_all, AreLinesOf, IsLineOf}
use Rattle.pgn_game.proofs.Tags.{tag_there}
use Rattle.pgn_game.proofs.exports.TagLineFacts.{line_less, line_more, names_held}
use Rattle.pgn_game.specs.Public.TagLines.{is_among}
use Rattle.pgn_game.proofs.exports.tag_lines.put_first.Goals as goal
use Rattle.pgn_game.proofs.exports.tag_lines.put_first.Goals.{else-has_beside}
use Rattle.pgn_game.proofs.exports.tag_lines.put_first.Goals.{then-has_beside+in_ok-put_named}

pub loop-name-preserved : goal.loop-name-preserved
loop-name-preserved c =
    let tags = c.args.game.now.tags in
    let result = c.args.game.now.result in
    let order = c.args.order.now in
    let i = c.loop-name.name-index in
    let test =
    is_among (filter (is_beside c.args.style.now c.contains_key-has_fen.result) (tag_names tags)) in
    let so_far = c.loop-name.invariant in
    let asked = map (λ name. name.items) (take i order) in
    let name = c.name-item.result.items in
    let next =
    subst (λ own. map (λ name. name.items) (take (i + 1) order) ≡ asked ++ own.items ∷ [])
    (sym c.name-item.is) (names_held order i c.name-item.result c.loop-name-test.true) in
    elim c.if-has_beside.branch [
      | then-has_beside+in_ok-put_named w ↦
          let put = w.in_ok-put_named.ensures.line in (
            so_far.0 ++ put.0,
            line_more tags result test asked (map (λ name. name.items) (take (i + 1) order))
                so_far.0 name put.0 next
                (ap test (sym c.deref.ensures.value) ∙ sym w.if-has_beside.ensures) so_far.1
                (subst (λ own. IsLineOf result own (tag_in own tags) put.0)
                w.deref-then-has_beside.ensures.value put.1),
            ap (λ out. out.items) w.out-is ∙ put.2 ∙ ap (λ xs. xs ++ put.0) so_far.2
                ∙ append_assoc c.args.out.now.items so_far.0 put.0,
          )
      | else-has_beside w ↦ (
        so_far.0,
        line_less tags result test asked (map (λ name. name.items) (take (i + 1) order)) so_far.0
            name next (ap test (sym c.deref.ensures.value) ∙ sym w.if-has_beside.ensures) so_far.1,
        ap (λ out. out.items) w.out-is ∙ so_far.2,
      )
    ]

pub returns-clause-lines : goal.returns-clause-lines
returns-clause-lines c =
    let fen : c.contains_key-has_fen.result ≡ is_some (tag_in fen_tag c.args.game.now.tags) =
    c.contains_key-has_fen.ensures ∙ sym (tag_there c.tags.result.now fen_tag)
    ∙ ap (λ tags. is_some (tag_in fen_tag tags)) c.tags.ensures.tags in
    let so_far = c.loop-name.invariant in
    let all = take_all c.loop-name.name-index c.args.order.now (omega arith) in (
      so_far.0,
      subst (λ names. AreLinesOf c.args.game.now.tags c.args.game.now.result (filter (is_among
          (filter (is_beside c.args.style.now (is_some (tag_in fen_tag c.args.game.now.tags)))
          (tag_names c.args.game.now.tags))) (map (λ name. name.items) names)) so_far.0) all
          (rw (sym fen) so_far.1),
      so_far.2,
    )
