use Rattle.std.specs.Prelude.{Some, not, ◌&&◌}
use Rattle.std.specs.BTreeMap.{get}
use Rattle.std.proofs.lemmas.Map.Views.{All-turn}
use Rattle.pgn_game.proofs.Common.{◌≡◌, ◌++◌, ◌∙◌, ℕ, List, Bool, true, ap, arith, rules, sym}
use Rattle.pgn_game.proofs.Common.{map, Bor, filter, is_some, slice_cmp, deref_pair, nat_cmp}
use Rattle.pgn_game.proofs.Common.{common_steps, iter_end, tag_of, tag_in, tag_names, fen_tag}
use Rattle.pgn_game.proofs.Common.{IsLineOf, is_beside}
use Rattle.pgn_game.specs.Public.TagLines.{is_among}
use Rattle.pgn_game.proofs.Tags.{tag_found_in, tag_there}
use Rattle.pgn_game.proofs.exports.TagLineFacts.{lines_push, shown_names, passed_more}
use Rattle.pgn_game.proofs.exports.tag_lines.put_others.Goals as goal

pub put_tag-requires : goal.put_tag-requires
put_tag-requires c =
    let m = c.tags-name-items.result.now in
    let name = c.in-Some.name.now.now in
    let at =
    All-turn deref_pair (λ e. get (λ (x y : Bor (List ℕ)). slice_cmp nat_cmp x.now y.now) m e.0
    ≡ Some e.1) _ _ _ _ _ _ _ c.into_iter-name-iterator.ensures.into_iter_gives.6
    c.into_iter-name-iterator.ensures.into_iter_gives.0 c.loop-name.yielded_by c.in-Some.is
    c.next.ensures.steps in
    let is =
    tag_found_in c.args.game.now.tags m name (Some c.in-Some.contents.now)
    c.tags-name-items.ensures.tags (sym at) in
    c.tags-name-items.ensures.strings name c.in-Some.contents.now.now is

pub loop-name-preserved : goal.loop-name-preserved
loop-name-preserved c =
    let m = c.tags-name-items.result.now in
    let name = c.in-Some.name.now.now in
    let at =
    All-turn deref_pair (λ e. get (λ (x y : Bor (List ℕ)). slice_cmp nat_cmp x.now y.now) m e.0
    ≡ Some e.1) _ _ _ _ _ _ _ c.into_iter-name-iterator.ensures.into_iter_gives.6
    c.into_iter-name-iterator.ensures.into_iter_gives.0 c.loop-name.yielded_by c.in-Some.is
    c.next.ensures.steps in
    let is =
    tag_found_in c.args.game.now.tags m name (Some c.in-Some.contents.now)
    c.tags-name-items.ensures.tags (sym at) in
    let test : List ℕ → Bool = λ name. is_beside c.args.style.now c.contains_key-has_fen.result name
    && not (is_among (map (λ other. other.items) c.args.order.now) name) in
    let passes : test name ≡ true = sym c.if-not-is_other.ensures in
    let so_far = c.loop-name.invariant in
    let put = c.in_ok-put_tag.ensures.line in
    let line : IsLineOf c.args.game.now.result name (tag_in name c.args.game.now.tags) put.0 =
    rw is put.1 in (
      so_far.0 ++ put.0,
      rw (passed_more test c.loop-name.yielded (c.in-Some.name, c.in-Some.contents) passes)
          (lines_push c.args.game.now.tags c.args.game.now.result (filter test (shown_names
          c.loop-name.yielded)) so_far.0 name put.0 so_far.1 line),
      grind (arith, common_steps),
    )

pub returns-clause-lines : goal.returns-clause-lines
returns-clause-lines c =
    let all : map deref_pair c.loop-name.yielded ≡ c.tags-name-items.result.now.entries =
    search (rules, iter_end) in
    let names : shown_names c.loop-name.yielded ≡ tag_names c.args.game.now.tags =
    ap (λ es. tag_names (map tag_of es)) all ∙ ap tag_names c.tags-name-items.ensures.tags in
    let fen : c.contains_key-has_fen.result ≡ is_some (tag_in fen_tag c.args.game.now.tags) =
    c.contains_key-has_fen.ensures ∙ sym (tag_there c.tags.result.now fen_tag)
    ∙ ap (λ tags. is_some (tag_in fen_tag tags)) c.tags.ensures.tags in
    let so_far = c.loop-name.invariant in
    (so_far.0, rw (sym fen, sym names) so_far.1, so_far.2)
