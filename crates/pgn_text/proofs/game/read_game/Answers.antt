use Rattle.std.specs.Prelude.{IsTrue}
use Rattle.pgn_text.proofs.Common.{◌≡◌, ℕ, List, map, take, drop, sym, ap, subst, ◌∙◌, refl}
use Rattle.pgn_text.proofs.Common.{list_all, Some, is_name_byte, item_of, tags_of, IsPaired}
use Rattle.pgn_text.proofs.Common.{IsResult, tag_in, IsContents, GameRead, depth_limit}
use Rattle.pgn_text.specs.Private.GameBuilders.{IsBuilderOf}
use Rattle.pgn_text.proofs.LastResult.{game_result}
use Rattle.pgn_text.proofs.game.Pairing.{tags_ascend}
use Rattle.pgn_text.proofs.ShownGame.{bytes_of_game}
use Rattle.pgn_text.proofs.TagLemmas.{tag_in-tags_of}
use Rattle.pgn_text.proofs.TagStrings.{first_string}
use Rattle.pgn_text.proofs.game.read_game.Goals as goal

pub invariant_of-game : goal.invariant_of-game
invariant_of-game c =
    let found = rw c.in-Some.is at c.in_ok-at.ensures in
    let read : GameRead depth_limit c.args.file_start c.args.block.now c.args.begin c.in-Some.at
    c.in-Some.end found.0 found.1 = found.2 in
    let held : IsBuilderOf c.read_parts.new.visitor found.0 found.1 =
    found.3 (record {
      ordered = c.in_ok-game_builder.ensures.ordered;
      each =
          c.in_ok-game_builder.ensures.tags;
      elements =
          ap (map item_of) c.in_ok-game_builder.ensures.elements;
    }) in
    let block = c.args.block.now in
    let after = drop c.in-Some.end block in
    let found_first : (name contents : List ℕ)
    → tag_in name (tags_of c.read_parts.new.visitor.tags) ≡ Some contents
    → IsContents contents × IsTrue (list_all is_name_byte name) =
    λ name contents is. first_string name contents c.args.file_start (take c.args.begin block)
    read.parts after read.game.is_game.stand
    (sym (tag_in-tags_of c.read_parts.new.visitor.tags name ∙ held.each name ∙ read.tags_kept name)
    ∙ is) in
    record {
      ordered = tags_ascend c.read_parts.new.visitor.tags.entries held.ordered;
      strings = λ name contents is. (found_first name contents is).0;
      names = λ name contents is. (found_first name contents is).1;
      paired = subst (IsPaired 0) (sym held.elements) read.paired;
      ends = subst IsResult (sym read.result)
          (game_result depth_limit c.args.file_start (take c.args.begin block) read.parts after
          read.game.is_game);
    }

pub returns : goal.returns
returns c =
    let found = rw c.in-Some.is at c.in_ok-at.ensures in
    let read : GameRead depth_limit c.args.file_start c.args.block.now c.args.begin c.in-Some.at
    c.in-Some.end found.0 found.1 = found.2 in
    let held : IsBuilderOf c.read_parts.new.visitor found.0 found.1 =
    found.3 (record {
      ordered = c.in_ok-game_builder.ensures.ordered;
      each =
          c.in_ok-game_builder.ensures.tags;
      elements =
          ap (map item_of) c.in_ok-game_builder.ensures.elements;
    }) in (
      read.parts,
      read.game,
      record {
        place = refl;
        text = bytes_of_game depth_limit c.args.file_start c.args.block.now c.args.begin
            c.in-Some.end read.parts read.game;
        tags = λ wanted. tag_in-tags_of c.read_parts.new.visitor.tags wanted ∙ held.each wanted
            ∙ read.tags_kept wanted;
        elements = held.elements ∙ read.elements_kept;
        result = read.result;
      },
    )
