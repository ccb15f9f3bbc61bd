use Rattle.pgn_game.proofs.Common.{◌++◌, map, refl, ap, ◌∙◌, inr, append_assoc, IfSome}
use Rattle.pgn_game.proofs.Common.{IfSome_then, on_ok_weaker, IfErr-weaker, item_of, tag_in}
use Rattle.pgn_game.proofs.Common.{IsFault, IsMoveFault, IsGameLine, main_words}
use Rattle.pgn_game.proofs.Common.{fault_of, fen_tag, Main}
use Rattle.pgn_game.proofs.GameLineFacts.{written_line}
use Rattle.pgn_game.proofs.exports.game_line.push_line.Goals as goal

pub returns-clause-text : goal.returns-clause-text
returns-clause-text c =
    let game = c.args.game.now in
    let start = c.in_ok-start.start in
    let is_start = rw c.tags.ensures.tags at c.in_ok-start.ensures in
    let (head, begins, head_put) = c.in_ok-push_start.ensures.text in
    on_ok_weaker c.push_moves.result
    (λ moves.
    let written = rw c.elements.ensures.elements at moves.1 in
    let line = written_line c.args.notation start (main_words game.elements 0) moves.0 written in
    let is : IsGameLine c.args.notation (tag_in fen_tag game.tags) game.elements (head ++ moves.0) =
    record {
      start = start;
      is_start = is_start;
      positions = line.positions;
      played = line.played;
      line = line.line;
      head = head;
      begins = begins;
      moves = moves.0;
      are_moves = line.are_moves;
      spells = refl;
    } in (
      head ++ moves.0,
      is,
      moves.2 ∙ ap (λ bytes. bytes ++ moves.0) head_put
          ∙ append_assoc c.args.out.now.items head moves.0,
    ))
    c.push_moves.ensures.text

pub returns-clause-fault : goal.returns-clause-fault
returns-clause-fault c =
    let game = c.args.game.now in
    let start = c.in_ok-start.start in
    let is_start = rw c.tags.ensures.tags at c.in_ok-start.ensures in
    IfErr-weaker c.push_moves.result
    (λ fault.
    IfSome (fault_of fault)
    (IsMoveFault start 0 (main_words (map item_of c.elements.result.now) 0)))
    (λ fault. IfSome (fault_of fault) (IsFault Main (tag_in fen_tag game.tags) game.elements))
    (λ fault reports.
    IfSome_then (fault_of fault) reports (λ f has.
    inr (
      start,
      is_start,
      rw (← c.elements.ensures.elements) has,
    )))
    c.push_moves.ensures.fault
