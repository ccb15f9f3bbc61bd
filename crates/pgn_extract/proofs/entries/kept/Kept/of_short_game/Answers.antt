use Rattle.pgn_extract.proofs.Common.{◌↔◌, ◌≡◌, [], List, Option, Some, IsTrue, sym, subst, ap}
use Rattle.pgn_extract.proofs.Common.{◌∙◌, slice_get, Conditions, heading_of, IsMet}
use Rattle.pgn_extract.specs.Private.KeptLines.{AreFirst, IsKeptWith, line_of, replay_of}
use Rattle.pgn_extract.proofs.entries.KeptLines.{begins_kept}
use Rattle.pgn_extract.proofs.packed.KeptPackedFacts.{kept_is, legal_line, line_moves}
use Rattle.pgn_extract.proofs.entries.kept.Kept.of_short_game.Goals as goal

pub begin-requires-clause-legal : goal.begin-requires-clause-legal
begin-requires-clause-legal c =
    let kept = c.in_ok-replayed.replayed in
    let line = legal_line c.args.game.now kept c.in_ok-replayed.ensures in
    let start : slice_get kept.positions 0 ≡ Some c.copy.result =
    c.position.ensures ∙ ap Some (sym c.copy.ensures) in
    (line_moves kept line.0 line.1 c.copy.result start c.in_ok-played.played.items
    c.in_ok-played.ensures.moves).0

pub begin-requires-clause-first : goal.begin-requires-clause-first
begin-requires-clause-first c =
    let kept = c.in_ok-replayed.replayed in
    let line = legal_line c.args.game.now kept c.in_ok-replayed.ensures in
    let start : slice_get kept.positions 0 ≡ Some c.copy.result =
    c.position.ensures ∙ ap Some (sym c.copy.ensures) in
    subst (AreFirst c.moves_of.new.first.items)
    (line_moves kept line.0 line.1 c.copy.result start c.in_ok-played.played.items
    c.in_ok-played.ensures.moves).1
    c.in_ok-played.ensures.first

pub returns : goal.returns
returns c =
    let game = c.args.game.now in
    let kept = c.in_ok-replayed.replayed in
    let is = c.in_ok-replayed.ensures in
    let met = c.in_ok-met.ensures in
    let start : slice_get kept.positions 0 ≡ Some c.copy.result =
    c.position.ensures ∙ ap Some (sym c.copy.ensures) in
    let line = c.begin.result in
    let (same, moves, mets, ply) = c.begin.ensures.line in
    let all : kept ≡ line_of line =
    kept_is game kept is c.copy.result start c.in_ok-played.played.items
    c.in_ok-played.ensures.moves
    ∙ ap (λ Q. replay_of Q c.in_ok-played.played.items) (sym same)
    ∙ ap (replay_of line.start) (sym moves) in (
      c.begin.ensures.reached,
      λ aim given.
          let (P, at) = begins_kept game kept is c.in_ok-met.met.items aim met.each
          (λ n r here.
          subst (λ (o : Option (List Conditions)). IsTrue r ↔ IsMet o (heading_of game) kept n)
          (sym given) (met.reports n r here)) in (
            P,
            subst (λ k. IsKeptWith k line.met.items line.ply aim game [] P) all
                (subst (λ ms. IsKeptWith kept ms line.ply aim game [] P) (sym mets)
                (subst (λ n. IsKeptWith kept c.in_ok-met.met.items n aim game [] P) (sym ply) at)),
          ),
    )
