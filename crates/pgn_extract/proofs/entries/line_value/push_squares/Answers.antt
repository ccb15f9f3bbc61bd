use Rattle.pgn_extract.proofs.Common.{◌≡◌, ◌<◌, ◌+◌, ◌++◌, ◌∷◌, [], length, refl, sym, ap, ◌∙◌}
use Rattle.pgn_extract.proofs.Common.{arith, append_assoc, append-nil, nat_tests, after}
use Rattle.std.proofs.Common.{drop}
use Rattle.std.proofs.lemmas.List.{drop_all}
use Rattle.pgn_game.specs.Public.GameLines.{uci_text}
use Rattle.pgn_game.specs.declared.exports.notation.Notation.TheVariants.{Uci}
use Rattle.pgn_extract.proofs.entries.KeptMoves.{completes_all, completes_first}
use Rattle.pgn_extract.proofs.entries.KeptMoves.{completes_more, completes_none, cut_at, cut_legal}
use Rattle.pgn_extract.proofs.entries.LineValues.{after_blank}
use Rattle.pgn_extract.proofs.entries.UciTexts.{uci_plain}
use Rattle.pgn_extract.proofs.entries.line_value.push_squares.Goals as goal

pub returns-then-is_empty : goal.returns-then-is_empty
returns-then-is_empty c =
    let none : length c.args.played.now ≡ 0 =
    let is = c.is_empty.ensures in grind (arith, nat_tests) in (
      [],
      tt,
      λ start legal. completes_none Uci start c.args.played.now none,
      sym (append-nil c.args.text.now.items),
    )

pub loop-ply-init : goal.loop-ply-init
loop-ply-init c =
    let moves = c.args.played.now in
    let m = c.index-played-0.result in
    let left = drop 1 moves in
    let some : 0 < length moves =
    let is = c.is_empty.ensures in let off = c.if-is_empty.false in grind (arith, nat_tests) in
    let parts : moves ≡ m ∷ left = cut_at moves 0 1 m (omega arith) some c.index-played-0.is in
    let (first, are) = c.requires in
    record {
      within = omega (arith, some);
      so_far = (
        uci_text m,
        uci_plain first m (cut_legal first moves left m parts are).0,
        λ start legal. (
          after start m,
          (cut_legal start moves left m parts legal).1,
          completes_first Uci start m left moves (uci_text m) parts refl,
        ),
        c.in_ok-push_uci.ensures,
      );
    }

pub loop-ply-preserved : goal.loop-ply-preserved
loop-ply-preserved c =
    let moves = c.args.played.now in
    let ply = c.loop-ply.ply in
    let inv = c.loop-ply.invariant in
    let m = c.index-played-ply.result in
    let left = drop (ply + 1) moves in
    let test = c.loop-ply-test.true in
    let parts : drop ply moves ≡ m ∷ left =
    cut_at moves ply (ply + 1) m refl (omega (arith, test)) c.index-played-ply.is in
    let (value, plain, so_far, text) = inv.so_far in
    let own = uci_text m in
    let old = c.args.text.now.items in
    let (first, are) = c.requires in
    let (there, legal, before) = so_far first are in
    let flat = uci_plain there m (cut_legal there (drop ply moves) left m parts legal).0 in
    record {
      within = omega (arith, test);
      so_far = (
        value ++ 32 ∷ own,
        after_blank value own plain flat,
        λ start own_legal.
            let (here, rest, done) = so_far start own_legal in (
              after here m,
              (cut_legal here (drop ply moves) left m parts rest).1,
              completes_more Uci start moves here m left (drop ply moves) value own parts done
                  refl,
            ),
        c.in_ok-push_uci-2.ensures
            ∙ ap (λ t. t ++ own) (c.in_ok-push_blank.ensures.added ∙ ap (λ t. t ++ 32 ∷ []) text)
            ∙ append_assoc (old ++ value) (32 ∷ []) own ∙ append_assoc old value (32 ∷ own),
      );
    }

pub returns : goal.returns
returns c =
    let inv = c.loop-ply.invariant in
    let moves = c.args.played.now in
    let (value, plain, so_far, text) = inv.so_far in
    let none : drop c.loop-ply.ply moves ≡ [] =
    let test = c.loop-ply-test.false in drop_all c.loop-ply.ply moves (omega (arith, test)) in (
      value,
      plain,
      λ start legal.
          let (here, rest, done) = so_far start legal in
          completes_all Uci start moves here (drop c.loop-ply.ply moves) value none done,
      text,
    )
