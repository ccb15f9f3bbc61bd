use Rattle.pgn_extract.proofs.Common.{◌≡◌, ◌<◌, ◌+◌, ◌++◌, ◌∷◌, [], length, refl, sym, ap, ◌∙◌}
use Rattle.pgn_extract.proofs.Common.{subst, arith, append_assoc, append-nil, nat_tests, IsSan}
use Rattle.pgn_extract.proofs.Common.{after}
use Rattle.std.proofs.Common.{drop}
use Rattle.std.proofs.lemmas.List.{drop_all}
use Rattle.pgn_game.specs.Public.CodeLines.{AreLegalMoves}
use Rattle.pgn_game.specs.declared.exports.notation.Notation.TheVariants.{San}
use Rattle.pgn_extract.proofs.entries.KeptMoves.{Completes, completes_all, completes_first}
use Rattle.pgn_extract.proofs.entries.KeptMoves.{completes_more, completes_none, cut_at, cut_legal}
use Rattle.pgn_extract.proofs.entries.LineValues.{after_blank}
use Rattle.pgn_extract.proofs.entries.line_value.push_sans.Goals as goal

pub returns-then-is_empty : goal.returns-then-is_empty
returns-then-is_empty c =
    let none : length c.args.played.now ≡ 0 =
    let is = c.is_empty.ensures in grind (arith, nat_tests) in (
      [],
      tt,
      completes_none San c.args.start.now c.args.played.now none,
      sym (append-nil c.args.text.now.items),
    )

pub loop-ply-init : goal.loop-ply-init
loop-ply-init c =
    let moves = c.args.played.now in
    let m = c.index-played-0.result in
    let left = drop 1 moves in
    let some : 0 < length moves =
    let is = c.is_empty.ensures in let off = c.if-is_empty.false in grind (arith, nat_tests) in
    let parts : moves ≡ m ∷ left = cut_at moves 0 1 m (omega arith) some c.index-played-0.is in
    let start = c.args.start.now in
    let here : c.play_move.new.here ≡ after start m =
    c.play_move.ensures.played ∙ ap (λ P. after P m) c.copy-here.ensures in
    let (own, plain, is, items) = c.in_ok-play_move.ensures.text in
    let san : IsSan start m own = subst (λ P. IsSan P m own) c.copy-here.ensures is in
    let legal = cut_legal start moves left m parts c.requires in
    record {
      within = omega (arith, some);
      legal = subst (λ P. AreLegalMoves P left) (sym here) legal.1;
      so_far = (
        own,
        plain,
        subst (λ P. Completes San start moves P left own) (sym here)
            (completes_first San start m left moves own parts san),
        items,
      );
    }

pub loop-ply-preserved : goal.loop-ply-preserved
loop-ply-preserved c =
    let moves = c.args.played.now in
    let ply = c.loop-ply.ply in
    let inv = c.loop-ply.invariant in
    let m = c.index-played-ply.result in
    let left = drop (ply + 1) moves in
    let test = c.loop-ply-test.true in
    let parts : drop ply moves ≡ m ∷ left =
    cut_at moves ply (ply + 1) m refl (omega (arith, test)) c.index-played-ply.is in
    let here = c.loop-ply.here in
    let next : c.play_move-in-loop-ply.new.here ≡ after here m =
    c.play_move-in-loop-ply.ensures.played in
    let (value, plain, so_far, text) = inv.so_far in
    let (own, flat, is, items) = c.in_ok-play_move-2.ensures.text in
    let old = c.args.text.now.items in
    let legal = cut_legal here (drop ply moves) left m parts inv.legal in
    record {
      within = omega (arith, test);
      legal = subst (λ P. AreLegalMoves P left) (sym next) legal.1;
      so_far = (
        value ++ 32 ∷ own,
        after_blank value own plain flat,
        subst (λ P. Completes San c.args.start.now moves P left (value ++ 32 ∷ own)) (sym next)
            (completes_more San c.args.start.now moves here m left (drop ply moves) value own parts
            so_far is),
        items
            ∙ ap (λ t. t ++ own) (c.in_ok-push_blank.ensures.added ∙ ap (λ t. t ++ 32 ∷ []) text)
            ∙ append_assoc (old ++ value) (32 ∷ []) own ∙ append_assoc old value (32 ∷ own),
      );
    }

pub returns : goal.returns
returns c =
    let inv = c.loop-ply.invariant in
    let moves = c.args.played.now in
    let (value, plain, so_far, text) = inv.so_far in
    let none : drop c.loop-ply.ply moves ≡ [] =
    let test = c.loop-ply-test.false in drop_all c.loop-ply.ply moves (omega (arith, test)) in (
      value,
      plain,
      completes_all San c.args.start.now moves c.loop-ply.here (drop c.loop-ply.ply moves) value
          none so_far,
      text,
    )
