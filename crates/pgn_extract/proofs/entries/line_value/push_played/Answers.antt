use Rattle.std.specs.Prelude.{IfSome}
use Rattle.std.proofs.lemmas.Option.{slice_get_past, slice_get_read}
use Rattle.pgn_extract.proofs.Common.{◌≡◌, ℕ, List, [], length, refl, sym, subst, append-nil, arith}
use Rattle.pgn_extract.proofs.Common.{Option, Some, None, MatchOption, slice_get, Move, IsLegal}
use Rattle.pgn_extract.proofs.Common.{on_ok_weaker}
use Rattle.pgn_game.specs.Public.GameLines.{IsMoveText, uci_text}
use Rattle.pgn_game.specs.declared.exports.notation.Notation.{Notation}
use Rattle.pgn_extract.proofs.entries.UciTexts.{uci_plain}
use Rattle.pgn_extract.proofs.entries.line_value.push_played.Goals as goal

pub push_san-requires : goal.push_san-requires
push_san-requires c =
    let played = c.args.played.now in
    let m = c.index-played-ply.result in
    let here : slice_get played c.args.ply ≡ Some m =
    slice_get_read played (length played) c.args.ply m refl
    (let within = c.requires.within in omega (arith, within, c.if-ply-played.false))
    c.index-played-ply.is in
    subst (λ (o : Option Move). IfSome o (IsLegal c.args.position.now)) here c.requires.legal

pub returns-then-ply-played : goal.returns-then-ply-played
returns-then-ply-played c =
    let played = c.args.played.now in
    let empty : List ℕ = [] in
    let none : slice_get played c.args.ply ≡ None =
    slice_get_past played c.args.ply (omega (arith, c.if-ply-played.true)) in (
      empty,
      tt,
      subst (λ (o : Option Move).
          MatchOption o (empty ≡ []) (λ m. IsMoveText c.args.notation c.args.position.now m empty))
          (sym none) refl,
      sym (append-nil c.args.text.now.items),
    )

pub returns-in-San : goal.returns-in-San
returns-in-San c =
    let played = c.args.played.now in
    let P = c.args.position.now in
    let m = c.index-played-ply.result in
    let here : slice_get played c.args.ply ≡ Some m =
    slice_get_read played (length played) c.args.ply m refl
    (let within = c.requires.within in omega (arith, within, c.if-ply-played.false))
    c.index-played-ply.is in
    on_ok_weaker c.push_san.result
    (λ (value, plain, is, items). (
      value,
      plain,
      subst (λ (o : Option Move).
          MatchOption o (value ≡ []) (λ k. IsMoveText c.args.notation P k value)) (sym here)
          (subst (λ (k : Notation). IsMoveText k P m value) (sym c.in-San.is) is),
      items,
    ))
    c.push_san.ensures

pub returns-in-Uci : goal.returns-in-Uci
returns-in-Uci c =
    let played = c.args.played.now in
    let P = c.args.position.now in
    let m = c.index-played-ply.result in
    let here : slice_get played c.args.ply ≡ Some m =
    slice_get_read played (length played) c.args.ply m refl
    (let within = c.requires.within in omega (arith, within, c.if-ply-played.false))
    c.index-played-ply.is in
    let legal : IsLegal P m =
    subst (λ (o : Option Move). IfSome o (IsLegal P)) here c.requires.legal in
    on_ok_weaker c.push_uci.result
    (λ items. (
      uci_text m,
      uci_plain P m legal,
      subst (λ (o : Option Move).
          MatchOption o (uci_text m ≡ []) (λ k. IsMoveText c.args.notation P k (uci_text m)))
          (sym here)
          (subst (λ (k : Notation). IsMoveText k P m (uci_text m)) (sym c.in-Uci.is) refl),
      items,
    ))
    c.push_uci.ensures
