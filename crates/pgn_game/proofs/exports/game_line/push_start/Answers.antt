use Rattle.std.proofs.Common.{◌≡◌, List, ℕ, true, false, map, codes, refl, sym, ◌∙◌, subst}
use Rattle.pgn_game.proofs.Common.{on_ok_weaker, bytes_eq-Decides, IsFen, unspaced, as_initial}
use Rattle.pgn_game.proofs.Common.{as_fen, initial_fen}
use Rattle.pgn_game.proofs.StartTexts.{on_ok_if, start_read_back, initial_by_fen}
use Rattle.pgn_game.proofs.StartTexts.{not_initial_by_fen}
use Rattle.pgn_game.proofs.exports.game_line.push_start.Goals as goal

pub returns-then-eq-clause-text : goal.returns-then-eq-clause-text
returns-then-eq-clause-text c =
    let start = c.args.start.now in
    let text : List ℕ = c.as_bytes.result.now in
    let is : IsFen start text =
    subst (IsFen start) (sym (c.as_bytes.ensures.value ∙ c.deref.ensures.0)) c.fen-fen.ensures
    in
    let same : text ≡ initial_fen =
    (bytes_eq-Decides text initial_fen).0 (sym c.eq.ensures ∙ c.if-eq.true) in
    on_ok_weaker c.extend_from_slice.result
    (λ put. (
      codes "-",
      as_initial
          (initial_by_fen start text (start_read_back c.requires.0 start c.requires.1) is same)
          refl,
      put,
    ))
    (on_ok_if c.extend_from_slice.result _ _ _ c.extend_from_slice.ensures.items)

pub returns-clause-text : goal.returns-clause-text
returns-clause-text c =
    let start = c.args.start.now in
    let text : List ℕ = c.as_bytes.result.now in
    let more : List ℕ = c.as_bytes-2.result.now in
    let is : IsFen start text =
    subst (IsFen start) (sym (c.as_bytes.ensures.value ∙ c.deref.ensures.0)) c.fen-fen.ensures
    in
    let also : IsFen start more =
    subst (IsFen start) (sym (c.as_bytes-2.ensures.value ∙ c.deref-2.ensures.0))
    c.fen-fen.ensures in
    on_ok_weaker c.push_unspaced.result
    (λ put. (
      map unspaced more,
      as_fen (not_initial_by_fen start text is (λ same. let never : true ≡ false =
          sym ((bytes_eq-Decides text initial_fen).1 same) ∙ sym c.eq.ensures ∙ c.if-eq.false in
          absurd (cc)))
          more also refl,
      put,
    ))
    c.push_unspaced.ensures.text
