use Rattle.std.proofs.lemmas.Result.{MatchResult-weaker}
use Rattle.pgn_criteria.proofs.Common.{◌↔◌, ◌∙◌, ℕ, ap, refl, sym, subst, length, map, Meets}
use Rattle.pgn_criteria.proofs.Common.{tag_in, fen_tag, heading_of}
use Rattle.pgn_game.specs.Public.MainLines.{main_words}
use Rattle.pgn_game.specs.declared.replays.replayer.Lines.TheVariants.{Main}
use Rattle.pgn_game.proofs.Beginnings.{beginning_legal}
use Rattle.pgn_game.proofs.OneLine.{plies_played}
use Rattle.pgn_criteria.proofs.BeginningFacts.{beginning_fits}
use Rattle.pgn_criteria.proofs.ColumnFacts.{met_as}
use Rattle.pgn_criteria.specs.Private.Stages.{AllOfGame, EachIs}
use Rattle.pgn_criteria.proofs.meets.Criteria.met_of_game.Goals as goal

pub left_of_begun-requires : goal.left_of_begun-requires
left_of_begun-requires c k = (
  (refl, tt),
  (
    tt,
    beginning_legal (tag_in fen_tag c.args.game.now.tags) c.args.game.now.elements _
        c.in_ok-beginning.beginning c.in_ok-beginning.ensures,
  ),
)

pub returns : goal.returns
returns c =
    let game = c.args.game.now in
    let heading = heading_of game in
    let words = main_words game.elements 0 in
    let whole = c.args.self.now in
    let most = c.most_words.result in
    let beginning = c.in_ok-beginning.beginning in
    let counted = ap (λ items. length (main_words items 0)) c.elements.ensures.elements in
    MatchResult-weaker c.met_by_left.result c.met_by_left.ensures
    (λ met (replay, is, are).
    let played = plies_played is.start words replay.positions replay.played is.line in
    let fits = beginning_fits (tag_in fen_tag game.tags) game.elements most beginning replay
    c.in_ok-beginning.ensures (Main, is) in
    let (each, same) = c.in_ok-left.ensures most replay c.most_words.ensures
    (sym played ∙ sym counted ∙ sym c.count_main_moves-plies.ensures) fits in (
      replay,
      is,
      met_as heading replay _ whole met.items
          (subst (λ xs. (ply : ℕ) → Meets heading replay ply (map (λ a. a.now) xs)
          ↔ Meets heading replay ply whole) (sym c.deref.ensures.value) same)
          (are heading (subst (λ xs. EachIs (AllOfGame heading replay) (map (λ a. a.now) xs))
          (sym c.deref.ensures.value) each)),
    ))
    (λ fault is. is)
