-- The game up to its last ply is sound where the game is, so nothing but memory stands in the way.
use Rattle.std.specs.Prelude.{◌≤◌, IfSome, Some}
use Rattle.pgn_game.proofs.Common.{◌≡◌, ◌∙◌, ℕ, List, Item, ap, subst, sym, length, on_ok_weaker}
use Rattle.pgn_game.proofs.Common.{take, GameText}
use Rattle.pgn_game.proofs.Common.{IsPaired, IsFault, tag_in, fen_tag, fault_of, IsSoundGame}
use Rattle.pgn_game.proofs.FirstPlies.{first_paired, first_taken, first_within, none_of_first}
use Rattle.pgn_game.specs.Public.Edits.{Edits, IsTagged, first_plies, up_to}
use Rattle.pgn_game.specs.Public.Exports.{lines_with}
use Rattle.pgn_game.proofs.exports.edits.export_edited.Goals as goal

pub returns-in_default-clause-text : goal.returns-in_default-clause-text
returns-in_default-clause-text c =
    let edits = c.args.edits.now in
    let game = c.args.game.now in
    on_ok_weaker c.export_tagged.result
    (λ (own, text, is, exports, put). (
      text,
      (
        own,
        subst (λ last. IsTagged edits (up_to last game) own)
            (sym c.in_default.is ∙ ap (λ (all : Edits). all.last_ply) c.edits.view_is) is,
        exports,
      ),
      put,
    ))
    c.export_tagged.ensures.text

ends : (items own : List Item) (last end : ℕ) → end ≡ length (first_plies last 0 own)
    → own ≡ items → end ≡ length (first_plies last 0 items)
ends items own last end is same = is ∙ ap (λ some. length (first_plies last 0 some)) same

pub beginning-requires-clause-within : goal.beginning-requires-clause-within
beginning-requires-clause-within c =
    subst (λ n. n ≤ length c.args.game.now.elements)
    (sym (ends c.args.game.now.elements _ c.in-Some.last_ply _ c.end_of_plies-end.ensures
    c.elements.ensures.elements))
    (first_within c.in-Some.last_ply c.args.game.now.elements)

pub beginning-requires-clause-paired : goal.beginning-requires-clause-paired
beginning-requires-clause-paired c =
    let items = c.args.game.now.elements in
    let last = c.in-Some.last_ply in
    subst (λ n. IsPaired 0 (take n items))
    (sym (ends items _ last _ c.end_of_plies-end.ensures c.elements.ensures.elements))
    (subst (IsPaired 0) (sym (first_taken last items))
    (first_paired last 0 items c.invariant.ensures.paired))

short : (game own : GameText) (last end : ℕ)
    → own ≡ record game { elements = take end game.elements }
    → end ≡ length (first_plies last 0 game.elements) → own ≡ up_to (Some last) game
short game own last end is ends_there =
    is ∙ ap (λ some. record game { elements = some })
    (ap (λ n. take n game.elements) ends_there ∙ first_taken last game.elements)

pub returns-in-Ok-clause-text : goal.returns-in-Ok-clause-text
returns-in-Ok-clause-text c =
    let edits = c.args.edits.now in
    let game = c.args.game.now in
    let last = c.in-Some.last_ply in
    let end = ends game.elements _ last _ c.end_of_plies-end.ensures c.elements.ensures.elements in
    let (own, text, is, exports, put) = c.in-Ok.ensures.text in (
      text,
      (
        own,
        subst (λ some. IsTagged edits some own)
            (short game _ last _ c.in_ok-short.ensures end ∙ ap (λ ply. up_to ply game)
            (sym c.in-Some.is ∙ ap (λ (all : Edits). all.last_ply) c.edits.view_is)) is,
        exports,
      ),
      put,
    )

pub refused-requires : goal.refused-requires
refused-requires c =
    let game = c.args.game.now in
    let lines = lines_with c.args.style.now.variations in
    let fen = tag_in fen_tag game.tags in
    let last = c.in-Some.last_ply in
    let end = ends game.elements _ last _ c.end_of_plies-end.ensures c.elements.ensures.elements in
    none_of_first lines fen last game.elements (fault_of c.in-Err.fault)
    (subst (λ own. IsSoundGame own fen game.elements) c.lines_with.ensures
    c.in_ok-check_lines.ensures)
    (subst (λ (own : GameText). IfSome (fault_of c.in-Err.fault)
    (IsFault lines (tag_in fen_tag own.tags) own.elements))
    (short game _ last _ c.in_ok-short.ensures end) c.in-Err.ensures.fault)
