-- A game from its first entry on: there is one, and only one, and it is that of the game by itself.
use Rattle.std.specs.Prelude.{codes}
use Rattle.pgn_extract.proofs.Common.{◌≡◌, ℕ, List, [], ◌∷◌, Option, None, Some, refl, sym}
use Rattle.pgn_extract.proofs.Common.{ap, ◌∙◌}
use Rattle.pgn_extract.proofs.Common.{subst, inl, inr, arith, cases_lt, GameText, IsGameText, State}
use Rattle.pgn_extract.proofs.Common.{tag_in, fen_tag, Replay, Main, Heading, Aim}
use Rattle.pgn_extract.proofs.Common.{by_itself, main_words, slice_get, same_Some}
use Rattle.chess.proofs.FenOneText.{one_fen, some_fen}
use Rattle.pgn_text.specs.Public.Strings.{Single}
use Rattle.pgn_game.proofs.BegunGames.{fen_contents, may_or_not}
use Rattle.pgn_game.proofs.LaterPlies.{later_paired, line_sound}
use Rattle.pgn_game.proofs.OneReplay.{one_replay}
use Rattle.pgn_game.proofs.StartTexts.{start_read_back}
use Rattle.pgn_game.specs.Public.Edits.{IsEditedBy}
use Rattle.pgn_game.specs.Public.Replays.{IsSoundGame}
use Rattle.pgn_game.specs.declared.replays.replayer.Lines.{Lines}
use Rattle.pgn_text.specs.Public.Games.{Item}
use Rattle.chess.specs.Public.Fen.{IsFen}
use Rattle.pgn_game.specs.Public.LaterPlies.{IsLater, IsPositionAt, MayBeStart, later_plies}
use Rattle.pgn_game.specs.Public.LaterPlies.{start_tags}
use Rattle.pgn_extract.proofs.SomeEdited.{first_edited, one_edited, some_retagged}
use Rattle.pgn_extract.specs.Public.Exports.{IsFirstOrNone, IsFromEntry}

-- the main line of a sound game is sound
pub main_sound : (lines : Lines) (fen : Option (List ℕ)) (items : List Item)
    → IsSoundGame lines fen items → IsSoundGame Main fen items
main_sound lines fen items (replay, is) = (
  record { positions = replay.positions; played = replay.played; turns = [] },
  record { start = is.start; is_start = is.is_start; line = is.line; turns = refl },
)

-- ---- the first entry

pub one_first : (aim : Aim) (tags : Heading) (replay : Replay) (first second : Option ℕ)
    → IsFirstOrNone aim tags replay first → IsFirstOrNone aim tags replay second → first ≡ second
one_first aim tags replay None None none also = refl
one_first aim tags replay None (Some ply) none (within, wanted, least) =
    absurd (none ply within wanted)
one_first aim tags replay (Some ply) None (within, wanted, least) none =
    absurd (none ply within wanted)
one_first aim tags replay (Some ply) (Some other) (within, wanted, least) (also, too, less) =
    elim (cases_lt ply other) [
      | inl before ↦ absurd (less ply before wanted)
      | inr low ↦ elim (cases_lt other ply) [
        | inl before ↦ absurd (least other before too)
        | inr high ↦ let same : ply ≡ other = omega (arith, low, high) in ap (λ n. Some n) same
      ]
    ]

-- ---- the game from there on

pub one_later : (ply : ℕ) (game one two : GameText) → IsLater ply game one → IsLater ply game two
    → one ≡ two
one_later ply game one two (P, (replay, is, here), first) (Q, (other, also, there), second) =
    let same : other ≡ replay =
    one_replay Main (tag_in fen_tag game.tags) game.elements other replay also is in
    let position : Q ≡ P =
    same_Some Q P (sym there ∙ ap (λ (r : Replay). slice_get r.positions ply) same ∙ here) in
    elim (may_or_not ply P) [
      | inr none ↦
          first.1 none
          ∙ sym (second.1 (λ may. none (may.0, subst (λ s. MayBeStart s) position may.1)))
      | inl may ↦
          let (good, begun) = first.0 may in
          let (fen, is_fen, edited) = begun in
          let (fine, starts) =
          second.0 (may.0, subst (λ s. MayBeStart s) (sym position) may.1) in
          let (text, is_text, tagged) = starts in
          let texts = one_fen P text fen (subst (λ s. IsFen s text) position is_text) is_fen in
          one_edited (start_tags fen) (record game { elements = later_plies ply 0 game.elements })
          one two good fine edited
          (subst (λ t. IsEditedBy (start_tags t)
          (record game { elements = later_plies ply 0 game.elements }) two) texts tagged)
    ]

pub one_from : (first : Option ℕ) (game one two : GameText) → IsFromEntry first game one
    → IsFromEntry first game two → one ≡ two
one_from None game one two is also = is ∙ sym also
one_from (Some ply) game one two is also = one_later ply game one two is also

pub some_later : (game : GameText) (ply : ℕ) → IsGameText game
    → (P : State) × IsPositionAt game ply P
    → (own : GameText) × IsGameText own × IsLater ply game own
some_later game ply good (P, at) = elim (may_or_not ply P) [
  | inr none ↦ (game, good, (P, at, ((λ may. absurd (none may)), (λ _. refl))))
  | inl may ↦
      let (replay, is, here) = at in
      let sound =
      line_sound (main_words game.elements 0) is.start replay.positions replay.played
      (start_read_back (tag_in fen_tag game.tags) is.start is.is_start).sound is.line ply P here in
      let (fen, is_fen) = some_fen P in
      let rest = record game { elements = later_plies ply 0 game.elements } in
      let fine : IsGameText rest = record {
        ordered = good.ordered;
        strings = good.strings;
        names = good.names;
        paired = later_paired ply 0 game.elements good.paired;
        ends = good.ends;
      } in
      let (one, one_good, one_is) =
      some_retagged rest fen_tag (Some fen) fine refl (fen_contents P fen sound is_fen) in
      let (two, two_good, two_is) =
      some_retagged one (codes "SetUp") (Some (codes "1")) one_good refl
      (Single 49 ∷ [], refl, refl) in
      let begun : IsEditedBy (start_tags fen) rest two =
      first_edited (record { name = fen_tag; contents = Some fen })
      (record { name = codes "SetUp"; contents = Some (codes "1") } ∷ []) rest one two one_is
      (first_edited (record { name = codes "SetUp"; contents = Some (codes "1") }) [] one two two
      two_is (record {
        place = refl;
        text = refl;
        tags = λ wanted. refl;
        elements = refl;
        result = refl;
      })) in (
        two,
        two_good,
        (P, at, ((λ _. (two_good, (fen, is_fen, begun))), (λ none. absurd (none may)))),
      )
]

-- ---- that of the game by itself

own_later : (ply : ℕ) (game own : GameText) → IsLater ply game own
    → IsLater ply (by_itself game) (by_itself own)
own_later ply game own (P, (replay, is, here), from) = (
  P,
  (
    replay,
    record { start = is.start; is_start = is.is_start; line = is.line; turns = is.turns },
    here,
  ),
  (
    (λ may.
        let (good, begun) = from.0 may in
        let (fen, is_fen, by) = begun in (
          record {
            ordered = good.ordered;
            strings = good.strings;
            names = good.names;
            paired = good.paired;
            ends = good.ends;
          },
          (
            fen,
            is_fen,
            record {
              place = refl;
              text = by.text;
              tags = by.tags;
              elements = by.elements;
              result = by.result;
            },
          ),
        )),
    (λ none. ap by_itself (from.1 none)),
  ),
)

pub own_from : (first : Option ℕ) (game own : GameText) → IsFromEntry first game own
    → IsFromEntry first (by_itself game) (by_itself own)
own_from None game own is = ap by_itself is
own_from (Some ply) game own is = own_later ply game own is
