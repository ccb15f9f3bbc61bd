-- Some parts that make a game count as one, whatever lines of openings are given.
use Rattle.std.proofs.Common.{◌≡◌, ◌⊎◌, ◌<◌, ℕ, zero, suc, List, [], ◌∷◌, ◌++◌, Option, Some, None}
use Rattle.std.proofs.Common.{inl, inr, refl, sym, ap, subst, ◌∙◌, arith, length}
use Rattle.std.proofs.Common.{IfSome, codes, bytes_eq}
use Rattle.std.specs.List.{slice_get}
use Rattle.std.proofs.lemmas.Option.{same_Some}
use Rattle.std.proofs.lemmas.List.{append-nil, append_assoc}
use Rattle.pgn_extract.proofs.Common.{GameText, IsGameText, Part, Replay, Fault, Lines, Main}
use Rattle.pgn_extract.proofs.Common.{tag_in, fen_tag, IsReplayOf, IsFaultOf, IsGameOf}
use Rattle.pgn_extract.specs.Public.Listing.{IsCounted}
use Rattle.pgn_extract.proofs.Counting.{same_opening}
use Rattle.pgn_extract.proofs.SomeEdited.{contents_or_not, some_edited}
use Rattle.pgn_game.specs.Public.Edits.{AreEditable, EditedTag, IsEditable}
use Rattle.chess.proofs.SameSettled.{settled_same}
use Rattle.chess.proofs.Settled.{Settled, settled_like}
use Rattle.chess.specs.Public.Keys.{IsSamePosition}
use Rattle.chess.specs.Public.Placements.{AreOnBoard}
use Rattle.chess.specs.Public.Positions.{State}
use Rattle.pgn_text.specs.Public.Strings.{IsContents}
use Rattle.pgn_game.proofs.AnAnswer.{game_answer, start_on_board}
use Rattle.pgn_game.specs.Public.Openings.{NamedLine, EndsIn, HasContents, HasOpening, IsClassified}
use Rattle.pgn_game.specs.Public.Openings.{IsFirstIn, IsOpeningLine, IsOpeningIn}
use Rattle.pgn_game.specs.Public.Openings.{IsTaggedBy, ends_of, unless_empty}
use Rattle.pgn_game.specs.declared.openings.Opening.{Opening}
use Rattle.pgn_game.proofs.NoOpening.{none_there, none_of_faulty, as_it_stands, line_within}
use Rattle.pgn_game.proofs.OnBoard.{line_on_board}
use Rattle.pgn_game.proofs.OpeningFacts.{opening_here, opening_stays}
use Rattle.pgn_game.specs.Public.MainLines.{main_words}

-- ---- the opening of positions

-- the same the other way round
turned : (P Q : State) → IsSamePosition P Q → IsSamePosition Q P
turned P Q same = record {
  men = sym same.men;
  turn = sym same.turn;
  rights = sym same.rights;
  en_passant = λ m. ((same.en_passant m).1, (same.en_passant m).0);
}

same_or_other : (P Q : State) → AreOnBoard Q.men → Settled (IsSamePosition P Q)
same_or_other P Q on_board = settled_like (turned Q P) (turned P Q) (settled_same Q P on_board)

first_end : (ends : List State) (P : State) → AreOnBoard P.men
    → (found : Option ℕ) × IsFirstIn ends P found
first_end [] P on_board = (None, λ line there. cc)
first_end (Q ∷ ends) P on_board = elim (same_or_other Q P on_board) [
  | inl same ↦ (Some 0, ((Q, refl, same), λ other less there. absurd (omega arith)))
  | inr other ↦ later other (first_end ends P on_board)
]
  where
    not_here : (IsSamePosition Q P → ⊥) → EndsIn (Q ∷ ends) 0 P → ⊥
    not_here other there =
        other (subst (λ R. IsSamePosition R P) (sym (same_Some Q there.0 there.1)) there.2)

    later : (IsSamePosition Q P → ⊥) → (found : Option ℕ) × IsFirstIn ends P found
        → (found : Option ℕ) × IsFirstIn (Q ∷ ends) P found
    later other (None, none) = (None, by)
      where
        by : (line : ℕ) → EndsIn (Q ∷ ends) line P → ⊥
        by zero there = not_here other there
        by (suc line) there = none line there
    later other (Some line, first) = (Some (suc line), (first.0, by))
      where
        by : (before : ℕ) → before < suc line → EndsIn (Q ∷ ends) before P → ⊥
        by zero less there = not_here other there
        by (suc before) less there = first.1 before (omega arith) there

-- positions have an opening or none, where some of them have
pub some_opening : (ends seen left : List State) (found : Option Opening)
    → ((i : ℕ) (P : State) → slice_get left i ≡ Some P → AreOnBoard P.men)
    → IsOpeningIn ends seen found → (last : Option Opening) × IsOpeningIn ends (seen ++ left) last
some_opening ends seen [] found on_board is =
    (found, subst (λ ps. IsOpeningIn ends ps found) (sym (append-nil seen)) is)
some_opening ends seen (P ∷ left) found on_board is =
    let first = first_end ends P (on_board 0 P refl) in
    let here = by first.0 first.1 in
    let there =
    some_opening ends (seen ++ P ∷ []) left here.0 (λ i Q at. on_board (suc i) Q at) here.1 in
    (there.0, subst (λ ps. IsOpeningIn ends ps there.0) (append_assoc seen (P ∷ []) left) there.1)
  where
    by : (first : Option ℕ) → IsFirstIn ends P first
        → (next : Option Opening) × IsOpeningIn ends (seen ++ P ∷ []) next
    by None none = (found, opening_stays ends seen P found none is)
    by (Some line) first =
        (Some (record { ply = length seen; line = line }), opening_here ends seen P line first)

-- ---- the tags of a line

named_or_not : (line : NamedLine) → HasContents line ⊎ (HasContents line → ⊥)
named_or_not line = elim (contents_or_not line.code) [
  | inr bad ↦ inr (λ good. bad good.code)
  | inl code ↦ elim (contents_or_not line.name) [
    | inr bad ↦ inr (λ good. bad good.name)
    | inl name ↦ elim (contents_or_not line.variation) [
      | inr bad ↦ inr (λ good. bad good.variation)
      | inl variation ↦ inl (record { code = code; name = name; variation = variation })
    ]
  ]
]

held : (text : List ℕ) → IsContents text → IfSome (unless_empty text) IsContents
held [] good = tt
held (byte ∷ more) good = good

-- the edits that give a game the tags of a line, of which the last of a name counts
abbrev line_edits : NamedLine → List EditedTag
line_edits line =
    record { name = codes "Variation"; contents = unless_empty line.variation }
    ∷ record { name = codes "Opening"; contents = unless_empty line.name }
    ∷ record { name = codes "ECO"; contents = unless_empty line.code }
    ∷ []

-- they may be made
line_may : (line : NamedLine) → HasContents line → AreEditable (line_edits line)
line_may line good zero edit here = subst IsEditable (same_Some _ edit here) (record {
  some = λ none. cc;
  name = refl;
  start = λ same. let differ = ap (λ name. bytes_eq name fen_tag) same in cc;
  contents = held line.variation good.variation;
})
line_may line good (suc zero) edit here = subst IsEditable (same_Some _ edit here) (record {
  some = λ none. cc;
  name = refl;
  start = λ same. let differ = ap (λ name. bytes_eq name fen_tag) same in cc;
  contents = held line.name good.name;
})
line_may line good (suc (suc zero)) edit here = subst IsEditable (same_Some _ edit here) (record {
  some = λ none. cc;
  name = refl;
  start = λ same. let differ = ap (λ name. bytes_eq name fen_tag) same in cc;
  contents = held line.code good.code;
})
line_may line good (suc (suc (suc place))) edit here = absurd (cc)

-- a game with the tags of a line
some_tagged : (line : NamedLine) (game : GameText) → HasContents line → IsGameText game
    → (other : GameText) × IsGameText other × IsTaggedBy (Some line) game other
some_tagged line game contents good =
    let some = some_edited (line_edits line) game good (line_may line contents) in (
      some.0,
      some.1,
      record {
        place = some.2.place;
        text = some.2.text;
        tags = some.2.tags;
        elements = some.2.elements;
        result = some.2.result;
      },
    )

-- ---- the game as it counts

not_past : (lines : List NamedLine) (place : ℕ) → slice_get lines place ≡ None
    → place < length lines → ⊥
not_past [] place none below = omega arith
not_past (line ∷ lines) zero none below = cc
not_past (line ∷ lines) (suc place) none below = not_past lines place none (omega arith)

-- so its FEN tag has the contents of a string, and its variations are paired
pub answers : (lines : Lines) (game : GameText) → IsGameText game
    → ((replay : Replay) × IsReplayOf lines game replay)
    ⊎ ((fault : Fault) × IsFaultOf lines game fault)
answers lines game is =
    game_answer lines (tag_in fen_tag game.tags) game.elements
    (has_string (tag_in fen_tag game.tags) refl) (λ all. is.paired)
  where
    has_string : (tag : Option (List ℕ)) → tag_in fen_tag game.tags ≡ tag → IfSome tag IsContents
    has_string None none = tt
    has_string (Some contents) some = is.strings fen_tag contents some

pub some_classified : (lines : List NamedLine) (game : GameText) → IsGameText game
    → (other : GameText) × IsGameText other × IsClassified lines game other
some_classified lines game good = elim (answers Main game good) [
  | inr (fault, is) ↦ as_it_is (none_of_faulty lines game fault is)
  | inl (replay, is) ↦
      let start = start_on_board (tag_in fen_tag game.tags) is.start is.is_start in
      let some = some_opening (ends_of lines) [] replay.positions None
      (line_on_board (main_words game.elements 0) is.start replay.positions replay.played start
      is.line) (λ ply line there. cc) in
      by some.0 (replay, is, some.1)
]
  where
    as_it_is : IsOpeningLine lines game None
        → (other : GameText) × IsGameText other × IsClassified lines game other
    as_it_is none = (game, good, (None, none, as_it_stands game))

    with_line : (opening : Opening) → HasOpening lines game (Some opening) → (line : NamedLine)
        → slice_get lines opening.line ≡ Some line
        → (other : GameText) × IsGameText other × IsClassified lines game other
    with_line opening has line at = elim (named_or_not line) [
      | inl contents ↦
          let tagged = some_tagged line game contents good in
          (tagged.0, tagged.1, (Some line, (opening, has, at, contents), tagged.2))
      | inr bad ↦ as_it_is (λ another (other, also, there, contents).
          bad (subst HasContents (same_Some another line (sym there
          ∙ subst (λ (o : Opening). slice_get lines o.line ≡ Some line)
          (same_opening lines game opening other has also) at)) contents))
    ]

    by : (found : Option Opening) → HasOpening lines game found
        → (other : GameText) × IsGameText other × IsClassified lines game other
    by None none = as_it_is (none_there lines game none)
    by (Some opening) has = there (slice_get lines opening.line) refl
      where
        there : (line : Option NamedLine) → slice_get lines opening.line ≡ line
            → (other : GameText) × IsGameText other × IsClassified lines game other
        there (Some line) at = with_line opening has line at
        there None at =
            absurd (not_past lines opening.line at (line_within lines game opening has))

pub some_counted : (openings : Option (List NamedLine)) (parts : List Part) (game : GameText)
    → IsGameOf parts game → (other : GameText) × IsCounted openings parts other
some_counted None parts game made = (game, made)
some_counted (Some lines) parts game made =
    let some = some_classified lines game made.0 in
    (some.0, (game, made, (some.1, some.2)))
