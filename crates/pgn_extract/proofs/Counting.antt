-- The game as which some parts count: there is one, and one at most.
use Rattle.std.proofs.Common.{◌≡◌, ℕ, List, Option, Some, None, refl, sym, ap, subst, ◌∙◌}
use Rattle.pgn_extract.proofs.Common.{GameText, IsGameText, ShowsGame, Part, Replay, Main, IsGameOf}
use Rattle.pgn_extract.proofs.Common.{fen_tag, tag_in, by_itself, spelled}
use Rattle.std.specs.List.{slice_get}
use Rattle.pgn_text.proofs.ShownOnce.{same_tags}
use Rattle.pgn_game.proofs.OneReplay.{one_replay}
use Rattle.pgn_game.proofs.laws.OneOpening.{one_opening}
use Rattle.pgn_game.specs.Public.Openings.{NamedLine, HasOpening, IsClassified, IsOpeningLine}
use Rattle.pgn_game.specs.Public.Openings.{IsOpeningOf, IsTaggedBy, ends_of, tag_by}
use Rattle.pgn_game.specs.declared.openings.Opening.{Opening}
use Rattle.pgn_extract.specs.Public.Listing.{CountsAs, IsCounted}
use Rattle.pgn_extract.proofs.GameExport.{one_game, own_game}
use Rattle.pgn_extract.proofs.Common.{Fault, IsFaultOf, IsReplayOf}
use Rattle.pgn_text.specs.Public.Games.{Item}
use Rattle.pgn_game.specs.Public.Replays.{IsReplay}
use Rattle.pgn_game.proofs.NoOpening.{as_it_stands, none_of_faulty}

-- ---- one at most

-- of one game
pub same_opening : (lines : List NamedLine) (game : GameText) (a b : Opening)
    → HasOpening lines game (Some a) → HasOpening lines game (Some b) → a ≡ b
same_opening lines game a b (replay, is, first) (other, also, second) =
    let same = ap (λ (r : Replay). r.positions)
    (one_replay Main (tag_in fen_tag game.tags) game.elements other replay also is) in
    one_opening (ends_of lines) replay.positions a b first
    (subst (λ ps. IsOpeningOf (ends_of lines) ps b) same second)

one_line : (lines : List NamedLine) (game : GameText) (a b : Option NamedLine)
    → IsOpeningLine lines game a → IsOpeningLine lines game b → a ≡ b
one_line lines game None None first second = refl
one_line lines game None (Some b) first second = absurd (first b second)
one_line lines game (Some a) None first second = absurd (second a first)
one_line lines game (Some a) (Some b) (opening, has, at, good) (other, also, there, fine) =
    let same = same_opening lines game other opening also has in
    sym at ∙ subst (λ (o : Opening). slice_get lines o.line ≡ Some b) same there

same_tagged : (line : Option NamedLine) (own game other : GameText) → IsGameText game
    → IsGameText other → IsTaggedBy line own game → IsTaggedBy line own other → game ≡ other
same_tagged line own game other good fine first second =
    let place = first.place ∙ sym second.place in
    let text = first.text ∙ sym second.text in
    let tags = same_tags game.tags other.tags good.ordered fine.ordered
    (λ wanted. first.tags wanted ∙ sym (second.tags wanted)) in
    let elements = first.elements ∙ sym second.elements in
    let result = first.result ∙ sym second.result in
    λ i. record {
      at = place i;
      text = text i;
      tags = tags i;
      elements = elements i;
      result = result i;
    }

-- a game counts as one other at most
one_classified : (lines : List NamedLine) (own game other : GameText) → IsGameText game
    → IsGameText other → IsClassified lines own game → IsClassified lines own other → game ≡ other
one_classified lines own game other good fine (line, has, is) (another, too, also) =
    same_tagged line own game other good fine is
    (subst (λ l. IsTaggedBy l own other) (sym (one_line lines own line another has too)) also)

pub one_counted : (openings : Option (List NamedLine)) (parts : List Part) (game other : GameText)
    → IsCounted openings parts game → IsCounted openings parts other → game ≡ other
one_counted None parts game other is also = one_game parts game other is also
one_counted (Some lines) parts game other (own, made, counts) (another, makes, others) =
    one_classified lines own game other counts.0 others.0 counts.1
    (subst (λ g. IsClassified lines g other) (one_game parts another own makes made) others.1)

-- ---- what is known of it

pub counted_good : (openings : Option (List NamedLine)) (parts : List Part) (game : GameText)
    → IsCounted openings parts game → IsGameText game
counted_good None parts game is = is.0
counted_good (Some lines) parts game (own, made, counts) = counts.0

pub counted_text : (openings : Option (List NamedLine)) (parts : List Part) (game : GameText)
    → IsCounted openings parts game → game.text ≡ spelled parts
counted_text None parts game is = is.1.text
counted_text (Some lines) parts game (own, made, counts) =
    let (line, has, is) = counts.1 in is.text ∙ made.1.text

-- a game that is given where its parts stand counts by itself
pub counts_there : (openings : Option (List NamedLine)) {at : ℕ} (parts : List Part)
    (game other : GameText) → IsGameText game → ShowsGame game at parts
    → CountsAs openings game other → IsCounted openings parts (by_itself other)
counts_there None parts game other good shows is =
    subst (λ g. IsGameOf parts (by_itself g)) (sym is) (own_game good shows)
counts_there (Some lines) parts game other good shows (fine, (line, has, is)) = (
  by_itself game,
  own_game good shows,
  (
    record {
      ordered = fine.ordered;
      strings = fine.strings;
      names = fine.names;
      paired = fine.paired;
      ends = fine.ends;
    },
    (
      line,
      there line has,
      record {
        place = refl;
        text = is.text;
        tags = is.tags;
        elements = is.elements;
        result = is.result;
      },
    ),
  ),
)
  where
    there : (line : Option NamedLine) → IsOpeningLine lines game line
        → IsOpeningLine lines (by_itself game) line
    there None none = none
    there (Some line) some = some

-- ---- what it keeps

-- a line of openings names no start
start_stays : (line : Option NamedLine) (own : Option (List ℕ)) → tag_by line fen_tag own ≡ own
start_stays None own = refl
start_stays (Some line) own = refl

-- what holds of the start and the elements of a game holds of those of the game as it counts
pub of_counted : (Fact : Option (List ℕ) → List Item → Type 0) (lines : List NamedLine)
    (game other : GameText) → IsClassified lines game other
    → Fact (tag_in fen_tag game.tags) game.elements
    → Fact (tag_in fen_tag other.tags) other.elements
of_counted Fact lines game other (line, has, is) fact =
    subst (λ items. Fact (tag_in fen_tag other.tags) items) (sym is.elements)
    (subst (λ fen. Fact fen game.elements) (sym (is.tags fen_tag
    ∙ start_stays line (tag_in fen_tag game.tags))) fact)

-- so it has the replay of the game
pub counted_replay : (openings : Option (List NamedLine)) (game other : GameText)
    (replay : Replay) → CountsAs openings game other → IsReplayOf Main game replay
    → IsReplayOf Main other replay
counted_replay None game other replay is of =
    subst (λ g. IsReplayOf Main g replay) (sym is) of
counted_replay (Some lines) game other replay (good, is) of =
    of_counted (λ fen items. IsReplay Main fen items replay) lines game other is of

-- a faulty game counts as it stands
pub faulty_counts : (openings : Option (List NamedLine)) (game : GameText) (fault : Fault)
    → IsGameText game → IsFaultOf Main game fault → CountsAs openings game game
faulty_counts None game fault good is = refl
faulty_counts (Some lines) game fault good is =
    (good, (None, none_of_faulty lines game fault is, as_it_stands game))
