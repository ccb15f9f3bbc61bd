-- A game that some parts make: there is one at most; and its export and its record are those of the
-- game that is given where these parts stand.
use Rattle.pgn_extract.proofs.Common.{◌≡◌, ℕ, List, Option, refl, sym, subst, ◌∙◌, GameText}
use Rattle.pgn_extract.proofs.Common.{IsGameText, ShowsGame, Bool, false}
use Rattle.pgn_extract.proofs.Common.{Part, IsRecordOf, Style, by_itself, IsGameOf}
use Rattle.pgn_text.proofs.ShownOnce.{one_game_text}
use Rattle.pgn_game.specs.Public.Exports.{IsLineExport, IsOrderedExport}

pub one_game : (parts : List Part) (game other : GameText) → IsGameOf parts game
    → IsGameOf parts other → game ≡ other
one_game parts game other (text, shows) (others, also) =
    let here = subst (λ n. ShowsGame game n parts) (sym shows.place) shows in
    let there = subst (λ n. ShowsGame other n parts) (sym also.place) also in
    let same = one_game_text parts game other text others here there in
    let place : game.at ≡ other.at = shows.place ∙ sym also.place in
    λ i. record {
      at = place i;
      text = same.3 i;
      tags = same.0 i;
      elements = same.1 i;
      result = same.2 i;
    }

-- a game that is given, read by itself, is the one that its parts make
pub own_game : {game : GameText} {at : ℕ} {parts : List Part} → IsGameText game
    → ShowsGame game at parts → IsGameOf parts (by_itself game)
own_game is shows = (
  record {
    ordered = is.ordered;
    strings = is.strings;
    names = is.names;
    paired = is.paired;
    ends = is.ends;
  },
  record {
    place = refl;
    text = shows.text;
    tags = shows.tags;
    elements = shows.elements;
    result = shows.result;
  },
)

pub own_line_export : (inside : Bool) (order : List (List ℕ)) (style : Style) (game : GameText)
    (text : List ℕ) → IsLineExport inside order style game text
    → IsLineExport inside order style (by_itself game) text
own_line_export inside order style game text own = record {
  start = own.start;
  is_start = own.is_start;
  head = own.head;
  tags = own.tags;
  tokens = own.tokens;
  are_tokens = own.are_tokens;
  movetext = own.movetext;
  laid = own.laid;
  spells = own.spells;
}

pub own_export : (order : List (List ℕ)) (style : Style) (game : GameText) (text : List ℕ)
    → IsOrderedExport order style game text → IsOrderedExport order style (by_itself game) text
own_export = own_line_export false

pub own_record : (name : Option (List ℕ)) (number offset : ℕ) (game : GameText) (bytes : List ℕ)
    → IsRecordOf name number offset game bytes
    → IsRecordOf name number offset (by_itself game) bytes
own_record name number offset game bytes own = record {
  replay = own.replay;
  is_replay = own.is_replay;
  packed = own.packed;
  is_packed = record {
    name = own.is_packed.name;
    number = own.is_packed.number;
    offset = own.is_packed.offset;
    tags = own.is_packed.tags;
    result = own.is_packed.result;
    start = own.is_packed.start;
    first = own.is_packed.first;
    marks = own.is_packed.marks;
    plies = own.is_packed.plies;
  };
  spells = own.spells;
}
