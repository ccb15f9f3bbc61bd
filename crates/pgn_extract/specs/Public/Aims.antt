-- What a run is to report, wherever in the text it begins.
use Rattle.std.specs.Prelude.{◌≡◌, ◌<◌, ◌≤◌, ℕ, Bool, true, List, Option, Some, None}
use Rattle.pgn_game.specs.Public.Edits.{Edits}
use Rattle.pgn_game.specs.Public.Openings.{NamedLine}
use Rattle.pgn_game.specs.Public.Replays.{Replay}
use Rattle.pgn_game.specs.declared.exports.style.Style.{Style}
use Rattle.pgn_criteria.specs.Public.Meeting.{Heading, Meets}
use Rattle.pgn_criteria.specs.Public.Conditions.{Conditions}
use Rattle.pgn_criteria.specs.Public.Headings.{MayMeet}
use Rattle.pgn_extract.specs.declared.settings.EntryLine.{EntryLine}
use Rattle.pgn_extract.specs.declared.settings.Form.{Form}
use Rattle.pgn_extract.specs.declared.settings.Mode.{Mode}
use Rattle.pgn_extract.specs.declared.settings.Select.{Select}
use Rattle.pgn_extract.specs.declared.settings.Select.TheVariants.{Matching}
use Rattle.pgn_extract.specs.declared.settings.Settings.{Settings}
pub use Rattle.pgn_extract.specs.declared.marks.GameId.{GameId}
pub use Rattle.pgn_extract.specs.declared.marks.LineId.{LineId}

-- what is to be reported of each piece, and the name that its lines have, if they have one; where
-- marks are chosen, nothing is of the pieces that have none of them; where lines of openings are
-- given, a game counts with the tags of its opening; the criteria are alternatives of conditions;
-- where each line of a game is listed, entries are of one of them
pub record Aim : Type 0 where
  pub name : Option (List ℕ)
  pub of_line : Option LineId
  pub chosen : Option (List GameId)
  pub openings : Option (List NamedLine)
  pub mode : Mode
  pub criteria : Option (List Conditions)
  pub min_ply : ℕ
  pub max_ply : ℕ
  pub first : Bool
  pub line : EntryLine
  pub select : Select
  pub form : Form
  pub edits : Option Edits
  pub style : Style
  pub explain : Bool
  pub tags_first : Bool

-- the aim of settings
abbrev pub aim_of : Settings → Aim
aim_of settings = record {
  name = settings.name;
  of_line = None;
  chosen = settings.chosen;
  openings = settings.openings;
  mode = settings.mode;
  criteria = settings.criteria;
  min_ply = settings.min_ply;
  max_ply = settings.max_ply;
  first = settings.first;
  line = settings.line;
  select = settings.select;
  form = settings.form;
  edits = settings.edits;
  style = settings.style;
  explain = settings.explain;
  tags_first = settings.tags_first;
}

-- the position after so many plies of a main line meets the criteria; without criteria every one
-- does
abbrev pub IsMet : Option (List Conditions) → Heading → Replay → ℕ → Type 0
IsMet None tags replay ply = Unit {0}
IsMet (Some criteria) tags replay ply = Meets tags replay ply criteria

-- by its heading a game can have no entry: it meets the conditions on tags and on the result of no
-- alternative
abbrev pub HasNoChance : Option (List Conditions) → Heading → Type 0
HasNoChance None heading = ⊥
HasNoChance (Some criteria) heading = MayMeet heading criteria → ⊥

-- the game is read and not played: tags come first, games with an entry are looked for, and by its
-- heading it can have none
pub record IsRuledOut (aim : Aim) (heading : Heading) : Type 0 where
  pub asked : aim.tags_first ≡ true
  pub select : aim.select ≡ Matching
  pub no_chance : HasNoChance aim.criteria heading

-- the ply is within the bounds, both included, and its position meets the criteria
abbrev pub IsWanted : Aim → Heading → Replay → ℕ → Type 0
IsWanted aim tags replay ply = (aim.min_ply ≤ ply) × (ply ≤ aim.max_ply)
    × IsMet aim.criteria tags replay ply

-- the ply is listed: it is wanted, and where only the first of each game is to be listed, none
-- before it in the game is
abbrev pub IsEntry : Aim → Heading → Replay → ℕ → Type 0
IsEntry aim tags replay ply =
    IsWanted aim tags replay ply
    × (aim.first ≡ true → (before : ℕ) → before < ply → IsWanted aim tags replay before → ⊥)
