-- What the options of the command line ask for, and which of them are refused.
use Rattle.std.specs.Prelude.{Bool, false, true, not, ◌&&◌, ◌||◌, if◌then◌else◌, is_some, is_none}
use Rattle.std.specs.Prelude.{◌==◌, ℕ, ◌-◌, ◌^◌, nat_lt, length, List, [], ◌∷◌, ◌++◌, Option, Some}
use Rattle.std.specs.Prelude.{None, codes, option_map, unwrap_or, ◌≡◌, IfSome}
use Rattle.std.specs.List.{list_all}
use Rattle.pgn_game.specs.declared.exports.notation.Notation.{Notation}
use Rattle.pgn_game.specs.declared.exports.notation.Notation.TheVariants.{San, Uci}
use Rattle.pgn_game.specs.declared.exports.style.Commands.{Commands}
use Rattle.pgn_game.specs.declared.exports.style.Commands.TheVariants.{InWords, LeftOut, Whole}
use Rattle.pgn_game.specs.declared.exports.style.Style.{Style}
use Rattle.pgn_extract.specs.Public.Aims.{Aim, GameId}
use Rattle.pgn_extract.specs.Public.AskedEdits.{has_edits}
use Rattle.pgn_extract.specs.Public.Columns.{AreColumns}
use Rattle.pgn_extract.specs.Public.GivenMarks.{game_id, mark_in}
use Rattle.pgn_extract.specs.Public.Listing.{has_annotations, has_opening}
use Rattle.pgn_extract.specs.Public.Rows.{header_text}
use Rattle.pgn_extract.specs.declared.app.command.Request.{Request}
use Rattle.pgn_extract.specs.declared.app.order.Given.{Given}
use Rattle.pgn_extract.specs.declared.rows.column.Format.{Format}
use Rattle.pgn_extract.specs.declared.rows.column.Format.TheVariants.{Csv, Tsv, Jsonl}
use Rattle.pgn_extract.specs.declared.rows.column.Row.{Row}
use Rattle.pgn_extract.specs.declared.settings.EntryLine.{EntryLine}
use Rattle.pgn_extract.specs.declared.settings.EntryLine.TheVariants.{Marked, InColumns}
use Rattle.pgn_extract.specs.declared.settings.Form.{Form}
use Rattle.pgn_extract.specs.declared.settings.Form.TheVariants.{Standard, AsItStands, Line, Record}
use Rattle.pgn_extract.specs.declared.settings.Form.TheVariants.{EachLine, FromEntry}
use Rattle.pgn_extract.specs.declared.settings.Form.TheVariants.{LineOfEach}
use Rattle.pgn_extract.specs.declared.settings.Mode.{Mode}
use Rattle.pgn_extract.specs.declared.settings.Mode.TheVariants as modes
use Rattle.pgn_extract.specs.declared.settings.Select.{Select}
use Rattle.pgn_extract.specs.declared.settings.Settings.{Settings}
use Rattle.pgn_extract.specs.declared.settings.Select.TheVariants.{Matching, Others, Faulty}

-- What is asked for.

-- entries are listed, each on a line with its mark or as a row
abbrev pub lists : Request → Bool
lists request = request.list || is_some request.rows

-- what is written: entries, of each line or of main lines, an index, or games
abbrev pub asked_mode : Request → Mode
asked_mode request =
    if lists request && request.lines then modes.EachLine
    else (if lists request then modes.List
    else (if request.index then modes.Index else modes.Export))

-- which games are written
abbrev pub asked_select : Request → Select
asked_select request = if request.others then Others
    else (if request.faulty then Faulty else Matching)

-- moves on a line: of each line of a game, or of its main line
abbrev pub asked_moves : Request → Notation → Form
asked_moves request notation = if request.lines then LineOfEach notation else Line notation

-- how a game is written: as a record, on a line or lines with its moves, as it stands, or in the
-- standard's form, from its first entry on, line by line or whole
abbrev pub asked_form : Request → Form
asked_form request =
    if request.pack then Record else
    (if request.moves then asked_moves request San else
    (if request.uci then asked_moves request Uci else
    (if request.as_is then AsItStands else
    (if request.from_position then FromEntry else
    (if request.lines then EachLine else Standard)))))

-- what becomes of the commands of comments
abbrev pub asked_commands : Request → Commands
asked_commands request = if request.strip_commands then LeftOut
    else (if request.keep_commands then Whole else InWords)

-- what is kept of a game in the standard's form, in lines of 79 bytes where no width is given
abbrev pub asked_style : Request → Style
asked_style request = record {
  comments = not request.no_comments;
  commands = asked_commands request;
  glyphs = not request.no_glyphs;
  variations = not request.no_variations;
  roster_only = request.roster;
  width = unwrap_or request.width 79;
}

-- how rows are written
abbrev pub asked_format : Request → Format
asked_format request = if request.tsv then Tsv else (if request.jsonl then Jsonl else Csv)

-- this is the row that is asked for, where one is: with the columns that are listed
abbrev pub IsAskedRow : Request → Option Row → Type 0
IsAskedRow request None = is_none request.rows ≡ true
IsAskedRow request (Some row) =
    IfSome request.rows (λ text. AreColumns text.now row.columns.items)
    × (is_some request.rows ≡ true) × (row.format ≡ asked_format request)

-- what the line of an entry is: a row where one is given
abbrev pub asked_line : Request → Option Row → EntryLine
asked_line request None = Marked (record { fen = request.fen; next = request.next })
asked_line request (Some row) = InColumns row

-- where packs are searched, the line of an entry shows none of what they leave out
abbrev pub IsInPacks : Request → Option Row → Type 0
IsInPacks request row = request.packed ≡ true → has_annotations (asked_line request row) ≡ false

-- where no lines of openings are given, the line of an entry shows nothing of openings
abbrev pub HasItsLines : Request → Option Row → Type 0
HasItsLines request row =
    is_none request.openings ≡ true → has_opening (asked_line request row) ≡ false

-- all that a run is to do, with notes or without, with what was read for it; its lines have no name
-- yet
abbrev pub asked : Bool → Request → Given → Aim
asked noted request given = record {
  name = None;
  of_line = None;
  chosen = given.chosen;
  openings = given.openings;
  mode = asked_mode request;
  criteria = given.criteria;
  min_ply = request.min_ply;
  max_ply = request.max_ply;
  first = request.first;
  line = asked_line request given.row;
  select = asked_select request;
  form = asked_form request;
  edits = given.edits;
  style = asked_style request;
  explain = noted;
  tags_first = request.tags_first;
}

-- what is written before a run: the names of the columns, where rows begin at the beginning of the
-- input and the names are not left out
abbrev pub asked_header : Settings → Bool → List ℕ
asked_header settings left_out = elim settings.line [
  | Marked fields ↦ []
  | InColumns row ↦ if left_out || nat_lt 0 settings.offset then [] else header_text row
]

-- two FILEs or more are given
abbrev pub has_several_files : Request → Bool
has_several_files request = nat_lt 1 (length request.files.items)

-- lines have the names of their files
abbrev pub asks_names : Request → Bool
asks_names request = request.with_names || has_several_files request && not request.no_names

-- where the run begins: at the mark of `--from`, and at the first game without it; nowhere where
-- its text is no mark
abbrev pub begin_of : Request → Option GameId
begin_of request = elim request.from [
  | None ↦ Some (game_id 1 0)
  | Some text ↦ mark_in text.now
]

-- the offset that it ends before: that of the mark of `--until`, and one that no input comes to
-- without it
abbrev pub end_of : Request → Option ℕ
end_of request = elim request.until [
  | None ↦ Some (2 ^ 64 - 1)
  | Some text ↦ option_map (λ mark. mark.offset) (mark_in text.now)
]

-- What is refused.

-- a list or an index is asked for
abbrev pub has_mode : Request → Bool
has_mode request = request.list || request.index

-- something is to be shown beside each ply
abbrev pub has_fields : Request → Bool
has_fields request = request.fen || request.next

-- the run is to begin or to end at a mark, or to report the pieces with marks
abbrev pub gives_mark : Request → Bool
gives_mark request = is_some request.from || is_some request.until || is_some request.at

-- moves are to stand on a line
abbrev pub has_moves : Request → Bool
has_moves request = request.moves || request.uci

-- something says how games are written in the standard's form
abbrev pub has_style : Request → Bool
has_style request = request.no_comments || request.no_glyphs || request.no_variations
    || (request.keep_commands || request.strip_commands) || request.roster || is_some request.width

-- criteria are given, in a file or in lines
abbrev pub gives_criteria : Request → Bool
gives_criteria request = is_some request.criteria || nat_lt 0 (length request.conditions.items)

-- what is asked for is of games whatever their tags are, or of packs; or their tags are known once
-- they are played
abbrev pub needs_each_game : Request → Bool
needs_each_game request = request.index || request.others || request.faulty || request.packed
    || request.pack || is_some request.openings

-- the run ends after it begins
abbrev pub is_stretch : Option GameId → Option ℕ → Bool
is_stretch None end = false
is_stretch (Some begin) None = false
is_stretch (Some begin) (Some end) = nat_lt begin.offset end

-- a text is one line: it has neither a line feed nor a carriage return
abbrev pub is_one_line : List ℕ → Bool
is_one_line text = list_all (λ byte. not (byte == 10) && not (byte == 13)) text

-- the line of a text that is no mark; where refusals have notes, with what a mark is
abbrev pub bad_mark : Bool → List ℕ
bad_mark false = codes "pgn-extract: bad mark\n"
bad_mark true =
    codes "pgn-extract: bad mark\n  a mark is N@O, as --index prints it; 1@0 is the first game's\n"

-- a refusal: whether it applies, and its line
pub record Refusal : Type 0 where
  pub applies : Bool
  pub line : List ℕ

-- the refusals of files: of names that are asked for and left out, and of marks of several files
abbrev pub file_refusals : Request → List Refusal
file_refusals request =
    record {
      applies = request.with_names && request.no_names;
      line = codes "pgn-extract: --with-names and --no-names exclude each other\n";
    }
    ∷ record {
      applies = gives_mark request && has_several_files request;
      line = codes "pgn-extract: --from, --until and --at take one FILE\n";
    }
    ∷ []

-- something else is asked for than games in the standard's form
abbrev pub asks_no_form : Request → Bool
asks_no_form request = (request.index || lists request)
    || (request.moves || request.uci || request.pack || request.as_is) || request.faulty

-- the refusals of edits where no tags are written, those of commands, and those of files
abbrev pub edit_refusals : Request → List Refusal
edit_refusals request =
    record {
      applies = asks_no_form request && (has_edits request || request.from_position);
      line = codes
          "pgn-extract: --set, --drop, --order, --fix-results, --plycount, --to-ply and --from-position go with none of --list, --index, --rows, --moves, --uci, --pack, --as-is and --faulty\n";
    }
    ∷ record {
      applies = request.from_position && request.others;
      line = codes "pgn-extract: --from-position and --others exclude each other\n";
    }
    ∷ record {
      applies = request.keep_commands && request.strip_commands;
      line = codes "pgn-extract: --keep-commands and --strip-commands exclude each other\n";
    }
    ∷ file_refusals request

-- games are looked for, or have the tags of their openings
abbrev pub asks_of_games : Request → Bool
asks_of_games request = nat_lt 0 request.min_ply || is_some request.openings
    || gives_criteria request

-- something is asked for that no lines are written or listed with
abbrev pub asks_no_lines : Request → Bool
asks_no_lines request = (request.index || request.others || request.faulty)
    || (request.pack || request.as_is)
    || (request.from_position || request.no_variations)

-- the refusals of lines beside another form, in packs, and beside a search where they are not
-- listed, those of edits, and those of files
abbrev pub line_refusals : Request → List Refusal
line_refusals request =
    record {
      applies = request.lines && asks_no_lines request;
      line = codes
          "pgn-extract: --lines goes with none of --index, --others, --faulty, --pack, --as-is, --from-position and -V\n";
    }
    ∷ record {
      applies = request.lines && request.packed;
      line = codes "pgn-extract: --lines goes without --packed: packs have no variations\n";
    }
    ∷ record {
      applies = request.lines && not (lists request) && asks_of_games request;
      line = codes
          "pgn-extract: --lines goes with --criteria, --where, --min-ply and --openings only beside --list and --rows; else search what --lines wrote\n";
    }
    ∷ edit_refusals request

-- the refusals of tags that come first, those of lines and edits, and those of files
abbrev pub search_refusals : Request → List Refusal
search_refusals request =
    record {
      applies = request.tags_first && not (gives_criteria request);
      line = codes "pgn-extract: --tags-first goes with --criteria or --where\n";
    }
    ∷ record {
      applies = request.tags_first && needs_each_game request;
      line = codes
          "pgn-extract: --tags-first goes with none of --index, --packed, --others, --faulty, --pack and --openings\n";
    }
    ∷ line_refusals request

-- something is asked for that is no row
abbrev pub asks_beside_rows : Request → Bool
asks_beside_rows request =
    (request.list || request.index || request.fen || request.next)
    || (request.others || request.faulty || request.as_is)
    || (request.pack || request.moves || request.uci)

-- rows are to be written in a format
abbrev pub has_format : Request → Bool
has_format request = request.csv || request.tsv || request.jsonl

-- the refusals of what does not go with rows, and of their formats
abbrev pub row_refusals : Request → List Refusal
row_refusals request =
    record {
      applies = is_some request.rows && asks_beside_rows request;
      line = codes
          "pgn-extract: --rows goes with none of --list, --index, --fen, --next, --others, --faulty, --as-is, --pack, --moves and --uci\n";
    }
    ∷ record {
      applies = (has_format request || request.no_header) && is_none request.rows;
      line = codes "pgn-extract: --csv, --tsv, --jsonl and --no-header go with --rows\n";
    }
    ∷ record {
      applies = (request.csv && (request.tsv || request.jsonl)) || (request.tsv && request.jsonl);
      line = codes "pgn-extract: --csv, --tsv and --jsonl exclude each other\n";
    }
    ∷ []

-- the refusals of games that are written beside a list or an index, or in two ways, and those of
-- searches, edits and files
abbrev pub form_refusals : Request → List Refusal
form_refusals request =
    record {
      applies = (request.others || request.faulty || request.as_is) && has_mode request;
      line = codes
          "pgn-extract: --others, --faulty and --as-is go with neither --list nor --index\n";
    }
    ∷ record {
      applies = request.others && request.faulty;
      line = codes "pgn-extract: --others and --faulty exclude each other\n";
    }
    ∷ record {
      applies = request.pack
          && (has_mode request || has_moves request || request.faulty || request.as_is
          || has_style request);
      line = codes
          "pgn-extract: --pack goes with none of --list, --index, --moves, --uci, --faulty, --as-is, -C, -N, -V, --keep-commands, --strip-commands, --roster and -w\n";
    }
    ∷ record {
      applies = request.moves && request.uci;
      line = codes "pgn-extract: --moves and --uci exclude each other\n";
    }
    ∷ record {
      applies = has_moves request && (has_mode request || request.faulty || request.as_is);
      line = codes
          "pgn-extract: --moves and --uci go with none of --list, --index, --faulty and --as-is\n";
    }
    ∷ search_refusals request

-- the refusals of other options that exclude each other, and those of games that are written
abbrev pub other_refusals : Request → List Refusal
other_refusals request =
    record {
      applies = request.list && request.index;
      line = codes "pgn-extract: --list and --index exclude each other\n";
    }
    ∷ record {
      applies = request.packed && not (has_mode request || is_some request.rows);
      line = codes "pgn-extract: --packed goes with --list, --rows or --index\n";
    }
    ∷ record {
      applies = request.packed
          && (gives_mark request || request.with_names || request.no_names);
      line = codes
          "pgn-extract: --packed goes with none of --from, --until, --at, --with-names and --no-names\n";
    }
    ∷ record {
      applies = has_fields request && not request.list;
      line = codes "pgn-extract: --fen and --next go with --list\n";
    }
    ∷ form_refusals request

-- those of all options
abbrev pub option_refusals : Request → List Refusal
option_refusals request = row_refusals request ++ other_refusals request

-- the refusals of marks and of lines of criteria
abbrev pub text_refusals : Bool → Request → List Refusal
text_refusals noted request =
    record { applies = is_none (begin_of request); line = bad_mark noted }
    ∷ record { applies = is_none (end_of request); line = bad_mark noted }
    ∷ record {
      applies = not (is_stretch (begin_of request) (end_of request));
      line = codes "pgn-extract: --until is not after --from\n";
    }
    ∷ record {
      applies = not (list_all (λ condition. is_one_line condition.now) request.conditions.items);
      line = codes "pgn-extract: --where takes one line\n";
    }
    ∷ []

-- all refusals, in the order in which they are tested
abbrev pub refusals : Bool → Request → List Refusal
refusals noted request = option_refusals request ++ text_refusals noted request

-- the line of the first that applies
abbrev pub first_line : List Refusal → Option (List ℕ)
first_line [] = None
first_line (refusal ∷ more) = if refusal.applies then Some refusal.line else first_line more

-- the line that refuses what is asked for, if one does; where refusals have notes, with its note
abbrev pub refused : Bool → Request → Option (List ℕ)
refused noted request = first_line (refusals noted request)
