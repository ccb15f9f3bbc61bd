-- What the definitions of what is asked for say of some options, and what they refuse.
use Rattle.std.proofs.Common.{option_map}
use Rattle.std.specs.List.{list_any}
use Rattle.std.specs.Prelude.{is_none, is_some, map}
use Rattle.std.specs.Borrow.{Bor}
use Rattle.pgn_game.specs.declared.exports.style.Commands.TheVariants.{InWords, LeftOut, Whole}
use Rattle.pgn_extract.proofs.Common.{◌≡◌, ◌^◌, ◌-◌, Bool, true, false, ℕ, nat_lt, length, List, []}
use Rattle.pgn_extract.proofs.Common.{◌∷◌, ◌++◌, None, Some, codes, ap, refl, San, Uci}
use Rattle.pgn_extract.proofs.Common.{sym, subst, ◌∙◌, Aim}
use Rattle.pgn_extract.proofs.Common.{game_id, bad_mark, begin_of, end_of, first_line}
use Rattle.pgn_extract.proofs.Common.{is_one_line, option_refusals, refused, text_refusals, Request}
use Rattle.pgn_extract.proofs.Common.{Standard, AsItStands, EachLine, FromEntry, Line, Record}
use Rattle.pgn_extract.proofs.Common.{LineOfEach}
use Rattle.pgn_extract.proofs.Common.{Matching, Others, Faulty}
use Rattle.pgn_criteria.specs.Public.Conditions.{Conditions}
use Rattle.pgn_criteria.specs.Public.Lines.{SpellsCriteria}
use Rattle.pgn_extract.specs.Private.AskedCriteria.{AreAskedCriteria, with_lines}
use Rattle.pgn_extract.specs.Public.GivenMarks.{mark_in}
use Rattle.pgn_extract.specs.Public.Requests.{asked, asks_names, gives_mark, has_several_files}
use Rattle.pgn_extract.specs.Public.Requests.{gives_criteria, is_stretch, IsAskedRow, IsInPacks}
use Rattle.pgn_extract.specs.Public.Requests.{HasItsLines}
use Rattle.pgn_extract.specs.Public.Columns.{shows_annotations, shows_opening}
use Rattle.pgn_extract.specs.declared.app.order.Given.{Given}
use Rattle.pgn_extract.specs.declared.marks.GameId.{GameId}
use Rattle.pgn_extract.specs.declared.rows.column.AnnotationColumn.TheVariants.{Comment}
use Rattle.pgn_extract.specs.declared.rows.column.Column.TheVariants.{OfAnnotations, OfGame}
use Rattle.pgn_extract.specs.declared.rows.column.GameColumn.TheVariants.{OpeningPly}
use Rattle.pgn_extract.specs.declared.rows.column.Format.TheVariants.{Csv, Jsonl}
use Rattle.pgn_extract.specs.declared.rows.column.Row.{Row}
use Rattle.pgn_extract.specs.declared.settings.EntryLine.TheVariants.{Marked}
use Rattle.pgn_extract.specs.declared.settings.Mode.TheVariants as modes

-- ---- marks

marks :
    (mark_in (codes "1@0") ≡ Some (game_id 1 0))
    × (mark_in (codes "007@0120") ≡ Some (game_id 7 120))
    × (mark_in (codes "4611686018427387904@4611686018427387904") ≡ Some (game_id (2 ^ 62) (2 ^ 62)))
marks = (refl, refl, refl)

no_marks :
    (mark_in (codes "0@0") ≡ None) × (mark_in (codes "1@") ≡ None) × (mark_in (codes "@0") ≡ None)
    × (mark_in (codes "1") ≡ None)
    × (mark_in (codes "1@0@0") ≡ None) × (mark_in (codes "+1@0") ≡ None)
    × (mark_in (codes "1@ 0") ≡ None) × (mark_in (codes "1/0") ≡ None)
    × (mark_in (codes "4611686018427387905@0") ≡ None)
    × (mark_in (codes "1@00000000000000000000") ≡ None)
no_marks = (refl, refl, refl, refl, refl, refl, refl, refl, refl, refl)

-- ---- what is refused

-- no option, with the files and the lines of a request, and without its marks
abbrev plain : Request → Request
plain request = record request {
  index = false;
  list = false;
  rows = None;
  csv = false;
  tsv = false;
  jsonl = false;
  no_header = false;
  packed = false;
  moves = false;
  uci = false;
  pack = false;
  no_comments = false;
  keep_commands = false;
  strip_commands = false;
  no_glyphs = false;
  no_variations = false;
  roster = false;
  fix_results = false;
  plycount = false;
  order = None;
  to_ply = None;
  from_position = false;
  lines = false;
  width = None;
  openings = None;
  min_ply = 0;
  max_ply = 2 ^ 32 - 1;
  first = false;
  tags_first = false;
  fen = false;
  next = false;
  others = false;
  faulty = false;
  as_is = false;
  explain = false;
  from = None;
  until = None;
  at = None;
  with_names = false;
  no_names = false;
}

-- and with its marks
abbrev marked : Request → Request
marked request =
    record (plain request) { from = request.from; until = request.until; at = request.at }

-- the lines of refusals
abbrev both_modes : List ℕ
both_modes = codes "pgn-extract: --list and --index exclude each other\n"

abbrev packs_give_lines : List ℕ
packs_give_lines = codes "pgn-extract: --packed goes with --list, --rows or --index\n"

abbrev packs_are_plain : List ℕ
packs_are_plain = codes
    "pgn-extract: --packed goes with none of --from, --until, --at, --with-names and --no-names\n"

abbrev rows_alone : List ℕ
rows_alone =
    codes "pgn-extract: --rows goes with none of --list, --index, --fen, --next, --others, --faulty, --as-is, --pack, --moves and --uci\n"

abbrev no_rows : List ℕ
no_rows = codes "pgn-extract: --csv, --tsv, --jsonl and --no-header go with --rows\n"

abbrev several_formats : List ℕ
several_formats = codes "pgn-extract: --csv, --tsv and --jsonl exclude each other\n"

abbrev no_entries_listed : List ℕ
no_entries_listed = codes "pgn-extract: --fen and --next go with --list\n"

abbrev no_games_written : List ℕ
no_games_written =
    codes "pgn-extract: --others, --faulty and --as-is go with neither --list nor --index\n"

abbrev both_choices : List ℕ
both_choices = codes "pgn-extract: --others and --faulty exclude each other\n"

abbrev no_pack : List ℕ
no_pack =
    codes "pgn-extract: --pack goes with none of --list, --index, --moves, --uci, --faulty, --as-is, -C, -N, -V, --keep-commands, --strip-commands, --roster and -w\n"

abbrev both_notations : List ℕ
both_notations = codes "pgn-extract: --moves and --uci exclude each other\n"

abbrev no_lines_of_moves : List ℕ
no_lines_of_moves =
    codes "pgn-extract: --moves and --uci go with none of --list, --index, --faulty and --as-is\n"

abbrev no_tags_to_meet : List ℕ
no_tags_to_meet = codes "pgn-extract: --tags-first goes with --criteria or --where\n"

abbrev tags_are_not_first : List ℕ
tags_are_not_first =
    codes "pgn-extract: --tags-first goes with none of --index, --packed, --others, --faulty, --pack and --openings\n"

abbrev both_commands : List ℕ
both_commands = codes "pgn-extract: --keep-commands and --strip-commands exclude each other\n"

abbrev both_namings : List ℕ
both_namings = codes "pgn-extract: --with-names and --no-names exclude each other\n"

abbrev marks_take_one_file : List ℕ
marks_take_one_file = codes "pgn-extract: --from, --until and --at take one FILE\n"

-- the options are refused with the line
abbrev RefusedWith : Request → List ℕ → Type 0
RefusedWith request line = first_line (option_refusals request) ≡ Some line

-- none of them is refused
abbrev IsTaken : Request → Type 0
IsTaken request = first_line (option_refusals request) ≡ None

-- each pair of options has its line
each_pair : (request : Request)
    → RefusedWith (record (plain request) { list = true; index = true }) both_modes
    × RefusedWith (record (plain request) { packed = true }) packs_give_lines
    × RefusedWith (record (plain request) { index = true; packed = true; with_names = true })
    packs_are_plain
    × RefusedWith (record (plain request) { list = true; packed = true; no_names = true })
    packs_are_plain × RefusedWith (record (plain request) { fen = true }) no_entries_listed
    × RefusedWith (record (plain request) { index = true; next = true }) no_entries_listed
    × RefusedWith (record (plain request) { list = true; others = true }) no_games_written
    × RefusedWith (record (plain request) { index = true; faulty = true }) no_games_written
    × RefusedWith (record (plain request) { index = true; as_is = true }) no_games_written
    × RefusedWith (record (plain request) { others = true; faulty = true }) both_choices
    × RefusedWith (record (plain request) { pack = true; list = true }) no_pack
    × RefusedWith (record (plain request) { pack = true; index = true }) no_pack
    × RefusedWith (record (plain request) { pack = true; moves = true }) no_pack
    × RefusedWith (record (plain request) { pack = true; uci = true }) no_pack
    × RefusedWith (record (plain request) { pack = true; faulty = true }) no_pack
    × RefusedWith (record (plain request) { pack = true; as_is = true }) no_pack
    × RefusedWith (record (plain request) { pack = true; no_comments = true }) no_pack
    × RefusedWith (record (plain request) { pack = true; keep_commands = true }) no_pack
    × RefusedWith (record (plain request) { pack = true; strip_commands = true }) no_pack
    × RefusedWith (record (plain request) { keep_commands = true; strip_commands = true })
    both_commands
    × RefusedWith (record (plain request) { pack = true; no_glyphs = true }) no_pack
    × RefusedWith (record (plain request) { pack = true; no_variations = true }) no_pack
    × RefusedWith (record (plain request) { pack = true; roster = true }) no_pack
    × RefusedWith (record (plain request) { moves = true; uci = true }) both_notations
    × RefusedWith (record (plain request) { moves = true; list = true }) no_lines_of_moves
    × RefusedWith (record (plain request) { uci = true; index = true }) no_lines_of_moves
    × RefusedWith (record (plain request) { uci = true; faulty = true }) no_lines_of_moves
    × RefusedWith (record (plain request) { moves = true; as_is = true }) no_lines_of_moves
    × RefusedWith (record (plain request) { with_names = true; no_names = true }) both_namings
each_pair request = (
  refl,
  refl,
  refl,
  refl,
  refl,
  refl,
  refl,
  refl,
  refl,
  refl,
  refl,
  refl,
  refl,
  refl,
  refl,
  refl,
  refl,
  refl,
  refl,
  refl,
  refl,
  refl,
  refl,
  refl,
  refl,
  refl,
  refl,
  refl,
  refl,
)

-- packs show positions and moves
packs_show_positions : (request : Request) → request.sets.items ≡ [] → request.drops.items ≡ []
    → IsTaken (record (plain request) { list = true; packed = true; fen = true })
    × IsTaken (record (plain request) { list = true; packed = true; next = true })
packs_show_positions request no_sets no_drops =
    (rw (no_sets, no_drops) refl, rw (no_sets, no_drops) refl)

abbrev no_tags_written : List ℕ
no_tags_written = codes
    "pgn-extract: --set, --drop, --order, --fix-results, --plycount, --to-ply and --from-position go with none of --list, --index, --rows, --moves, --uci, --pack, --as-is and --faulty\n"

-- tags are edited where games are written in the standard's form
edits_of_games : (request : Request) (text : Bor (List ℕ))
    → IsTaken (record (plain request) { fix_results = true })
    × IsTaken (record (plain request) { fix_results = true; others = true })
    × IsTaken (record (plain request) { fix_results = true; openings = Some text })
    × RefusedWith (record (plain request) { fix_results = true; list = true }) no_tags_written
    × RefusedWith (record (plain request) { fix_results = true; index = true }) no_tags_written
    × RefusedWith (record (plain request) { fix_results = true; rows = Some text }) no_tags_written
    × RefusedWith (record (plain request) { fix_results = true; moves = true }) no_tags_written
    × RefusedWith (record (plain request) { fix_results = true; uci = true }) no_tags_written
    × RefusedWith (record (plain request) { fix_results = true; pack = true }) no_tags_written
    × RefusedWith (record (plain request) { fix_results = true; as_is = true }) no_tags_written
    × RefusedWith (record (plain request) { fix_results = true; faulty = true }) no_tags_written
    × RefusedWith (record (plain request) { plycount = true; list = true }) no_tags_written
edits_of_games request text =
    (refl, refl, refl, refl, refl, refl, refl, refl, refl, refl, refl, refl)

-- and games begin with a position where they are, and have one
positions_of_games : (request : Request) → request.sets.items ≡ [] → request.drops.items ≡ []
    → IsTaken (record (plain request) { from_position = true })
    × RefusedWith (record (plain request) { from_position = true; list = true }) no_tags_written
    × RefusedWith (record (plain request) { from_position = true; as_is = true }) no_tags_written
    × RefusedWith (record (plain request) { from_position = true; faulty = true }) no_tags_written
    × RefusedWith (record (plain request) { from_position = true; others = true })
    (codes "pgn-extract: --from-position and --others exclude each other\n")
positions_of_games request no_sets no_drops = (
  refl,
  rw (no_sets, no_drops) refl,
  rw (no_sets, no_drops) refl,
  rw (no_sets, no_drops) refl,
  refl,
)

-- and lines where they are, none of them twice
abbrev no_lines_written : List ℕ
no_lines_written = codes
    "pgn-extract: --lines goes with none of --index, --others, --faulty, --pack, --as-is, --from-position and -V\n"

abbrev no_lines_in_packs : List ℕ
no_lines_in_packs = codes "pgn-extract: --lines goes without --packed: packs have no variations\n"

abbrev no_lines_searched : List ℕ
no_lines_searched = codes
    "pgn-extract: --lines goes with --criteria, --where, --min-ply and --openings only beside --list and --rows; else search what --lines wrote\n"

lines_of_games : (request : Request) (path : Bor (List ℕ)) → request.conditions.items ≡ []
    → request.sets.items ≡ [] → request.drops.items ≡ []
    → IsTaken (record (plain request) { lines = true; roster = true; criteria = None })
    × IsTaken (record (plain request) { lines = true; moves = true; criteria = None })
    × IsTaken (record (plain request) { lines = true; uci = true; criteria = None })
    × IsTaken (record (plain request) { lines = true; list = true; criteria = Some path })
    × IsTaken (record (plain request) { lines = true; list = true; fen = true; first = true })
    × IsTaken (record (plain request) { lines = true; rows = Some path; min_ply = 1 })
    × RefusedWith (record (plain request) { lines = true; list = true; packed = true })
    no_lines_in_packs
    × RefusedWith (record (plain request) { lines = true; index = true }) no_lines_written
    × RefusedWith (record (plain request) { lines = true; pack = true }) no_lines_written
    × RefusedWith (record (plain request) { lines = true; faulty = true }) no_lines_written
    × RefusedWith (record (plain request) { lines = true; others = true }) no_lines_written
    × RefusedWith (record (plain request) { lines = true; min_ply = 1 }) no_lines_searched
    × RefusedWith (record (plain request) { lines = true; criteria = Some path }) no_lines_searched
    × RefusedWith (record (plain request) { lines = true; openings = Some path }) no_lines_searched
    × RefusedWith (record (plain request) { lines = true; from_position = true; criteria = None })
    no_lines_written
    × RefusedWith (record (plain request) { lines = true; no_variations = true; criteria = None })
    no_lines_written
lines_of_games request path none no_sets no_drops = (
  rw none refl,
  rw (none, no_sets, no_drops) refl,
  rw (none, no_sets, no_drops) refl,
  rw (no_sets, no_drops) refl,
  rw (no_sets, no_drops) refl,
  rw (no_sets, no_drops) refl,
  refl,
  refl,
  refl,
  refl,
  refl,
  refl,
  refl,
  refl,
  refl,
  refl,
)

edits_that_set : (request : Request) (text : Bor (List ℕ)) → request.sets.items ≡ text ∷ []
    → RefusedWith (record (plain request) { list = true }) no_tags_written
edits_that_set request text one = rw one refl

edits_that_drop : (request : Request) (text : Bor (List ℕ)) → request.sets.items ≡ []
    → request.drops.items ≡ text ∷ []
    → RefusedWith (record (plain request) { list = true }) no_tags_written
edits_that_drop request text none one = rw (none, one) refl

-- rows have theirs
abbrev in_rows : Request → Bor (List ℕ) → Request
in_rows request columns = record (plain request) { rows = Some columns }

each_of_rows : (request : Request) (columns : Bor (List ℕ))
    → RefusedWith (record (in_rows request columns) { list = true }) rows_alone
    × RefusedWith (record (in_rows request columns) { index = true }) rows_alone
    × RefusedWith (record (in_rows request columns) { fen = true }) rows_alone
    × RefusedWith (record (in_rows request columns) { next = true }) rows_alone
    × RefusedWith (record (in_rows request columns) { others = true }) rows_alone
    × RefusedWith (record (in_rows request columns) { faulty = true }) rows_alone
    × RefusedWith (record (in_rows request columns) { as_is = true }) rows_alone
    × RefusedWith (record (in_rows request columns) { pack = true }) rows_alone
    × RefusedWith (record (in_rows request columns) { moves = true }) rows_alone
    × RefusedWith (record (in_rows request columns) { uci = true }) rows_alone
    × RefusedWith (record (plain request) { csv = true }) no_rows
    × RefusedWith (record (plain request) { tsv = true }) no_rows
    × RefusedWith (record (plain request) { jsonl = true }) no_rows
    × RefusedWith (record (plain request) { no_header = true }) no_rows
    × RefusedWith (record (in_rows request columns) { csv = true; tsv = true }) several_formats
    × RefusedWith (record (in_rows request columns) { csv = true; jsonl = true }) several_formats
    × RefusedWith (record (in_rows request columns) { tsv = true; jsonl = true }) several_formats
each_of_rows request columns = (
  refl,
  refl,
  refl,
  refl,
  refl,
  refl,
  refl,
  refl,
  refl,
  refl,
  refl,
  refl,
  refl,
  refl,
  refl,
  refl,
  refl,
)

rows_alone_are_taken : (request : Request) (columns : Bor (List ℕ)) → request.sets.items ≡ []
    → request.drops.items ≡ [] → IsTaken (record (in_rows request columns) { packed = true })
    × IsTaken (record (in_rows request columns) { tsv = true })
rows_alone_are_taken request columns no_sets no_drops =
    (rw (no_sets, no_drops) refl, rw (no_sets, no_drops) refl)

-- of two pairs the first of the table has its line
the_first_pair : (request : Request)
    → RefusedWith (record (plain request) { list = true; index = true; packed = true; fen = true })
    both_modes × RefusedWith (record (plain request) { packed = true; fen = true }) packs_give_lines
    × RefusedWith (record (plain request) { index = true; packed = true; fen = true })
    no_entries_listed
    × RefusedWith (record (plain request) {
      index = true;
      packed = true;
      no_names = true;
      others = true;
    }) packs_are_plain
    × RefusedWith (record (plain request) { index = true; fen = true; others = true })
    no_entries_listed
    × RefusedWith (record (plain request) { list = true; others = true; faulty = true })
    no_games_written
    × RefusedWith (record (plain request) { others = true; faulty = true; pack = true })
    both_choices
    × RefusedWith (record (plain request) { pack = true; moves = true; uci = true }) no_pack
    × RefusedWith (record (plain request) { moves = true; uci = true; as_is = true }) both_notations
    × RefusedWith (record (plain request) {
      moves = true;
      as_is = true;
      with_names = true;
      no_names = true;
    }) no_lines_of_moves
the_first_pair request = (refl, refl, refl, refl, refl, refl, refl, refl, refl, refl)

-- names come before marks of several files, and one file has marks
several_files : (request : Request) → has_several_files request ≡ true → gives_mark request ≡ true
    → RefusedWith (marked request) marks_take_one_file
    × RefusedWith (record (marked request) { with_names = true; no_names = true }) both_namings
several_files request several mark = (rw (mark, several) refl, refl)

-- tags come first where criteria are given, and not where each game is looked at
abbrev tagged : Request → Bor (List ℕ) → Request
tagged request path = record (plain request) { tags_first = true; criteria = Some path }

tags_come_first : (request : Request) (path : Bor (List ℕ))
    → (first_line (option_refusals (tagged request path)) ≡ None)
    × RefusedWith (record (tagged request path) { index = true }) tags_are_not_first
    × RefusedWith (record (tagged request path) { list = true; packed = true }) tags_are_not_first
    × RefusedWith (record (tagged request path) { others = true }) tags_are_not_first
    × RefusedWith (record (tagged request path) { faulty = true }) tags_are_not_first
    × RefusedWith (record (tagged request path) { pack = true }) tags_are_not_first
    × RefusedWith (record (tagged request path) { openings = Some path }) tags_are_not_first
    × RefusedWith (record (tagged request path) {
      others = true;
      with_names = true;
      no_names = true;
    })
    tags_are_not_first
tags_come_first request path = (refl, refl, refl, refl, refl, refl, refl, refl)

tags_first_in_lists : (request : Request) (path : Bor (List ℕ)) → request.sets.items ≡ []
    → request.drops.items ≡ []
    → first_line (option_refusals (record (tagged request path) { list = true })) ≡ None
tags_first_in_lists request path no_sets no_drops = rw (no_sets, no_drops) refl

tags_of_what : (request : Request) → request.conditions.items ≡ []
    → RefusedWith (record (plain request) { tags_first = true; criteria = None }) no_tags_to_meet
    × RefusedWith (record (plain request) { tags_first = true; criteria = None; index = true })
    no_tags_to_meet
tags_of_what request none = (rw none refl, rw none refl)

tags_of_a_line : (request : Request) (line : Bor (List ℕ)) → request.conditions.items ≡ line ∷ []
    → first_line (option_refusals (record (plain request) { tags_first = true; criteria = None }))
    ≡ None
tags_of_a_line request line only = rw only refl

nothing_refused : (request : Request) → first_line (option_refusals (plain request)) ≡ None
nothing_refused request = refl

one_file : (request : Request) → has_several_files request ≡ false → gives_mark request ≡ true
    → first_line (option_refusals (marked request)) ≡ None
one_file request one mark = rw (mark, one) refl

-- packs have no marks
abbrev listed_pack : Request → Request
listed_pack request = record (plain request) { list = true; packed = true }

packs_have_no_marks : (request : Request) (text : Bor (List ℕ))
    → RefusedWith (record (listed_pack request) { from = Some text }) packs_are_plain
    × RefusedWith (record (listed_pack request) { until = Some text }) packs_are_plain
    × RefusedWith (record (listed_pack request) { at = Some text }) packs_are_plain
packs_have_no_marks request text = (refl, refl, refl)

-- and are searched by openings
packs_have_openings : (request : Request) (text : Bor (List ℕ)) → request.sets.items ≡ []
    → request.drops.items ≡ [] → IsTaken (record (listed_pack request) { openings = Some text })
packs_have_openings request text no_sets no_drops = rw (no_sets, no_drops) refl

each_option_gives_a_mark : (request : Request) (text : Bor (List ℕ))
    → (gives_mark (record (plain request) { from = Some text }) ≡ true)
    × (gives_mark (record (plain request) { until = Some text }) ≡ true)
    × (gives_mark (record (plain request) { at = Some text }) ≡ true)
    × (gives_mark (plain request) ≡ false)
each_option_gives_a_mark request text = (refl, refl, refl, refl)

-- two files are several, and one is not
two_files : (request : Request) (one two : Bor (List ℕ)) → request.files.items ≡ one ∷ two ∷ []
    → has_several_files request ≡ true
two_files request one two are = ap (λ (files : List (Bor (List ℕ))). nat_lt 1 (length files)) are

not_several_files : (request : Request) (one : Bor (List ℕ)) → request.files.items ≡ one ∷ []
    → has_several_files request ≡ false
not_several_files request one are =
    ap (λ (files : List (Bor (List ℕ))). nat_lt 1 (length files)) are

-- texts are refused that are no marks, an end that is not after the begin, and a line that is two
bad_begin : (noted : Bool) (request : Request) (text : Bor (List ℕ)) → mark_in text.now ≡ None
    → first_line (text_refusals noted (record (plain request) { from = Some text }))
    ≡ Some (bad_mark noted)
bad_begin noted request text bad = rw bad refl

bad_end : (noted : Bool) (request : Request) (text : Bor (List ℕ)) → mark_in text.now ≡ None
    → first_line (text_refusals noted (record (plain request) { until = Some text }))
    ≡ Some (bad_mark noted)
bad_end noted request text bad = rw bad refl

end_at_the_begin : (noted : Bool) (request : Request) (text : Bor (List ℕ))
    → mark_in text.now ≡ Some (game_id 1 0)
    → first_line (text_refusals noted (record (plain request) { until = Some text }))
    ≡ Some (codes "pgn-extract: --until is not after --from\n")
end_at_the_begin noted request text first = rw first refl

line_of_two : (noted : Bool) (request : Request) (condition : Bor (List ℕ))
    → condition.now ≡ codes "mate\nor" → request.conditions.items ≡ condition ∷ []
    → first_line (text_refusals noted (plain request))
    ≡ Some (codes "pgn-extract: --where takes one line\n")
line_of_two noted request condition two only = rw only (rw two refl)

no_text_refused : (noted : Bool) (request : Request) → request.conditions.items ≡ []
    → refused noted (plain request) ≡ None
no_text_refused noted request none = rw none refl

note_of_a_bad_mark : bad_mark true ≡ codes "pgn-extract: bad mark\n"
    ++ codes "  a mark is N@O, as --index prints it; 1@0 is the first game's\n"
note_of_a_bad_mark = refl

-- a run ends after it begins, and a line is one
stretches :
    (is_stretch (Some (game_id 1 4)) (Some 5) ≡ true)
    × (is_stretch (Some (game_id 1 5)) (Some 5) ≡ false)
stretches = (refl, refl)

lines :
    (is_one_line (codes "mate") ≡ true) × (is_one_line (codes "mate\n") ≡ false)
    × (is_one_line (codes "\rmate") ≡ false)
lines = (refl, refl, refl)

-- ---- what is asked for

-- nothing was read for a run
abbrev no_given : Given
no_given = record { row = None; openings = None; criteria = None; chosen = None; edits = None }

-- what is asked for alone
abbrev asked_alone : Request → Aim
asked_alone request = asked false request no_given

nothing_asked : (request : Request) → let aim = asked_alone (plain request) in
    (aim.mode ≡ modes.Export) × (aim.select ≡ Matching) × (aim.form ≡ Standard) × (aim.min_ply ≡ 0)
    × (aim.max_ply ≡ 4294967295) × (aim.first ≡ false)
    × (aim.line ≡ Marked (record { fen = false; next = false })) × (aim.explain ≡ false)
    × (aim.style ≡ record {
      comments = true;
      commands = InWords;
      glyphs = true;
      variations = true;
      roster_only = false;
      width = 79;
    })
nothing_asked request = (refl, refl, refl, refl, refl, refl, refl, refl, refl)

each_asked : (request : Request)
    → ((asked_alone (record (plain request) { list = true })).mode ≡ modes.List)
    × ((asked_alone (record (plain request) { index = true })).mode ≡ modes.Index)
    × ((asked_alone (record (plain request) { others = true })).select ≡ Others)
    × ((asked_alone (record (plain request) { faulty = true })).select ≡ Faulty)
    × ((asked_alone (record (plain request) { as_is = true })).form ≡ AsItStands)
    × ((asked_alone (record (plain request) { from_position = true })).form ≡ FromEntry)
    × ((asked_alone (record (plain request) { lines = true })).form ≡ EachLine)
    × ((asked_alone (record (plain request) { lines = true; moves = true })).form ≡ LineOfEach San)
    × ((asked_alone (record (plain request) { lines = true; uci = true })).form ≡ LineOfEach Uci)
    × ((asked_alone (record (plain request) { moves = true })).form ≡ Line San)
    × ((asked_alone (record (plain request) { uci = true })).form ≡ Line Uci)
    × ((asked_alone (record (plain request) { pack = true })).form ≡ Record)
    × ((asked_alone (record (plain request) { min_ply = 7 })).min_ply ≡ 7)
    × ((asked_alone (record (plain request) { max_ply = 7 })).max_ply ≡ 7)
    × ((asked_alone (record (plain request) { first = true })).first ≡ true)
    × ((asked_alone (record (plain request) { tags_first = true })).tags_first
    ≡ true)
    × ((asked_alone (plain request)).tags_first ≡ false)
    × ((asked_alone (record (plain request) { fen = true })).line
    ≡ Marked (record { fen = true; next = false }))
    × ((asked_alone (record (plain request) { next = true })).line
    ≡ Marked (record { fen = false; next = true }))
    × ((asked true (plain request) no_given).explain ≡ true)
    × ((asked false (plain request) (record no_given { chosen = Some [] })).chosen ≡ Some [])
each_asked request = (
  refl,
  refl,
  refl,
  refl,
  refl,
  refl,
  refl,
  refl,
  refl,
  refl,
  refl,
  refl,
  refl,
  refl,
  refl,
  refl,
  refl,
  refl,
  refl,
  refl,
  refl,
)

what_was_read_is_asked : (noted : Bool) (request : Request) (given : Given)
    → let aim = asked noted request given in
    (aim.criteria ≡ given.criteria) × (aim.chosen ≡ given.chosen) × (aim.edits ≡ given.edits)
    × (aim.openings ≡ given.openings) × (aim.name ≡ None)
what_was_read_is_asked noted request given = (refl, refl, refl, refl, refl)

each_style : (request : Request)
    → ((asked_alone (record (plain request) { no_comments = true })).style.comments
    ≡ false)
    × ((asked_alone (record (plain request) { keep_commands = true })).style.commands
    ≡ Whole)
    × ((asked_alone (record (plain request) { strip_commands = true })).style.commands
    ≡ LeftOut)
    × ((asked_alone (record (plain request) { no_glyphs = true })).style.glyphs ≡
    false)
    × ((asked_alone (record (plain request) { no_variations = true })).style.variations
    ≡ false)
    × ((asked_alone (record (plain request) { roster = true })).style.roster_only ≡
    true)
    × ((asked_alone (record (plain request) { width = Some 40 })).style.width ≡ 40)
each_style request = (refl, refl, refl, refl, refl, refl, refl)

without_check_signs : (request : Request) → (begin_of (plain request) ≡ Some (game_id 1 0))
    × (end_of (plain request) ≡ Some (2 ^ 64 - 1))
without_check_signs request = (refl, refl)

with_marks : (request : Request) (text : Bor (List ℕ)) → text.now ≡ codes "2@22"
    → (begin_of (record (plain request) { from = Some text }) ≡ Some (game_id 2 22))
    × (end_of (record (plain request) { until = Some text }) ≡ Some 22)
with_marks request text is = (
  ap mark_in is,
  ap (λ bytes. option_map (λ (mark : GameId). mark.offset) (mark_in bytes)) is,
)

names : (request : Request) → has_several_files request ≡ true → (asks_names (plain request) ≡ true)
    × (asks_names (record (plain request) { no_names = true }) ≡ false)
names request several = (rw several refl, rw several refl)

names_of_one : (request : Request) → has_several_files request ≡ false
    → (asks_names (plain request) ≡ false)
    × (asks_names (record (plain request) { with_names = true }) ≡ true)
names_of_one request one = (rw one refl, refl)

-- no row of packs shows comments
no_comment_in_packs : (request : Request) (row : Row) → request.packed ≡ true
    → row.columns.items ≡ OfAnnotations Comment ∷ [] → IsInPacks request (Some row) → ⊥
no_comment_in_packs request row packed shows holds =
    let none : list_any shows_annotations (OfAnnotations Comment ∷ []) ≡ false =
    ap (list_any shows_annotations) (sym shows) ∙ holds packed in
    cc

-- no row shows an opening where no lines of openings are given
no_opening_without_lines : (request : Request) (row : Row) → is_none request.openings ≡ true
    → row.columns.items ≡ OfGame OpeningPly ∷ [] → HasItsLines request (Some row) → ⊥
no_opening_without_lines request row without shows holds =
    let none : list_any shows_opening (OfGame OpeningPly ∷ []) ≡ false =
    ap (list_any shows_opening) (sym shows) ∙ holds without in
    cc

-- ---- what is read for a run

-- rows have the format that is asked for, and none is left out or written unasked
in_cells : (request : Request) (row : Row) → request.tsv ≡ false → request.jsonl ≡ true
    → row.format ≡ Csv → IsAskedRow request (Some row) → ⊥
in_cells request row no_tsv jsonl cells (columns, given, format) =
    let no : Csv ≡ Jsonl = sym cells ∙ format ∙ rw (no_tsv, jsonl) refl in cc

left_out : (request : Request) (text : Bor (List ℕ)) → request.rows ≡ Some text
    → IsAskedRow request None → ⊥
left_out request text asked is = let no = sym is ∙ ap is_none asked in cc

unasked_row : (request : Request) (row : Row) → request.rows ≡ None
    → IsAskedRow request (Some row) → ⊥
unasked_row request row none (columns, given, format) =
    let no = sym given ∙ ap is_some none in cc

-- lines stand after the text of the file, each alone
lines_after : (with_lines (codes "mate") (codes "check" ∷ []) ≡ codes "mate\ncheck\n")
    × (with_lines (codes "mate\n") (codes "check" ∷ codes "or" ∷ []) ≡ codes "mate\ncheck\nor\n")
    × (with_lines (codes "mate") [] ≡ codes "mate")
    × (with_lines [] (codes "check" ∷ []) ≡ codes "check\n")
lines_after = (refl, refl, refl, refl)

-- criteria are those that are given, all of them
no_criteria_left_out : (request : Request) → gives_criteria request ≡ true
    → AreAskedCriteria request None → ⊥
no_criteria_left_out request given is = let no = sym given ∙ is in cc

no_criteria_unasked : (request : Request) (criteria : List Conditions)
    → gives_criteria request ≡ false → AreAskedCriteria request (Some criteria) → ⊥
no_criteria_unasked request criteria none (file, given, unnamed, spelled) =
    let no = sym none ∙ given in cc

of_a_line : (request : Request) (line : Bor (List ℕ)) (criteria : List Conditions)
    → request.criteria ≡ None → request.conditions.items ≡ line ∷ []
    → line.now ≡ codes "mate" → AreAskedCriteria request (Some criteria)
    → SpellsCriteria (codes "mate\n") criteria
of_a_line request line criteria no_file only own (file, given, unnamed, spelled) =
    let empty : file ≡ [] = unnamed (ap is_none no_file) in
    subst (λ text. SpellsCriteria text criteria)
    (ap (λ text. with_lines text (map (λ own. own.now) request.conditions.items)) empty
    ∙ ap (λ own. with_lines [] (map (λ own. own.now) own)) only
    ∙ ap (λ text. with_lines [] (text ∷ [])) own) spelled.1
