-- The same goes to the output whether tags come first or not: a game that they rule out has no
-- entry, and is not written.
use Rattle.pgn_extract.proofs.Common.{◌≡◌, ℕ, ◌+◌, true, false, List, [], ◌∷◌, ◌++◌}
use Rattle.pgn_extract.proofs.Common.{inl, inr, refl, sym, ap, ◌∙◌, subst, PieceKind}
use Rattle.pgn_extract.proofs.Common.{ReadableGame, UnreadableRest, TooLongBlock}
use Rattle.pgn_extract.proofs.Common.{GameText, Part, Replay, heading_of, Form, Standard}
use Rattle.pgn_extract.proofs.Common.{AsItStands, EachLine, FromEntry, Line, Record, IsTextOf}
use Rattle.pgn_extract.proofs.Common.{LineOfEach}
use Rattle.pgn_extract.proofs.Common.{IsWritten}
use Rattle.pgn_extract.proofs.Common.{selected}
use Rattle.pgn_extract.proofs.Common.{unselected, faulty_text, listing, Select}
use Rattle.pgn_extract.proofs.Common.{plies_of, Verdict, SoundGame, FaultyGame, IsReplayed}
use Rattle.pgn_extract.proofs.Common.{IsGameReported, IsGameVerdict, IsVerdictIn, IsPieceVerdict}
use Rattle.pgn_extract.proofs.Common.{AreEntryLines, without_note, output_of}
use Rattle.pgn_extract.proofs.Common.{output_text, Aim, GameId, IsEntry, IsRuledOut, id_of}
use Rattle.pgn_extract.proofs.Common.{is_chosen, Mode}
use Rattle.pgn_extract.specs.Public.Listing.{IsShownOf}
use Rattle.pgn_extract.specs.Public.LineListing.{AreLineListings, ListsEachLine, aim_in}
use Rattle.pgn_extract.specs.Public.LineListing.{listed_game}
use Rattle.pgn_game.specs.Public.LineGames.{LineGame, lines_of}
use Rattle.pgn_extract.specs.Public.Laws.{TagsFirstChangesNoOutput, with_tags_first}
use Rattle.pgn_extract.proofs.ChoiceFacts.{by_both}
use Rattle.pgn_extract.proofs.Counting.{one_counted}
use Rattle.pgn_extract.proofs.TagsFirst.{chosen_none, either_way, no_entry, not_selected}
use Rattle.pgn_extract.proofs.laws.OneVerdict.{one_replayed}
use Rattle.pgn_extract.specs.declared.settings.Mode.TheVariants as modes

-- a game that its heading rules out puts nothing out where it is played
module _ (aim : Aim) (id : GameId) (game : GameText) (out : IsRuledOut aim (heading_of game)) where
  no_lines : (replay : Replay) (text : List ℕ) → AreEntryLines aim id game replay text → text ≡ []
  no_lines replay text (entries, these, is) =
      is ∙ ap (listing aim.name)
      (chosen_none id (IsEntry aim (heading_of game) replay) (IsShownOf aim id game replay)
      (λ ply. no_entry aim (heading_of game) replay ply out) (plies_of 0 replay.positions) entries
      these)

  no_own : (number : ℕ) (lines : List LineGame) (text : List ℕ)
      → AreLineListings aim id game number lines text → text ≡ []
  no_own number [] text none = none
  no_own number (line ∷ more) text
      (own, rest, parted, (replay, is, entries, these, listed), later) =
      let own_aim = aim_in aim number line in
      let own_out : IsRuledOut own_aim (heading_of game) =
      record { asked = out.asked; select = out.select; no_chance = out.no_chance } in
      let nothing = chosen_none id (IsEntry own_aim (heading_of game) replay)
      (IsShownOf own_aim id (listed_game game number line) replay)
      (λ ply. no_entry own_aim (heading_of game) replay ply own_out)
      (plies_of 0 replay.positions) entries these in
      parted ∙ ap (λ t. t ++ rest) (listed ∙ ap (listing aim.name) nothing)
      ∙ no_own (number + 1) more rest later

  not_written : (replay : Replay) (text : List ℕ) → IsWritten aim id game replay text → text ≡ []
  not_written replay text (selected is own) =
      absurd (not_selected aim (heading_of game) replay out is)
  not_written replay text (unselected fails is) = is

  no_faulty_text : (mode : Mode) → faulty_text mode aim.select game.text ≡ []
  no_faulty_text modes.Index = refl
  no_faulty_text modes.List = refl
  no_faulty_text modes.EachLine = refl
  no_faulty_text modes.Export =
      ap (λ (s : Select). faulty_text modes.Export s game.text) out.select

  nothing_out : (mode : Mode) (verdict : Verdict) → IsReplayed mode aim id game verdict
      → output_of verdict ≡ []
  nothing_out modes.Index (SoundGame text) (replay, is, lines) = no_lines replay text lines
  nothing_out modes.List (SoundGame text) (replay, is, lines) = no_lines replay text lines
  nothing_out modes.EachLine (SoundGame text) (replay, is, (line, spells, lines)) =
      no_own 0 (lines_of line) text lines
  nothing_out modes.Export (SoundGame text) (replay, is, written) = not_written replay text written
  nothing_out mode (FaultyGame text line note) (fault, is, here, noted, by) =
      by ∙ no_faulty_text mode

-- a replay says nothing of whether tags come first
module _ (aim : Aim) (id : GameId) (game : GameText) where
  same_text : (form : Form) (text : List ℕ)
      → IsTextOf form (with_tags_first false aim) id game text
      → IsTextOf form (with_tags_first true aim) id game text
  same_text Standard text is = is
  same_text FromEntry text is = is
  same_text EachLine text is = is
  same_text (LineOfEach notation) text is = is
  same_text AsItStands text is = is
  same_text (Line notation) text is = is
  same_text Record text is = is

  same_written : (replay : Replay) (text : List ℕ)
      → IsWritten (with_tags_first false aim) id game replay text
      → IsWritten (with_tags_first true aim) id game replay text
  same_written replay text (selected is own) = selected is (same_text aim.form text own)
  same_written replay text (unselected fails is) = unselected fails is

  same_own : (number : ℕ) (lines : List LineGame) (text : List ℕ)
      → AreLineListings (with_tags_first false aim) id game number lines text
      → AreLineListings (with_tags_first true aim) id game number lines text
  same_own number [] text is = is
  same_own number (line ∷ more) text (own, rest, parted, listed, later) =
      (own, rest, parted, listed, same_own (number + 1) more rest later)

  same_each : (text : List ℕ) → ListsEachLine (with_tags_first false aim) id game text
      → ListsEachLine (with_tags_first true aim) id game text
  same_each text (line, spells, lines) = (line, spells, same_own 0 (lines_of line) text lines)

  same_replayed : (mode : Mode) (verdict : Verdict)
      → IsReplayed mode (with_tags_first false aim) id game verdict
      → IsReplayed mode (with_tags_first true aim) id game verdict
  same_replayed modes.Index (SoundGame text) (replay, is, lines) = (replay, is, lines)
  same_replayed modes.List (SoundGame text) (replay, is, lines) = (replay, is, lines)
  same_replayed modes.EachLine (SoundGame text) (replay, is, lines) =
      (replay, is, same_each text lines)
  same_replayed modes.Export (SoundGame text) (replay, is, written) =
      (replay, is, same_written replay text written)
  same_replayed modes.Index (FaultyGame text line note) is = is
  same_replayed modes.List (FaultyGame text line note) is = is
  same_replayed modes.EachLine (FaultyGame text line note) is = is
  same_replayed modes.Export (FaultyGame text line note) is = is

-- a note is no output
but_note : (verdict : Verdict) → output_of (without_note verdict) ≡ output_of verdict
but_note (SoundGame text) = refl
but_note (FaultyGame text line note) = refl

same_without : (a b : Verdict) → without_note a ≡ without_note b → output_of a ≡ output_of b
same_without a b same = sym (but_note a) ∙ ap output_of same ∙ but_note b

-- a game
game_output : (mode : Mode) (aim : Aim) (id : GameId) (game : GameText) (a b : Verdict)
    → IsGameVerdict true mode (with_tags_first true aim) id game a
    → IsReplayed mode (with_tags_first false aim) id game b → output_of a ≡ output_of b
game_output mode aim id game a b x y =
    let on = with_tags_first true aim in
    let own = same_replayed aim id game mode b y in
    elim (either_way true mode on id game a x) [
      | inl (out, is) ↦ ap output_of is ∙ sym (nothing_out on id game out mode b own)
      | inr replayed ↦ same_without a b (one_replayed mode on id game a b replayed own)
    ]

parts_output : (mode : Mode) (aim : Aim) (id : GameId) (parts : List Part) (a b : Verdict)
    → IsGameReported mode (with_tags_first true aim) id parts a
    → IsGameReported mode (with_tags_first false aim) id parts b → output_of a ≡ output_of b
parts_output mode aim id parts a b (game, is, x) (other, also, y) =
    game_output mode aim id game a b x
    (subst (λ g. IsReplayed mode (with_tags_first false aim) id g b) (one_counted aim.openings
    parts other game also is) y)

in_output : (mode : Mode) (aim : Aim) (id : GameId) (parts : List Part) (a b : Verdict)
    → IsVerdictIn mode (with_tags_first true aim) id parts a
    → IsVerdictIn mode (with_tags_first false aim) id parts b → output_of a ≡ output_of b
in_output modes.Index aim id parts a b x y = ap output_of (x ∙ sym y)
in_output modes.List aim id parts a b x y = parts_output modes.List aim id parts a b x y
in_output modes.EachLine aim id parts a b x y = parts_output modes.EachLine aim id parts a b x y
in_output modes.Export aim id parts a b x y = parts_output modes.Export aim id parts a b x y

-- a piece
piece_output : (kind : PieceKind) (aim : Aim) (id : GameId) (a b : Verdict)
    → IsPieceVerdict kind (with_tags_first true aim) id a
    → IsPieceVerdict kind (with_tags_first false aim) id b → output_of a ≡ output_of b
piece_output (ReadableGame parts) aim id a b x y = in_output aim.mode aim id parts a b x y
piece_output (UnreadableRest bytes) aim id a b (first, noted, names, x) (second, also, named, y) =
    ap output_of x ∙ sym (ap output_of y)
piece_output TooLongBlock aim id a b (first, noted, x) (second, also, y) =
    ap output_of x ∙ sym (ap output_of y)

-- pieces in a row
pub same_output : TagsFirstChangesNoOutput
same_output aim number [] xs ys x y = ap output_text (x ∙ sym y)
same_output aim number (piece ∷ more) xs ys (a, rest, parted, is, others)
    (b, last, split, also, later) =
    let one = by_both (is_chosen aim.chosen (id_of number piece))
    (piece_output piece.kind aim (id_of number piece) a b) (λ none also_none.
    ap output_of (none ∙ sym also_none)) is also in
    ap output_text parted ∙ ap (λ t. t ++ output_text rest) one
    ∙ ap (λ t. output_of b ++ t) (same_output aim (number + 1) more rest last others later)
    ∙ ap output_text (sym split)
