-- What is put of a game in its form and its mode. Where each sound game is written, its first
-- position is an entry of it.
use Rattle.std.specs.Prelude.{Result, Ok, Err, OnOk, OnErr, IfErr, IfSome, MatchResult}
use Rattle.pgn_extract.proofs.Common.{◌≡◌, ℕ, ◌+◌, List, [], length, Option, refl, sym, subst}
use Rattle.pgn_extract.proofs.Common.{◌∙◌, append-nil, arith, IfSome_then, GameText, Fault}
use Rattle.pgn_extract.proofs.Common.{main_words, Replay, Lines, Main, line_length, heading_of}
use Rattle.pgn_extract.proofs.Common.{Conditions, Aim, GameId, IsMet, IsOfGame, Some, by_itself}
use Rattle.pgn_extract.proofs.Common.{StopsIn}
use Rattle.pgn_extract.specs.Public.Exports.{IsFirstOrNone}
use Rattle.pgn_extract.proofs.Common.{AddsEntries, HasEntry, IsSelected, IsTextOf, IsWritten}
use Rattle.pgn_extract.proofs.Common.{selected, lines_in, written_lines, IsFaultOf, IsReplayOf}
use Rattle.pgn_extract.proofs.Common.{listing, AreEntryLines, IsOutput, replayed_lines, Form, Mode}
use Rattle.pgn_extract.specs.Private.Blockwise.{TakesAll, AddsOutput, AddsSound, PutsText}

-- ply 0 is the first entry
pub first_is_entry : (aim : Aim) (game : GameText) → TakesAll aim → (replay : Replay)
    → IsOfGame game replay → IsFirstOrNone aim (heading_of game) replay (Some 0)
first_is_entry aim game all replay (lines, is) =
    let count : length replay.positions ≡ length replay.played + 1 =
    line_length is.start (main_words game.elements 0) replay.positions replay.played is.line in
    let met = subst (λ (criteria : Option (List Conditions)).
    IsMet criteria (heading_of game) replay 0) (sym all.criteria) (record {}) in (
      omega (arith, count),
      (omega (arith, all.from_start), omega arith, met),
      λ before less. absurd (omega (arith, less)),
    )

pub all_written : (aim : Aim) (id : GameId) (game : GameText) (replay : Replay) (text : List ℕ)
    → TakesAll aim → IsReplayOf (written_lines aim) game replay
    → IsTextOf aim.form aim id (by_itself game) text → IsWritten aim id (by_itself game) replay text
all_written aim id game replay text all is given =
    let tags = heading_of game in
    let (within, wanted, least) = first_is_entry aim game all replay (written_lines aim, is) in
    selected
    (subst (λ select. IsSelected select (HasEntry aim tags replay)) (sym all.select)
    (0, within, (wanted, λ only. least))) given

-- what an export that is played promises, in one
pub put_or_left : {T E : Type 0} {Sound Text Left Done : Type 0} {Fails : E → Type 0} {Stops : E
    → Type 0} (result : Result T E) → OnOk result Text → OnOk result Sound
    → IfErr result Fails → OnErr result Left → (Text → Sound → Done)
    → ((error : E) → Fails error → Left → Stops error) → MatchResult result (λ _. Done) Stops
put_or_left (Ok value) text sound fails left done stops = done text sound
put_or_left (Err error) text sound fails left done stops = stops error fails left

module _ (lines : Lines) (game : GameText) (old new : List ℕ) where
  -- where nothing is added, the fault stands alone
  pub stops_left : (own : Option Fault) → IfSome own (IsFaultOf lines game) → new ≡ old
      → IfSome own (StopsIn lines game old new)
  stops_left own met left = IfSome_then own met (λ fault is. (is, [], left ∙ sym (append-nil old)))

module _ {T E : Type 0} (aim : Aim) (id : GameId) (game : GameText) (old new : List ℕ)
    (result : Result T E) (of : E → Option Fault) where
  -- what a form puts is put where games are written in it
  pub put_as : (form : Form) → aim.form ≡ form
      → MatchResult result (λ _. AddsSound (lines_in form aim.style) game (λ _.
      IsTextOf form aim id (by_itself game)) old new)
      (λ error. IfSome (of error) (StopsIn (lines_in form aim.style) game old new))
      → MatchResult result (λ _. PutsText aim id game old new)
      (λ error. IfSome (of error) (StopsIn (written_lines aim) game old new))
  put_as form is =
      subst (λ f. MatchResult result (λ _. AddsSound (lines_in f aim.style) game (λ _.
      IsTextOf f aim id (by_itself game)) old new)
      (λ error. IfSome (of error) (StopsIn (lines_in f aim.style) game old new))) (sym is)

  -- and what goes to the output in a mode
  pub put_in : (mode : Mode) → aim.mode ≡ mode
      → MatchResult result (λ _. AddsSound (replayed_lines mode aim) game
      (IsOutput mode aim id (by_itself game)) old new)
      (λ error. IfSome (of error) (StopsIn (replayed_lines mode aim) game old new))
      → MatchResult result (λ _. AddsOutput aim id game old new)
      (λ error. IfSome (of error) (StopsIn (replayed_lines aim.mode aim) game old new))
  put_in mode is =
      subst (λ m. MatchResult result (λ _. AddsSound (replayed_lines m aim) game
      (IsOutput m aim id (by_itself game)) old new)
      (λ error. IfSome (of error) (StopsIn (replayed_lines m aim) game old new))) (sym is)

-- the lines of its entries go to it
pub entries_out : (aim : Aim) (id : GameId) (game : GameText) (old new : List ℕ)
    → AddsEntries aim id game old new
    → AddsSound Main game (AreEntryLines aim id (by_itself game)) old new
entries_out aim id game old new (replay, is, entries, these, put) =
    (replay, is, listing aim.name entries, (entries, these, refl), put)
