-- A game that is exported while its opening is found: as it counts it is reported by its replay.
use Rattle.std.proofs.Common.{◌≡◌, ℕ, List, [], Option, None, Some, refl, sym, ap, subst}
use Rattle.pgn_extract.proofs.Common.{GameText, IsGameText, Report, Verdict, SoundGame, FaultyGame}
use Rattle.pgn_extract.proofs.Common.{AddsVerdict, Aim, GameId, Fault, Lines, Replay, by_itself}
use Rattle.pgn_extract.proofs.Common.{cause_text, fault_text, faulty_text, fen_tag, heading_of}
use Rattle.pgn_extract.proofs.Common.{IsFaultOf, IsReplayOf, IsReplayed, IsTextOf, lines_in}
use Rattle.pgn_extract.proofs.Common.{lines_with, tag_in, written_lines, Form, Mode, Conditions}
use Rattle.pgn_extract.specs.Public.Aims.{HasNoChance, IsRuledOut}
use Rattle.pgn_extract.specs.Public.Notes.{IsNote}
use Rattle.pgn_game.specs.Public.Edits.{IsEditedExport}
use Rattle.pgn_game.specs.Public.Exports.{IsExport}
use Rattle.pgn_game.specs.Public.Faults.{IsFault}
use Rattle.pgn_game.specs.Public.Openings.{NamedLine, IsClassified}
use Rattle.pgn_game.specs.Public.Replays.{HasPlies, IsReplay, IsSoundGame}
use Rattle.pgn_game.proofs.OneReplay.{no_fault}
use Rattle.pgn_extract.specs.Private.Blockwise.{AddsCounted, AddsSearched, ExportsAll}
use Rattle.pgn_extract.specs.declared.settings.Mode.TheVariants as modes
use Rattle.pgn_extract.specs.declared.settings.Select.{Select}
use Rattle.pgn_extract.proofs.GameExport.{own_export}
use Rattle.pgn_extract.proofs.SomeCounted.{some_classified}
use Rattle.pgn_extract.proofs.TagsFirst.{no_met, none_chosen, played_verdict, ruled_out_or_not}
use Rattle.pgn_extract.proofs.TagsFirst.{unplayed_verdict}
use Rattle.pgn_extract.specs.Private.Finding.{ListsNone}
use Rattle.pgn_extract.specs.Public.Listing.{CountsAs, IsShownOf, listing}
use Rattle.pgn_extract.proofs.Counting.{of_counted}
use Rattle.pgn_extract.proofs.Common.{Main, IsEntry, inl, inr, plies_of, AddsEntries, ◌++◌, IfSome}
use Rattle.pgn_extract.proofs.Common.{StopsAtFault}
use Rattle.pgn_extract.proofs.engine.AllTaken.{all_written}

module _ (aim : Aim) (all : ExportsAll aim) where
  same_lines : lines_with aim.style.variations ≡ written_lines aim
  same_lines = ap (λ (f : Form). lines_in f aim.style) (sym all.form)

  -- no game is ruled out
  not_out : (other : GameText) → IsRuledOut aim (heading_of other) → ⊥
  not_out other out =
      subst (λ (c : Option (List Conditions)). HasNoChance c (heading_of other)) all.all.criteria
      out.no_chance

module _ (aim : Aim) (all : ExportsAll aim) (lines : List NamedLine)
    (are : aim.openings ≡ Some lines) (id : GameId) {old new : Report} (game : GameText) where
  counted : (other : GameText) (verdict : Verdict) → IsGameText other
      → IsClassified lines game other → IsReplayed modes.Export aim id (by_itself other) verdict
      → AddsVerdict old new verdict 0 → AddsCounted aim.mode aim old new id game
  counted other verdict good is replayed adds = (
    other,
    subst (λ (o : Option (List NamedLine)). CountsAs o game other) (sym are) (good, is),
    (
      verdict,
      played_verdict aim.tags_first aim.mode aim id (by_itself other) verdict
          (not_out aim all other)
          (subst (λ (m : Mode). IsReplayed m aim id (by_itself other) verdict) (sym all.mode)
          replayed),
      adds,
    ),
  )

  pub exported_counts : (other : GameText) (text : List ℕ) → IsGameText other
      → IsClassified lines game other
      → IsSoundGame (lines_with aim.style.variations) (tag_in fen_tag game.tags) game.elements
      → IsExport aim.style other text → AddsVerdict old new (SoundGame text) 0
      → AddsCounted aim.mode aim old new id game
  exported_counts other text good is (replay, sound) exports adds =
      let here = of_counted (λ fen items. IsReplay (lines_with aim.style.variations) fen items
      replay) lines game other is sound in
      let played : IsReplayOf (written_lines aim) other replay =
      subst (λ (l : Lines). IsReplayOf l other replay) (same_lines aim all) here in
      counted other (SoundGame text) good is (
        replay,
        played,
        all_written aim id other replay text all.all played
            (subst (λ (f : Form). IsTextOf f aim id (by_itself other) text) (sym all.form)
            (subst (λ e. IsEditedExport e aim.style (by_itself other) text) (sym all.edits)
            (by_itself other, refl, own_export [] aim.style other text exports))),
      ) adds

  pub faulty_counts : IsGameText game → (fault : Fault) (note : List ℕ)
      → IsFault (lines_with aim.style.variations) (tag_in fen_tag game.tags) game.elements fault
      → IsNote aim.explain note
      → AddsVerdict old new (FaultyGame [] (fault_text aim.name id (cause_text fault)) note) 0
      → AddsCounted aim.mode aim old new id game
  faulty_counts text fault note met noted adds =
      let some = some_classified lines game text in
      let here = of_counted (λ fen items. IsFault (lines_with aim.style.variations) fen items fault)
      lines game some.0 some.2 met in
      let faulty : IsFaultOf (written_lines aim) some.0 fault =
      subst (λ (l : Lines). IsFaultOf l some.0 fault) (same_lines aim all) here in
      counted some.0 _ some.1 some.2 (
        fault,
        faulty,
        refl,
        noted,
        sym (ap (λ (s : Select). faulty_text modes.Export s some.0.text) all.all.select),
      ) adds

-- a sound game of which the listing has no line is reported by none
pub listed_none : (aim : Aim) (id : GameId) {old new : Report} (game : GameText) (replay : Replay)
    → IsReplay Main (tag_in fen_tag game.tags) game.elements replay
    → ListsNone aim (heading_of game) → AddsVerdict old new (SoundGame []) 0
    → AddsSearched aim.mode aim old new id game
listed_none aim id game replay is none adds =
    let heading = heading_of game in
    let fails : (ply : ℕ) → IsEntry aim heading replay ply → ⊥ =
    λ ply entry. no_met aim.criteria heading replay ply none.no_chance entry.0.2 in
    let replayed : IsReplayed modes.List aim id (by_itself game) (SoundGame []) = (
      replay,
      is,
      (
        [],
        none_chosen id (IsEntry aim heading replay)
            (IsShownOf aim id (by_itself game) replay) fails (plies_of 0 replay.positions),
        refl,
      ),
    ) in (
      SoundGame [],
      elim (ruled_out_or_not aim heading) [
        | inl out ↦ unplayed_verdict aim.mode aim id (by_itself game) out
        | inr not_out ↦ played_verdict aim.tags_first aim.mode aim id (by_itself game)
            (SoundGame []) not_out
            (subst (λ (m : Mode). IsReplayed m aim id (by_itself game) (SoundGame []))
            (sym none.mode) replayed)
      ],
      adds,
    )

-- one of which it may have some by the lines of its entries
pub listed_kept : (aim : Aim) (id : GameId) {old new : Report} (game : GameText)
    → aim.mode ≡ modes.List → (ListsNone aim (heading_of game) → ⊥)
    → AddsEntries aim id game old.output.items new.output.items
    → ((text : List ℕ) → new.output.items ≡ old.output.items ++ text
    → AddsVerdict old new (SoundGame text) 0)
    → AddsSearched aim.mode aim old new id game
listed_kept aim id game mode some (replay, is, entries, listed, added) adds =
    let text = listing aim.name entries in
    let replayed : IsReplayed modes.List aim id (by_itself game) (SoundGame text) =
    (replay, is, (entries, listed, refl)) in (
      SoundGame text,
      played_verdict aim.tags_first aim.mode aim id (by_itself game) (SoundGame text)
          (λ out. some (record { mode = mode; no_chance = out.no_chance }))
          (subst (λ (m : Mode). IsReplayed m aim id (by_itself game) (SoundGame text)) (sym mode)
          replayed),
      adds text added,
    )

-- the game as it counts has the plies of the game
pub plies_counted : (lines : List NamedLine) (game other : GameText) (plies : ℕ)
    → IsClassified lines game other → HasPlies (tag_in fen_tag game.tags) game.elements plies
    → HasPlies (tag_in fen_tag other.tags) other.elements plies
plies_counted lines game other plies counts has =
    of_counted (λ fen items. HasPlies fen items plies) lines game other counts has

-- a sound game has no fault
pub none_of_sound : (game : GameText) (plies : ℕ) (old new : List ℕ) (fault : Option Fault)
    → HasPlies (tag_in fen_tag game.tags) game.elements plies
    → IfSome fault (StopsAtFault game old new) → fault ≡ None
none_of_sound game plies old new None has none = refl
none_of_sound game plies old new (Some fault) (replay, is, count) (met, more, added) =
    absurd (no_fault Main (tag_in fen_tag game.tags) game.elements fault (replay, is) met)
