-- One piece reported: a game by the index, by the listing of its replay or by its fault, or bytes
-- that are no game.
use Rattle.std.proofs.lemmas.List.{append-nil}
use Rattle.pgn_extract.proofs.Common.{◌≡◌, ℕ, ◌+◌, Bool, true, false, List, [], ◌++◌, Vec, Global}
use Rattle.pgn_extract.proofs.Common.{refl, sym, ap, ◌∙◌, subst, arith, codes, if◌then◌else◌}
use Rattle.pgn_extract.proofs.Common.{GameText, IsGameText, piece_place, mark_place}
use Rattle.pgn_extract.proofs.Common.{depth_limit, marked, Part, PieceStart, is_chosen, id_at}
use Rattle.pgn_extract.proofs.Common.{AddsMark, IsPieceOf, AddsPiece, by_itself, AddsVerdict}
use Rattle.pgn_extract.proofs.Common.{IsMarkReport, NamesBlockStop, IsMarkVerdict, fault_text}
use Rattle.pgn_extract.proofs.Common.{mark_line, faulty_text, NamesByte, NamesStop}
use Rattle.pgn_extract.proofs.Common.{Verdict, SoundGame, FaultyGame, output_of, fault_line_of}
use Rattle.pgn_extract.proofs.Common.{is_faulty, IsGameReported, IsVerdictIn, IsUnreadableVerdict}
use Rattle.pgn_extract.proofs.Common.{Report, Aim, GameId, Mode}
use Rattle.pgn_text.specs.Public.Left.{IsPiece}
use Rattle.pgn_text.proofs.StopsThere.{stops_alone}
use Rattle.pgn_text.specs.declared.game.pieces.Piece.{Piece}
use Rattle.pgn_extract.specs.Private.Blockwise.{AddsCounted, AddsGame, IsBlockVerdict}
use Rattle.pgn_extract.proofs.ChoiceFacts.{if_passed, if_taken}
use Rattle.pgn_extract.proofs.Counting.{counts_there}
use Rattle.pgn_extract.proofs.engine.RestOfBlock.{rest_of_block}
use Rattle.pgn_text.specs.Public.Pieces as spec
use Rattle.pgn_text.specs.declared.game.pieces.PieceStart.TheVariants as marks
use Rattle.pgn_text.specs.declared.game.pieces.Piece.TheVariants as given
use Rattle.pgn_extract.specs.declared.settings.Mode.TheVariants as modes

-- a text goes to the output, and nothing else changes
pub sound_added : {old new : Report} {text : List ℕ}
    → new.output.items ≡ old.output.items ++ text → new.faults.items ≡ old.faults.items
    → new.games ≡ old.games → new.faulty ≡ old.faulty → AddsVerdict old new (SoundGame text) 0
sound_added {old} output faults games faulty = record {
  output = output;
  faults = faults ∙ sym (append-nil old.faults.items);
  games = games ∙ omega arith;
  faulty = faulty ∙ omega arith;
}

-- but for the index a game is reported by itself
replayed_in : (mode : Mode) (aim : Aim) (id : GameId) (parts : List Part) (verdict : Verdict)
    → (mode ≡ modes.Index → ⊥) → IsGameReported mode aim id parts verdict
    → IsVerdictIn mode aim id parts verdict
replayed_in modes.Index aim id parts verdict other is = absurd (other refl)
replayed_in modes.List aim id parts verdict other is = is
replayed_in modes.EachLine aim id parts verdict other is = is
replayed_in modes.Export aim id parts verdict other is = is

pub game_added : (aim : Aim) {old new : Report} (id : GameId) (game : GameText) → IsGameText game
    → (aim.mode ≡ modes.Index → ⊥) → AddsCounted aim.mode aim old new id game
    → AddsGame aim old new id game
game_added aim id game text other (counted, counts, (verdict, is, adds)) at parts shows = (
  verdict,
  replayed_in aim.mode aim id parts verdict other
      (by_itself counted, counts_there aim.openings parts game counted text shows counts, is),
  adds,
)

-- in the index it is by its mark
pub game_indexed : (aim : Aim) {old new : Report} (id : GameId) (game : GameText)
    → aim.mode ≡ modes.Index → AddsVerdict old new (SoundGame (mark_line aim.name id)) 0
    → AddsGame aim old new id game
game_indexed aim id game is adds at parts shows =
    let verdict = SoundGame (mark_line aim.name id) in
    (verdict, subst (λ m. IsVerdictIn m aim id parts verdict) (sym is) refl, adds)

-- after a piece that is counted a verdict is reported
counted_first : {old mid new : Report} (verdict : Verdict) → AddsVerdict mid new verdict 0
    → mid.output ≡ old.output → mid.faults ≡ old.faults → mid.games ≡ old.games + 1
    → mid.faulty ≡ old.faulty → AddsVerdict old new verdict 1
counted_first verdict adds output faults games faulty = record {
  output = adds.output ∙ ap (λ (v : Vec ℕ Global). v.items ++ output_of verdict) output;
  faults = adds.faults ∙ ap (λ (v : Vec ℕ Global). v.items ++ fault_line_of verdict) faults;
  games = adds.games ∙ omega (arith, games);
  faulty = adds.faulty ∙ ap (λ n. n + (if is_faulty verdict then 1 else 0)) faulty;
}

-- a piece that is a game and chosen is counted, and reported
pub piece_game : (aim : Aim) {old mid new : Report} (id own : GameId) (block : List ℕ)
    (piece : Piece) (game : GameText) → piece ≡ given.Game game → own ≡ id_at id game.at
    → is_chosen aim.chosen own ≡ true → AddsGame aim mid new own game → mid.output ≡ old.output
    → mid.faults ≡ old.faults → mid.games ≡ old.games + 1 → mid.faulty ≡ old.faulty
    → AddsPiece aim old new id block piece
piece_game aim {old} {mid} {new} id own block piece game is_game place taken adds output faults
    games faulty shown is among = shows shown (subst (λ p. IsPiece p shown) is_game is)
  where
    shows : (shown : spec.Piece) → IsPiece (given.Game game) shown
        → AddsMark aim old new id.number (marked id.offset shown)
    shows (spec.Unreadable at bytes) is = absurd is
    shows (spec.Game at parts) is =
        let verdict = adds at parts is in
        let same : own ≡ id_at id at = place ∙ ap (id_at id) is.place in (
          verdict.0,
          if_taken (is_chosen aim.chosen (id_at id at)) _
              (subst (λ i. is_chosen aim.chosen i ≡ true) same taken)
              (subst (λ i. IsVerdictIn aim.mode aim i parts verdict.0) same verdict.1),
          counted_first verdict.0 verdict.2 output faults games faulty,
        )

-- a note that names where the block stops names where the piece does, taken by itself
stop_alone : (explain : Bool) (offset : ℕ) (block : List ℕ) (at : ℕ) (bytes note : List ℕ)
    → IsPieceOf offset block (spec.Unreadable at bytes)
    → NamesBlockStop explain offset block at note → NamesStop explain (offset + at) bytes note
stop_alone false offset block at bytes note among names = tt
stop_alone true offset block at bytes note (before, after, are) (
  place,
  (agreeing, parted, stops),
  names,
) =
    let same : offset + place ≡ (offset + at) + agreeing = omega (arith, parted) in (
      agreeing,
      stops_alone depth_limit offset block before at bytes after agreeing are stops,
      subst (λ (n : ℕ). NamesByte n note) same names,
    )

-- the verdict on bytes of a block that are no game is that on the piece at the same place
pub unreadable_there : (aim : Aim) (id : GameId) (block : List ℕ) (place at : ℕ) (bytes : List ℕ)
    (verdict : Verdict) → place ≡ at → IsPieceOf id.offset block (spec.Unreadable at bytes)
    → IsBlockVerdict aim id block place verdict
    → IsUnreadableVerdict aim (id.offset
    + at) bytes (fault_text aim.name (id_at id at) (codes "unreadable")) verdict
unreadable_there aim id block place at bytes verdict is among by =
    alone (subst (λ (p : ℕ). IsBlockVerdict aim id block p verdict) is by)
  where
    line : List ℕ
    line = fault_text aim.name (id_at id at) (codes "unreadable")

    alone : IsBlockVerdict aim id block at verdict
        → IsUnreadableVerdict aim (id.offset + at) bytes line verdict
    alone (note, noted, names, says) = (
      note,
      noted,
      stop_alone aim.explain id.offset block at bytes note among names,
      says ∙ ap (λ (b : List ℕ). FaultyGame (faulty_text aim.mode aim.select b) line note)
          (rest_of_block id.offset block at bytes among),
    )

-- a piece that is no game and chosen is counted, and reported
pub piece_unreadable : (aim : Aim) {old mid new : Report} (id : GameId) (block : List ℕ)
    (piece : Piece) (place : ℕ) (verdict : Verdict)
    → piece ≡ given.Unreadable place → is_chosen aim.chosen (id_at id place) ≡ true
    → IsBlockVerdict aim id block place verdict → AddsVerdict mid new verdict 0
    → mid.output ≡ old.output → mid.faults ≡ old.faults → mid.games ≡ old.games + 1
    → mid.faulty ≡ old.faulty → AddsPiece aim old new id block piece
piece_unreadable aim {old} {mid} {new} id block piece place verdict is_none taken by adds output
    faults games faulty shown is among = shows shown (subst (λ p. IsPiece p shown) is_none is) among
  where
    shows : (shown : spec.Piece) → IsPiece (given.Unreadable place) shown
        → IsPieceOf id.offset block shown → AddsMark aim old new id.number (marked id.offset shown)
    shows (spec.Game at parts) is among = absurd is
    shows (spec.Unreadable at bytes) is among = (
      verdict,
      if_taken (is_chosen aim.chosen (id_at id at)) _
          (subst (λ n. is_chosen aim.chosen (id_at id n) ≡ true) is taken)
          (unreadable_there aim id block place at bytes verdict is among by),
      counted_first verdict adds output faults games faulty,
    )

-- a piece that is passed over is counted, and nothing is reported of it
nothing_added : {old new : Report} → new.output ≡ old.output → new.faults ≡ old.faults
    → new.games ≡ old.games + 1 → new.faulty ≡ old.faulty → AddsVerdict old new (SoundGame []) 1
nothing_added {old} {new} output faults games faulty = record {
  output = ap (λ (v : Vec ℕ Global). v.items) output ∙ sym (append-nil old.output.items);
  faults = ap (λ (v : Vec ℕ Global). v.items) faults ∙ sym (append-nil old.faults.items);
  games = games;
  faulty = faulty ∙ omega arith;
}

pub piece_passed : (aim : Aim) {old new : Report} (id : GameId) (block : List ℕ) (piece : Piece)
    → is_chosen aim.chosen (id_at id (piece_place piece)) ≡ false
    → new.output ≡ old.output → new.faults ≡ old.faults → new.games ≡ old.games + 1
    → new.faulty ≡ old.faulty → AddsPiece aim old new id block piece
piece_passed aim {old} {new} id block (given.Game game) passed output faults games faulty
    (spec.Game at parts) is among = (
      SoundGame [],
      if_passed (is_chosen aim.chosen (id_at id at)) _
          (subst (λ n. is_chosen aim.chosen (id_at id n) ≡ false) is.place passed) refl,
      nothing_added output faults games faulty,
    )
piece_passed aim {old} {new} id block (given.Game game) passed output faults games faulty
    (spec.Unreadable at bytes) is among = absurd is
piece_passed aim {old} {new} id block (given.Unreadable place) passed output faults games faulty
    (spec.Game at parts) is among = absurd is
piece_passed aim {old} {new} id block (given.Unreadable place) passed output faults games faulty
    (spec.Unreadable at bytes) is among = (
      SoundGame [],
      if_passed (is_chosen aim.chosen (id_at id at)) _
          (subst (λ n. is_chosen aim.chosen (id_at id n) ≡ false) is passed) refl,
      nothing_added output faults games faulty,
    )

-- and so is its mark
pub mark_passed : (aim : Aim) {old new : Report} (id : GameId) (block : List ℕ) (mark : PieceStart)
    → is_chosen aim.chosen (id_at id (mark_place mark)) ≡ false
    → new.output ≡ old.output → new.faults ≡ old.faults → new.games ≡ old.games + 1
    → new.faulty ≡ old.faulty
    → (verdict : Verdict) × IsMarkReport aim id block mark verdict × AddsVerdict old new verdict 1
mark_passed aim id block mark passed output faults games faulty = (
  SoundGame [],
  if_passed (is_chosen aim.chosen (id_at id (mark_place mark))) _ passed refl,
  nothing_added output faults games faulty,
)

-- the mark of a piece that is a game and chosen is counted, and reported
pub mark_game : (aim : Aim) {old new : Report} (id : GameId) (block : List ℕ) (place : ℕ)
    (mark : PieceStart) → mark ≡ marks.Game place
    → is_chosen aim.chosen (id_at id (mark_place mark)) ≡ true
    → new.output.items ≡ old.output.items ++ mark_line aim.name (id_at id place)
    → new.faults.items ≡ old.faults.items → new.games ≡ old.games + 1 → new.faulty ≡ old.faulty
    → (verdict : Verdict) × IsMarkReport aim id block mark verdict × AddsVerdict old new verdict 1
mark_game aim {old} {new} id block place mark is taken output faults games faulty =
    let verdict = SoundGame (mark_line aim.name (id_at id place)) in (
      verdict,
      if_taken (is_chosen aim.chosen (id_at id (mark_place mark))) _ taken
          (subst (λ m. IsMarkVerdict aim id block m verdict) (sym is) refl),
      record {
        output = output;
        faults = faults ∙ sym (append-nil old.faults.items);
        games = games;
        faulty = faulty ∙ omega arith;
      },
    )

-- and that of one that is none
pub mark_unreadable : (aim : Aim) {old mid new : Report} (id : GameId) (block : List ℕ) (place : ℕ)
    (mark : PieceStart) (verdict : Verdict)
    → mark ≡ marks.Unreadable place → is_chosen aim.chosen (id_at id (mark_place mark)) ≡ true
    → IsBlockVerdict aim id block place verdict → AddsVerdict mid new verdict 0
    → mid.output ≡ old.output → mid.faults ≡ old.faults → mid.games ≡ old.games + 1
    → mid.faulty ≡ old.faulty
    → (verdict : Verdict) × IsMarkReport aim id block mark verdict × AddsVerdict old new verdict 1
mark_unreadable aim id block place mark verdict is taken by adds output faults games faulty = (
  verdict,
  if_taken (is_chosen aim.chosen (id_at id (mark_place mark))) _ taken
      (subst (λ m. IsMarkVerdict aim id block m verdict) (sym is) by),
  counted_first verdict adds output faults games faulty,
)
