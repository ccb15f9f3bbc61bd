-- A line that is kept stands at a position of the game, and goes on by one ply.
use Rattle.std.specs.Prelude.{get_or}
use Rattle.std.proofs.lemmas.Option.{slice_get-get_or}
use Rattle.pgn_criteria.specs.Public.Meeting.{AreMet}
use Rattle.pgn_extract.specs.Private.PlayedLines.{TellsOf}
use Rattle.pgn_extract.proofs.Common.{◌≡◌, ◌↔◌, ◌+◌, ◌-◌, ◌<◌, ◌≤◌, ℕ, zero, suc, List, [], ◌∷◌}
use Rattle.pgn_extract.proofs.Common.{◌++◌, length, Option, Some, Bool, true, false, IsTrue, refl}
use Rattle.pgn_extract.proofs.Common.{sym, ap, ◌∙◌, subst, append_assoc, length-append, arith, None}
use Rattle.pgn_extract.proofs.Common.{slice_get, State, GameText, tag_in}
use Rattle.pgn_extract.proofs.Common.{main_words, Replay, IsReplay, fen_tag, Main}
use Rattle.pgn_extract.proofs.Common.{heading_of, Heading, Aim}
use Rattle.pgn_extract.proofs.Common.{GameId, IsMet, IsWanted, IsEntry}
use Rattle.pgn_extract.proofs.Common.{IsOfGame, GoesTo}
use Rattle.pgn_extract.proofs.Common.{MeetsHere, HandsOn}
use Rattle.pgn_extract.proofs.Common.{MatchOption, IsSan, Conditions}
use Rattle.pgn_extract.specs.Private.KeptLines.{IsKeptWith}
use Rattle.pgn_extract.specs.Private.Finding.{IsChosen}
use Rattle.pgn_extract.specs.Private.Lines.{first_ply}
use Rattle.pgn_extract.specs.Public.Exports.{IsFirstOrNone}
use Rattle.pgn_extract.proofs.Finds.{IsFirstOf, first_chosen}
use Rattle.pgn_extract.proofs.PackedFacts.{line_begins}
use Rattle.pgn_extract.proofs.OneMain.{one_main, stands_main}
use Rattle.pgn_criteria.proofs.BeginningFacts.{met_alike}
use Rattle.pgn_extract.specs.Private.Lines.{ShowsValue, Where}
use Rattle.pgn_extract.specs.Public.Listing.{IsShownOf}
use Rattle.pgn_extract.specs.Public.Rows.{IsPlyCell, uci_cell}
use Rattle.pgn_extract.specs.declared.rows.column.PlyColumn.{PlyColumn}
use Rattle.pgn_extract.specs.declared.rows.column.PlyColumn.TheVariants.{Ply, OfPosition, Next}
use Rattle.pgn_extract.specs.declared.rows.column.PlyColumn.TheVariants.{NextUci, OfLine}
use Rattle.pgn_extract.proofs.entries.LineValues.{line_alike}

-- replays with the same positions and moves meet the same criteria
pub met_there : (criteria : Option (List Conditions)) (heading : Heading) (kept other : Replay)
    → kept.positions ≡ other.positions → kept.played ≡ other.played
    → (ply : ℕ) → IsMet criteria heading kept ply → IsMet criteria heading other ply
met_there None heading kept other positions played ply met = tt
met_there (Some alternatives) heading kept other positions played ply met =
    met_alike heading kept other positions played ply alternatives met

module _ (game : GameText) (kept : Replay)
    (is : IsReplay Main (tag_in fen_tag game.tags) game.elements kept) where
  pub begins_kept : (met : List Bool) (aim : Aim) → length met ≡ length kept.positions
      → ((n : ℕ) (r : Bool) → slice_get met n ≡ Some r
      → IsTrue r ↔ IsMet aim.criteria (heading_of game) kept n)
      → (P : State) × IsKeptWith kept met 0 aim game [] P
  begins_kept met aim size reports =
      let (rest, parts) =
      line_begins is.start (main_words game.elements 0) kept.positions kept.played is.line in (
        is.start,
        record {
          is_replay = is;
          size = size;
          reports = reports;
          rest = rest;
          parts = parts;
          count = refl;
          stands = stands_main game kept is [] is.start rest parts;
        },
      )

-- what is known of the ply is so of each replay of the game
pub reports_there : (kept : Replay) (met : List Bool) (ply : ℕ) (aim : Aim) (game : GameText)
    (before : List State) (P : State)
    (r : Bool) → IsKeptWith kept met ply aim game before P → slice_get met ply ≡ Some r
    → MeetsHere r aim game before P
reports_there kept met ply aim game before P r at here replay own rest is =
    let same = one_main game kept replay (Main, at.is_replay) own in
    let back = one_main game replay kept own (Main, at.is_replay) in
    let says = at.reports ply r here in (
      λ t. met_there aim.criteria (heading_of game) kept replay same.0 same.1 (length before)
          (subst (IsMet aim.criteria (heading_of game) kept) (sym at.count) (says.0 t)),
      λ met. says.1 (subst (IsMet aim.criteria (heading_of game) kept) at.count
          (met_there aim.criteria (heading_of game) replay kept back.0 back.1 (length before) met)),
    )

-- what is told of the game is so of each replay of it
pub tells_known : (game : GameText) (kept : Replay)
    → IsReplay Main (tag_in fen_tag game.tags) game.elements kept → (asked : List Conditions)
    (met told : List Bool) → AreMet (heading_of game) kept asked met
    → ((ply : ℕ) → get_or told ply false ≡ get_or met ply false)
    → (criteria : Option (List Conditions)) → criteria ≡ Some asked → TellsOf told criteria game
tells_known game kept is asked met told are same criteria given replay own ply within =
    let there = one_main game kept replay (Main, is) own in
    let back = one_main game replay kept own (Main, is) in
    let size = are.each in
    let long = ap length there.0 in
    let here : slice_get met ply ≡ Some (get_or met ply false) =
    slice_get-get_or met ply false (omega (arith, size, long, within)) in
    let says = are.reports ply (get_or met ply false) here in (
      λ t. subst (λ (o : Option (List Conditions)). IsMet o (heading_of game) replay ply)
          (sym given) (met_there (Some asked) (heading_of game) kept replay there.0 there.1 ply
          (says.0 (sym (same ply) ∙ t))),
      λ meets. same ply ∙ says.1 (met_there (Some asked) (heading_of game) replay kept back.0
          back.1 ply (subst (λ (o : Option (List Conditions)). IsMet o (heading_of game) replay ply)
          given meets)),
    )

-- so is the value of a column
value_alike : (own : PlyColumn) (kept other : Replay) → kept.positions ≡ other.positions
    → kept.played ≡ other.played → (ply : ℕ) (value : List ℕ) → IsPlyCell own kept ply value
    → IsPlyCell own other ply value
value_alike Ply kept other positions played ply value is = is
value_alike (OfPosition own) kept other positions played ply value (P, here, is) =
    (P, ap (λ ps. slice_get ps ply) (sym positions) ∙ here, is)
value_alike (OfLine own) kept other positions played ply value is =
    line_alike own kept other positions played ply value is
value_alike Next kept other positions played ply value is =
    subst (λ ms. MatchOption (slice_get ms ply) (value ≡ [])
    (λ m. (P : State) × (slice_get other.positions ply ≡ Some P) × IsSan P m value)) played
    (subst (λ ps. MatchOption (slice_get kept.played ply) (value ≡ [])
    (λ m. (P : State) × (slice_get ps ply ≡ Some P) × IsSan P m value)) positions is)
value_alike NextUci kept other positions played ply value is =
    is ∙ ap (λ ms. uci_cell (slice_get ms ply)) played

pub shows_kept_value : (kept : Replay) (met : List Bool) (ply : ℕ) (own : PlyColumn)
    (value : List ℕ) → IsPlyCell own kept ply value
    → Where (λ aim game before P. IsKeptWith kept met ply aim game before P)
    (ShowsValue own value)
shows_kept_value kept met ply own value is aim game before P at rows replay of rest parts =
    let alike = one_main game kept replay (Main, at.is_replay) of in
    value_alike own kept replay alike.0 alike.1 (length before) value
    (subst (λ n. IsPlyCell own kept n value) (sym at.count) is)

module _ (kept : Replay) (met : List Bool) (ply : ℕ) (aim : Aim) (game : GameText)
    (before : List State) (P : State)
    (at : IsKeptWith kept met ply aim game before P) where
  abbrev With : ℕ → Aim → GameText → List State → State → Type 0
  With n other own some Q = IsKeptWith kept met n other own some Q

  pub size_left : length met ≡ ply + (length at.rest + 1)
  size_left =
      let whole : length kept.positions ≡ length before + length (P ∷ at.rest) =
      ap length at.parts ∙ length-append before (P ∷ at.rest) in
      let size = at.size in let count = at.count in omega (arith, whole, size, count)

  -- to the next ply
  pub goes_one : 2 ≤ length met - ply → (on : Bool)
      → GoesTo (With (ply + 1)) on true aim game before P
  goes_one more on = on_from at.rest at.parts (let size = size_left in omega (arith, size, more))
    where
      on_from : (rest : List State) → kept.positions ≡ before ++ P ∷ rest → 1 ≤ length at.rest
          → GoesTo (With (ply + 1)) on true aim game before P
      on_from [] parts some =
          absurd (let size = size_left in let whole : length kept.positions ≡ length before + 1 =
          ap length parts ∙ length-append before (P ∷ []) in let is = at.size in let count =
          at.count in omega (arith, size, whole, is, count, some))
      on_from (Q ∷ rest) parts some =
          let all = parts ∙ sym (append_assoc before (P ∷ []) (Q ∷ rest)) in (
            [],
            Q,
            record {
              is_replay = at.is_replay;
              size = at.size;
              reports = at.reports;
              rest = rest;
              parts = all;
              count = let grown = length-append before (P ∷ []) in let count = at.count in
                  omega (arith, grown, count);
              stands = stands_main game kept at.is_replay (before ++ P ∷ []) Q rest all;
            },
            λ replay own later is n low high. absurd (omega (arith, low, high)),
          )

  -- where none is left, or no more is asked for
  pub ends_kept : (on : Bool) → (on ≡ true → length met - ply < 2)
      → GoesTo (With ply) on false aim game before P
  ends_kept on last = (
    (kept, at.is_replay),
    λ is_on replay own rest is n low within wanted.
        let same : length replay.positions ≡ length kept.positions =
        ap length (sym (one_main game kept replay (Main, at.is_replay) own).0) in
        let size = at.size in let count = at.count in let end = last is_on in
        absurd (omega (arith, same, size, count, end, low, within)),
  )

-- in replays with the same positions and moves the same plies are wanted, and are entries
wanted_alike : (aim : Aim) (game : GameText) (one two : Replay) → IsOfGame game one
    → IsOfGame game two → (m : ℕ) → IsWanted aim (heading_of game) one m
    → IsWanted aim (heading_of game) two m
wanted_alike aim game one two is of m (low, high, met) =
    let same = one_main game one two is of in
    (low, high, met_there aim.criteria (heading_of game) one two same.0 same.1 m met)

entry_alike : (aim : Aim) (game : GameText) (kept other : Replay) → IsOfGame game kept
    → IsOfGame game other → (n : ℕ)
    → IsEntry aim (heading_of game) kept n → IsEntry aim (heading_of game) other n
entry_alike aim game kept other own also n entry = (
  wanted_alike aim game kept other own also n entry.0,
  λ first m less earlier.
      entry.1 first m less (wanted_alike aim game other kept also own m earlier),
)

-- where no number is the least that has a fact, none has it
none_least : (P : ℕ → Type 0) (size : ℕ)
    → ((n : ℕ) → n < size → P n → ((m : ℕ) → m < n → P m → ⊥) → ⊥)
    → (most n : ℕ) → n < most → n < size → P n → ⊥
none_least P size least zero n less within holds = absurd (omega (arith, less))
none_least P size least (suc most) n less within holds =
    least n within holds
    (λ m under. none_least P size least most m (omega (arith, less, under))
    (omega (arith, under, within)))

-- the first entry that is handed on is the first of the game
pub tells_first : (aim : Aim) (id : GameId) (game : GameText) (found : Option ℕ)
    → HandsOn (record aim { first = true }) id game (λ got. found ≡ first_ply None got)
    → IsChosen aim game found
tells_first aim id game found (replay, is, entries, listed, told) = (
  (replay, is),
  λ other own.
      by other own found (subst (IsFirstOf (IsEntry only (heading_of game) replay) 0
      (0 + length replay.positions)) (sym told)
      (first_chosen id (IsEntry only (heading_of game) replay) (IsShownOf only id game replay) 0
      replay.positions entries listed)),
)
  where
    only : Aim
    only = record aim { first = true }

    by : (other : Replay) → IsOfGame game other → (first : Option ℕ)
        → IsFirstOf (IsEntry only (heading_of game) replay) 0 (0 + length replay.positions) first
        → IsFirstOrNone aim (heading_of game) other first
    by other own None none = λ n within wanted.
        let same = one_main game replay other (Main, is) own in
        none_least (IsWanted aim (heading_of game) replay) (length replay.positions)
        (λ m less also least. none m (omega arith) (omega (arith, less)) (also, λ only. least))
        (n + 1) n (omega arith)
        (let less = subst (λ ps. n < length ps) (sym same.0) within in omega (arith, less))
        (wanted_alike aim game other replay own (Main, is) n wanted)
    by other own (Some n) (low, high, entry) =
        let same = one_main game replay other (Main, is) own in
        let there = entry_alike only game replay other (Main, is) own n entry in (
          subst (λ ps. n < length ps) same.0 (omega (arith, high)),
          there.0,
          there.1 refl,
        )
