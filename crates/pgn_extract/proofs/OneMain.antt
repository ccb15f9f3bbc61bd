-- The main line of a game is one, whichever replay of the game is taken.
use Rattle.pgn_extract.proofs.Common.{◌≡◌, ℕ, ◌+◌, ◌≤◌, List, ◌∷◌, ◌++◌, [], length}
use Rattle.pgn_extract.proofs.Common.{MatchOption, Option, None, Some, refl, sym, ap, ◌∙◌, subst}
use Rattle.pgn_extract.proofs.Common.{arith, State}
use Rattle.pgn_extract.proofs.Common.{GameText, tag_in, Fault, IsFault, main_words, IsMainLine}
use Rattle.pgn_extract.proofs.Common.{Replay, IsReplay, Main, fen_tag, Conditions, heading_of, Aim}
use Rattle.pgn_extract.proofs.Common.{IsMet, IsOfGame, Stands}
use Rattle.pgn_extract.specs.Public.Exports.{IsFirstOrNone}
use Rattle.pgn_game.proofs.OneReplay.{line_length, no_fault, one_line, one_start}

-- the main line of a game is the same in each replay
pub one_main : (game : GameText) (replay other : Replay) → IsOfGame game replay
    → IsOfGame game other → (replay.positions ≡ other.positions) × (replay.played ≡ other.played)
one_main game replay other (lines, is) (others, also) =
    let start : also.start ≡ is.start =
    one_start (tag_in fen_tag game.tags) also.start is.start also.is_start is.is_start in
    let words = main_words game.elements 0 in
    one_line is.start words replay.positions other.positions replay.played other.played is.line
    (subst (λ s. IsMainLine s words other.positions other.played) start also.line)

-- so each replay has the positions that one of the main line has
pub stands_main : (game : GameText) (replay : Replay)
    → IsReplay Main (tag_in fen_tag game.tags) game.elements replay
    → (before : List State) (P : State) (rest : List State) → replay.positions ≡ before ++ P ∷ rest
    → Stands game before P
stands_main game replay is before P rest parts other own =
    (rest, sym (one_main game replay other (Main, is) own).0 ∙ parts)

-- without criteria the first ply within the bounds is the first that is wanted
pub first_within : (aim : Aim) (game : GameText) (replay other : Replay) (plies : ℕ)
    (found : Option ℕ) → aim.criteria ≡ None
    → IsReplay Main (tag_in fen_tag game.tags) game.elements replay → length replay.played ≡ plies
    → IsOfGame game other
    → MatchOption found
    ((ply : ℕ) → ply ≤ plies → aim.min_ply ≤ ply → ply ≤ aim.max_ply → ⊥)
    (λ first. (first ≡ aim.min_ply) × (first ≤ plies) × (first ≤ aim.max_ply))
    → IsFirstOrNone aim (heading_of game) other found
first_within aim game replay other plies found plain is count own = by found
  where
    size : length other.positions ≡ length replay.played + 1
    size = ap length (sym (one_main game replay other (Main, is) own).0)
        ∙ line_length is.start (main_words game.elements 0) replay.positions replay.played is.line

    met : (ply : ℕ) → IsMet aim.criteria (heading_of game) other ply
    met ply =
        subst (λ (criteria : Option (List Conditions)).
        IsMet criteria (heading_of game) other ply) (sym plain) (record {})

    by : (first : Option ℕ) → MatchOption first
        ((ply : ℕ) → ply ≤ plies → aim.min_ply ≤ ply → ply ≤ aim.max_ply → ⊥)
        (λ own. (own ≡ aim.min_ply) × (own ≤ plies) × (own ≤ aim.max_ply))
        → IsFirstOrNone aim (heading_of game) other first
    by None none = λ ply less wanted.
        none ply (omega (arith, size, count, less)) wanted.0 wanted.1
    by (Some ply) (least, few, most) = (
      omega (arith, size, count, few),
      (omega (arith, least), most, met ply),
      λ before less wanted. let low = wanted.0 in omega (arith, least, less, low),
    )

-- a game whose main line has a fault is sound in none of its lines
pub main_fault : (game : GameText) (fault : Fault)
    → IsFault Main (tag_in fen_tag game.tags) game.elements fault → (replay : Replay)
    → IsOfGame game replay → ⊥
main_fault game fault met replay (lines, is) =
    no_fault Main (tag_in fen_tag game.tags) game.elements fault (
      record { positions = replay.positions; played = replay.played; turns = [] },
      record { start = is.start; is_start = is.is_start; line = is.line; turns = refl },
    ) met
