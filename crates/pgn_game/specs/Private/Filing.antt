-- How the lines of a file of openings are stored, and found by the keys of their last positions.
use Rattle.std.specs.Prelude.{◌≡◌, ◌+◌, ◌*◌, ◌/◌, ◌%◌, ◌^◌, ◌==◌, ◌&&◌, ℕ, Bool, true, List, length}
use Rattle.std.specs.Prelude.{get_or, Option, Some, nat_eq, refl}
use Rattle.std.specs.Coded.{Coded, coded_ℕ, coded_list, coded×, code_by}
use Rattle.std.specs.Cmp.Lexicographic.{pointwise}
use Rattle.std.specs.HashMap.{HashMap, get}
use Rattle.std.specs.Int.{bit_at}
use Rattle.std.specs.List.{slice_get}
use Rattle.chess.specs.Public.Positions.{State, IsSound}
use Rattle.chess.specs.Public.Keys.{IsKey, ArePawns}
use Rattle.chess.specs.Shared.Codes.{coded_state}
use Rattle.chess.specs.declared.moves.Move.{Move}
use Rattle.pgn_game.specs.Public.MainLines.{IsMainLine}
use Rattle.pgn_game.specs.Public.Openings.{NamedLine, HasContents, EndsIn, IsFirstIn, IsOpeningIn}
use Rattle.pgn_game.specs.declared.openings.Opening.{Opening}

-- a line is stored as its position and its three texts
abbrev pub coded_named : Coded NamedLine
coded_named =
    code_by (State × (List ℕ × (List ℕ × List ℕ)))
    (coded× coded_state
    (coded× (coded_list coded_ℕ) (coded× (coded_list coded_ℕ) (coded_list coded_ℕ))))
    (λ l. (l.end, (l.code, (l.name, l.variation)))) (λ p.
    record { end = p.0; code = p.1.0; name = p.1.1.0; variation = p.1.1.1 }) (λ _. refl)

-- at the key of a position the map has the first line that ends in it
abbrev pub AreFiled : {S : Type 0} → List State → HashMap (List ℕ) ℕ S → Type 0
AreFiled ends places = (P : State) (x : List ℕ) → IsSound P → IsKey P x
    → IsFirstIn ends P (get (pointwise nat_eq) places x)

-- one number of two
abbrev pub mixed : ℕ → ℕ → ℕ
mixed sum word = (sum + word) % 2 ^ 64 * 11400714819323198485 % 2 ^ 64

-- the place in a sieve of the bitboards of pawns, and that of a key, by the bitboards of all men
-- but pawns
abbrev pub pawns_place : List ℕ → ℕ
pawns_place pawns = mixed (mixed 0 (get_or pawns 0 0)) (get_or pawns 1 0) / 2 ^ 32

abbrev pub key_place : List ℕ → ℕ
key_place key =
    mixed
    (mixed (mixed (mixed (mixed (get_or key 0 0) (get_or key 1 0)) (get_or key 2 0))
    (get_or key 3 0)) (get_or key 4 0))
    (mixed (mixed (mixed (mixed (get_or key 6 0) (get_or key 7 0)) (get_or key 8 0))
    (get_or key 9 0)) (get_or key 10 0))
    / 2 ^ 32

-- the bit of these words is set
abbrev pub is_set : List ℕ → ℕ → Bool
is_set words n = bit_at (get_or words (n / 64) 0) (n % 64) == 1

-- the two bits of the place are set in these words
abbrev pub has_place : List ℕ → ℕ → Bool
has_place words place = is_set words (place % 2 ^ 16) && is_set words (place / 2 ^ 16)

-- the sieves have the pawns and the keys of each position in which a line ends
pub record AreSieved (ends : List State) (pawns keys : List ℕ) : Type 0 where
  pub has_pawns : (line : ℕ) (P : State) (x : List ℕ) → EndsIn ends line P → ArePawns P x
      → has_place pawns (pawns_place x) ≡ true
  pub has_key : (line : ℕ) (P : State) (x : List ℕ) → IsSound P → EndsIn ends line P → IsKey P x
      → has_place keys (key_place x) ≡ true

-- what each of the lines is named stands in strings
abbrev pub HaveContents : List NamedLine → Type 0
HaveContents lines = (place : ℕ) (line : NamedLine) → slice_get lines place ≡ Some line
    → HasContents line

-- the words are a main line from the start, which has the opening or none, and so many plies
abbrev pub HasOpeningFrom : List State → State → List (List ℕ) → Option Opening → ℕ → Type 0
HasOpeningFrom ends start words found plies = (positions : List State) × (played : List Move)
    × IsMainLine start words positions played × IsOpeningIn ends positions found
    × (length played ≡ plies)
