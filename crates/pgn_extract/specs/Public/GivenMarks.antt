-- The mark that a text gives, as after `--from` and `--until`.
use Rattle.std.specs.Prelude.{ℕ, ◌+◌, ◌^◌, ◌≤◌, Bool, ◌&&◌, ◌==◌, nat_le, if◌then◌else◌, List}
use Rattle.std.specs.Prelude.{length, take, drop, position, Option, Some, None}
use Rattle.std.specs.List.{list_all}
use Rattle.chess.specs.Public.Fen.{is_digit, number_from}
use Rattle.pgn_text.specs.Public.Limits.{largest_offset}
use Rattle.pgn_extract.specs.declared.marks.GameId.{GameId}

-- 1 to 19 digits
abbrev pub is_number : List ℕ → Bool
is_number digits = (nat_le 1 (length digits) && nat_le (length digits) 19)
    && list_all is_digit digits

-- the number that they write, of at most 2^62; any other text writes none
abbrev pub number_in : List ℕ → Option ℕ
number_in digits = if is_number digits && nat_le (number_from 0 digits) (2 ^ 62)
    then Some (number_from 0 digits) else None

-- which game it is: the one with this number, whose first byte stands at this offset
abbrev pub game_id : ℕ → ℕ → GameId
game_id number offset = record { number = number; offset = offset }

-- a mark at which a run can begin
abbrev pub IsGameMark : GameId → Type 0
IsGameMark id = (1 ≤ id.number) × (id.number ≤ 2 ^ 62) × (id.offset ≤ largest_offset)

-- games are numbered from 1 on
abbrev pub mark_of : Option ℕ → Option ℕ → Option GameId
mark_of None offset = None
mark_of (Some number) None = None
mark_of (Some number) (Some offset) = if nat_le 1 number then Some (game_id number offset) else None

-- the number stands before this place in the text, and the offset after it
abbrev pub mark_around : List ℕ → Option ℕ → Option GameId
mark_around text None = None
mark_around text (Some at) = mark_of (number_in (take at text)) (number_in (drop (at + 1) text))

-- the mark in a text: they stand around its first `@`
abbrev pub mark_in : List ℕ → Option GameId
mark_in text = mark_around text (position (λ b. b == 64) text)
