-- Worked rows of positions that are asked for by fields of a FEN; and what these definitions
-- refuse.
use Rattle.std.proofs.Common.{◌≡◌, ℕ, true, false, List, [], ◌∷◌, ap, sym, ◌∙◌, refl, arith}
use Rattle.std.proofs.lemmas.Option.{same_Some}
use Rattle.std.specs.Prelude.{codes, Some, None, ◌++◌, ◌+◌, nat_le}
use Rattle.std.specs.List.{slice_get}
use Rattle.chess.specs.Public.FirstFields.{GivesPosition}
use Rattle.chess.specs.Public.Squares.{Place, IsOnBoard}
use Rattle.chess.specs.Public.Placements.{man_at}
use Rattle.chess.specs.Public.Positions.{State, IsCheck}
use Rattle.chess.specs.Public.Moves.{TakesEnPassant, is_en_passant, men_after}
use Rattle.chess.specs.Public.Start.{initial, initial_man}
use Rattle.chess.specs.declared.board.man.Side.TheVariants.{White, Black}
use Rattle.chess.specs.declared.board.man.Wing.TheVariants.{KingSide}
use Rattle.chess.specs.declared.moves.Move.{Move}
use Rattle.chess.proofs.EnPassantFacts.{captures, none_without}
use Rattle.chess.proofs.FenReadBack.{fen_reads}
use Rattle.chess.proofs.StartFacts.{initial_kept, initial_at}
use Rattle.chess.proofs.examples.StartText.{initial_fen, initial_has_fen}
use Rattle.pgn_game.specs.Public.Replays.{Replay}
use Rattle.pgn_criteria.specs.Public.Lines.{SpellsMove, IsTrimmed}
use Rattle.pgn_criteria.specs.Public.Setups.{IsAlike, IsSetUp}
use Rattle.pgn_criteria.specs.declared.setup.Setup as declared
use Rattle.pgn_criteria.specs.declared.condition.MoveClaim.TheVariants.{Setup}

-- a whole FEN: its first four fields are given
initial_given : GivesPosition initial_fen 4 initial
initial_given = (
  refl,
  fen_reads initial initial_fen initial_kept.sound (omega arith) (omega arith) initial_has_fen,
)

initial_spelled :
    SpellsMove (codes "position rnbqkbnr/pppppppp/8/8/8/8/PPPPPPPP/RNBQKBNR w KQkq - 0 1")
    (Setup (record { position = initial; given = 4 }))
initial_spelled = (
  initial_fen,
  (codes " ", refl, ((λ none. cc), refl)),
  (
    (114, _, refl, refl),
    (codes "rnbqkbnr/pppppppp/8/8/8/8/PPPPPPPP/RNBQKBNR w KQkq - 0 ", 49, refl, refl),
  ),
  initial_given,
)

not_three_given : (P : State) → GivesPosition initial_fen 3 P → ⊥
not_three_given P gives = let is = gives.0 in omega (arith, is)

no_field : (given : ℕ) (P : State) → GivesPosition (codes "  ") given P → ⊥
no_field given P gives = gives

not_begun_by_a_space : IsTrimmed (codes " 8") → ⊥
not_begun_by_a_space ((first, rest, is, solid), ends) =
    let same : 32 ≡ first = cc in
    let clash : false ≡ true = ap (nat_le 33) same ∙ solid in cc

last_is_a_space : (front : List ℕ) (last : ℕ) → codes "8 " ≡ front ++ (last ∷ []) → 32 ≡ last
last_is_a_space [] last is = cc
last_is_a_space (a ∷ []) last is = cc
last_is_a_space (a ∷ b ∷ []) last is = cc
last_is_a_space (a ∷ b ∷ c ∷ front) last is = cc

not_ended_by_a_space : IsTrimmed (codes "8 ") → ⊥
not_ended_by_a_space (begins, (front, last, is, solid)) =
    let clash : false ≡ true = ap (nat_le 33) (last_is_a_space front last is) ∙ solid in cc

-- what differs is asked for where its field is given
other_side : State
other_side = record {
  men = initial.men;
  turn = Black;
  rights = initial.rights;
  en_passant = None;
  halfmove_clock = 0;
  fullmove_number = 1;
}

men_are_enough : IsAlike 1 initial other_side
unfolding other_side
men_are_enough = record {
  men = refl;
  turn = λ given. absurd (omega (arith, given));
  rights = λ given. absurd (omega (arith, given));
  en_passant = λ given. absurd (omega (arith, given));
}

not_the_other_side : IsAlike 2 initial other_side → ⊥
unfolding other_side
not_the_other_side alike = let same : White ≡ Black = alike.turn (omega arith) in cc

without_rights : State
without_rights = record {
  men = initial.men;
  turn = White;
  rights = record {
    white_king_side = false;
    white_queen_side = true;
    black_king_side = true;
    black_queen_side = true;
  };
  en_passant = None;
  halfmove_clock = 0;
  fullmove_number = 1;
}

not_without_a_right : IsAlike 3 initial without_rights → ⊥
unfolding without_rights
not_without_a_right alike =
    let same : true ≡ false = alike.rights (omega arith) White KingSide in cc

-- a move takes en passant where it is such a capture and is legal
no_other_move : (P : State) (m : Move) → is_en_passant P m ≡ false → TakesEnPassant P m → ⊥
no_other_move P m other takes = let both : false ≡ true = sym other ∙ takes.capture in cc

no_pinned_pawn : (P : State) (m : Move) → IsCheck (men_after P m) P.turn → TakesEnPassant P m → ⊥
no_pinned_pawn P m check takes = takes.legal.safe check

-- no white pawn stands where it can take on e6
after_a_step : State
after_a_step = record {
  men = initial.men;
  turn = White;
  rights = initial.rights;
  en_passant = Some (record { file = 5; rank = 6 });
  halfmove_clock = 0;
  fullmove_number = 1;
}

no_man_on_rank_5 : (s : Place) → IsOnBoard s → s.rank ≡ 5 → man_at initial.men s ≡ None
no_man_on_rank_5 s on_board rank =
    initial_at s on_board ∙ ap (λ r. initial_man (record { file = s.file; rank = r })) rank

no_capture_on_e6 : (m : Move) → TakesEnPassant after_a_step m → ⊥
unfolding after_a_step
no_capture_on_e6 m takes =
    let known = captures after_a_step m takes in
    let square : Some (record { file = 5; rank = 6 }) ≡ Some m.to = known.0 in
    let to : record { file = 5; rank = 6 } ≡ m.to = cc in
    let forward : m.to.rank ≡ m.from.rank + 1 = known.1.1 in
    let six : 6 ≡ m.to.rank = ap (λ (s : Place). s.rank) to in
    let rules = takes.legal.pseudo_legal in
    let none = no_man_on_rank_5 m.from rules.from (omega (arith, forward, six)) in
    let both : Some rules.man ≡ None = sym rules.here ∙ none in cc

square_without_a_capture : IsAlike 4 initial after_a_step
unfolding after_a_step
square_without_a_capture = record {
  men = refl;
  turn = λ given. refl;
  rights = λ given side wing. refl;
  en_passant = λ given m. (
    (λ takes. absurd (none_without initial m refl takes)),
    (λ takes. absurd (no_capture_on_e6 m takes)),
  );
}

-- where a pawn can take, a dash and another square stand for another position
not_without_the_capture : (P Q : State) (m : Move) → TakesEnPassant P m → Q.en_passant ≡ None
    → IsAlike 4 P Q → ⊥
not_without_the_capture P Q m takes none alike =
    none_without Q m none ((alike.en_passant (omega arith) m).0 takes)

not_the_other_capture : (P Q : State) (m : Move) (square : Place) → TakesEnPassant Q m
    → P.en_passant ≡ Some square → (square ≡ m.to → ⊥) → IsAlike 4 P Q → ⊥
not_the_other_capture P Q m square takes is other alike =
    let both : Some square ≡ Some m.to =
    sym is ∙ (captures P m ((alike.en_passant (omega arith) m).1 takes)).0 in
    other (same_Some square m.to both)

-- where each capture leaves the king attacked, a dash stands for the same
abbrev with_a_dash : State → State
with_a_dash P = record {
  men = P.men;
  turn = P.turn;
  rights = P.rights;
  en_passant = None;
  halfmove_clock = P.halfmove_clock;
  fullmove_number = P.fullmove_number;
}

pinned_pawn_is_passed_over : (P : State)
    → ((m : Move) → is_en_passant P m ≡ true → IsCheck (men_after P m) P.turn)
    → IsAlike 4 P (with_a_dash P)
pinned_pawn_is_passed_over P pinned = record {
  men = refl;
  turn = λ given. refl;
  rights = λ given side wing. refl;
  en_passant = λ given m. (
    (λ takes. absurd (no_pinned_pawn P m (pinned m takes.capture) takes)),
    (λ takes. absurd (none_without (with_a_dash P) m refl takes)),
  );
}

-- the clock and the number are passed over
later : State
later = record {
  men = initial.men;
  turn = White;
  rights = initial.rights;
  en_passant = None;
  halfmove_clock = 7;
  fullmove_number = 9;
}

counts_are_passed_over : IsAlike 4 initial later
unfolding later
counts_are_passed_over = record {
  men = refl;
  turn = λ given. refl;
  rights = λ given side wing. refl;
  en_passant = λ given m. (
    (λ takes. absurd (none_without initial m refl takes)),
    (λ takes. absurd (none_without later m refl takes)),
  );
}

no_position_past_the_end : (replay : Replay) (ply : ℕ) (setup : declared.Setup)
    → slice_get replay.positions ply ≡ None → IsSetUp replay ply setup → ⊥
no_position_past_the_end replay ply setup none found =
    let both : Some found.0 ≡ None = sym found.1 ∙ none in cc
