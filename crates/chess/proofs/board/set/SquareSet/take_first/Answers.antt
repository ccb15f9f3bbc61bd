use Rattle.chess.proofs.Common.{arith, refl, sym, ap, ◌∙◌, ◌≡◌, true, false, nat_eq, w64, inl, inr}
use Rattle.chess.proofs.Common.{not, ◌&&◌, nat_tests, index_of-square_at, Place, IsOnBoard}
use Rattle.chess.proofs.Common.{same_square, index_of, square_at, is_in, places_of, has_bit}
use Rattle.chess.proofs.Common.{is_in-places_of, on_board-places_of, empty_bitboard}
use Rattle.chess.proofs.Common.{bit_at-trailing_zeros, trailing_zeros, cases_lt}
use Rattle.chess.proofs.board.SetBits.{clear_bit, without_lowest}
use Rattle.chess.proofs.board.set.SquareSet.take_first.Goals as goal

pub returns-then-bitboard-eq0 : goal.returns-then-bitboard-eq0
returns-then-bitboard-eq0 c =
    let zero : c.self.inside.bitboard ≡ 0 = grind (arith, nat_tests, c.if-bitboard-eq0.true) in
    (sym c.self.view_is ∙ ap (λ n. places_of (has_bit n)) zero ∙ empty_bitboard, refl)

pub returns : goal.returns
returns c =
    let bitboard = c.self.inside.bitboard in
    let at = trailing_zeros w64 bitboard in
    let found =
    bit_at-trailing_zeros w64 bitboard (omega (arith, c.if-bitboard-eq0.false)) c.self.invariant
    in
    let square : c.of_index.result ≡ square_at at = c.of_index.ensures.square in
    let place : index_of c.of_index.result ≡ at =
    ap index_of square ∙ index_of-square_at at found.0 in
    let shown : (s : Place) → IsOnBoard s → is_in c.args.self.now s
    ≡ has_bit bitboard (index_of s) =
    λ s on_board.
    ap (λ set. is_in set s) (sym c.self.view_is)
    ∙ is_in-places_of (has_bit bitboard) s on_board in (
      c.of_index.ensures.on_board,
      shown c.of_index.result c.of_index.ensures.on_board ∙ ap (has_bit bitboard) place
          ∙ ap (λ n. nat_eq n 1) found.1,
      (λ s here. elim (cases_lt (index_of s) at) [
        | inl less ↦
            let on_board =
            on_board-places_of (has_bit bitboard) s (ap (λ set. is_in set s) c.self.view_is ∙ here)
            in
            let none : true ≡ false = sym here ∙ shown s on_board
            ∙ ap (λ n. nat_eq n 1) (found.2 (index_of s) less) in cc
        | inr more ↦ omega arith
      ]),
      (λ s.
          ap (λ n. is_in (places_of (has_bit n)) s)
          (without_lowest bitboard at found.0 c.self.invariant found.1 found.2)
          ∙ clear_bit bitboard at s found.0
          ∙ ap (λ set. is_in set s && not (same_square s (square_at at))) c.self.view_is
          ∙ ap (λ (t : Place). is_in c.args.self.now s && not (same_square s t)) (sym square)),
    )
