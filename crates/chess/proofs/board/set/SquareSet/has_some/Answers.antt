use Rattle.chess.proofs.Common.{arith, sym, ap, ◌∙◌, ◌≡◌, not, nat_eq, w64, inl, inr, nat_tests}
use Rattle.chess.proofs.Common.{cases_eq, bit_at-zero, bit_at-trailing_zeros, trailing_zeros}
use Rattle.chess.proofs.Common.{index_of-square_at, Place, IsOnBoard, index_of, square_at, is_in}
use Rattle.chess.proofs.Common.{has_bit, is_in-places_of}
use Rattle.chess.proofs.PlaceFacts.{true_not_false}
use Rattle.chess.proofs.board.set.SquareSet.has_some.Goals as goal

pub returns : goal.returns
returns c =
    let bitboard = c.self.inside.bitboard in
    let at = trailing_zeros w64 bitboard in
    let shown : (s : Place) → IsOnBoard s → is_in c.args.self.now s
    ≡ has_bit bitboard (index_of s) =
    λ s on_board.
    ap (λ set. is_in set s) (sym c.self.view_is)
    ∙ is_in-places_of (has_bit bitboard) s on_board in (
      (λ e. elim (cases_eq bitboard 0) [
        | inl zero ↦ absurd
            (true_not_false (not (nat_eq bitboard 0)) e (ap (λ n. not (nat_eq n 0)) zero))
        | inr some ↦
            let found = bit_at-trailing_zeros w64 bitboard (omega arith) c.self.invariant in
            let near = found.0 in
            let on_board : IsOnBoard (square_at at) =
            record {
              file_low = omega arith;
              file_high = omega arith;
              rank_low =
                  omega arith;
              rank_high = omega arith;
            } in (
              square_at at,
              on_board,
              shown (square_at at) on_board
                  ∙ ap (has_bit bitboard) (index_of-square_at at found.0)
                  ∙ ap (λ n. nat_eq n 1) found.1,
            )
      ]),
      (λ h. elim (cases_eq bitboard 0) [
        | inl zero ↦ absurd (true_not_false (is_in c.args.self.now h.0) h.2
            (shown h.0 h.1 ∙ ap (λ n. has_bit n (index_of h.0)) zero
            ∙ ap (λ n. nat_eq n 1) (bit_at-zero (index_of h.0))))
        | inr some ↦ grind (arith, nat_tests)
      ]),
    )
