use Rattle.chess.proofs.Common.{arith, sym, ap, ◌∙◌, ◌≡◌, inl, inr, nat_tests, places_of, has_bit}
use Rattle.chess.proofs.Common.{empty_bitboard, cases_eq}
use Rattle.chess.specs.Shared.SetFacts.{not_empty_bitboard}
use Rattle.chess.proofs.board.set.SquareSet.is_empty.Goals as goal

pub returns : goal.returns
returns c =
    let bitboard = c.self.inside.bitboard in (
      (λ e.
          let zero : bitboard ≡ 0 = grind (arith, nat_tests) in
          sym c.self.view_is ∙ ap (λ n. places_of (has_bit n)) zero ∙ empty_bitboard),
      (λ e. elim (cases_eq bitboard 0) [
        | inl zero ↦ grind (arith, nat_tests)
        | inr some ↦ absurd
            (not_empty_bitboard bitboard (omega arith) c.self.invariant (c.self.view_is
            ∙ e))
      ]),
    )
