use Rattle.pgn_criteria.proofs.Common.{◌≡◌, ◌≤◌, ℕ, IsTrue, arith, ◌∙◌, nat_le, nat_tests, count_of}
use Rattle.pgn_criteria.proofs.CountFacts.{counted}
use Rattle.pgn_criteria.proofs.numbers.FewPrefilterTest.is_met.Goals as goal

by_test : (n m size most : ℕ) → n ≡ size → m ≡ most → size ≤ most → IsTrue (nat_le n m)
by_test n m size most here there few = grind (arith, nat_tests)

pub returns : goal.returns
returns c = λ man men his known few.
    by_test c.count.result c.from.result (count_of men man) c.args.self.now.most (c.count.ensures
    ∙ counted men man c.args.squares.now his) c.from.ensures few
