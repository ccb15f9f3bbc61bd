use Rattle.std.specs.Prelude.{◌/◌}
use Rattle.std.proofs.lemmas.Nat.Bits.{shr_and_one}
use Rattle.pgn_criteria.proofs.Common.{◌+◌, arith, sym, ap, ◌∙◌, ◌==◌, bit_at, first_place}
use Rattle.pgn_criteria.proofs.ByMarkFacts.{told_number}
use Rattle.pgn_criteria.proofs.by_marks.MarkSet.has_told.Goals as goal

pub returns : goal.returns
returns c =
    ap (λ n. n == 1) (shr_and_one c.args.self.flags (c.place_of.result + c.args.a / 64)
    ∙ ap (λ n. bit_at c.args.self.flags n) (ap (λ n. n + c.args.a / 64) c.place_of.ensures
    ∙ ap (λ n. first_place c.args.turn + n) (sym (told_number c.args.a (omega arith)))))
