-- The order of squares is total, and squares that compare alike are one.
use Rattle.std.proofs.Common.{ℕ, ap}
use Rattle.std.specs.Cmp.{IsTotalOrder, nat_cmp_total}
use Rattle.std.specs.FinMap.{IsAntisymmetric}
use Rattle.std.specs.Ordering.{nat_cmp}
use Rattle.std.proofs.lemmas.Cmp.{on_total, then_total}
use Rattle.std.proofs.lemmas.Map.Lookups.{exact_pairs, exact_unsigned}
use Rattle.chess.specs.Public.Squares.{place_cmp}

pub place_total : IsTotalOrder place_cmp
place_total =
    then_total (on_total (λ s. s.file) nat_cmp_total) (on_total (λ s. s.rank) nat_cmp_total)

pub place_exact : IsAntisymmetric place_cmp
place_exact a b h =
    ap (λ (p : ℕ × ℕ). record { file = p.0; rank = p.1 })
    (exact_pairs nat_cmp nat_cmp exact_unsigned exact_unsigned (a.file, a.rank) (
      b.file,
      b.rank,
    ) h)
