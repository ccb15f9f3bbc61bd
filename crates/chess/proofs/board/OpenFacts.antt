-- A man attacks the squares that it sees on the empty board, if no man stands between.
use Rattle.chess.proofs.Common.{◌≡◌, ◌↔◌, ◌≤◌, ℕ, inl, inr, sym, subst, arith, Place, IsAhead, gap}
use Rattle.chess.proofs.Common.{IsJump, IsForward, IsOnRay, Reaches, Placement, IsInLine}
use Rattle.chess.proofs.Common.{IsPseudoAttack, IsUnblocked, Direction, Side, White, Black, Kind}
use Rattle.chess.proofs.Common.{King, Queen, Rook, Bishop, Knight, Pawn}
use Rattle.chess.proofs.AxisSteps.{steps_gap, even_gaps, one_count, one_way}

one_not_two : (a b : ℕ) → a ≡ 1 → b ≡ 2 → a ≡ b → ⊥
one_not_two a b one two same = omega arith

near_open : (p : Placement) (s t : Place) → gap s.file t.file ≤ 1 → gap s.rank t.rank ≤ 1
    → IsUnblocked p s t
near_open p s t f r u on h = let most = steps_gap h.0 h.1 s t h.3 in let low = h.5 in let less =
    h.6 in absurd (omega arith)

jump_open : (p : Placement) (s t : Place) → IsJump s t → IsUnblocked p s t
jump_open p s t (inl (f, r)) u on h =
    absurd (one_not_two (gap s.file t.file) (gap s.rank t.rank) f r
    (even_gaps h.0 h.1 s t h.3 (omega (arith, f)) (omega (arith, r))))
jump_open p s t (inr (f, r)) u on h =
    absurd (one_not_two (gap s.rank t.rank) (gap s.file t.file) r f
    (sym (even_gaps h.0 h.1 s t h.3 (omega (arith, f)) (omega (arith, r)))))

next_rank : (side : Side) (a b : ℕ) → IsForward side a b → gap a b ≤ 1
next_rank White a b h = omega arith
next_rank Black a b h = omega arith

ray_open : (p : Placement) (way : Direction) (s t : Place) → IsOnRay p way s t → IsUnblocked p s t
ray_open p way s t ray u on h =
    let low = h.5 in let less = h.6 in
    let some : 1 ≤ h.1 = omega arith in
    let same : way ≡ h.0 = one_way way h.0 ray.steps h.1 s t ray.far some ray.ahead h.3 in
    let steps : ray.steps ≡ h.1 =
    one_count way ray.steps h.1 s t ray.ahead (subst (λ w. IsAhead w h.1 s t) (sym same) h.3) in
    ray.clear h.2 u on low (omega arith) (subst (λ w. IsAhead w h.2 s u) (sym same) h.4)

open_ray : (p : Placement) (way : Direction) (s t : Place) → IsInLine way s t → IsUnblocked p s t
    → IsOnRay p way s t
open_ray p way s t line clear_way =
    record {
      steps = line.0;
      far = line.1;
      ahead = line.2;
      clear =
          λ j u on low less a. clear_way u on (way, line.0, j, line.2, a, low, less);
    }

line_of : (p : Placement) (way : Direction) (s t : Place) → IsOnRay p way s t → IsInLine way s t
line_of p way s t ray = (ray.steps, ray.far, ray.ahead)

pub reaches_is : (p : Placement) (side : Side) (kind : Kind) (s t : Place)
    → Reaches p side kind s t ↔ (IsPseudoAttack side kind s t × IsUnblocked p s t)
reaches_is p side King s t = ((λ h. (h, near_open p s t h.0 h.1)), (λ h. h.0))
reaches_is p side Queen s t = (
  (λ h. ((h.0, line_of p h.0 s t h.1), ray_open p h.0 s t h.1)),
  (λ h. (h.0.0, open_ray p h.0.0 s t h.0.1 h.1)),
)
reaches_is p side Rook s t = (
  (λ h. ((h.0, h.1, line_of p h.0 s t h.2), ray_open p h.0 s t h.2)),
  (λ h. (h.0.0, h.0.1, open_ray p h.0.0 s t h.0.2 h.1)),
)
reaches_is p side Bishop s t = (
  (λ h. ((h.0, h.1, line_of p h.0 s t h.2), ray_open p h.0 s t h.2)),
  (λ h. (h.0.0, h.0.1, open_ray p h.0.0 s t h.0.2 h.1)),
)
reaches_is p side Knight s t = ((λ h. (h, jump_open p s t h)), (λ h. h.0))
reaches_is p side Pawn s t = (
  (λ h. (h, near_open p s t (let one = h.0 in omega arith) (next_rank side s.rank t.rank h.1))),
  (λ h. h.0),
)
