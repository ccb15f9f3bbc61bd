use Rattle.chess.proofs.Common.{◌≡◌, ◌+◌, ◌∙◌, ℕ, arith, ap, subst, sym, Option, Some, None, Place}
use Rattle.chess.proofs.Common.{MatchOption, IsOnBoard, IsForward, IsSquareAhead, Side, White}
use Rattle.chess.proofs.Common.{Black}
use Rattle.chess.proofs.moves.pseudo_legal.square_ahead.Goals as goal
use Rattle.chess.proofs.moves.pseudo_legal.square_ahead.Goals.{in-White, in-Black}

-- the square on the file of that one and on a rank is the square ahead, where this rank alone is
one_ahead : (side : Side) (s : Place) (file rank : ℕ) (next : Option Place) → file ≡ s.file
    → IsForward side s.rank rank → ((n : ℕ) → IsForward side s.rank n → n ≡ rank)
    → MatchOption next (IsOnBoard (record { file = file; rank = rank }) → ⊥)
    (λ t. (t ≡ record { file = file; rank = rank }) × IsOnBoard t) → IsSquareAhead side s next
one_ahead side s file rank None on forward alone none =
    λ t on_board same ahead.
    none (subst IsOnBoard (λ i. record {
      file = (same ∙ sym on) i;
      rank = alone t.rank ahead i;
    }) on_board)
one_ahead side s file rank (Some t) on forward alone some = (
  some.1,
  (λ i. (some.0 i).file) ∙ on,
  subst (IsForward side s.rank) (λ i. (sym some.0 i).rank) forward,
)

pub returns : goal.returns
returns c =
    let from = c.args.from in
    let file = c.file.ensures.number in
    let rank = c.match-side.rank in
    elim c.match-side.branch [
      | in-White w ↦
          let up : rank ≡ from.rank + 1 = w.rank-is ∙ ap (λ n. n + 1) c.rank.ensures.number in
          let alone : (n : ℕ) → n ≡ from.rank + 1 → n ≡ rank = λ n is. is ∙ sym up in
          rw w.in-White.is (one_ahead White from _ _ _ file up alone c.new.ensures)
      | in-Black w ↦
          let on_board = c.rank-2.ensures.on_board in
          let down : from.rank ≡ rank + 1 =
          omega (arith, w.rank-is, c.rank-2.ensures.number, on_board) in
          let alone : (n : ℕ) → from.rank ≡ n + 1 → n ≡ rank = λ n is. omega (arith, is, down) in
          rw w.in-Black.is (one_ahead Black from _ _ _ file down alone c.new.ensures)
    ]
