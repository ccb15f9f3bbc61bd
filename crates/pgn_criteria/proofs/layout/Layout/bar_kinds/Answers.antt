use Rattle.pgn_criteria.proofs.Common.{◌≡◌, IsTrue, Some, Placement, man_at, Kind, King, Queen}
use Rattle.pgn_criteria.proofs.Common.{Rook, Bishop, Knight, Pawn, NoneOf}
use Rattle.pgn_criteria.specs.Private.Items.{has_kind}
use Rattle.pgn_criteria.proofs.LayoutFacts.{lays_both, lays_like, each_kind}
use Rattle.pgn_criteria.proofs.layout.Layout.bar_kinds.Goals as goal

pub returns : goal.returns
returns c =
    let none : Placement → Kind → Type 0 = λ p kind. IsTrue (has_kind c.args.kinds kind)
    → man_at p c.args.square ≡ Some (record { side = c.args.side; kind = kind }) → ⊥ in
    let two = lays_both (λ p. none p Pawn) (λ p.
    none p Knight) _ _ _ c.in_ok-bar.ensures c.in_ok-bar-2.ensures in
    let three = lays_both (λ p. none p Pawn × none p Knight) (λ p.
    none p Bishop) _ _ _ two c.in_ok-bar-3.ensures in
    let four = lays_both (λ p. (none p Pawn × none p Knight)
    × none p Bishop) (λ p. none p Rook) _ _ _ three c.in_ok-bar-4.ensures in
    let five = lays_both (λ p. ((none p Pawn × none p Knight) × none p Bishop)
    × none p Rook) (λ p. none p Queen) _ _ _ four c.in_ok-bar-5.ensures in
    let six = lays_both (λ p. (((none p Pawn × none p Knight) × none p Bishop) × none p Rook)
    × none p Queen) (λ p. none p King) _ _ _ five c.in_ok-bar-6.ensures in
    lays_like (λ p. ((((none p Pawn × none p Knight) × none p Bishop) × none p Rook) × none p Queen)
    × none p King)
    (λ p. NoneOf c.args.side c.args.kinds (man_at p c.args.square)) _ _ (λ p.
    each_kind (none p)) six
