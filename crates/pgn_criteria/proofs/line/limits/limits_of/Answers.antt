use Rattle.pgn_criteria.proofs.Common.{◌≡◌, ◌≢◌, ℕ, true, false, List, [], length, sym, ap, ◌∙◌}
use Rattle.pgn_criteria.proofs.Common.{◌==◌, eqb-true, nil_from_length, kind_letter, Kind, King}
use Rattle.pgn_criteria.proofs.Common.{Queen, Rook, Bishop, Knight, Pawn, limit_of, limit_after}
use Rattle.pgn_criteria.proofs.Common.{Limits}
use Rattle.pgn_criteria.proofs.LimitFacts.{limits_some, limits_entries, limits_spelled}
use Rattle.pgn_criteria.proofs.line.limits.limits_of.Goals as goal

pub returns-then-is_empty : goal.returns-then-is_empty
returns-then-is_empty c limits spells =
    limits_some c.args.text.now limits spells
    (nil_from_length c.args.text.now
    (eqb-true _ _ (sym c.is_empty.ensures ∙ c.if-is_empty.true)))

pub returns-then-not-are_entries : goal.returns-then-not-are_entries
returns-then-not-are_entries c limits spells =
    let t = c.are_entries.ensures.1 (limits_entries c.args.text.now limits spells) in
    absurd (cc (t, c.if-not-are_entries.true))

-- six limits are those of the six kinds
by_kind : (text : List ℕ) (limits : Limits) → limits.king ≡ limit_after (kind_letter King) text
    → limits.queen ≡ limit_after (kind_letter Queen) text
    → limits.rook ≡ limit_after (kind_letter Rook) text
    → limits.bishop ≡ limit_after (kind_letter Bishop) text
    → limits.knight ≡ limit_after (kind_letter Knight) text
    → limits.pawn ≡ limit_after (kind_letter Pawn) text
    → (kind : Kind) → limit_of limits kind ≡ limit_after (kind_letter kind) text
by_kind text limits king queen rook bishop knight pawn King = king
by_kind text limits king queen rook bishop knight pawn Queen = queen
by_kind text limits king queen rook bishop knight pawn Rook = rook
by_kind text limits king queen rook bishop knight pawn Bishop = bishop
by_kind text limits king queen rook bishop knight pawn Knight = knight
by_kind text limits king queen rook bishop knight pawn Pawn = pawn

pub returns : goal.returns
returns c =
    let some : c.args.text.now ≢ [] = λ none.
    let full : (length c.args.text.now == 0) ≡ true = ap (λ x. length x == 0) none in
    let clash : true ≡ false = sym full ∙ sym c.is_empty.ensures ∙ c.if-is_empty.false in cc in
    let limits : Limits = record {
      king = c.limit_in.result;
      queen = c.limit_in-2.result;
      rook = c.limit_in-3.result;
      bishop = c.limit_in-4.result;
      knight = c.limit_in-5.result;
      pawn = c.limit_in-6.result;
    } in
    limits_spelled c.args.text.now limits some (c.are_entries.ensures.0 c.if-not-are_entries.false)
    (by_kind c.args.text.now limits c.limit_in.ensures c.limit_in-2.ensures c.limit_in-3.ensures
    c.limit_in-4.ensures c.limit_in-5.ensures c.limit_in-6.ensures)
