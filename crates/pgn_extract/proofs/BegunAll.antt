-- A beginning of what is reported of the first pieces of a text is one of what is reported of all
-- of them.
use Rattle.pgn_extract.proofs.Common.{◌≡◌, ℕ, ◌+◌, zero, suc, List, [], ◌∷◌, ◌++◌, length, take}
use Rattle.pgn_extract.proofs.Common.{Option, refl, sym, ap, subst, Appends, AreMarkedPieces}
use Rattle.pgn_extract.proofs.Common.{BeginsFirst, AppendsFront, BeginsAll, output_text}
use Rattle.pgn_extract.proofs.Common.{fault_lines, Aim, GameId, game_id}
use Rattle.pgn_extract.proofs.SomeReport.{rest_reported}
use Rattle.pgn_extract.proofs.VerdictFacts.{output_text-append, fault_lines-append, verdicts-append}

take_front : (size : ℕ) (xs ys : List ℕ) → take size xs ≡ take (length (take size xs)) (xs ++ ys)
take_front zero xs ys = refl
take_front (suc n) [] ys = refl
take_front (suc n) (x ∷ xs) ys = ap (λ t. x ∷ t) (take_front n xs ys)

-- a beginning of some bytes is one of more
pub front_longer : (old new : Option (List ℕ)) (xs ys : List ℕ) → AppendsFront old new xs
    → AppendsFront old new (xs ++ ys)
front_longer old new xs ys front =
    (length (take front.0 xs), subst (Appends old new) (take_front front.0 xs ys) front.1)

pub begun_all : (aim : Aim) (limit max_depth : ℕ) (id : GameId) (bytes : List ℕ)
    (out out' err err' : Option (List ℕ))
    → BeginsFirst aim limit max_depth id bytes out out' err err'
    → BeginsAll aim limit max_depth id bytes out out' err err'
begun_all aim limit max_depth id bytes out out' err err' b =
    let first = b.written in
    let pieces = subst (AreMarkedPieces limit max_depth id.offset bytes) first.parted b.each in
    let later =
    rest_reported aim limit max_depth (game_id (id.number + length first.before) id.offset)
    bytes first.before first.after pieces in
    record {
      pieces = first.before ++ first.after;
      each = pieces;
      verdicts = first.verdicts ++ later.0;
      written =
          verdicts-append aim id.number first.before first.after first.verdicts later.0 first.each
          later.1;
      output = subst (AppendsFront out out') (sym (output_text-append first.verdicts later.0))
          (front_longer out out' (output_text first.verdicts) (output_text later.0) first.output);
      faults = subst (AppendsFront err err') (sym (fault_lines-append first.verdicts later.0))
          (front_longer err err' (fault_lines first.verdicts) (fault_lines later.0) first.faults);
    }
