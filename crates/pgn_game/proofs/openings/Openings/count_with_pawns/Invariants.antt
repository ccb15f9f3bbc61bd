-- The pawns so far are known, and whether a line may end with them.
use Rattle.pgn_game.proofs.Common.{◌≤◌, ◌+◌}
use Rattle.pgn_game.specs.Public.Openings.{ends_of}
use Rattle.pgn_game.specs.Private.PawnWalks.{IsPair}
use Rattle.pgn_game.proofs.openings.PawnLines.{AllCome, MayEndWith}
use Rattle.pgn_game.proofs.openings.Openings.count_with_pawns.Given as goal

abbrev pub invariant-loop-ply : goal.invariant-loop-ply
invariant-loop-ply l =
    record {
      come : AllCome (ends_of l.self) l.start l.plies l.ply l.pawns l.count;
      tells : MayEndWith (ends_of l.self) l.pawns l.may_end;
      pair : IsPair l.pawns;
      within : l.count ≤ l.ply + 1;
    }
