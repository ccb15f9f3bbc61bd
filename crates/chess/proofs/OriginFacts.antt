-- What distinguishes a man from its rivals leaves it alone among them.
use Rattle.chess.proofs.Common.{◌≡◌, ℕ, refl, subst, Option, Some, None, IfSome, List, ◌++◌, Place}
use Rattle.chess.proofs.Common.{IsOnBoard, State, IsRival, IsDisambiguation, IsFileOrRank}
use Rattle.chess.proofs.Common.{file_text, rank_text, alone, by_file, by_rank, by_both, Move}
use Rattle.chess.proofs.PlaceFacts.{place_of}

-- the file and the rank that are given are the man's own, and no rival has both
pub record IsSaid (P : State) (m : Move) (given_file given_rank : Option ℕ) : Type 0 where
  pub file : IfSome given_file (λ n. m.from.file ≡ n)
  pub rank : IfSome given_rank (λ n. m.from.rank ≡ n)
  pub apart : (s : Place) → IsRival P m s → IfSome given_file (λ n. s.file ≡ n)
      → IfSome given_rank (λ n. s.rank ≡ n) → ⊥

pub reports : (P : State) (m : Move) (origin : List ℕ) → IsDisambiguation P m origin
    → (file rank : Option ℕ) × IsSaid P m file rank × (origin ≡ file_text file ++ rank_text rank)
reports P m _ (alone none) = (
  None,
  None,
  record { file = tt; rank = tt; apart = λ s rival file rank. none (s, rival, tt) },
  refl,
)
reports P m _ (by_file some none) = (
  Some m.from.file,
  None,
  record { file = refl; rank = tt; apart = λ s rival file rank. none (s, rival, file) },
  refl,
)
reports P m _ (by_rank some none) = (
  None,
  Some m.from.rank,
  record { file = tt; rank = refl; apart = λ s rival file rank. none (s, rival, rank) },
  refl,
)
reports P m _ (by_both file_rival rank_rival) = (
  Some m.from.file,
  Some m.from.rank,
  record {
    file = refl;
    rank = refl;
    apart =
        λ s rival file rank. rival.other (place_of s m.from file rank);
  },
  refl,
)

-- the files and ranks of a square of the board
pub said_on_board : (P : State) (m : Move) (file rank : Option ℕ) → IsSaid P m file rank
    → IsOnBoard m.from → IfSome file IsFileOrRank × IfSome rank IsFileOrRank
said_on_board P m None None own on = (tt, tt)
said_on_board P m (Some a) None own on =
    (subst IsFileOrRank own.file (on.file_low, on.file_high), tt)
said_on_board P m None (Some b) own on =
    (tt, subst IsFileOrRank own.rank (on.rank_low, on.rank_high))
said_on_board P m (Some a) (Some b) own on = (
  subst IsFileOrRank own.file (on.file_low, on.file_high),
  subst IsFileOrRank own.rank (on.rank_low, on.rank_high),
)
