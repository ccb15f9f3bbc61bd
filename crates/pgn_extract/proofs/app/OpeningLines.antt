-- The lines of a file of openings, as far as its games are read.
use Rattle.std.proofs.Common.{◌≡◌, ◌⊎◌, ℕ, true, false, List, [], ◌∷◌, ◌++◌, inl, inr, refl, sym}
use Rattle.std.proofs.Common.{ap, subst, ◌∙◌}
use Rattle.std.proofs.lemmas.List.{append_assoc, append-nil}
use Rattle.pgn_text.specs.Public.Left.{ArePiecesLeft, IsPiece, Left, TakesPiece}
use Rattle.pgn_text.specs.Public.Pieces as spec
use Rattle.pgn_text.specs.declared.game.pieces.Piece.{Piece}
use Rattle.pgn_text.specs.declared.game.pieces.Piece.TheVariants as given
use Rattle.pgn_extract.proofs.Common.{GameText, IsGameText, Part, IsGameOf, by_itself, depth_limit}
use Rattle.pgn_game.specs.Public.Openings.{NamedLine}
use Rattle.pgn_extract.specs.Private.OpeningFiles.{AreLinesOfFile, AreOwnLines, IsOwnLine}
use Rattle.pgn_extract.proofs.GameExport.{own_game}

-- some pieces are read, which are these lines, and those that are left complete them
pub record AreRead (start now : Left) (lines : List NamedLine) : Type 0 where
  pub done : List spec.Piece
  pub completes : (more : List spec.Piece) → ArePiecesLeft depth_limit now more
      → ArePiecesLeft depth_limit start (done ++ more)
  pub are : AreOwnLines done lines
  pub sound : now.failed ≡ false

pub none_read : (start : Left) → start.failed ≡ false → AreRead start start []
none_read start sound = record {
  done = [];
  completes = λ more left. left;
  are = refl;
  sound = sound;
}

one_more : (done : List spec.Piece) (lines : List NamedLine) (at : ℕ) (parts : List Part)
    (game : GameText) (line : NamedLine) → IsGameOf parts game → IsOwnLine game line
    → AreOwnLines done lines → AreOwnLines (done ++ spec.Game at parts ∷ []) (lines ++ line ∷ [])
one_more [] lines at parts game line made own none =
    rw none (game, line, [], refl, made, own, refl)
one_more (spec.Game here others ∷ done) lines at parts game line made own (
  first,
  named,
  rest,
  is,
  makes,
  of,
  are,
) = (
  first,
  named,
  rest ++ line ∷ [],
  ap (λ ls. ls ++ line ∷ []) is,
  makes,
  of,
  one_more done rest at parts game line made own are,
)
one_more (spec.Unreadable here bytes ∷ done) lines at parts game line made own never = absurd never

own_line : (game : GameText) (line : NamedLine) → IsOwnLine game line
    → IsOwnLine (by_itself game) line
own_line game line own = record {
  replay = own.replay;
  is_replay = own.is_replay;
  end = own.end;
  code = own.code;
  name = own.name;
  variation = own.variation;
}

pub more_read : {start now next : Left} {lines : List NamedLine} (piece : Piece) (game : GameText)
    (line : NamedLine) → AreRead start now lines → TakesPiece depth_limit now next piece
    → piece ≡ given.Game game → IsGameText game → IsOwnLine game line
    → AreRead start next (lines ++ line ∷ [])
more_read {start} {now} {next} {lines} piece game line read takes is good own =
    by takes.shown (subst (λ p. IsPiece p takes.shown) is takes.is) takes.completes
  where
    by : (shown : spec.Piece) → IsPiece (given.Game game) shown
        → ((more : List spec.Piece) → ArePiecesLeft depth_limit next more
        → ArePiecesLeft depth_limit now (shown ∷ more))
        → AreRead start next (lines ++ line ∷ [])
    by (spec.Unreadable at bytes) never completes = absurd never
    by (spec.Game at parts) shows completes = record {
      done = read.done ++ spec.Game at parts ∷ [];
      completes = λ more left.
          subst (ArePiecesLeft depth_limit start)
          (sym (append_assoc read.done (spec.Game at parts ∷ []) more))
          (read.completes (spec.Game at parts ∷ more) (completes more left));
      are = one_more read.done lines at parts (by_itself game) line (own_game good shows)
          (own_line game line own) read.are;
      sound = takes.same.2;
    }

pub all_read : {start now : Left} {lines : List NamedLine} (bytes : List ℕ)
    → AreRead start now lines
    → start ≡ record { block = bytes; file_start = true; at = 0; failed = false }
    → (now.failed ≡ true) ⊎ ArePiecesLeft depth_limit now [] → AreLinesOfFile bytes lines
all_read bytes read begins (inl failed) =
    let both : true ≡ false = sym failed ∙ read.sound in absurd (cc)
all_read {start = start} bytes read begins (inr none) = (
  read.done,
  subst (λ (s : Left). ArePiecesLeft depth_limit s read.done) begins
      (subst (ArePiecesLeft depth_limit start) (append-nil read.done) (read.completes [] none)),
  read.are,
)
