-- A block cut into pieces: one piece more in front of those that are left.
use Rattle.pgn_text.proofs.Common.{◌≡◌, ◌≢◌, ℕ, ◌≤◌, Bool, List, [], ◌∷◌, ◌++◌, length, take, drop}
use Rattle.pgn_text.proofs.Common.{refl, sym, ap, ◌∙◌, subst, arith, append-nil, length-drop}
use Rattle.pgn_text.proofs.Common.{length-take-le, drop_all, Part, spelled, IsGame, IsLongestGap}
use Rattle.pgn_text.proofs.Common.{Piece, Game, Unreadable, ArePieces, NoGame, GapTo, LongestGapTo}
use Rattle.pgn_text.proofs.Common.{GameTo}
use Rattle.pgn_text.proofs.OneList.{no_bytes, game_has_byte, one_gap, no_more}

-- where no byte is left no piece is
pub nothing_left : (max_depth : ℕ) (f : Bool) (before : List ℕ) (pieces : List Piece)
    → ArePieces max_depth f before pieces [] → pieces ≡ []
nothing_left max_depth f before [] are = refl
nothing_left max_depth f before (Game at parts ∷ more) are =
    absurd (game_has_byte max_depth f (before
    ++ spelled are.0) parts are.1 are.5
    (no_bytes (spelled parts) are.1
    (no_more (spelled are.0) (spelled parts ++ are.1) (sym are.2))))
nothing_left max_depth f before (Unreadable at bytes ∷ more) are =
    absurd (are.4 (no_more (spelled are.0) bytes (sym are.1)))

-- the place after a gap
place_past : (f : Bool) (block : List ℕ) (at begin : ℕ) → (to : GapTo f block at begin)
    → begin ≡ length (take at block ++ spelled to.gap)
place_past f block at begin to = sym (length-take-le begin block to.within) ∙ ap length to.passed

-- a game after a gap
pub piece_game : (max_depth : ℕ) (f : Bool) (block : List ℕ) (at begin end : ℕ) (parts : List Part)
    → LongestGapTo f block at begin → GameTo max_depth f block begin parts end
    → (more : List Piece) → ArePieces max_depth f (take end block) more (drop end block)
    → ArePieces max_depth f (take at block) (Game begin parts ∷ more) (drop at block)
piece_game max_depth f block at begin end parts gap game more are = (
  gap.to.gap,
  drop end block,
  gap.to.parted ∙ ap (λ xs. spelled gap.to.gap ++ xs) game.parted,
  subst (IsLongestGap f (take at block) gap.to.gap) game.parted gap.longest,
  place_past f block at begin gap.to,
  subst (λ xs. IsGame max_depth f xs parts (drop end block)) gap.to.passed game.is_game,
  subst (λ xs. ArePieces max_depth f xs more (drop end block)) (game.passed
      ∙ ap (λ xs. xs ++ spelled parts) gap.to.passed) are,
)

-- before the block's end a byte is left
byte_left : (block : List ℕ) (begin : ℕ) → begin ≤ length block → begin ≢ length block
    → drop begin block ≢ []
byte_left block begin within not_end empty =
    not_end (let no : length (drop begin block) ≡ 0 = ap length empty in
    omega (arith, length-drop begin block))

-- after a gap that ends before the block does, some piece is left
pub piece_left : (max_depth : ℕ) (f : Bool) (block : List ℕ) (at begin : ℕ)
    → LongestGapTo f block at begin → begin ≢ length block
    → (pieces : List Piece) → ArePieces max_depth f (take at block) pieces (drop at block)
    → pieces ≢ []
piece_left max_depth f block at begin gap not_end pieces are none =
    let here : ArePieces max_depth f (take at block) [] (drop at block) =
    subst (λ own. ArePieces max_depth f (take at block) own (drop at block)) none are in
    byte_left block begin gap.to.within not_end
    (one_gap f (take at block) gap.to.gap here.0 (drop begin block) [] (sym gap.to.parted ∙ here.1
    ∙ sym (append-nil (spelled here.0))) gap.longest here.2).1

-- bytes after a gap that are no game
pub piece_unreadable : (max_depth : ℕ) (f : Bool) (block : List ℕ) (at begin : ℕ)
    → LongestGapTo f block at begin → begin ≢ length block
    → NoGame max_depth f (take begin block) (drop begin block)
    → (more : List Piece)
    → ArePieces max_depth f (take (length block) block) more (drop (length block) block)
    → ArePieces max_depth f (take at block) (Unreadable begin (drop begin block)
    ∷ more) (drop at block)
piece_unreadable max_depth f block at begin gap not_end none more are =
    let within : begin ≤ length block = gap.to.within in
    let empty : drop (length block) block ≡ [] = drop_all (length block) block (omega arith) in (
      gap.to.gap,
      gap.to.parted,
      gap.longest,
      place_past f block at begin gap.to,
      byte_left block begin within not_end,
      subst (λ xs. NoGame max_depth f xs (drop begin block)) gap.to.passed none,
      nothing_left max_depth f (take (length block) block) more
          (subst (ArePieces max_depth f (take (length block) block) more) empty are),
    )
