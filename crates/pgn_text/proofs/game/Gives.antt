-- What a call of `next` gives of the pieces of a block.
use Rattle.std.specs.Prelude.{Ok, Err}
use Rattle.pgn_text.proofs.Common.{◌≡◌, ◌≢◌, ℕ, ◌<◌, ◌≤◌, Bool, true, false, List, length, take}
use Rattle.pgn_text.proofs.Common.{drop, refl, subst, arith, Some, AllocError, Part, NoGame}
use Rattle.pgn_text.proofs.Common.{GameText, ShowsGame, LongestGapTo, GameTo, Left, GivesPiece}
use Rattle.pgn_text.specs.Public.Pieces.{Game as GameOf, Unreadable as UnreadableOf}
use Rattle.pgn_text.specs.declared.game.pieces.Piece.TheVariants.{Game, Unreadable}
use Rattle.pgn_text.proofs.game.Cuts.{piece_game, piece_unreadable, piece_left}
use Rattle.pgn_text.proofs.Existence.{pieces_exist}

-- what is left of the block after the place
abbrev pub left_at : Bool → List ℕ → ℕ → Bool → Left
left_at f block at failed = record { block = block; file_start = f; at = at; failed = failed }

pub gives_game : (max_depth : ℕ) (f : Bool) (block : List ℕ) (at begin end : ℕ) (failed : Bool)
    (parts : List Part) (game : GameText) (old : Left)
    → left_at f block at failed ≡ old → failed ≡ false → LongestGapTo f block at begin
    → GameTo max_depth f block begin parts end → ShowsGame game begin parts
    → GivesPiece max_depth old (Some (Ok (Game game))) (left_at f block end failed)
gives_game max_depth f block at begin end failed parts game old is sound gap to shows =
    let forward : at < end =
    (let a : at ≤ begin = gap.to.forward in let b : begin < end = to.forward in omega arith) in
    subst (λ o. GivesPiece max_depth o (Some (Ok (Game game))) (left_at f block end failed)) is
    (record {
      shown = GameOf begin parts;
      is = shows;
      going = sound;
      grows = forward;
      starts = (let h : begin < end = to.forward in rw shows.place h);
      within = to.within;
      same = (refl, refl, sound);
      completes = piece_game max_depth f block at begin end parts gap to;
    })

pub gives_unreadable : (max_depth : ℕ) (f : Bool) (block : List ℕ) (at begin : ℕ) (failed : Bool)
    (old : Left)
    → left_at f block at failed ≡ old → failed ≡ false → LongestGapTo f block at begin
    → begin ≢ length block → NoGame max_depth f (take begin block) (drop begin block)
    → GivesPiece max_depth old (Some (Ok (Unreadable begin)))
    (left_at f block (length block) failed)
gives_unreadable max_depth f block at begin failed old is sound gap not_end none =
    let forward : at < length block =
    (let a : at ≤ begin = gap.to.forward in let b : begin ≤ length block = gap.to.within in
    omega arith) in
    subst (λ o.
    GivesPiece max_depth o (Some (Ok (Unreadable begin)))
    (left_at f block (length block) failed)) is
    (record {
      shown = UnreadableOf begin (drop begin block);
      is = refl;
      going = sound;
      grows = forward;
      starts = (let h : begin ≤ length block = gap.to.within in omega arith);
      within = omega arith;
      same = (refl, refl, sound);
      completes = piece_unreadable max_depth f block at begin gap not_end none;
    })

pub gives_error : (max_depth : ℕ) (f : Bool) (block : List ℕ) (at begin : ℕ) (failed : Bool)
    (error : AllocError) (old : Left)
    → left_at f block at failed ≡ old → failed ≡ false → LongestGapTo f block at begin
    → begin ≢ length block
    → GivesPiece max_depth old (Some (Err error)) (left_at f block (length block) true)
gives_error max_depth f block at begin failed error old is sound gap not_end =
    let pieces = pieces_exist max_depth f (take at block) (drop at block) in
    rw (← is) (
      sound,
      refl,
      (
        pieces.0,
        piece_left max_depth f block at begin gap not_end pieces.0
            pieces.1,
        pieces.1,
      ),
    )
