-- What a call of `next` gives of the places of a block's pieces.
use Rattle.pgn_text.proofs.Common.{◌≡◌, ◌≢◌, ℕ, ◌<◌, ◌≤◌, Bool, false, List, length, take, drop}
use Rattle.pgn_text.proofs.Common.{refl, subst, arith, Some, Part, NoGame, LongestGapTo, GameTo}
use Rattle.pgn_text.proofs.Common.{Left, GivesMark}
use Rattle.pgn_text.specs.Public.Pieces.{Game as GameOf, Unreadable as UnreadableOf}
use Rattle.pgn_text.specs.declared.game.pieces.PieceStart.TheVariants.{Game, Unreadable}
use Rattle.pgn_text.proofs.game.Cuts.{piece_game, piece_unreadable}
use Rattle.pgn_text.proofs.game.Gives.{left_at}

pub marks_game : (max_depth : ℕ) (f : Bool) (block : List ℕ) (at begin end : ℕ) (parts : List Part)
    (old : Left)
    → left_at f block at false ≡ old → LongestGapTo f block at begin
    → GameTo max_depth f block begin parts end
    → GivesMark max_depth old (Some (Game begin)) (left_at f block end false)
marks_game max_depth f block at begin end parts old is gap to =
    let forward : at < end =
    (let a : at ≤ begin = gap.to.forward in let b : begin < end = to.forward in omega arith) in
    subst (λ o. GivesMark max_depth o (Some (Game begin)) (left_at f block end false)) is
    (record {
      shown = GameOf begin parts;
      is = refl;
      grows = forward;
      starts = to.forward;
      within = to.within;
      same = (refl, refl, refl);
      completes = piece_game max_depth f block at begin end parts gap to;
    })

pub marks_unreadable : (max_depth : ℕ) (f : Bool) (block : List ℕ) (at begin : ℕ) (old : Left)
    → left_at f block at false ≡ old → LongestGapTo f block at begin → begin ≢ length block
    → NoGame max_depth f (take begin block) (drop begin block)
    → GivesMark max_depth old (Some (Unreadable begin)) (left_at f block (length block) false)
marks_unreadable max_depth f block at begin old is gap not_end none =
    let forward : at < length block =
    (let a : at ≤ begin = gap.to.forward in let b : begin ≤ length block = gap.to.within in
    omega arith) in
    subst (λ o.
    GivesMark max_depth o (Some (Unreadable begin)) (left_at f block (length block) false)) is
    (record {
      shown = UnreadableOf begin (drop begin block);
      is = refl;
      grows = forward;
      starts = (let h : begin ≤ length block = gap.to.within in omega arith);
      within = omega arith;
      same = (refl, refl, refl);
      completes = piece_unreadable max_depth f block at begin gap not_end none;
    })
