-- The pieces of a block that the iterator has given so far.
use Rattle.std.proofs.lemmas.List.{append-nil, map_push, map-append, length-map}
use Rattle.pgn_extract.proofs.Common.{◌≡◌, ◌==◌, ℕ, ◌+◌, ◌≤◌, true, false, List, [], ◌∷◌, ◌++◌, map}
use Rattle.pgn_extract.proofs.Common.{length, take, drop, Option, refl, sym, ap, ◌∙◌, subst, arith}
use Rattle.pgn_extract.proofs.Common.{append_assoc, length-append, ◌⊎◌, inl, inr, both_ways}
use Rattle.pgn_extract.proofs.Common.{block_limit, depth_limit, Left, ArePiecesLeft, marked}
use Rattle.pgn_extract.proofs.Common.{Gathers, GathersBlock, Passes, BeginsBlock, IsPieceOf}
use Rattle.pgn_extract.proofs.Common.{AppendsFront, Begins, MarkedPiece, Report, Aim, GameId}
use Rattle.pgn_extract.proofs.Common.{game_id}
use Rattle.pgn_extract.specs.Private.Blockwise.{BeginsVerdict, OfPiece, PassesVerdict}
use Rattle.pgn_text.specs.Public.Left.{TakesPiece}
use Rattle.pgn_text.specs.Public.Marks.{within as in_limit}
use Rattle.pgn_text.specs.declared.game.pieces.Piece.{Piece}
use Rattle.pgn_text.proofs.Existence.{pieces_exist}
use Rattle.pgn_extract.proofs.engine.Gathered.{gathers_none, gathers_passed, gathers_passing}
use Rattle.pgn_extract.proofs.engine.Gathered.{gathers_begun, gathers_begun_in}
use Rattle.pgn_text.specs.Public.Pieces as spec

-- the piece that completes those given is one of the block's
pub piece_in : (start next : Left) (block : List ℕ) (offset : ℕ) (done : List spec.Piece)
    (shown : spec.Piece)
    → start ≡ record { block = block; file_start = offset == 0; at = 0; failed = false }
    → ((more : List spec.Piece) → ArePiecesLeft depth_limit next more
    → ArePiecesLeft depth_limit start (done ++ shown ∷ more)) → IsPieceOf offset block shown
piece_in start next block offset done shown begins completes =
    let more =
    pieces_exist depth_limit next.file_start (take next.at next.block) (drop next.at next.block)
    in (
      done,
      more.0,
      subst (λ (s : Left). ArePiecesLeft depth_limit s (done ++ shown ∷ more.0)) begins
          (completes more.0 more.1),
    )

-- a beginning of what is reported of the first pieces of a block, whatever pieces complete them
pub begun_by : (start now : Left) (block : List ℕ) (done : List spec.Piece) {aim : Aim}
    {id : GameId} {out out' err err' : Option (List ℕ)}
    → start ≡ record { block = block; file_start = id.offset == 0; at = 0; failed = false }
    → length block ≤ block_limit
    → ((more : List spec.Piece) → ArePiecesLeft depth_limit now more
    → ArePiecesLeft depth_limit start (done ++ more))
    → ((own after : List MarkedPiece) → own ≡ map (marked id.offset) done ++ after
    → Begins aim out out' err err' id.number own)
    → BeginsBlock aim block_limit depth_limit id block out out' err err'
begun_by start now block done {id = id} is fits completes begins =
    let more =
    pieces_exist depth_limit now.file_start (take now.at now.block) (drop now.at now.block) in
    record {
      own = map (marked id.offset) (done ++ more.0);
      each = in_limit fits (done ++ more.0)
          (subst (λ (s : Left). ArePiecesLeft depth_limit s (done ++ more.0)) is
          (completes more.0 more.1)) refl;
      written = begins _ (map (marked id.offset) more.0)
          (map-append (marked id.offset) done more.0);
    }

pub begun_of : (start now : Left) (block : List ℕ) (done : List spec.Piece) {aim : Aim}
    {report : Report} {id : GameId} {out out' out'' err err' err'' : Option (List ℕ)}
    → start ≡ record { block = block; file_start = id.offset == 0; at = 0; failed = false }
    → length block ≤ block_limit
    → ((more : List spec.Piece) → ArePiecesLeft depth_limit now more
    → ArePiecesLeft depth_limit start (done ++ more))
    → Gathers aim report out out' err err' id.number (map (marked id.offset) done)
    → AppendsFront out' out'' report.output.items → AppendsFront err' err'' report.faults.items
    → BeginsBlock aim block_limit depth_limit id block out out'' err err''
begun_of start now block done is fits completes gathers output faults =
    begun_by start now block done is fits completes (λ own after parted.
    gathers_begun gathers own after parted output faults)

-- some pieces are given and reported, and those that are left complete them
pub record Listed (aim : Aim) (start now : Left) (report : Report) (id : GameId)
    (out out' err err' : Option (List ℕ)) : Type 0 where
  pub done : List spec.Piece
  pub completes : (more : List spec.Piece) → ArePiecesLeft depth_limit now more
      → ArePiecesLeft depth_limit start (done ++ more)
  pub written : Gathers aim report out out' err err' id.number (map (marked id.offset) done)
  pub few : length done ≤ now.at
  pub within : now.at ≤ length now.block
  pub same : now.block ≡ start.block
  pub sound : now.failed ≡ false

-- at the start none is given
pub listed_none : (aim : Aim) (start : Left) (block : List ℕ) (report : Report) (id : GameId)
    (out err : Option (List ℕ))
    → start ≡ record { block = block; file_start = id.offset == 0; at = 0; failed = false }
    → report.output.items ≡ [] → report.faults.items ≡ []
    → report.games ≡ 0 → report.faulty ≡ 0 → Listed aim start start report id out out err err
listed_none aim start block report id out err is output faults games faulty = record {
  done = [];
  completes = λ more left. left;
  written = gathers_none aim report id.number out err output faults games faulty;
  few = omega arith;
  within = subst (λ (s : Left). s.at ≤ length s.block) (sym is) (omega arith);
  same = refl;
  sound = ap (λ (s : Left). s.failed) is;
}

module _ {aim : Aim} {start now : Left} {report : Report} {id : GameId}
    {out out' err err' : Option (List ℕ)}
    (l : Listed aim start now report id out out' err err') where
  -- one more piece, of which what is reported is written in part
  pub listed_passing : {next : Left} {report' : Report} {here : ℕ} {out'' err'' : Option (List ℕ)}
      (block : List ℕ) (piece : Piece)
      → start ≡ record { block = block; file_start = id.offset == 0; at = 0; failed = false }
      → TakesPiece depth_limit now next piece → here ≡ id.number + report.games
      → OfPiece aim (game_id here id.offset) block piece (λ verdict.
      PassesVerdict report report' out' out'' err' err'' verdict 1)
      → Listed aim start next report' id out out'' err err''
  listed_passing {next} {report'} {here} {out''} {err''} block piece begins takes is adds = record {
    done = l.done ++ takes.shown ∷ [];
    completes = λ more left.
        subst (ArePiecesLeft depth_limit start) (sym (append_assoc l.done (takes.shown ∷ []) more))
        (l.completes (takes.shown ∷ more) (takes.completes more left));
    written =
        let among = piece_in start next block id.offset l.done takes.shown begins (λ more left.
        l.completes (takes.shown ∷ more) (takes.completes more left)) in
        let more = gathers_passing l.written report' here (marked id.offset takes.shown) (is
        ∙ ap (λ n. id.number + n) l.written.games) (adds takes.shown takes.is among) in
        subst (Gathers aim report' out out'' err err'' id.number)
        (sym (map_push (marked id.offset) l.done takes.shown)) more;
    few = let f = l.few in let g = takes.grows in
        omega (arith, length-append l.done (takes.shown ∷ []));
    within = takes.within;
    same = takes.same.0 ∙ l.same;
    sound = takes.same.2;
  }

  -- of what is reported of it a beginning is written
  pub listed_begun_in : {next : Left} {here : ℕ} {out'' err'' : Option (List ℕ)}
      (block : List ℕ) (piece : Piece)
      → start ≡ record { block = block; file_start = id.offset == 0; at = 0; failed = false }
      → TakesPiece depth_limit now next piece → here ≡ id.number + report.games
      → length block ≤ block_limit
      → OfPiece aim (game_id here id.offset) block piece (λ verdict.
      BeginsVerdict report out' out'' err' err'' verdict)
      → BeginsBlock aim block_limit depth_limit id block out out'' err err''
  listed_begun_in {next} {here} block piece begins takes is fits adds =
      let among = piece_in start next block id.offset l.done takes.shown begins (λ more left.
      l.completes (takes.shown ∷ more) (takes.completes more left)) in
      begun_by start next block (l.done ++ takes.shown ∷ []) begins fits (λ more left.
      subst (ArePiecesLeft depth_limit start) (sym (append_assoc l.done (takes.shown ∷ []) more))
      (l.completes (takes.shown ∷ more) (takes.completes more left))) (λ own after parted.
      gathers_begun_in l.written here (marked id.offset takes.shown) own after
      (is ∙ ap (λ n. id.number + n) l.written.games)
      (parted ∙ ap (λ pieces. pieces ++ after)
      (map_push (marked id.offset) l.done takes.shown))
      (adds takes.shown takes.is among))

  -- what is gathered is passed on
  pub listed_passed : {report' : Report} {out'' err'' : Option (List ℕ)}
      → Passes report report' out' out'' err' err''
      → Listed aim start now report' id out out'' err err''
  listed_passed passes = record {
    done = l.done;
    completes = l.completes;
    written = gathers_passed l.written passes;
    few = l.few;
    within = l.within;
    same = l.same;
    sound = l.sound;
  }

  -- a beginning of what is gathered is written
  pub listed_begun : {out'' err'' : Option (List ℕ)} (block : List ℕ)
      → start ≡ record { block = block; file_start = id.offset == 0; at = 0; failed = false }
      → length block ≤ block_limit
      → AppendsFront out' out'' report.output.items → AppendsFront err' err'' report.faults.items
      → BeginsBlock aim block_limit depth_limit id block out out'' err err''
  listed_begun block is fits output faults =
      begun_of start now block l.done is fits l.completes l.written output faults

  -- all of them, where none is left
  pub listed_all : (block : List ℕ) → start
      ≡ record { block = block; file_start = id.offset == 0; at = 0; failed = false }
      → length block ≤ block_limit → (now.failed ≡ true) ⊎ ArePiecesLeft depth_limit now []
      → GathersBlock aim report block_limit depth_limit id block out out' err err'
  listed_all block is fits end = record {
    own = map (marked id.offset) l.done;
    each = in_limit fits l.done (subst (λ (s : Left). ArePiecesLeft depth_limit s l.done) is whole)
        refl;
    written = l.written;
    few = let f = l.few in let w = l.within in
        omega (
          arith,
          length-map l.done (marked id.offset),
          ap length l.same,
          ap (λ (s : Left). length s.block) is,
        );
  }
    where
      whole : ArePiecesLeft depth_limit start l.done
      whole = elim end [
        | inl bad ↦ absurd (both_ways now.failed l.sound bad)
        | inr left ↦ subst (ArePiecesLeft depth_limit start) (append-nil l.done)
            (l.completes [] left)
      ]
