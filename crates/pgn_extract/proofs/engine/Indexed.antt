-- The marks of a block that the iterator has given so far.
use Rattle.std.proofs.lemmas.List.{append-nil}
use Rattle.pgn_extract.proofs.Common.{◌≡◌, ◌==◌, ℕ, ◌+◌, ◌≤◌, false, List, [], ◌∷◌, ◌++◌, map}
use Rattle.pgn_extract.proofs.Common.{length, Option, refl, sym, ap, ◌∙◌, subst, arith}
use Rattle.pgn_extract.proofs.Common.{append_assoc, length-append, map_push, length-map}
use Rattle.pgn_extract.proofs.Common.{block_limit, depth_limit, Left, ArePiecesLeft, marked}
use Rattle.pgn_extract.proofs.Common.{PieceStart, Aim, GameId, id_at, Gathers, GathersBlock, Passes}
use Rattle.pgn_extract.proofs.Common.{BeginsBlock, AddsVerdict, IsPieceOf, IsMarkReport}
use Rattle.pgn_extract.proofs.Common.{IsMarkVerdict, id_of, is_chosen, IfChosen, mark_line}
use Rattle.pgn_extract.proofs.Common.{AppendsFront, Verdict, SoundGame, is_faulty, IsPieceVerdict}
use Rattle.pgn_extract.proofs.Common.{IsVerdict, IsVerdictIn, Report, game_id}
use Rattle.pgn_text.specs.Public.LeftMarks.{IsMark, TakesMark}
use Rattle.pgn_text.specs.Public.Marks.{within as in_limit}
use Rattle.pgn_text.specs.declared.game.pieces.PieceStart.TheVariants.{Game, Unreadable}
use Rattle.pgn_extract.proofs.ChoiceFacts.{choice_of}
use Rattle.pgn_extract.proofs.engine.GameVerdict.{unreadable_there}
use Rattle.pgn_extract.proofs.engine.Gathered.{gathers_none, gathers_more, gathers_passed}
use Rattle.pgn_extract.proofs.engine.Listed.{piece_in, begun_of}
use Rattle.pgn_criteria.proofs.SpanFacts.{at_most_one}
use Rattle.pgn_text.specs.Public.Pieces as spec
use Rattle.pgn_extract.specs.declared.settings.Mode.TheVariants as modes

-- whether the piece is chosen, by the same place
at_place : (aim : Aim) (id : GameId) (place at : ℕ) (shown : spec.Piece) (verdict : Verdict)
    → place ≡ at → IfChosen (is_chosen aim.chosen (id_at id place))
    (IsPieceVerdict (marked id.offset shown).kind aim (id_of id.number (marked id.offset shown))
    verdict) (verdict ≡ SoundGame []) → IfChosen (is_chosen aim.chosen (id_at id at))
    (IsPieceVerdict (marked id.offset shown).kind aim (id_of id.number (marked id.offset shown))
    verdict) (verdict ≡ SoundGame [])
at_place aim id place at shown verdict is has =
    subst (λ n.
    IfChosen (is_chosen aim.chosen (id_at id n))
    (IsPieceVerdict (marked id.offset shown).kind aim (id_of id.number (marked id.offset shown))
    verdict) (verdict ≡ SoundGame [])) is has

-- what is reported of the mark of a piece that is chosen is the index's verdict on it
own_mark : (aim : Aim) (id : GameId) (block : List ℕ) (mark : PieceStart) (shown : spec.Piece)
    (verdict : Verdict)
    → aim.mode ≡ modes.Index → IsMark mark shown → IsPieceOf id.offset block shown
    → IsMarkVerdict aim id block mark verdict
    → IsPieceVerdict (marked id.offset shown).kind aim (id_of id.number (marked id.offset shown))
    verdict
own_mark aim id block (Game place) (spec.Game at parts) verdict index is among by =
    subst (λ m. IsVerdictIn m aim (id_at id at) parts verdict) (sym index) (by
    ∙ ap (λ n. SoundGame (mark_line aim.name (id_at id n))) is)
own_mark aim id block (Game place) (spec.Unreadable at bytes) verdict index is among by = absurd is
own_mark aim id block (Unreadable place) (spec.Game at parts) verdict index is among by = absurd is
own_mark aim id block (Unreadable place) (spec.Unreadable at bytes) verdict index is among by =
    unreadable_there aim id block place at bytes verdict is among by

-- and so it is of each piece
mark_is_verdict : (aim : Aim) (id : GameId) (block : List ℕ) (mark : PieceStart)
    (shown : spec.Piece) (verdict : Verdict)
    → aim.mode ≡ modes.Index → IsMark mark shown → IsPieceOf id.offset block shown
    → IsMarkReport aim id block mark verdict
    → IsVerdict aim id.number (marked id.offset shown) verdict
mark_is_verdict aim id block (Game place) (spec.Game at parts) verdict index is among by =
    at_place aim id place at (spec.Game at parts) verdict is
    (choice_of (is_chosen aim.chosen (id_at id place))
    (own_mark aim id block (Game place) (spec.Game at parts) verdict index is among) (λ none.
    none) by)
mark_is_verdict aim id block (Game place) (spec.Unreadable at bytes) verdict index is among by =
    absurd is
mark_is_verdict aim id block (Unreadable place) (spec.Game at parts) verdict index is among by =
    absurd is
mark_is_verdict aim id block (Unreadable place) (spec.Unreadable at bytes) verdict index is among
    by = at_place aim id place at (spec.Unreadable at bytes) verdict is
    (choice_of (is_chosen aim.chosen (id_at id place))
    (own_mark aim id block (Unreadable place) (spec.Unreadable at bytes) verdict index is among)
    (λ none. none) by)

-- the marks of some pieces are given, and the pieces reported by the index
pub record Indexed (aim : Aim) (start now : Left) (report : Report) (id : GameId)
    (out out' err err' : Option (List ℕ)) : Type 0 where
  pub done : List spec.Piece
  pub completes : (more : List spec.Piece) → ArePiecesLeft depth_limit now more
      → ArePiecesLeft depth_limit start (done ++ more)
  pub written : Gathers aim report out out' err err' id.number (map (marked id.offset) done)
  pub games : report.games ≡ length done
  pub faulty : report.faulty ≤ length done
  pub few : length done ≤ now.at
  pub within : now.at ≤ length now.block
  pub same : now.block ≡ start.block

-- at the start none is given
pub indexed_none : (aim : Aim) (start : Left) (block : List ℕ) (report : Report) (id : GameId)
    (out err : Option (List ℕ))
    → start ≡ record { block = block; file_start = id.offset == 0; at = 0; failed = false }
    → report.output.items ≡ [] → report.faults.items ≡ []
    → report.games ≡ 0 → report.faulty ≡ 0 → Indexed aim start start report id out out err err
indexed_none aim start block report id out err is output faults games faulty = record {
  done = [];
  completes = λ more left. left;
  written = gathers_none aim report id.number out err output faults games faulty;
  games = games;
  faulty = omega arith;
  few = omega arith;
  within = subst (λ (s : Left). s.at ≤ length s.block) (sym is) (omega arith);
  same = refl;
}

module _ {aim : Aim} {start now : Left} {report : Report} {id : GameId}
    {out out' err err' : Option (List ℕ)}
    (l : Indexed aim start now report id out out' err err') where
  -- one more mark
  pub indexed_more : {next : Left} {report' : Report} {here : ℕ} (block : List ℕ)
      (mark : PieceStart)
      → start ≡ record { block = block; file_start = id.offset == 0; at = 0; failed = false }
      → aim.mode ≡ modes.Index → TakesMark depth_limit now next mark
      → here ≡ id.number + report.games → (verdict : Verdict)
      × IsMarkReport aim (game_id here id.offset) block mark verdict
      × AddsVerdict report report' verdict 1 → Indexed aim start next report' id out out' err err'
  indexed_more {next} {report'} {here} block mark begins index takes is (verdict, by, adds) =
      record {
        done = l.done ++ takes.shown ∷ [];
        completes = λ more left.
            subst (ArePiecesLeft depth_limit start)
            (sym (append_assoc l.done (takes.shown ∷ []) more))
            (l.completes (takes.shown ∷ more) (takes.completes more left));
        written =
            let among = piece_in start next block id.offset l.done takes.shown begins (λ more left.
            l.completes (takes.shown ∷ more) (takes.completes more left)) in
            let more = gathers_more l.written report' here (marked id.offset takes.shown) (is
            ∙ ap (λ n. id.number + n) l.written.games) (
              verdict,
              mark_is_verdict aim (game_id here id.offset) block mark takes.shown verdict index
                  takes.is
                  among by,
              adds,
            ) in
            subst (Gathers aim report' out out' err err' id.number)
            (sym (map_push (marked id.offset) l.done takes.shown)) more;
        games = let old = l.games in let new = adds.games in
            omega (arith, length-append l.done (takes.shown ∷ []));
        faulty =
            let old = l.faulty in let new = adds.faulty in let once =
            at_most_one (is_faulty verdict) in
            omega (arith, length-append l.done (takes.shown ∷ []));
        few = let f = l.few in let g = takes.grows in
            omega (arith, length-append l.done (takes.shown ∷ []));
        within = takes.within;
        same = takes.same.0 ∙ l.same;
      }

  -- what is gathered is passed on
  pub indexed_passed : {report' : Report} {out'' err'' : Option (List ℕ)}
      → Passes report report' out' out'' err' err''
      → Indexed aim start now report' id out out'' err err''
  indexed_passed passes = record {
    done = l.done;
    completes = l.completes;
    written = gathers_passed l.written passes;
    games = passes.games ∙ l.games;
    faulty = let f = l.faulty in let g = passes.faulty in omega arith;
    few = l.few;
    within = l.within;
    same = l.same;
  }

  -- a beginning of what is gathered is written
  pub indexed_begun : {out'' err'' : Option (List ℕ)} (block : List ℕ)
      → start ≡ record { block = block; file_start = id.offset == 0; at = 0; failed = false }
      → length block ≤ block_limit
      → AppendsFront out' out'' report.output.items → AppendsFront err' err'' report.faults.items
      → BeginsBlock aim block_limit depth_limit id block out out'' err err''
  indexed_begun block is fits output faults =
      begun_of start now block l.done is fits l.completes l.written output faults

  -- all of them, where none is left
  pub indexed_all : (block : List ℕ) → start
      ≡ record { block = block; file_start = id.offset == 0; at = 0; failed = false }
      → length block ≤ block_limit → ArePiecesLeft depth_limit now []
      → GathersBlock aim report block_limit depth_limit id block out out' err err'
  indexed_all block is fits end = record {
    own = map (marked id.offset) l.done;
    each = in_limit fits l.done (subst (λ (s : Left). ArePiecesLeft depth_limit s l.done) is
        (subst (ArePiecesLeft depth_limit start) (append-nil l.done) (l.completes [] end))) refl;
    written = l.written;
    few = let f = l.few in let w = l.within in
        omega (
          arith,
          length-map l.done (marked id.offset),
          ap length l.same,
          ap (λ (s : Left). length s.block) is,
        );
  }
