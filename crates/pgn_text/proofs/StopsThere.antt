-- Bytes that are no game stop agreeing with games by themselves where they do in their block.
use Rattle.std.proofs.Common.{◌==◌}
use Rattle.pgn_text.proofs.Common.{◌≡◌, ℕ, ◌+◌, Bool, true, false, List, [], ◌∷◌, ◌++◌, IsTrue}
use Rattle.pgn_text.proofs.Common.{length, take, drop, refl, sym, ap, subst, ◌∙◌, arith}
use Rattle.pgn_text.proofs.Common.{append_assoc, append-nil, take_at, drop_at, list_all, false≢true}
use Rattle.pgn_text.proofs.Common.{and_parts, ne_eqb, take-append-drop, is_byte, is_not_line_feed}
use Rattle.pgn_text.proofs.Common.{run_of, after_run, Part, ByteOrderMark, White, Brace, Line}
use Rattle.pgn_text.proofs.Common.{EscapeLine, standing_of, Stands, spelled, spelled_part}
use Rattle.pgn_text.proofs.Common.{is_gap_part, IsGame, IsGap, IsLongestGap, Piece, Game}
use Rattle.pgn_text.proofs.Common.{Unreadable, ArePieces, IsGameFront, IsLongestViablePrefix}
use Rattle.pgn_text.proofs.ByteFronts.{bytes_after}
use Rattle.pgn_text.proofs.LongestRuns.{run-append-after, list_all-run, stops-after_run}
use Rattle.pgn_text.proofs.laws.PartLemmas.{part_has_byte}
use Rattle.pgn_text.proofs.laws.ShorterText.{game_elsewhere}
use Rattle.pgn_text.proofs.ResumedText.{not_nil}
use Rattle.pgn_text.proofs.laws.ReadAgain.{IsClear, Begun, clear_longer, clear_start, begun_start}
use Rattle.pgn_text.proofs.laws.ReadAgain.{begun_clear, begun_more, gap_spent, some_bytes}
use Rattle.pgn_text.proofs.laws.ReadAgain.{stand_there}
use Rattle.pgn_text.proofs.laws.ReadAgain.{stand_back, stands_anywhere, game_there, game_back}
use Rattle.pgn_text.proofs.laws.ReadAgain.{no_gap_part}

module _ (max_depth : ℕ) (f : Bool) (before : List ℕ) (clear : IsClear f before) where
  -- where no part of a gap stands before the text, a part of a gap that a front of the text agrees
  -- with stands at the mark too
  gap_part_there : (text : List ℕ) → IsLongestGap f before [] text
      → (q : Part) (after front more rest : List ℕ) (c : ℕ)
      → is_gap_part q ≡ true → text ≡ c ∷ (front ++ rest)
      → c ∷ (front ++ more) ≡ spelled_part q ++ after
      → Stands (standing_of f before) q after → Stands (standing_of false []) q after
  gap_part_there text l ByteOrderMark after front more rest c g e is h =
      absurd (false≢true (sym (clear_start f before clear) ∙ h))
  gap_part_there text l (White b) after front more rest c g e is h = h
  gap_part_there text l (Brace comment) after front more rest c g e is h = h
  gap_part_there text l (Line comment) after front more rest c g e is h = h
  gap_part_there text l (EscapeLine line) after front more rest c g e is h =
      let first : c ≡ 37 = cc in
      let own = front ++ rest in
      absurd (no_gap_part f before text l (EscapeLine (run_of is_not_line_feed own))
      (after_run is_not_line_feed own)
      (e ∙ ap (λ b. b ∷ own) first ∙ ap (λ x. 37 ∷ x) (run-append-after is_not_line_feed own)) refl
      (h.0, list_all-run is_not_line_feed own, stops-after_run is_not_line_feed own))
  gap_part_there text l _ after front more rest c g e is h = absurd (false≢true g)

  -- a gap and a game that go on from a front of the text
  goes_on_there : (text : List ℕ) → IsLongestGap f before [] text
      → (c : ℕ) (front rest more : List ℕ) (gap parts : List Part)
      → IsTrue (list_all is_byte more) → text ≡ c ∷ (front ++ rest)
      → c ∷ (front ++ more) ≡ spelled gap ++ spelled parts → IsGap f before gap (spelled parts)
      → IsGame max_depth f (before ++ spelled gap) parts []
      → IsGameFront max_depth false [] (c ∷ front)
  goes_on_there text l c front rest more [] parts bytes e is is_gap game = record {
    more = more;
    bytes = bytes;
    gap = [];
    parts = parts;
    parted = is;
    is_gap = record { stand = tt; only = refl };
    is_game = game_there max_depth f before parts [] clear (rw append-nil at game);
  }
  goes_on_there text l c front rest more (q ∷ gap) parts bytes e is is_gap game =
      let only = and_parts (is_gap_part q) (list_all is_gap_part gap) is_gap.only in
      let after = spelled gap ++ spelled parts in
      let some = part_has_byte (standing_of f before) q after is_gap.stand.0 in record {
        more = more;
        bytes = bytes;
        gap = q ∷ gap;
        parts = parts;
        parted = is;
        is_gap = record {
          stand = (
            gap_part_there text l q after front more rest c only.0 e (is
                ∙ append_assoc (spelled_part q) (spelled gap) (spelled parts))
                is_gap.stand.0,
            stand_there f before (spelled_part q) gap (spelled parts) clear some is_gap.stand.1,
          );
          only = is_gap.only;
        };
        is_game =
            game_elsewhere max_depth f false (before
            ++ spelled (q ∷ gap)) (spelled (q ∷ gap)) parts [] [] game
            (stand_there f before (spelled (q ∷ gap)) parts [] clear
            (some_bytes (spelled_part q) (spelled gap) some) game.stand);
      }

  front_at_mark : (text front rest : List ℕ) → IsLongestGap f before [] text → text ≡ front ++ rest
      → IsGameFront max_depth f before front → IsGameFront max_depth false [] front
  front_at_mark text [] rest l e h = record {
    more = spelled h.parts;
    bytes = bytes_after (spelled h.gap) (spelled h.parts) h.more h.parted h.bytes;
    gap = [];
    parts = h.parts;
    parted = refl;
    is_gap = record { stand = tt; only = refl };
    is_game =
        game_there max_depth f (before
        ++ spelled h.gap) h.parts [] (clear_longer f before (spelled h.gap) clear) h.is_game;
  }
  front_at_mark text (c ∷ front) rest l e h =
      goes_on_there text l c front rest h.more h.gap h.parts h.bytes e h.parted h.is_gap h.is_game

  -- and the other way round
  goes_on_back : (front more : List ℕ) (gap parts : List Part) → IsTrue (list_all is_byte more)
      → front ++ more ≡ spelled gap ++ spelled parts
      → IsGap false [] gap (spelled parts) → IsGame max_depth false (spelled gap) parts []
      → IsGameFront max_depth f before front
  goes_on_back front more [] parts bytes is is_gap game = record {
    more = more;
    bytes = bytes;
    gap = [];
    parts = parts;
    parted = is;
    is_gap = record { stand = tt; only = refl };
    is_game = rw append-nil (game_back max_depth f before parts [] clear game);
  }
  goes_on_back front more (q ∷ gap) parts bytes is is_gap game =
      let after = spelled gap ++ spelled parts in
      let some = part_has_byte (standing_of false []) q after is_gap.stand.0 in record {
        more = more;
        bytes = bytes;
        gap = q ∷ gap;
        parts = parts;
        parted = is;
        is_gap = record {
          stand = (
            stands_anywhere (standing_of f before) q after is_gap.stand.0,
            stand_back f before (spelled_part q) gap (spelled parts) clear some is_gap.stand.1,
          );
          only = is_gap.only;
        };
        is_game =
            game_elsewhere max_depth false f (spelled (q ∷ gap)) (before
            ++ spelled (q ∷ gap)) parts [] [] game
            (stand_back f before (spelled (q ∷ gap)) parts [] clear
            (some_bytes (spelled_part q) (spelled gap) some) game.stand);
      }

  stops_at_mark : (text : List ℕ) (n : ℕ) → IsLongestGap f before [] text
      → IsLongestViablePrefix max_depth f before text n
      → IsLongestViablePrefix max_depth false [] text n
  stops_at_mark text n l h = record {
    within = h.within;
    agrees =
        front_at_mark text (take n text) (drop n text) l (sym (take-append-drop n text)) h.agrees;
    furthest = λ other low front.
        h.furthest other low
        (goes_on_back (take other text) front.more front.gap front.parts front.bytes
        front.parted front.is_gap front.is_game);
  }

-- ---- in a block

-- the bytes by themselves, with those that stand before them left out
left_alone : (max_depth offset : ℕ) (there bytes : List ℕ) (n : ℕ) → Begun (offset == 0) there
    → IsLongestGap (offset == 0) there [] bytes
    → IsLongestViablePrefix max_depth (offset == 0) there bytes n
    → IsLongestViablePrefix max_depth ((offset + length there) == 0) [] bytes n
left_alone max_depth offset [] bytes n begun l h =
    let same : offset ≡ offset + 0 = omega arith in
    subst (λ (m : ℕ). IsLongestViablePrefix max_depth (m == 0) [] bytes n) same h
left_alone max_depth offset (b ∷ bs) bytes n begun l h =
    let later : ((offset + length (b ∷ bs)) == 0) ≡ false =
    ne_eqb (offset + length (b ∷ bs)) 0 (λ e. omega (arith, e)) in
    let clear = begun_clear (offset == 0) (b ∷ bs) begun (λ e. cc) in
    rw later (stops_at_mark max_depth (offset == 0) (b ∷ bs) clear bytes n l h)

stops_after : (max_depth offset : ℕ) (before : List ℕ) (earlier : List Piece) (at : ℕ)
    (bytes : List ℕ) (later : List Piece) (text : List ℕ) (n : ℕ)
    → Begun (offset == 0) before
    → ArePieces max_depth (offset == 0) before (earlier ++ Unreadable at bytes ∷ later) text
    → IsLongestViablePrefix max_depth (offset == 0) (take at (before ++ text))
    (drop at (before ++ text)) n
    → IsLongestViablePrefix max_depth ((offset + at) == 0) [] bytes n
stops_after max_depth offset before [] at bytes later text n begun h stops =
    let there = before ++ spelled h.0 in
    let parted : before ++ text ≡ there ++ bytes =
    ap (λ l. before ++ l) h.1 ∙ sym (append_assoc before (spelled h.0) bytes) in
    let front : take at (before ++ text) ≡ there =
    ap (take at) parted ∙ take_at there bytes at (sym h.3) in
    let rest : drop at (before ++ text) ≡ bytes =
    ap (drop at) parted ∙ drop_at there bytes at (sym h.3) in
    let begun_there = begun_more (offset == 0) before h.0 bytes begun h.2.is_gap.stand in
    rw h.3 (left_alone max_depth offset there bytes n begun_there (gap_spent (offset == 0) before
    h.0 bytes h.2) (rw (front, rest) at stops))
stops_after max_depth offset before (Game place parts
    ∷ earlier) at bytes later text n begun h stops =
    let after = (before ++ spelled h.0) ++ spelled parts in
    let begun_there =
    begun_more (offset == 0) (before
    ++ spelled h.0) parts h.1 (begun_more (offset == 0) before h.0
    (spelled parts ++ h.1) begun h.3.is_gap.stand) h.5.stand in
    let regroup : before ++ text ≡ after ++ h.1 =
    ap (λ l. before ++ l) h.2 ∙ sym (append_assoc before (spelled h.0)
    (spelled parts ++ h.1)) ∙ sym (append_assoc (before ++ spelled h.0) (spelled parts) h.1) in
    stops_after max_depth offset after earlier at bytes later h.1 n begun_there h.6
    (rw regroup at stops)
stops_after max_depth offset before (Unreadable place own
    ∷ earlier) at bytes later text n begun h stops =
    absurd (not_nil earlier (Unreadable at bytes) later h.6)

-- an unreadable piece of a block that begins at the offset
pub stops_alone : (max_depth offset : ℕ) (block : List ℕ) (earlier : List Piece) (at : ℕ)
    (bytes : List ℕ) (later : List Piece) (n : ℕ)
    → ArePieces max_depth (offset == 0) [] (earlier ++ Unreadable at bytes ∷ later) block
    → IsLongestViablePrefix max_depth (offset == 0) (take at block) (drop at block) n
    → IsLongestViablePrefix max_depth ((offset + at) == 0) [] bytes n
stops_alone max_depth offset block earlier at bytes later n =
    stops_after max_depth offset [] earlier at bytes later block n (begun_start (offset == 0))
