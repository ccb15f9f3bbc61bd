-- What stands where more bytes follow stands where fewer do: parts, games and the gaps between
-- them.
use Rattle.pgn_text.proofs.Common.{ℕ, Bool, List, [], ◌∷◌, ◌++◌, length, refl, sym, ap, ◌∙◌, arith}
use Rattle.pgn_text.proofs.Common.{append_assoc, length-append, IsTrue, list_all, false≢true}
use Rattle.pgn_text.proofs.Common.{not-true, stops, Part, Line, EscapeLine, Word, Glyph, Marks}
use Rattle.pgn_text.proofs.Common.{Standing, standing_of, Stands, AllStand, spelled, spelled_part}
use Rattle.pgn_text.proofs.Common.{is_gap_part, IsGame, IsGap, IsLongestGap}
use Rattle.pgn_text.proofs.laws.Gaps.{longest_gap}
use Rattle.pgn_text.proofs.laws.PartLemmas.{one_part}

stops_front : (test : ℕ → Bool) (u v : List ℕ) → IsTrue (stops test (u ++ v))
    → IsTrue (stops test u)
stops_front test [] v h = refl
stops_front test (b ∷ u) v h = h

stands_front : (place : Standing) (p : Part) (u v : List ℕ) → Stands place p (u ++ v)
    → Stands place p u
stands_front place (Line text) u v h = (h.0, stops_front _ u v h.1)
stands_front place (EscapeLine text) u v h = (h.0, h.1, stops_front _ u v h.2)
stands_front place (Word text) u v h = (h.0, h.1, stops_front _ u v h.2)
stands_front place (Glyph digits) u v h = (h.0, h.1, h.2, h.3, stops_front _ u v h.4)
stands_front place (Marks marks) u v h = (h.0, h.1, stops_front _ u v h.2)
stands_front place _ u v h = h

all_front : (file_start : Bool) (before : List ℕ) (parts : List Part) (u v : List ℕ)
    → AllStand file_start before parts (u ++ v) → AllStand file_start before parts u
all_front file_start before [] u v h = tt
all_front file_start before (p ∷ back) u v h = (
  stands_front (standing_of file_start before) p (spelled back
      ++ u) v (rw (append_assoc (spelled back) u v) h.0),
  all_front file_start (before ++ spelled_part p) back u v h.1,
)

-- a game's parts are a game wherever they may stand
pub game_elsewhere : (max_depth : ℕ) (file_start there_start : Bool) (before there : List ℕ)
    (parts : List Part) (after after' : List ℕ)
    → IsGame max_depth file_start before parts after → AllStand there_start there parts after'
    → IsGame max_depth there_start there parts after'
game_elsewhere max_depth file_start there_start before there parts after after' g stand = record {
  stand = stand;
  begins = g.begins;
  tags_first = g.tags_first;
  result_last = g.result_last;
  meant = g.meant;
  closed_were_open = g.closed_were_open;
  depth = g.depth;
  all_closed = g.all_closed;
  variations = g.variations;
}

pub game_front : (max_depth : ℕ) (file_start : Bool) (before : List ℕ) (parts : List Part)
    (u v : List ℕ)
    → IsGame max_depth file_start before parts (u ++ v) → IsGame max_depth file_start before parts u
game_front max_depth file_start before parts u v g =
    game_elsewhere max_depth file_start file_start before before parts (u
    ++ v) u g (all_front file_start before parts u v g.stand)

-- a gap before a game is the longest, whatever is after the game: no part of a gap can stand where
-- the game's first part does
pub gap_front : (max_depth : ℕ) (file_start : Bool) (before : List ℕ) (gap parts : List Part)
    (u v : List ℕ)
    → IsGap file_start before gap (spelled parts ++ (u ++ v))
    → IsGame max_depth file_start (before ++ spelled gap) parts u
    → IsLongestGap file_start before gap (spelled parts ++ u)
gap_front max_depth file_start before gap [] u v is game = absurd (false≢true game.begins)
gap_front max_depth file_start before gap (p ∷ back) u v is game =
    let after = spelled (p ∷ back) ++ u in
    let stand =
    all_front file_start before gap after v
    (rw (append_assoc (spelled (p ∷ back)) u v) is.stand) in
    longest_gap file_start before gap after (record { stand = stand; only = is.only })
    (λ part rest e h.
    let same =
    one_part (standing_of file_start (before ++ spelled gap)) p part (spelled back
    ++ u) rest game.stand.0 h
    (sym (append_assoc (spelled_part p) (spelled back) u) ∙ e) in
    ap is_gap_part (sym same.0) ∙ not-true (is_gap_part p) game.begins)

-- and so is any gap where the text ends after it
pub gap_end : (file_start : Bool) (before : List ℕ) (gap : List Part) (after : List ℕ)
    → AllStand file_start before gap after
    → IsTrue (list_all is_gap_part gap) → IsLongestGap file_start before gap []
gap_end file_start before gap after stand only = record {
  is_gap = record { stand = all_front file_start before gap [] after stand; only = only };
  longest =
      λ other rest e h. omega (
        arith,
        ap length e,
        length-append (spelled other) rest,
        length-append (spelled gap) [],
      );
}
