-- A code tells the one legal move that it is the code of, and so the bytes of codes spell one line.
use Rattle.std.proofs.Common.{◌≡◌, ℕ, zero, suc, ◌+◌, ◌*◌, ◌<◌, ◌≤◌, Bool, true, false, not, ◌&&◌}
use Rattle.std.proofs.Common.{cond, List, [], ◌∷◌, ◌++◌, length, drop, get_or, Option, Some, None}
use Rattle.std.proofs.Common.{refl, sym, ap, ◌∙◌, subst, append_assoc, append-nil, length-append}
use Rattle.std.proofs.Common.{inl, inr, arith}
use Rattle.pgn_game.proofs.Common.{slice_get, flat_map, AllByRecursion, drop_of_length-le}
use Rattle.pgn_game.proofs.Common.{same_Some, none-some, man_at, State, after, arriving, Goes}
use Rattle.pgn_game.proofs.Common.{IsPseudoLegal, IsLegal, Man, Side, Kind, King, Pawn, Move}
use Rattle.pgn_game.proofs.Common.{AreLegalMoves, positions_from, HasReplayed, IsMainLine, PlyCode}
use Rattle.pgn_game.proofs.Common.{FitsCode, IsCode, AreCodes, code_bytes, code_of}
use Rattle.chess.specs.Public.Moves.{is_pawn, IsPromotionKind, IsPromotion}
use Rattle.pgn_game.specs.Public.CodeLines.{IsCodedLine, IsCodedReplay, IsNextCoded}
use Rattle.pgn_game.specs.Private.CodeWords.{promoted, told_move}
use Rattle.pgn_game.proofs.PlyCodeFacts.{code_again, code_of_a_move_fits}
use Rattle.pgn_game.proofs.RecordFacts.{plies_size}
use Rattle.pgn_game.proofs.Cells.{no_cell, same_first, same_rest}

-- ---- bytes

-- the code of a ply is that of its three bytes
pub code_there : (cs : List PlyCode) (k : ℕ) (first second third : ℕ) → first ≡ 3 * k
    → second ≡ 3 * k + 1 → third ≡ 3 * k + 2 → k < length cs → AllByRecursion FitsCode cs
    → drop k cs ≡ code_of (get_or (flat_map code_bytes cs) first 0)
    (get_or (flat_map code_bytes cs) second 0) (get_or (flat_map code_bytes cs) third 0)
    ∷ drop (k + 1) cs
code_there [] k first second third at next last within fits = absurd (omega arith)
code_there (c ∷ cs) zero first second third at next last within fits =
    let bytes = flat_map code_bytes (c ∷ cs) in
    let one : second ≡ 1 = omega arith in let two : third ≡ 2 = omega arith in
    ap (λ (d : PlyCode). d ∷ cs) (sym (code_again c fits.0)
    ∙ ap (λ n. code_of (get_or bytes n 0) (get_or bytes 1 0) (get_or bytes 2 0)) (sym at)
    ∙ ap (λ n. code_of (get_or bytes first 0) (get_or bytes n 0) (get_or bytes 2 0)) (sym one)
    ∙ ap (λ n. code_of (get_or bytes first 0) (get_or bytes second 0) (get_or bytes n 0)) (sym two))
code_there (c ∷ cs) (suc k) first second third at next last within fits =
    let bytes = flat_map code_bytes (c ∷ cs) in
    let one : first ≡ suc (suc (suc (3 * k))) = omega arith in
    let two : second ≡ suc (suc (suc (3 * k + 1))) = omega arith in
    let three : third ≡ suc (suc (suc (3 * k + 2))) = omega arith in
    let later : suc k + 1 ≡ suc (k + 1) = omega arith in
    let here = code_there cs k (3 * k) (3 * k + 1) (3 * k + 2) refl refl refl (omega arith) fits.1
    in
    here
    ∙ ap (λ n.
    code_of (get_or bytes n 0) (get_or bytes (suc (suc (suc (3 * k + 1)))) 0)
    (get_or bytes (suc (suc (suc (3 * k + 2)))) 0) ∷ drop (k + 1) cs) (sym one)
    ∙ ap (λ n.
    code_of (get_or bytes first 0) (get_or bytes n 0)
    (get_or bytes (suc (suc (suc (3 * k + 2)))) 0) ∷ drop (k + 1) cs) (sym two)
    ∙ ap (λ n. code_of (get_or bytes first 0) (get_or bytes second 0) (get_or bytes n 0)
    ∷ drop (k + 1) cs) (sym three)
    ∙ ap (λ n. code_of (get_or bytes first 0) (get_or bytes second 0) (get_or bytes third 0)
    ∷ drop n (c ∷ cs)) (sym later)

-- ---- the move of a code

unlike : (b : Bool) (to : Kind) → None ≡ cond (b && not b) (Some to) None
unlike true to = refl
unlike false to = refl

becomes_kind : (own other : Bool) (to became : Kind) → own ≡ true → other ≡ false → to ≡ became
    → Some became ≡ cond (own && not other) (Some to) None
becomes_kind true false to became is_pawn_own is_none is = ap Some (sym is)
becomes_kind true true to became is_pawn_own is_none is = absurd cc
becomes_kind false other to became is_pawn_own is_none is = absurd cc

-- only a pawn becomes another man, and that is none
pawn_becomes : (P : State) (m : Move) (own to : Kind) → m.promote ≡ Some to → Goes P m own
    → (own ≡ Pawn) × IsPromotionKind to
pawn_becomes P m King to is goes = absurd (none-some to (sym goes.0 ∙ is))
pawn_becomes P m Pawn to is (castle, go, inl there) = (refl, subst IsPromotion is there.1)
pawn_becomes P m Pawn to is (castle, go, inr other) = absurd (none-some to (sym other.1 ∙ is))
pawn_becomes P m _ to is goes = absurd (none-some to (sym goes.1 ∙ is))

no_pawn : (side : Side) (to : Kind) → IsPromotionKind to
    → is_pawn (Some (record { side = side; kind = to })) ≡ false
no_pawn side to (inl e) = ap (λ (k : Kind). is_pawn (Some (record { side = side; kind = k }))) e
no_pawn side to (inr (inl e)) =
    ap (λ (k : Kind). is_pawn (Some (record { side = side; kind = k }))) e
no_pawn side to (inr (inr (inl e))) =
    ap (λ (k : Kind). is_pawn (Some (record { side = side; kind = k }))) e
no_pawn side to (inr (inr (inr e))) =
    ap (λ (k : Kind). is_pawn (Some (record { side = side; kind = k }))) e

is_pawn_of : (own : Man) → own.kind ≡ Pawn → is_pawn (Some own) ≡ true
is_pawn_of own e = ap (λ (k : Kind). is_pawn (Some (record { side = own.side; kind = k }))) e

becomes : (P : State) (m : Move) (own : Man) (promote : Option Kind) (comes : Man)
    → m.promote ≡ promote → man_at P.men m.from ≡ Some own → Goes P m own.kind
    → arriving P promote m.from ≡ Some comes → promote ≡ promoted (Some own) comes
becomes P m own None comes is here goes arrives =
    rw (same_Some comes own (sym arrives ∙ here)) (unlike (is_pawn (Some own)) own.kind)
becomes P m own (Some to) comes is here goes arrives =
    let man : comes ≡ record { side = P.turn; kind = to } =
    same_Some comes (record { side = P.turn; kind = to }) (sym arrives) in
    let pawn = pawn_becomes P m own.kind to is goes in
    rw man (becomes_kind (is_pawn (Some own)) (is_pawn (Some (record { side = P.turn; kind = to })))
    to to (is_pawn_of own pawn.0) (no_pawn P.turn to pawn.1) refl)

-- a code is that of one pseudo-legal move at most, which it tells
pub told : (P : State) (m : Move) (c : PlyCode) → IsPseudoLegal P m → IsCode P m c
    → m ≡ told_move P c
told P m c legal code =
    let left : man_at P.men c.from ≡ Some legal.man = ap (man_at P.men) code.from ∙ legal.here in
    let promote : m.promote ≡ promoted (man_at P.men c.from) c.man =
    becomes P m legal.man m.promote c.man refl legal.here legal.goes code.man
    ∙ ap (λ (o : Option Man). promoted o c.man) (sym left) in
    let from = sym code.from in let to = sym code.to in let castle = sym code.castle in
    λ i. record { from = from i; to = to i; promote = promote i; castle = castle i }

codes_fit : (P : State) (moves : List Move) (codes : List PlyCode) → AreLegalMoves P moves
    → AreCodes P moves codes → AllByRecursion FitsCode codes
codes_fit P [] codes legal are = subst (AllByRecursion FitsCode) (sym are) tt
codes_fit P (m ∷ moves) codes legal (c, more, is, code, are) =
    subst (AllByRecursion FitsCode) (sym is) (
      code_of_a_move_fits P m c legal.0.pseudo_legal code,
      codes_fit (after P m) moves more legal.1 are,
    )

-- ---- ply by ply

-- the code that stands in the bytes after so many plies
abbrev pub code_at : List ℕ → ℕ → PlyCode
code_at bytes ply =
    code_of (get_or bytes (3 * ply) 0) (get_or bytes (3 * ply + 1) 0) (get_or bytes (3 * ply + 2) 0)

pub replayed_none : (start : State) (bytes : List ℕ) → HasReplayed start bytes 0 [] start []
replayed_none start bytes = record {
  count = refl;
  size = refl;
  legal = λ rest legal. legal;
  positions = λ rest. refl;
  left = λ moves line. record { rest = moves; parts = refl; legal = line.legal; are = line.are };
}

-- what is left begins with the move that the code there tells
pub record IsNextTold (here : State) (played : List Move) (c : PlyCode) (codes : List PlyCode)
    (moves : List Move) : Type 0 where
  pub m : Move
  pub rest : List Move
  pub parts : moves ≡ played ++ m ∷ rest
  pub legal : IsLegal here m
  pub is_told : m ≡ told_move here c
  pub code : IsCode here m c
  pub later : AreLegalMoves (after here m) rest
  pub are : AreCodes (after here m) rest codes

first_left : (here : State) (played rest : List Move) (c : PlyCode) (codes : List PlyCode)
    (moves : List Move) → moves ≡ played ++ rest → AreLegalMoves here rest
    → AreCodes here rest (c ∷ codes) → IsNextTold here played c codes moves
first_left here played [] c codes moves parts legal are = absurd (no_cell c codes (sym are))
first_left here played (m ∷ rest) c codes moves parts legal (d, more, is, code, are) =
    record {
      m = m;
      rest = rest;
      parts = parts;
      legal = legal.0;
      is_told =
          told here m c legal.0.pseudo_legal
          (subst (IsCode here m) (sym (same_first c d codes more is)) code);
      code = subst (IsCode here m) (sym (same_first c d codes more is)) code;
      later = legal.1;
      are = subst (AreCodes (after here m) rest) (sym (same_rest c d codes more is)) are;
    }

module _ {start : State} {bytes : List ℕ} {ply : ℕ} {before : List State} {here : State}
    {played : List Move} (at : HasReplayed start bytes ply before here played) where
  pub next_told : (moves : List Move) (line : IsCodedLine start bytes moves)
      → 3 * ply + 2 < length bytes
      → IsNextTold here played (code_at bytes ply) (drop (ply + 1) line.codes) moves
  next_told moves line within =
      let left = at.left moves line in
      let size : length bytes ≡ 3 * length line.codes =
      ap length line.spell ∙ plies_size line.codes in
      let front =
      code_there line.codes ply (3 * ply) (3 * ply + 1) (3 * ply
      + 2) refl refl refl (omega (arith, size, within))
      (codes_fit start moves line.codes line.legal line.are) in
      let is : drop ply line.codes ≡ code_at bytes ply ∷ drop (ply + 1) line.codes =
      front ∙ ap (λ (bs : List ℕ). code_at bs ply ∷ drop (ply + 1) line.codes) (sym line.spell) in
      first_left here played left.rest (code_at bytes ply) (drop (ply + 1) line.codes) moves
      left.parts left.legal (subst (AreCodes here left.rest) is left.are)

  -- one ply further
  pub replayed_on : (m : Move) → m ≡ told_move here (code_at bytes ply) → IsLegal here m
      → 3 * ply + 2 < length bytes
      → HasReplayed start bytes (ply + 1) (before ++ here ∷ []) (after here m) (played ++ m ∷ [])
  replayed_on m is legal within = record {
    count = length-append played (m ∷ []) ∙ ap (λ n. n + 1) at.count;
    size = length-append before (here ∷ []) ∙ ap (λ n. n + 1) at.size;
    legal = λ rest later. subst (AreLegalMoves start) (sym (append_assoc played (m ∷ []) rest))
        (at.legal (m ∷ rest) (legal, later));
    positions = λ rest.
        ap (positions_from start) (append_assoc played (m ∷ []) rest) ∙ at.positions (m ∷ rest)
        ∙ sym (append_assoc before (here ∷ []) (positions_from (after here m) rest));
    left = λ moves line.
        let one = next_told moves line within in
        let same : one.m ≡ m = one.is_told ∙ sym is in
        record {
          rest = one.rest;
          parts = one.parts ∙ ap (λ (n : Move). played ++ n ∷ one.rest) same
              ∙ sym (append_assoc played (m ∷ []) one.rest);
          legal = subst (λ (n : Move). AreLegalMoves (after here n) one.rest) same one.later;
          are = rw (← same) one.are;
        };
  }

  -- where the move that is told is not legal, there is no such line
  pub no_line : (m : Move) → m ≡ told_move here (code_at bytes ply) → (IsLegal here m → ⊥)
      → 3 * ply + 2 < length bytes → (moves : List Move) → IsCodedLine start bytes moves → ⊥
  no_line m is illegal within moves line =
      let one = next_told moves line within in
      illegal (subst (IsLegal here) (one.is_told ∙ sym is) one.legal)

  none_left : (rest : List Move) → AreCodes here rest [] → rest ≡ []
  none_left [] are = refl
  none_left (m ∷ rest) (c, more, is, code, are) = absurd (no_cell c more is)

  -- all plies
  pub replayed_all : length bytes ≤ 3 * ply → IsCodedReplay start bytes
      (record { positions = before ++ here ∷ []; played = played; turns = [] })
  replayed_all past = record {
    line = record {
      legal = subst (AreLegalMoves start) (append-nil played) (at.legal [] tt);
      positions = sym (at.positions []) ∙ ap (positions_from start) (append-nil played);
    };
    turns = refl;
    only = λ moves line.
        let left = at.left moves line in
        let size : length bytes ≡ 3 * length line.codes =
        ap length line.spell ∙ plies_size line.codes in
        let ended : drop ply line.codes ≡ [] =
        drop_of_length-le line.codes (omega (arith, size, past)) in
        let none = none_left left.rest (subst (AreCodes here left.rest) ended left.are) in
        left.parts ∙ ap (λ (ms : List Move). played ++ ms) none ∙ append-nil played;
  }

-- bytes that are no multiple of three are those of no line
pub no_part : (start : State) (bytes : List ℕ) → ((n : ℕ) → length bytes ≡ 3 * n → ⊥)
    → (moves : List Move) → IsCodedLine start bytes moves → ⊥
no_part start bytes part moves line =
    part (length line.codes) (ap length line.spell ∙ plies_size line.codes)

-- ---- the next move

-- at the end of the bytes a line ends
pub none_coded : (P : State) (bytes : List ℕ) → length bytes ≡ 0 → IsNextCoded P bytes None
none_coded P bytes none =
    (replayed_all (replayed_none P bytes) (omega (arith, none))).only

-- the bytes after those of the first code
later_spell : (c : PlyCode) (cs more : List PlyCode) (bytes : List ℕ)
    → bytes ≡ flat_map code_bytes cs → cs ≡ c ∷ more → drop 3 bytes ≡ flat_map code_bytes more
later_spell c cs more bytes spell is =
    ap (drop 3) (spell ∙ ap (flat_map code_bytes) is)

-- the move that the first code tells is the next one, where it is legal
pub first_coded : (P : State) (bytes : List ℕ) (m : Move) → m ≡ told_move P (code_at bytes 0)
    → IsLegal P m → 3 ≤ length bytes → IsNextCoded P bytes (Some m)
first_coded P bytes m is legal within = (
  legal,
  within,
  λ moves line.
      let one = next_told (replayed_none P bytes) moves line (omega (arith, within)) in
      let same : one.m ≡ m = one.is_told ∙ sym is in (
        one.rest,
        one.parts ∙ ap (λ (n : Move). n ∷ one.rest) same,
        record {
          legal = subst (λ (n : Move). AreLegalMoves (after P n) one.rest) same one.later;
          codes = drop 1 line.codes;
          are = rw (← same) one.are;
          spell = later_spell (code_at bytes 0) line.codes (drop 1 line.codes) bytes line.spell
              (first_code moves line within);
        },
      ),
)
  where
    first_code : (moves : List Move) (line : IsCodedLine P bytes moves) → 3 ≤ length bytes
        → line.codes ≡ code_at bytes 0 ∷ drop 1 line.codes
    first_code moves line up =
        let size : length bytes ≡ 3 * length line.codes =
        ap length line.spell ∙ plies_size line.codes in
        code_there line.codes 0 0 1 2 refl refl refl (omega (arith, size, up))
        (codes_fit P moves line.codes line.legal line.are)
        ∙ ap (λ (bs : List ℕ). code_at bs 0 ∷ drop 1 line.codes) (sym line.spell)

-- ---- the line of a game

-- a main line is one of legal moves, which lead through its positions
pub line_legal : (P : State) (words : List (List ℕ)) (positions : List State) (played : List Move)
    → IsMainLine P words positions played → AreLegalMoves P played
line_legal P [] positions played line = subst (AreLegalMoves P) (sym line.1) tt
line_legal P (word ∷ words) positions played (
  m,
  later,
  more,
  positions_is,
  played_is,
  named,
  line,
) =
    subst (AreLegalMoves P) (sym played_is) (
      named.named.legal,
      line_legal (after P m) words later more line,
    )

pub line_positions : (P : State) (words : List (List ℕ)) (positions : List State)
    (played : List Move) → IsMainLine P words positions played → positions ≡ positions_from P played
line_positions P [] positions played line = line.0 ∙ ap (positions_from P) (sym line.1)
line_positions P (word ∷ words) positions played (
  m,
  later,
  more,
  positions_is,
  played_is,
  named,
  line,
) =
    positions_is
    ∙ ap (λ (ps : List State). P ∷ ps) (line_positions (after P m) words later more line)
    ∙ ap (positions_from P) (sym played_is)

no_move : (m : Move) → None ≡ Some m → ⊥
no_move m is = absurd cc

-- each move of such a line is legal where it is played
pub legal_along : (P : State) (moves : List Move) → AreLegalMoves P moves
    → (i : ℕ) (now : State) (m : Move) → slice_get (positions_from P moves) i ≡ Some now
    → slice_get moves i ≡ Some m → IsLegal now m
legal_along P [] legal i now m at is = absurd (no_move m is)
legal_along P (first ∷ moves) legal zero now m at is =
    rw (← (same_Some P now at)) (subst (IsLegal P) (same_Some first m is) legal.0)
legal_along P (first ∷ moves) legal (suc i) now m at is =
    legal_along (after P first) moves legal.1 i now m at is
