-- The text of a move in a notation: each legal move has one, which holds no space, and no other
-- legal move has it.
use Rattle.std.specs.Prelude.{Option, Some, None}
use Rattle.pgn_game.proofs.Common.{◌≡◌, ℕ, ◌+◌, ◌≤◌, List, [], ◌∷◌, refl, sym, ap, ◌∙◌, subst}
use Rattle.pgn_game.proofs.Common.{arith, same_Some, ◌==◌, if◌then◌else◌, Place, AreOnBoard, man_at}
use Rattle.pgn_game.proofs.Common.{State, IsSound, Goes, IsLegal, kind_letter, Man, Kind, King}
use Rattle.pgn_game.proofs.Common.{Queen, Rook, Bishop, Knight, Pawn, Side, Wing, KingSide}
use Rattle.pgn_game.proofs.Common.{QueenSide, Move, one_san, some_san, IsMoveText, promotion_letter}
use Rattle.pgn_game.proofs.Common.{uci_text, Notation, Uci, Played}
use Rattle.chess.specs.Public.Squares.{gap}
use Rattle.chess.specs.Public.Positions.{king_from, king_to}
use Rattle.chess.specs.Public.Moves.{Castles, IsKingMove}
use Rattle.chess.specs.Public.Attacks.{IsNear}
use Rattle.chess.proofs.SanNamesFacts.{san_names}
use Rattle.chess.proofs.PlaceFacts.{place_of}
use Rattle.pgn_game.specs.declared.exports.notation.Notation.TheVariants.{San}
use Rattle.pgn_game.proofs.PlainTokens.{IsSolid, kind_high, turn_may}
use Rattle.pgn_game.proofs.StartTexts.{IsUnspaced}

pub some_move_text : (notation : Notation) (now : State) (m : Move) → AreOnBoard now.men
    → IsLegal now m → (text : List ℕ) × IsMoveText notation now m text
some_move_text San now m stands legal = some_san now m stands legal
some_move_text Uci now m stands legal = (uci_text m, refl)

pub one_move_text : (notation : Notation) (now : State) (m : Move) (x y : List ℕ)
    → IsMoveText notation now m x → IsMoveText notation now m y → x ≡ y
one_move_text San now m x y a b = one_san now m x y a b
one_move_text Uci now m x y a b = a ∙ sym b

-- ---- no space stands in it

solid_unspaced : (x : List ℕ) → IsSolid x → IsUnspaced x
solid_unspaced [] solid = record {}
solid_unspaced (b ∷ x) solid = (solid.0.1, solid_unspaced x solid.1)

letter_unspaced : (promote : Option Kind) → IsUnspaced (promotion_letter promote)
letter_unspaced None = record {}
letter_unspaced (Some kind) = let high = kind_high kind in (omega arith, record {})

pub move_unspaced : (notation : Notation) (now : State) (m : Move) (x : List ℕ)
    → IsMoveText notation now m x → IsUnspaced x
move_unspaced San now m x is = solid_unspaced x (turn_may now (Played m) x is).solid
move_unspaced Uci now m x is =
    subst IsUnspaced (sym is) (
      omega arith,
      (omega arith, (omega arith, (omega arith, letter_unspaced m.promote))),
    )

-- ---- squares and what a pawn becomes make a legal move

-- only a king castles
castling_king : (P : State) (m : Move) (kind : Kind) (wing : Wing) → Goes P m kind
    → m.castle ≡ Some wing → kind ≡ King
castling_king P m King wing goes castle = refl
castling_king P m _ wing goes castle =
    let never : None ≡ Some wing = sym goes.0 ∙ castle in absurd (cc)

castles : (P : State) (m : Move) (kind : Kind) (wing : Wing) → Goes P m kind → m.castle ≡ Some wing
    → Castles P wing m
castles P m kind wing goes castle =
    let king : Goes P m King = subst (Goes P m) (castling_king P m kind wing goes castle) goes in
    subst (IsKingMove P m) castle king.1

steps : (P : State) (m : Move) → Goes P m King → m.castle ≡ None → IsNear m.from m.to
steps P m goes castle = subst (IsKingMove P m) castle goes.1

-- castling takes the king two files
far : (side : Side) (wing : Wing) → 2 ≤ gap (king_from side).file (king_to side wing).file
far side KingSide = omega arith
far side QueenSide = omega arith

far_apart : (P : State) (m : Move) (wing : Wing) → Castles P wing m → IsNear m.from m.to → ⊥
far_apart P m wing is near =
    let from : m.from.file ≡ (king_from P.turn).file = ap (λ (s : Place). s.file) is.from in
    let to : m.to.file ≡ (king_to P.turn wing).file = ap (λ (s : Place). s.file) is.to in
    let same : gap m.from.file m.to.file ≡ gap (king_from P.turn).file (king_to P.turn wing).file =
    λ i. gap (from i) (to i) in
    omega (arith, same, near.0, far P.turn wing)

same_wing : (side : Side) (v w : Wing) → king_to side v ≡ king_to side w → v ≡ w
same_wing side KingSide KingSide same = refl
same_wing side KingSide QueenSide same = let files : 7 ≡ 3 = ap (λ (s : Place). s.file) same in
    absurd (omega (arith, files))
same_wing side QueenSide KingSide same = let files : 3 ≡ 7 = ap (λ (s : Place). s.file) same in
    absurd (omega (arith, files))
same_wing side QueenSide QueenSide same = refl

module _ (P : State) (m n : Move) (legal : IsLegal P m) (also : IsLegal P n) (from : m.from
    ≡ n.from) (to : m.to ≡ n.to) where
  same_kind : legal.pseudo_legal.man.kind ≡ also.pseudo_legal.man.kind
  same_kind =
      ap (λ (man : Man). man.kind)
      (same_Some _ _ (sym legal.pseudo_legal.here ∙ ap (λ (s : Place). man_at P.men s) from
      ∙ also.pseudo_legal.here))

  -- one castles and the other does not
  apart : (a b : Move) (kind : Kind) (wing : Wing) → Goes P a kind → Goes P b kind → a.from ≡ b.from
      → a.to ≡ b.to → a.castle ≡ Some wing → b.castle ≡ None → ⊥
  apart a b kind wing goes other from to castle plain =
      let king : Goes P b King = subst (Goes P b) (castling_king P a kind wing goes castle) other in
      far_apart P a wing (castles P a kind wing goes castle) (rw (from, to) (steps P b king plain))

  same_castle : (v w : Option Wing) → m.castle ≡ v → n.castle ≡ w → v ≡ w
  same_castle None None a b = refl
  same_castle (Some v) (Some w) a b =
      let one = castles P m legal.pseudo_legal.man.kind v legal.pseudo_legal.goes a in
      let two = castles P n also.pseudo_legal.man.kind w also.pseudo_legal.goes b in
      ap Some (same_wing P.turn v w (sym one.to ∙ to ∙ two.to))
  same_castle (Some v) None a b =
      absurd (apart m n legal.pseudo_legal.man.kind v legal.pseudo_legal.goes
      (rw same_kind also.pseudo_legal.goes) from to a b)
  same_castle None (Some w) a b =
      absurd (apart n m also.pseudo_legal.man.kind w also.pseudo_legal.goes
      (rw (sym same_kind) legal.pseudo_legal.goes) (sym from) (sym to) b a)

  pub same_move : m.promote ≡ n.promote → m ≡ n
  same_move promote =
      λ i. record {
        from = from i;
        to = to i;
        promote = promote i;
        castle = same_castle m.castle n.castle refl refl i;
      }

-- a letter is that of one kind
abbrev pub kind_at : ℕ → Option Kind
kind_at b = if b == 75 then Some King else if b == 81 then Some Queen else if b == 82 then Some Rook
    else if b == 66 then Some Bishop
    else if b == 78 then Some Knight else if b == 80 then Some Pawn else None

kind_at_letter : (kind : Kind) → kind_at (kind_letter kind) ≡ Some kind
kind_at_letter King = refl
kind_at_letter _ = refl

pub same_letter : (a b : Kind) → kind_letter a ≡ kind_letter b → a ≡ b
same_letter a b is = same_Some a b (sym (kind_at_letter a) ∙ ap kind_at is ∙ kind_at_letter b)

same_promotion : (a b : Option Kind) → promotion_letter a ≡ promotion_letter b → a ≡ b
same_promotion None None is = refl
same_promotion None (Some _) is = absurd (cc)
same_promotion (Some _) None is = absurd (cc)
same_promotion (Some a) (Some b) is =
    let first : kind_letter a + 32 ≡ kind_letter b + 32 = cc in
    ap Some (same_letter a b (omega arith))

same_uci : (P : State) (m n : Move) → IsLegal P m → IsLegal P n → uci_text m ≡ uci_text n → m ≡ n
same_uci P m n legal also same =
    let a : 96 + m.from.file ≡ 96 + n.from.file = cc in
    let b : 48 + m.from.rank ≡ 48 + n.from.rank = cc in
    let c : 96 + m.to.file ≡ 96 + n.to.file = cc in
    let d : 48 + m.to.rank ≡ 48 + n.to.rank = cc in
    let rest : promotion_letter m.promote ≡ promotion_letter n.promote = cc in
    same_move P m n legal also (place_of m.from n.from (omega arith) (omega arith))
    (place_of m.to n.to (omega arith) (omega arith))
    (same_promotion m.promote n.promote rest)

pub same_by_text : (notation : Notation) (P : State) (m n : Move) (x : List ℕ) → IsSound P
    → IsLegal P m → IsLegal P n → IsMoveText notation P m x → IsMoveText notation P n x → m ≡ n
same_by_text San P m n x sound legal also a b =
    (san_names P n x sound also b).only m (san_names P m x sound legal a).named
same_by_text Uci P m n x sound legal also a b = same_uci P m n legal also (sym a ∙ b)
