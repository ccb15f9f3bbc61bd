-- Facts about the text that is written for a move.
use Rattle.std.proofs.Common.{append_assoc}
use Rattle.chess.proofs.Common.{◌≡◌, ◌≢◌, ◌↔◌, ◌++◌, ◌∷◌, [], ℕ, List, true, Bool, not, None, Some}
use Rattle.chess.proofs.Common.{ap, refl, sym, subst, ◌∙◌, IsTrue, ◌&&◌, ◌||◌, append-nil, Place}
use Rattle.chess.proofs.Common.{IsOnBoard, same_square, man_at, Reaches, State, IsSound, king_of}
use Rattle.chess.proofs.Common.{Goes, IsPseudoLegal, after, file_letter, kind_letter, rank_digit}
use Rattle.chess.proofs.Common.{square_text, IsRival, HasRival, IsDisambiguation, IsPieceText}
use Rattle.chess.proofs.Common.{IsBody, IsCheckSign, IsSan, capture_text, alone, by_file, by_rank}
use Rattle.chess.proofs.Common.{by_both, Places, is_in, no_places, HoldsExactly, IsAttacker}
use Rattle.chess.proofs.Common.{IsTakenFirst, HasEach, AreRivalsSifted, Man, Side, Kind, King}
use Rattle.chess.proofs.Common.{Queen, Rook, Bishop, Knight, Pawn, Move, false_of}
use Rattle.chess.specs.Private.SanTextWords.{Appends, AreOf, HasSquare}
use Rattle.chess.proofs.PlaceFacts.{man_of, same_square-then}
use Rattle.chess.proofs.LoopFacts.{sifted_start, sifted_more, left_start, left_more}

-- a rival stands on the board
pub rival_on : (P : State) (m : Move) (s : Place) → IsRival P m s → IsOnBoard s
rival_on P m s rival = rival.goes.2.pseudo_legal.from

-- a rival on a square that has the fact is a square of the set of rivals that has it
pub rival_of_square : (P : State) (m : Move) (set : Places) (fact : Place → Type 0)
    → HoldsExactly (IsRival P m) set → HasSquare set fact → HasRival P m fact
rival_of_square P m set fact rivals found = (found.0, ((rivals found.0).0 found.2).1, found.3)

pub square_of_rival : (P : State) (m : Move) (set : Places) (fact : Place → Type 0)
    → HoldsExactly (IsRival P m) set → HasRival P m fact → HasSquare set fact
square_of_rival P m set fact rivals found = let on = rival_on P m found.0 found.1 in
    (found.0, on, (rivals found.0).1 (on, found.1), found.2)

-- ---- the men among which the rivals are

-- a side has one king
no_king_rival : (P : State) (m : Move) (man : Man) (s : Place) → IsSound P
    → man_at P.men m.from ≡ Some man → man.kind ≡ King → IsRival P m s → ⊥
no_king_rival P m man s sound here king rival =
    let only = (sound.king man.side).1.only in
    let is_king : Some man ≡ Some (king_of man.side) =
    ap Some (man_of man (king_of man.side) refl king) in
    rival.other (only s (rival.alike ∙ here ∙ is_king) ∙ sym (only m.from (here ∙ is_king)))

piece_reaches : (P : State) (m : Move) (other : Kind) → (other ≡ Pawn → ⊥) → (other ≡ King → ⊥)
    → Goes P m other → Reaches P.men P.turn other m.from m.to
piece_reaches P m King no_pawn no_king g = absurd (no_king refl)
piece_reaches P m Pawn no_pawn no_king g = absurd (no_pawn refl)
piece_reaches P m _ no_pawn no_king g = g.2

-- a rival that is no pawn attacks the target
pub rival_reaches : (P : State) (m : Move) (man : Man) (s : Place) → IsSound P
    → man_at P.men m.from ≡ Some man → (man.kind ≡ Pawn → ⊥) → IsRival P m s
    → Reaches P.men man.side man.kind s m.to
rival_reaches P m man s sound here no_pawn rival =
    let rules = rival.goes.2.pseudo_legal in
    let same : rules.man ≡ man = let stands = rules.here in let alike = rival.alike in cc in
    let goes =
    piece_reaches P (record {
      from = s;
      to = m.to;
      promote = rival.goes.0;
      castle =
          rival.goes.1;
    }) rules.man.kind
    (λ pawn. no_pawn (sym (ap (λ (a : Man). a.kind) same) ∙ pawn))
    (λ king. no_king_rival P m man s sound here (sym (ap (λ (a : Man). a.kind) same) ∙ king) rival)
    rules.goes in
    subst (λ (a : Man). Reaches P.men a.side a.kind s m.to) same
    (subst (λ (side : Side). Reaches P.men side rules.man.kind s m.to) (sym rules.own) goes)

pub pieces_alike : (P : State) (m : Move) (man : Man) (others set : Places) → IsSound P
    → man_at P.men m.from ≡ Some man → (man.kind ≡ Pawn → ⊥)
    → ((s : Place) → IsOnBoard s → s ≢ m.from → is_in others s ≡ true)
    → HoldsExactly (IsAttacker P.men man m.to others) set → HasEach (IsRival P m) set
pieces_alike P m man others set sound here no_pawn each attackers_from s on rival =
    (attackers_from s).1 (
      on,
      (
        each s on rival.other,
        rival.alike ∙ here,
        rival_reaches P m man s sound here no_pawn rival,
      ),
    )

-- a man who moves and is none of these is the king
pub mover_is_king : (P : State) (m : Move) → IsPseudoLegal P m
    → (man_at P.men m.from ≡ Some (record { side = P.turn; kind = Pawn }) → ⊥)
    → (man_at P.men m.from ≡ Some (record { side = P.turn; kind = Knight }) → ⊥)
    → (man_at P.men m.from ≡ Some (record { side = P.turn; kind = Bishop }) → ⊥)
    → (man_at P.men m.from ≡ Some (record { side = P.turn; kind = Rook }) → ⊥)
    → (man_at P.men m.from ≡ Some (record { side = P.turn; kind = Queen }) → ⊥)
    → man_at P.men m.from ≡ Some (record { side = P.turn; kind = King })
mover_is_king P m rules pawn knight bishop rook queen =
    let there : (k : Kind) → rules.man.kind ≡ k
    → man_at P.men m.from ≡ Some (record { side = P.turn; kind = k }) = λ k is.
    rules.here ∙ ap (λ (man : Man). Some man) (λ i. record { side = rules.own i; kind = is i }) in
    elim rules.man.kind as (λ k. rules.man.kind ≡ k
    → man_at P.men m.from ≡ Some (record { side = P.turn; kind = King })) [
      | King ↦ λ is. there King is
      | Queen ↦ λ is. absurd (queen (there Queen is))
      | Rook ↦ λ is. absurd (rook (there Rook is))
      | Bishop ↦ λ is. absurd (bishop (there Bishop is))
      | Knight ↦ λ is. absurd (knight (there Knight is))
      | Pawn ↦ λ is. absurd (pawn (there Pawn is))
    ] refl

-- a square is left in a set out of which another was taken
pub left_in : (old new : Places) (s t : Place) → (is_in old s ≡ true) ↔ (IsOnBoard s × IsOnBoard s)
    → IsOnBoard s
    → is_in new s ≡ (is_in old s && not (same_square s t)) → s ≢ t → is_in new s ≡ true
left_in old new s t all on rest other =
    rest ∙ ap (λ b. b && not (same_square s t)) (all.1 (on, on))
    ∙ ap not (false_of _ (λ same. other (same_square-then s t same)))

-- ---- the loop over the men that are alike

pub rivals_start : (P : State) (m : Move) (man : Man) (squares found : Places)
    → HasEach (IsRival P m) squares → AreOf P.men man squares
    → found ≡ no_places → AreRivalsSifted P m man squares found
rivals_start P m man squares found each alike none = record {
  sifted = sifted_start (IsRival P m) squares found each none;
  alike = left_start (λ s. man_at P.men s
      ≡ Some man) (λ s. ⊥) squares (λ s on clash. absurd clash) alike;
}

pub rivals_more : (P : State) (m : Move) (man : Man) (old new found more : Places) (t : Place)
    (test : Bool)
    → AreRivalsSifted P m man old found → IsTakenFirst old new (Some t)
    → IsTrue test ↔ IsRival P m t
    → ((s : Place) → is_in more s ≡ ((test && same_square t s) || is_in found s))
    → AreRivalsSifted P m man new more
rivals_more P m man old new found more t test so_far capture_square tested put = record {
  sifted =
      sifted_more (IsRival P m) old new found more t test so_far.sifted capture_square tested put;
  alike = left_more (λ s. man_at P.men s ≡ Some man) (λ s.
      ⊥) old new t so_far.alike capture_square (λ clash.
      clash);
}

-- ---- what distinguishes a man from its rivals

pub alone_distinguishes : (P : State) (m : Move) (set : Places) (old : List ℕ)
    → HoldsExactly (IsRival P m) set
    → (((s : Place) × IsOnBoard s × (is_in set s ≡ true)) → ⊥)
    → Appends (IsDisambiguation P m) old old
alone_distinguishes P m set old rivals none = (
  [],
  alone (λ rival. let on = rival_on P m rival.0 rival.1 in
      none (rival.0, on, (rivals rival.0).1 (on, rival.1))),
  sym (append-nil old),
)

pub file_distinguishes : (P : State) (m : Move) (set : Places) (old new : List ℕ) (file : ℕ)
    → HoldsExactly (IsRival P m) set
    → ((s : Place) × IsOnBoard s × (is_in set s ≡ true))
    → (HasSquare set (λ s. s.file ≡ m.from.file) → ⊥) → file ≡ m.from.file
    → new ≡ old ++ file_letter file ∷ [] → Appends (IsDisambiguation P m) old new
file_distinguishes P m set old new file rivals some none is_file written = (
  file_letter m.from.file ∷ [],
  by_file (
    some.0,
    ((rivals some.0).0 some.2).1,
    tt,
  ) (λ rival. none (square_of_rival P m set (λ s. s.file ≡ m.from.file) rivals rival)),
  written ∙ ap (λ n. old ++ file_letter n ∷ []) is_file,
)

pub rank_distinguishes : (P : State) (m : Move) (set : Places) (old new : List ℕ) (rank : ℕ)
    → HoldsExactly (IsRival P m) set
    → HasSquare set (λ s. s.file ≡ m.from.file) → (HasSquare set (λ s. s.rank ≡ m.from.rank) → ⊥)
    → rank ≡ m.from.rank
    → new ≡ old ++ rank_digit rank ∷ [] → Appends (IsDisambiguation P m) old new
rank_distinguishes P m set old new rank rivals some none is_rank written = (
  rank_digit m.from.rank ∷ [],
  by_rank (rival_of_square P m set (λ s. s.file ≡ m.from.file) rivals some)
      (λ rival. none (square_of_rival P m set (λ s. s.rank ≡ m.from.rank) rivals rival)),
  written ∙ ap (λ n. old ++ rank_digit n ∷ []) is_rank,
)

pub both_distinguish : (P : State) (m : Move) (set : Places) (old new : List ℕ)
    → HoldsExactly (IsRival P m) set
    → HasSquare set (λ s. s.file ≡ m.from.file) → HasSquare set (λ s. s.rank ≡ m.from.rank)
    → new ≡ old ++ square_text m.from → Appends (IsDisambiguation P m) old new
both_distinguish P m set old new rivals file rank written = (
  square_text m.from,
  by_both (rival_of_square P m set (λ s. s.file ≡ m.from.file) rivals file)
      (rival_of_square P m set (λ s. s.rank ≡ m.from.rank) rivals rank),
  written,
)

-- ---- the text of a man who has no rival

-- the text of a piece's move is a body
piece_body : (P : State) (m : Move) (kind : Kind) (x : List ℕ) → (kind ≡ Pawn → ⊥)
    → IsPieceText P m kind x → IsBody P m None kind x
piece_body P m King x piece spells = spells
piece_body P m Queen x piece spells = spells
piece_body P m Rook x piece spells = spells
piece_body P m Bishop x piece spells = spells
piece_body P m Knight x piece spells = spells
piece_body P m Pawn x piece spells = absurd (piece refl)

-- its letter, x for a capture and the square were appended one after another
pub lone_piece : (P : State) (m : Move) (kind : Kind) (letter : ℕ)
    (old lettered crossed new : List ℕ) → (kind ≡ Pawn → ⊥)
    → ¬ HasRival P m (λ s. Unit {0}) → letter ≡ kind_letter kind → lettered ≡ old ++ letter ∷ []
    → crossed ≡ lettered ++ capture_text P m
    → new ≡ crossed ++ square_text m.to → Appends (IsBody P m None kind) old new
lone_piece P m kind letter old lettered crossed new piece lone is_letter first second third =
    let cross = capture_text P m in
    let square = square_text m.to in
    let text = kind_letter kind ∷ (cross ++ square) in (
      text,
      piece_body P m kind text piece ([], alone lone, refl),
      third ∙ ap (λ x. x ++ square) (second
          ∙ ap (λ x. x ++ cross) (first ∙ ap (λ l. old ++ l ∷ []) is_letter))
          ∙ append_assoc (old ++ kind_letter kind ∷ []) cross square
          ∙ append_assoc old (kind_letter kind ∷ []) (cross ++ square),
    )

-- the body and the mark were appended to nothing
pub lone_san : (P next : State) (m : Move) (man : Man) (cleared body new : List ℕ) → m.castle ≡ None
    → man_at P.men m.from ≡ Some man → cleared ≡ []
    → Appends (IsBody P m None man.kind) cleared body → next ≡ after P m
    → Appends (IsCheckSign next) body new → IsSan P m new
lone_san P next m man cleared body new plain here none appended is_next marked = record {
  man = man;
  here = here;
  body = appended.0;
  body_is = subst (λ castle. IsBody P m castle man.kind appended.0) (sym plain) appended.1;
  mark = marked.0;
  mark_is = subst (λ S. IsCheckSign S marked.0) is_next marked.1;
  text = marked.2 ∙ ap (λ x. x ++ marked.0) (appended.2 ∙ ap (λ x. x ++ appended.0) none);
}
