-- The moves that a text names: over the squares of the men that it speaks of.
use Rattle.std.proofs.Common.{Result, IfOk, OnErr, IsErrOf}
use Rattle.chess.proofs.Common.{◌≡◌, ◌≢◌, ◌↔◌, ◌&&◌, ◌+◌, ◌⊎◌, ℕ, Bool, true, false, not, inl, inr}
use Rattle.chess.proofs.Common.{ap, refl, sym, subst, ◌∙◌, arith, Option, Some, None, Ok, Err}
use Rattle.chess.proofs.Common.{IsTrue, MatchOption, is_some, IfSome, List, [], ◌∷◌, ◌++◌, ◌≤◌}
use Rattle.chess.proofs.Common.{same_Some, Place, IsOnBoard, man_at, State, IsPseudoLegal, IsLegal}
use Rattle.chess.proofs.Common.{Goes, Castles, after, Said, Spells, IsCastlingText, Agrees, IsNamed}
use Rattle.chess.proofs.Common.{IsOnlyNamed, letter_text, file_text, rank_text, IsFileOrRank}
use Rattle.chess.proofs.Common.{kind_letter, is_sign, square_text, said_by, IsReadSaid, IsCandidate}
use Rattle.chess.proofs.Common.{CanGoSaid, IsMoveSaid, IsCastlingOn, move_from, castling_on}
use Rattle.chess.proofs.Common.{man_said, IsSpokenOf, Places, is_in, HoldsExactly, IsTakenFirst}
use Rattle.chess.proofs.Common.{IsLeft, Man, Kind, King, Queen, Rook, Bishop, Knight, Pawn, Wing}
use Rattle.chess.proofs.Common.{Move, ParsedSan, and_false}
use Rattle.chess.specs.Private.SanWords.{IsNext, HasNone}
use Rattle.chess.specs.Private.SanAnswers.{IsAnswer, IsPlayed}
use Rattle.chess.specs.declared.move_text.SanError.{SanError}
use Rattle.chess.proofs.PlaceFacts.{cases_place, same_square-same, true_not_false, same_side}
use Rattle.chess.proofs.PlaceFacts.{man_of}
use Rattle.chess.proofs.LoopFacts.{left_more}
use Rattle.chess.proofs.GoesFacts.{goes_castle}
use Rattle.chess.proofs.CastlingTextFacts.{BeginsCastling, Begins, castling_begins}
use Rattle.chess.specs.declared.move_text.SanError.TheVariants as errors

-- the square that was taken out is gone
gone : (old new : Places) (t s : Place) → IsTakenFirst old new (Some t) → is_in new s ≡ true → s ≡ t
    → ⊥
gone old new t s capture_square here e =
    true_not_false (is_in new s) here
    (capture_square.3 s ∙ ap (λ b. is_in old s && not b) (same_square-same s t e)
    ∙ and_false (is_in old s))

pub next_found : (fact : Place → Type 0) (squares old new : Places) (t : Place)
    → IsLeft (λ s. is_in squares s ≡ true) (λ s. (is_in squares s ≡ true) × fact s) old
    → IsTakenFirst old new (Some t) → fact t → IsNext fact squares new t
next_found fact squares old new t left capture_square fits =
    let other : IsLeft (λ s. is_in squares s ≡ true) (λ s. (is_in squares s ≡ true) × fact s
    × (s ≢ t)) old =
    record { each = λ s on holds. left.each s on (holds.0, holds.1); within = left.within } in
    let more =
    left_more (λ s. is_in squares s ≡ true) (λ s. (is_in squares s ≡ true) × fact s
    × (s ≢ t)) old new t other capture_square (λ holds. holds.2 refl) in record {
      on_board = capture_square.0;
      here = left.within t capture_square.0 capture_square.1;
      fits = fits;
      each = λ s on here holds apart. more.each s on (here, holds, apart);
      within = λ s on here. (more.within s on here, (λ e. gone old new t s capture_square here e));
    }

-- ---- the man and the move that are spoken of

pub said_move : (P : State) (said : Said) (m : Move) → Agrees P said m → move_from said m.from ≡ m
said_move P said m agrees = λ i. record {
  from = m.from;
  to = sym agrees.target i;
  promote = sym agrees.promote i;
  castle = sym agrees.not_castling i;
}

pub said_legal : (P : State) (said : Said) (m : Move) → IsMoveSaid P said m
    → CanGoSaid P said m.from
said_legal P said m named = subst (IsLegal P) (sym (said_move P said m named.1)) named.0

pub said_on : (P : State) (said : Said) (m : Move) → IsMoveSaid P said m → IsOnBoard m.from
said_on P said m named = named.0.pseudo_legal.from

pub agreed_man : (P : State) (said : Said) (m : Move) → IsPseudoLegal P m → Agrees P said m
    → man_at P.men m.from ≡ Some (man_said P said)
agreed_man P said m rules agrees =
    let side : agrees.man.side ≡ P.turn =
    same_side agrees.man rules.man (sym agrees.here ∙ rules.here) ∙ rules.own in
    agrees.here
    ∙ ap (λ (man : Man). Some man) (man_of agrees.man (man_said P said) side agrees.kind)

pub agreed_candidate : (P : State) (said : Said) (m : Move) → IsPseudoLegal P m → Agrees P said m
    → IsCandidate P said m.from
agreed_candidate P said m rules agrees = record {
  here = agreed_man P said m rules agrees;
  asked = (agrees.file, agrees.rank);
  stays = λ pawn none. agrees.stays (agrees.kind ∙ pawn) none
      ∙ ap (λ (s : Place). s.file) agrees.target;
  rules = subst (IsPseudoLegal P) (sym (said_move P said m agrees)) rules;
}

pub said_man : (P : State) (said : Said) (m : Move) → IsMoveSaid P said m
    → man_at P.men m.from ≡ Some (man_said P said)
said_man P said m named = agreed_man P said m named.0.pseudo_legal named.1

pub said_candidate : (P : State) (said : Said) (m : Move) → IsMoveSaid P said m
    → IsCandidate P said m.from
said_candidate P said m named = agreed_candidate P said m named.0.pseudo_legal named.1

pub agrees_candidate : (P : State) (said : Said) (s : Place) → IsCandidate P said s
    → Agrees P said (move_from said s)
agrees_candidate P said s candidates = record {
  not_castling = refl;
  man = man_said P said;
  here = candidates.here;
  kind = refl;
  target = refl;
  file = candidates.asked.0;
  rank = candidates.asked.1;
  promote = refl;
  stays = candidates.stays;
}

pub candidate_said : (P : State) (said : Said) (s : Place) → IsCandidate P said s
    → CanGoSaid P said s → IsMoveSaid P said (move_from said s)
candidate_said P said s candidates legal = (legal, agrees_candidate P said s candidates)

pub said_only : (P : State) (said : Said) (squares rest : Places) (s : Place)
    → HoldsExactly (IsCandidate P said) squares
    → IsNext (CanGoSaid P said) squares rest s → HasNone (CanGoSaid P said) rest
    → IsMoveSaid P said (move_from said s)
    × ((n : Move) → IsMoveSaid P said n → n ≡ move_from said s)
said_only P said squares rest s are next none = (
  candidate_said P said s ((are s).0 next.here).1 next.fits,
  (λ n named. elim (cases_place n.from s) [
    | inl same ↦ sym (said_move P said n named.1) ∙ ap (move_from said) same
    | inr other ↦
        let legal = said_legal P said n named in
        let on = said_on P said n named in
        absurd (none n.from on
        (next.each n.from on ((are n.from).1 (on, said_candidate P said n named)) legal other)
        legal)
  ]),
)

pub said_none : (P : State) (said : Said) (squares : Places)
    → HoldsExactly (IsCandidate P said) squares → HasNone (CanGoSaid P said) squares
    → (n : Move) → IsMoveSaid P said n → ⊥
said_none P said squares are none n named =
    let on = said_on P said n named in
    none n.from on ((are n.from).1 (on, said_candidate P said n named))
    (said_legal P said n named)

pub said_several : (P : State) (said : Said) (squares rest more : Places) (s t : Place)
    → HoldsExactly (IsCandidate P said) squares
    → IsNext (CanGoSaid P said) squares rest s → IsNext (CanGoSaid P said) rest more t
    → (m n : Move) × IsMoveSaid P said m × IsMoveSaid P said n × (m ≢ n)
said_several P said squares rest more s t are next second =
    let before = next.within t second.on_board second.here in (
      move_from said s,
      move_from said t,
      candidate_said P said s ((are s).0 next.here).1 next.fits,
      candidate_said P said t ((are t).0 before.0).1 second.fits,
      (λ e. before.1 (sym (ap (λ (m : Move). m.from) e))),
    )

-- ---- castling

pub castling_is : (P : State) (wing : Wing) (n : Move) → IsPseudoLegal P n → n.castle ≡ Some wing
    → n ≡ castling_on P.turn wing
castling_is P wing n rules castle =
    let goes = goes_castle P n rules.man.kind rules.goes wing castle in
    let castles : Castles P wing n = goes.1 in
    let plain : n.promote ≡ None = (subst (Goes P n) goes.0 rules.goes).0 in
    λ i. record { from = castles.from i; to = castles.to i; promote = plain i; castle = castle i }

pub castling_only : (P : State) (wing : Wing) (n : Move) → IsCastlingOn P wing n
    → n ≡ castling_on P.turn wing
castling_only P wing n named = castling_is P wing n named.0.pseudo_legal named.1

-- ---- answers

pub same_answer : (fact own : Move → Type 0) (result : Result Move SanError)
    → ((m : Move) → fact m → own m) → ((m : Move) → own m → fact m)
    → IsAnswer fact result → IsAnswer own result
same_answer fact own (Ok m) there back answer =
    (there m answer.0, (λ n holds. answer.1 n (back n holds)))
same_answer fact own (Err errors.None) there back answer = λ m holds. answer m (back m holds)
same_answer fact own (Err errors.Several) there back answer =
    (answer.0, answer.1, there answer.0 answer.2, there answer.1 answer.3, answer.4)

pub answer_only : (P : State) (x : List ℕ) (result : Result Move SanError)
    → IsAnswer (IsNamed P x) result → IfOk result (λ m. IsOnlyNamed P x m)
answer_only P x (Ok m) answer = record { named = answer.0; only = answer.1 }
answer_only P x (Err e) answer = tt

pub played_after : (old new : State) (result : Result Move SanError) → IsPlayed old new result
    → IfOk result (λ m. new ≡ after old m)
played_after old new (Ok m) played = played
played_after old new (Err e) played = tt

pub played_not : (old new : State) (result : Result Move SanError) → IsPlayed old new result
    → OnErr result (new ≡ old)
played_not old new (Ok m) played = tt
played_not old new (Err e) played = played

pub answer_none : (fact : Move → Type 0) (result : Result Move SanError) → IsAnswer fact result
    → IsErrOf result errors.None ↔ ((m : Move) → fact m → ⊥)
answer_none fact (Ok m) answer = ((λ e. absurd (cc)), (λ none. absurd (none m answer.0)))
answer_none fact (Err errors.None) answer = ((λ e. answer), (λ none. refl))
answer_none fact (Err errors.Several) answer =
    ((λ e. absurd (cc)), (λ none. absurd (none answer.0 answer.2)))

pub answer_several : (fact : Move → Type 0) (result : Result Move SanError) → IsAnswer fact result
    → IsErrOf result errors.Several ↔ ((m n : Move) × fact m × fact n × (m ≢ n))
answer_several fact (Ok m) answer = (
  (λ e. absurd (cc)),
  (λ two. absurd (two.4 (answer.1 two.0 two.2 ∙ sym (answer.1 two.1 two.3)))),
)
answer_several fact (Err errors.None) answer =
    ((λ e. absurd (cc)), (λ two. absurd (answer two.0 two.2)))
answer_several fact (Err errors.Several) answer = ((λ e. answer), (λ two. refl))

-- ---- texts

-- no other move text begins as castling does
no_letter : (kind : Kind) → BeginsCastling (kind_letter kind) → ⊥
no_letter King (inl e) = absurd (omega arith)
no_letter King (inr e) = absurd (omega arith)
no_letter Queen (inl e) = absurd (omega arith)
no_letter Queen (inr e) = absurd (omega arith)
no_letter Rook (inl e) = absurd (omega arith)
no_letter Rook (inr e) = absurd (omega arith)
no_letter Bishop (inl e) = absurd (omega arith)
no_letter Bishop (inr e) = absurd (omega arith)
no_letter Knight (inl e) = absurd (omega arith)
no_letter Knight (inr e) = absurd (omega arith)
no_letter Pawn (inl e) = absurd (omega arith)
no_letter Pawn (inr e) = absurd (omega arith)

no_number : (start n b : ℕ) → b ≡ start + n → 1 ≤ n → n ≤ 8 → (start ≡ 96) ⊎ (start ≡ 48)
    → BeginsCastling b → ⊥
no_number start n b e low high (inl f) (inl g) = omega arith
no_number start n b e low high (inl f) (inr g) = omega arith
no_number start n b e low high (inr f) (inl g) = omega arith
no_number start n b e low high (inr f) (inr g) = omega arith

no_sign : (b : ℕ) → IsTrue (is_sign b) → BeginsCastling b → ⊥
no_sign b sign (inl e) = let f : false ≡ true = ap is_sign (sym e) ∙ sign in cc
no_sign b sign (inr e) = let f : false ≡ true = ap is_sign (sym e) ∙ sign in cc

no_target : (sign : List ℕ) (s : Place) (more : List ℕ)
    → (sign ≡ []) ⊎ ((b : ℕ) × IsTrue (is_sign b) × (sign ≡ b ∷ [])) → IsOnBoard s
    → Begins BeginsCastling (sign ++ (square_text s ++ more)) → ⊥
no_target sign s more (inl none) on begins =
    no_number 96 s.file (96 + s.file) refl on.file_low on.file_high (inl refl)
    (subst (λ y. Begins BeginsCastling (y ++ (square_text s ++ more))) none begins)
no_target sign s more (inr found) on begins =
    no_sign found.0 found.1
    (subst (λ y. Begins BeginsCastling (y ++ (square_text s ++ more))) found.2 begins)

no_parts : (letter : Option Kind) (file rank : Option ℕ) (rest : List ℕ) → IfSome file IsFileOrRank
    → IfSome rank IsFileOrRank
    → (Begins BeginsCastling rest → ⊥)
    → Begins BeginsCastling (letter_text letter ++ (file_text file ++ (rank_text rank ++ rest)))
    → ⊥
no_parts (Some kind) file rank rest f r none begins = no_letter kind begins
no_parts None (Some n) rank rest f r none begins =
    no_number 96 n (96 + n) refl f.0 f.1 (inl refl) begins
no_parts None None (Some n) rest f r none begins =
    no_number 48 n (48 + n) refl r.0 r.1 (inr refl) begins
no_parts None None None rest f r none begins = none begins

pub not_both : (x : List ℕ) (wing : Wing) (said : Said) → IsCastlingText wing x → Spells x said → ⊥
not_both x wing said castles spells =
    no_parts said.letter said.file said.rank _ spells.file spells.rank
    (no_target spells.sign said.target _ spells.sign_is spells.target)
    (subst (Begins BeginsCastling) spells.text (castling_begins x wing castles))

-- what was read of a text: the wing on which it castles, and what it says otherwise
abbrev pub AreCastling : List ℕ → Option Wing → Type 0
AreCastling x read = (w : Wing) → IsCastlingText w x ↔ (read ≡ Some w)

abbrev pub AreSaid : List ℕ → Option Said → Type 0
AreSaid x said = (s : Said) → Spells x s ↔ (said ≡ Some s)

pub no_wing : (x : List ℕ) (read : Option Wing) → AreCastling x read → read ≡ None → (w : Wing)
    → IsCastlingText w x → ⊥
no_wing x read texts is w castles = let e : None ≡ Some w = sym is ∙ (texts w).0 castles in cc

-- a move that the text speaks of, where it castles, or says something
pub by_castling : (P : State) (x : List ℕ) (wing : Wing) (read : Option Wing) (m : Move)
    → AreCastling x read → read ≡ Some wing → IsSpokenOf P x m → m.castle ≡ Some wing
by_castling P x wing read m texts is (inl by) =
    by.2 ∙ ap (λ (w : Wing). Some w) (same_Some by.0 wing (sym ((texts by.0).0 by.1) ∙ is))
by_castling P x wing read m texts is (inr by) =
    absurd (not_both x wing by.0 ((texts wing).1 is) by.1)

pub by_none : (P : State) (x : List ℕ) (read : Option Wing) (said : Option Said) (m : Move)
    → AreCastling x read → read ≡ None → AreSaid x said → said ≡ None → IsSpokenOf P x m → ⊥
by_none P x read said m texts is spelled none (inl by) = no_wing x read texts is by.0 by.1
by_none P x read said m texts is spelled none (inr by) = let e : None ≡ Some by.0 =
    sym none ∙ (spelled by.0).0 by.1 in absurd (cc)

pub by_said : (P : State) (x : List ℕ) (read : Option Wing) (said : Option Said) (own : Said)
    (m : Move) → AreCastling x read → read ≡ None → AreSaid x said → said ≡ Some own
    → IsSpokenOf P x m → Agrees P own m
by_said P x read said own m texts is spelled found (inl by) =
    absurd (no_wing x read texts is by.0 by.1)
by_said P x read said own m texts is spelled found (inr by) =
    subst (λ s. Agrees P s m) (same_Some by.0 own (sym ((spelled by.0).0 by.1) ∙ found)) by.2

-- so each move that it names
pub castling_named : (P : State) (x : List ℕ) (wing : Wing) (read : Option Wing)
    → AreCastling x read → read ≡ Some wing
    → ((m : Move) → IsCastlingOn P wing m → IsNamed P x m)
    × ((m : Move) → IsNamed P x m → IsCastlingOn P wing m)
castling_named P x wing read texts is = (
  (λ m holds. record { legal = holds.0; by = inl (wing, (texts wing).1 is, holds.1) }),
  (λ m named. (named.legal, by_castling P x wing read m texts is named.by)),
)

pub said_named : (P : State) (x : List ℕ) (read : Option Wing) (said : Option Said) (own : Said)
    → AreCastling x read → read ≡ None → AreSaid x said → said ≡ Some own
    → ((m : Move) → IsMoveSaid P own m → IsNamed P x m)
    × ((m : Move) → IsNamed P x m → IsMoveSaid P own m)
said_named P x read said own texts is spelled found = (
  (λ m holds. record { legal = holds.0; by = inr (own, (spelled own).1 found, holds.1) }),
  (λ m named. (named.legal, by_said P x read said own m texts is spelled found named.by)),
)

pub named_castling : (P : State) (x : List ℕ) (wing : Wing) (read : Option Wing)
    (result : Result Move SanError)
    → AreCastling x read → read ≡ Some wing → IsAnswer (IsCastlingOn P wing) result
    → IsAnswer (IsNamed P x) result
named_castling P x wing read result texts is answer =
    let same = castling_named P x wing read texts is in
    same_answer (IsCastlingOn P wing) (IsNamed P x) result same.0 same.1 answer

pub named_none : (P : State) (x : List ℕ) (read : Option Wing) (said : Option Said)
    → AreCastling x read → read ≡ None
    → AreSaid x said → said ≡ None → (m : Move) → IsNamed P x m → ⊥
named_none P x read said texts is spelled none m named =
    by_none P x read said m texts is spelled none named.by

-- a text that says a move is not that of castling
pub read_no_castling : (x : List ℕ) (r : ParsedSan) → IsReadSaid x (Some r) → AreCastling x None
read_no_castling x r read wing = (
  (λ text. absurd (not_both x wing (said_by r) text ((read (said_by r)).1 refl))),
  (λ e. absurd (cc)),
)

pub named_said : (P : State) (x : List ℕ) (read : Option Wing) (said : Option Said) (own : Said)
    (result : Result Move SanError)
    → AreCastling x read → read ≡ None → AreSaid x said → said ≡ Some own
    → IsAnswer (IsMoveSaid P own) result → IsAnswer (IsNamed P x) result
named_said P x read said own result texts is spelled found answer =
    let same = said_named P x read said own texts is spelled found in
    same_answer (IsMoveSaid P own) (IsNamed P x) result same.0 same.1 answer

pub said_answer : (P : State) (x : List ℕ) (r : ParsedSan) (result : Result Move SanError)
    → IsReadSaid x (Some r)
    → IsAnswer (IsMoveSaid P (said_by r)) result → IsAnswer (IsNamed P x) result
said_answer P x r result read answer =
    named_said P x None (Some (said_by r)) (said_by r) result (read_no_castling x r read) refl read
    refl answer

-- what an answer gives where it is asked whether there is one
pub none_given : {A : Type 0} (none : Type 0) (some : A → Type 0) (o : Option A) (b : Bool)
    → MatchOption o none some → b ≡ is_some o → b ≡ false → none
none_given none some None b m e f = m
none_given none some (Some x) b m e f = let clash : true ≡ false = sym e ∙ f in absurd (cc)

pub some_given : {A : Type 0} (none : Type 0) (some : A → Type 0) (o : Option A) (b : Bool)
    → MatchOption o none some → b ≡ is_some o → b ≡ true
    → (x : A) × some x
some_given none some None b m e f = let clash : false ≡ true = sym e ∙ f in absurd (cc)
some_given none some (Some x) b m e f = (x, m)
