-- Where a man arrives by a move whose text is like a word.
use Rattle.pgn_criteria.proofs.Common.{◌≡◌, ◌+◌, ◌*◌, ◌-◌, ◌≤◌, ◌<◌, ◌++◌, ℕ, suc, List, []}
use Rattle.pgn_criteria.proofs.Common.{◌∷◌, length, get_or, Option, Some, None, IfSome, refl, sym}
use Rattle.pgn_criteria.proofs.Common.{ap, ◌∙◌, subst, inl, inr, arith, append_assoc, append-nil}
use Rattle.pgn_criteria.proofs.Common.{length-append, same_Some, file_letter, rank_digit}
use Rattle.pgn_criteria.proofs.Common.{kind_letter, State, man_at, IsSan, IsLegal, Place, square_at}
use Rattle.pgn_criteria.proofs.Common.{Kind, King, Queen, Rook, Bishop, Knight, Pawn, Man, Wing}
use Rattle.pgn_criteria.proofs.Common.{IsLike, without_check_signs, PlyCode, Replay}
use Rattle.pgn_criteria.proofs.Common.{AllByRecursion, GoesOnBy, true, if◌then◌else◌}
use Rattle.std.proofs.lemmas.Option.{IfSome_then}
use Rattle.chess.specs.Public.Letters.{square_text}
use Rattle.chess.specs.Public.Moves.{Goes, arriving}
use Rattle.chess.specs.Public.San.{IsBody, IsPieceText, promotion_text, capture_text, is_capture}
use Rattle.chess.specs.declared.moves.Move.{Move}
use Rattle.pgn_game.specs.Public.PlyCodes.{IsCode}
use Rattle.pgn_criteria.specs.Private.Arrivals.{BeginsBy, EndsWithSquare}
use Rattle.pgn_criteria.specs.Private.Arrivals.{IsFirstByte, IsSuchPly, Tells}
use Rattle.pgn_criteria.specs.Private.MoveEnds.{EndsWith}
use Rattle.pgn_criteria.specs.Public.Prefilters.{IsPlayedBy}
use Rattle.pgn_criteria.specs.declared.by_record.Arrival.{Arrival}
use Rattle.pgn_criteria.specs.declared.by_record.Sought.{Sought}
use Rattle.pgn_criteria.specs.declared.by_record.Sought.TheVariants.{Arrival as Arrives, Castling}
use Rattle.pgn_criteria.proofs.CodedLines.{code_of_move}
use Rattle.pgn_criteria.proofs.EndFacts.{Begins, Ends, bare_text, begins_text, ends_text}
use Rattle.pgn_criteria.proofs.EndFacts.{like_begins}

-- ---- the last two bytes

two_last : (x y : List ℕ) (b d e f : ℕ) → x ++ b ∷ d ∷ [] ≡ y ++ e ∷ f ∷ [] → (b ≡ e) × (d ≡ f)
two_last [] [] b d e f same = (cc (same), cc (same))
two_last [] (g ∷ y) b d e f same =
    let size : 2 ≡ length ((g ∷ y) ++ e ∷ f ∷ []) = ap length same in
    absurd (omega (arith, size, length-append (g ∷ y) (e ∷ f ∷ [])))
two_last (g ∷ x) [] b d e f same =
    let size : length ((g ∷ x) ++ b ∷ d ∷ []) ≡ 2 = ap length same in
    absurd (omega (arith, size, length-append (g ∷ x) (b ∷ d ∷ [])))
two_last (g ∷ x) (h ∷ y) b d e f same =
    let tails : x ++ b ∷ d ∷ [] ≡ y ++ e ∷ f ∷ [] = cc (same) in two_last x y b d e f tails

last_two : (b d : ℕ) (word : List ℕ) → (front : List ℕ)
    × (b ∷ d ∷ word
    ≡ front ++ get_or (b ∷ d ∷ word) (length word) 0
    ∷ get_or (b ∷ d ∷ word) (suc (length word)) 0 ∷ [])
last_two b d [] = ([], refl)
last_two b d (e ∷ word) = let rest = last_two d e word in (b ∷ rest.0, ap (λ x. b ∷ x) rest.1)

-- a word of two bytes and more ends with two
pub two_parts : (word : List ℕ) → 2 ≤ length word → (front : List ℕ)
    × (word ≡ front ++ get_or word (length word - 2) 0 ∷ get_or word (length word - 1) 0 ∷ [])
two_parts [] long = absurd (omega (arith, long))
two_parts (b ∷ []) long = absurd (omega (arith, long))
two_parts (b ∷ d ∷ word) long =
    let rest = last_two b d word in
    let first : length word ≡ length (b ∷ d ∷ word) - 2 = omega arith in
    let second : suc (length word) ≡ length (b ∷ d ∷ word) - 1 = omega arith in (
      rest.0,
      rest.1
          ∙ ap (λ n. rest.0 ++ get_or (b ∷ d ∷ word) n 0
          ∷ get_or (b ∷ d ∷ word) (suc (length word)) 0 ∷ []) first
          ∙ ap (λ n. rest.0 ++ get_or (b ∷ d ∷ word) (length (b ∷ d ∷ word) - 2) 0
          ∷ get_or (b ∷ d ∷ word) n 0 ∷ []) second,
    )

-- so the number of the square is read off them
pub ends_with_square : (word front : List ℕ) (file rank : ℕ) → word ≡ front ++ file ∷ rank ∷ []
    → 97 ≤ file → file ≤ 104 → 49 ≤ rank → rank ≤ 56
    → EndsWithSquare word (8 * (rank - 49) + (file - 97))
ends_with_square word front file rank is a h one eight =
    let s = square_at (8 * (rank - 49) + (file - 97)) in
    let first : file ≡ file_letter s.file = omega (arith, a, h, one, eight) in
    let second : rank ≡ rank_digit s.rank = omega (arith, a, h, one, eight) in (
      omega (arith, a, h, one, eight),
      (
        front,
        is ∙ ap (λ x. front ++ x ∷ rank ∷ []) first
            ∙ ap (λ x. front ++ file_letter s.file ∷ x ∷ []) second,
      ),
    )

-- what is like a word that ends with two bytes ends with them
like_ends_two : (front : List ℕ) (b d : ℕ) (text : List ℕ) → (b ≡ 42 → ⊥) → (d ≡ 42 → ⊥)
    → IsLike (front ++ b ∷ d ∷ []) text → (own : List ℕ) × (text ≡ own ++ b ∷ d ∷ [])
like_ends_two [] b d text plain last (inl (is, rest)) = absurd (plain is)
like_ends_two [] b d text plain last (inr (rest, parts, inl (is, more))) = absurd (last is)
like_ends_two [] b d text plain last (inr (rest, parts, inr (none, more, end))) =
    ([], parts ∙ ap (λ x. b ∷ x) (more ∙ ap (λ x. d ∷ x) end))
like_ends_two (first ∷ front) b d text plain last (inl (is, (some, rest, parts, like))) =
    let own = like_ends_two front b d rest plain last like in (
      some ++ own.0,
      parts ∙ ap (λ x. some ++ x) own.1 ∙ sym (append_assoc some own.0 (b ∷ d ∷ [])),
    )
like_ends_two (first ∷ front) b d text plain last (inr (rest, parts, like)) =
    let own = like_ends_two front b d rest plain last like in
    (first ∷ own.0, parts ∙ ap (λ x. first ∷ x) own.1)

-- ---- the square at the end of a move's text

high_letter : (kind : Kind) → 60 ≤ kind_letter kind
high_letter King = omega arith
high_letter _ = omega arith

-- two bytes are the text of the square
abbrev IsTextOf : Place → ℕ → ℕ → Type 0
IsTextOf to b d = (b ≡ file_letter to.file) × (d ≡ rank_digit to.rank)

told_pawn : (to : Place) (promote : Option Kind) (taking front : List ℕ) (b d : ℕ) → d < 60
    → taking ++ (square_text to ++ promotion_text true promote) ≡ front ++ b ∷ d ∷ []
    → (promote ≡ None) × IsTextOf to b d
told_pawn to None taking front b d low same =
    let parts : taking ++ square_text to ≡ front ++ b ∷ d ∷ [] =
    ap (λ x. taking ++ x) (sym (append-nil (square_text to))) ∙ same in
    let two = two_last taking front (file_letter to.file) (rank_digit to.rank) b d parts in
    (refl, (sym two.0, sym two.1))
told_pawn to (Some piece) taking front b d low same =
    let parts : (taking ++ square_text to) ++ 61 ∷ kind_letter piece ∷ [] ≡ front ++ b ∷ d ∷ [] =
    append_assoc taking (square_text to) (61 ∷ kind_letter piece ∷ []) ∙ same in
    let two = two_last (taking ++ square_text to) front 61 (kind_letter piece) b d parts in
    absurd (omega (arith, low, two.1, high_letter piece))

told_piece : (P : State) (m : Move) (piece : Kind) (x front : List ℕ) (b d : ℕ)
    → IsPieceText P m piece x → x ≡ front ++ b ∷ d ∷ [] → IsTextOf m.to b d
told_piece P m piece x front b d (origin, is, text) same =
    let parts : (kind_letter piece ∷ (origin ++ capture_text P m)) ++ square_text m.to
    ≡ front ++ b ∷ d ∷ [] =
    ap (λ y. kind_letter piece ∷ y) (append_assoc origin (capture_text P m) (square_text m.to))
    ∙ sym text ∙ same in
    let two =
    two_last (kind_letter piece ∷ (origin ++ capture_text P m)) front (file_letter m.to.file)
    (rank_digit m.to.rank) b d parts in
    (sym two.0, sym two.1)

told_body : (P : State) (m : Move) (piece : Kind) (x front : List ℕ) (b d : ℕ) → d < 60
    → IsBody P m None piece x → Goes P m piece → x ≡ front ++ b ∷ d ∷ []
    → (m.promote ≡ None) × IsTextOf m.to b d
told_body P m Pawn x front b d low is goes same =
    told_pawn m.to m.promote (if is_capture P m then file_letter m.from.file ∷ 120 ∷ []
    else []) front b d low (sym is ∙ same)
told_body P m King x front b d low is goes same =
    (goes.0, told_piece P m King x front b d is same)
told_body P m Queen x front b d low is goes same =
    (goes.1, told_piece P m Queen x front b d is same)
told_body P m Rook x front b d low is goes same =
    (goes.1, told_piece P m Rook x front b d is same)
told_body P m Bishop x front b d low is goes same =
    (goes.1, told_piece P m Bishop x front b d is same)
told_body P m Knight x front b d low is goes same =
    (goes.1, told_piece P m Knight x front b d is same)

no_castle : (m : Move) (castle : Option Wing) (promote : Option Kind) (d : ℕ) → d < 60
    → Ends m castle promote d → castle ≡ None
no_castle m None promote d low ends = refl
no_castle m (Some wing) promote d low ends = absurd (omega (arith, low, ends))

-- ---- the first byte

begins_by : (m : Move) (code : PlyCode) → code.from ≡ m.from → code.to ≡ m.to
    → (piece : Kind) (b : ℕ) → Begins m None piece b → BeginsBy code piece b
begins_by m code from to Pawn b (inl is) =
    inl (is ∙ ap (λ (s : Place). file_letter s.file) (sym from))
begins_by m code from to Pawn b (inr is) =
    inr (is ∙ ap (λ (s : Place). file_letter s.file) (sym to))
begins_by m code from to King b is = is
begins_by m code from to Queen b is = is
begins_by m code from to Rook b is = is
begins_by m code from to Bishop b is = is
begins_by m code from to Knight b is = is

-- ---- both ends

-- what is told of a move by its text: the man that goes arrives on the square at the end, and no
-- pawn becomes a piece
record IsTold (P : State) (m : Move) (text : List ℕ) (san : IsSan P m text) (s : Place) : Type 0
  where
    castle : m.castle ≡ None
    promote : m.promote ≡ None
    to : m.to ≡ s

same_place : (s t : Place) (b d : ℕ) → b ≡ file_letter s.file → d ≡ rank_digit s.rank
    → b ≡ file_letter t.file → d ≡ rank_digit t.rank → s ≡ t
same_place s t b d first second third fourth =
    let file : s.file ≡ t.file = omega (arith, first, third) in
    let rank : s.rank ≡ t.rank = omega (arith, second, fourth) in
    λ i. record { file = file i; rank = rank i }

told : (P : State) (m : Move) (text word : List ℕ) (square : ℕ) (san : IsSan P m text)
    → IsLegal P m → EndsWithSquare word square → IsLike word (without_check_signs text)
    → IsTold P m text san (square_at square)
told P m text word square san legal (low, (front, ends)) like =
    let s = square_at square in
    let b = file_letter s.file in
    let d = rank_digit s.rank in
    let bare = bare_text P m text san in
    let end = like_ends_two front b d (without_check_signs text) (λ star. omega (arith, star))
    (λ star. omega (arith, star))
    (subst (λ w. IsLike w (without_check_signs text)) ends like) in
    let small : d < 60 = omega (arith, low) in
    let last : EndsWith d (without_check_signs text) =
    (end.0 ++ b ∷ [], end.1 ∙ sym (append_assoc end.0 (b ∷ []) (d ∷ []))) in
    let castle = no_castle m m.castle m.promote d small (ends_text P m text d san last) in
    let body : IsBody P m None san.man.kind san.body =
    subst (λ c. IsBody P m c san.man.kind san.body) castle san.body_is in
    let same : legal.pseudo_legal.man ≡ san.man =
    same_Some legal.pseudo_legal.man san.man (sym legal.pseudo_legal.here ∙ san.here) in
    let goes : Goes P m san.man.kind =
    subst (λ (man : Man). Goes P m man.kind) same legal.pseudo_legal.goes in
    let both = told_body P m san.man.kind san.body end.0 b d small body goes (sym bare ∙ end.1) in
    record {
      castle = castle;
      promote = both.0;
      to = same_place m.to s b d both.1.0 both.1.1 refl refl;
    }

begun : (P : State) (m : Move) (code : PlyCode) (text word : List ℕ) (b : ℕ)
    (san : IsSan P m text) → IsCode P m code → m.castle ≡ None → m.promote ≡ None
    → IsFirstByte word b → IsLike word (without_check_signs text)
    → BeginsBy code code.man.kind b
begun P m code text word b san is castle promote (plain, (rest, front)) like =
    let begins = begins_text P m text b san
    (like_begins b rest (without_check_signs text) plain
    (subst (λ w. IsLike w (without_check_signs text)) front like)) in
    let arrives : man_at P.men m.from ≡ Some code.man =
    subst (λ p. arriving P p m.from ≡ Some code.man) promote is.man in
    let man : san.man ≡ code.man = same_Some san.man code.man (sym san.here ∙ arrives) in
    begins_by m code is.from is.to code.man.kind b
    (subst (λ (x : Man). Begins m None x.kind b) man
    (subst (λ c. Begins m c san.man.kind b) castle begins))

-- so the two ends of a word tell the man who arrives
pub both_tell : (word : List ℕ) (asked : Arrival) → EndsWithSquare word asked.square
    → IfSome asked.first (IsFirstByte word) → Tells word (Arrives asked)
both_tell word asked ends first P m code text legal is san like =
    let his = told P m text word asked.square san legal ends like in (
      is.to ∙ his.to,
      IfSome_then asked.first first (λ b begins.
          begun P m code text word b san is his.castle his.promote begins like),
    )

castle_begins : (m : Move) (castle : Option Wing) (piece : Kind) → Begins m castle piece 79
    → castle ≡ None → ⊥
castle_begins m (Some wing) piece begins none = absurd (cc (none))
castle_begins m None Pawn (inl is) none = omega (arith, is)
castle_begins m None Pawn (inr is) none = omega (arith, is)
castle_begins m None King is none = omega (arith, is)
castle_begins m None Queen is none = omega (arith, is)
castle_begins m None Rook is none = omega (arith, is)
castle_begins m None Bishop is none = omega (arith, is)
castle_begins m None Knight is none = omega (arith, is)

castling_told : (word rest : List ℕ) → word ≡ 79 ∷ rest → Tells word Castling
castling_told word rest front P m code text legal is san like none =
    castle_begins m m.castle san.man.kind
    (begins_text P m text 79 san
    (like_begins 79 rest (without_check_signs text) (λ star. omega (arith, star))
    (subst (λ w. IsLike w (without_check_signs text)) front like)))
    (sym is.castle ∙ none)

-- and a word that begins with `O` tells that the move castles
pub castling_tells : (word : List ℕ) → 1 ≤ length word → get_or word 0 0 ≡ 79
    → Tells word Castling
castling_tells [] long first = absurd (omega (arith, long))
castling_tells (b ∷ rest) long first =
    castling_told (b ∷ rest) rest (ap (λ x. x ∷ rest) first)

-- where no ply is such, no move is
pub no_such_move : (word : List ℕ) (sought : Sought) (P : State) (codes : List PlyCode)
    (replay : Replay) → Tells word sought
    → AllByRecursion (λ code. IsSuchPly sought code → ⊥) codes → IsPlayedBy P codes replay
    → (ply : ℕ) → GoesOnBy replay ply word → ⊥
no_such_move word sought P codes replay tells none by ply goes =
    let at = code_of_move (λ code. IsSuchPly sought code → ⊥) P codes replay ply goes.position
    goes.move by goes.here goes.played none in
    at.1 (tells goes.position goes.move at.0 goes.text at.3 at.2 goes.is_text goes.like)
