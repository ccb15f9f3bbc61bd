-- The text of a move as the code of its ply tells it.
use Rattle.std.specs.Prelude.{is_some, not, ◌&&◌}
use Rattle.pgn_criteria.proofs.Common.{◌≡◌, ◌↔◌, ◌⊎◌, ◌++◌, ◌<◌, ◌≤◌, ℕ, Bool, true, false}
use Rattle.pgn_criteria.proofs.Common.{List, [], ◌∷◌, length, Option, Some, None, IsTrue, refl, sym}
use Rattle.pgn_criteria.proofs.Common.{ap, ◌∙◌, subst, append_assoc, arith, inl, inr, same_Some}
use Rattle.pgn_criteria.proofs.Common.{if◌then◌else◌, State, IsSan, IsLegal, Place, Placement, Man}
use Rattle.pgn_criteria.proofs.Common.{man_at, kind_letter, file_letter, rank_digit, slice_get}
use Rattle.pgn_criteria.proofs.Common.{Kind, King, Queen, Rook, Bishop, Knight, Pawn, Wing}
use Rattle.pgn_criteria.proofs.Common.{without_check_signs, IsLike, codes_in, false≢true}
use Rattle.pgn_criteria.proofs.Common.{append-nil, ◌-◌}
use Rattle.pgn_criteria.proofs.Common.{get_or, Places, is_in, is_in-empty, IsSquaresOf}
use Rattle.pgn_criteria.proofs.Common.{AreOnBoard, same_square, same_square-then}
use Rattle.chess.specs.Public.Attacks.{Reaches}
use Rattle.chess.specs.Public.Letters.{square_text}
use Rattle.chess.specs.Public.Moves.{Goes, is_pawn}
use Rattle.chess.specs.Public.San.{HasRival, IsBody, IsDisambiguation, IsPieceText, capture_text}
use Rattle.chess.specs.Public.San.{is_capture, promotion_text}
use Rattle.chess.specs.Public.San.IsDisambiguation.{alone, by_file, by_rank, by_both}
use Rattle.chess.specs.Public.Sets.{HoldsExactly, IsAttacker, no_places}
use Rattle.chess.specs.declared.moves.Move.{Move}
use Rattle.pgn_game.specs.Public.CodeLines.{AreLegalMoves}
use Rattle.pgn_game.specs.Public.PlyCodes.{AreCodes, IsCode}
use Rattle.pgn_criteria.specs.Private.CodedTexts.{IsAloneIn, IsCodedOf, body_of, origin_of}
use Rattle.pgn_criteria.specs.Private.CodedTexts.{Likes, pawn_body, piece_body, text_of}
use Rattle.pgn_criteria.specs.Private.MoveEnds.{IsMoveLike, IsSomeLike}
use Rattle.pgn_criteria.specs.declared.coded.CodedMove.{CodedMove}
use Rattle.pgn_criteria.proofs.EndFacts.{above_kind, bare_text, last_part, no_mark}
use Rattle.pgn_criteria.proofs.MoveFacts.{star_on}
use Rattle.pgn_criteria.proofs.SeenPlyFacts.{first_code}
use Rattle.pgn_criteria.proofs.StandFacts.{below, three}

-- ---- texts that are filled with signs of check

-- a byte that is no such sign stays
stays_first : (b : ℕ) (rest : List ℕ) → 43 < b
    → without_check_signs (b ∷ rest) ≡ b ∷ without_check_signs rest
stays_first b rest above =
    ap (λ t. if t then without_check_signs rest else b ∷ without_check_signs rest)
    (no_mark b above)

-- a byte that stands for another if that is so, and else for none
abbrev pub IsByteIf : Bool → ℕ → ℕ → Type 0
IsByteIf is byte own = (rest : List ℕ) → without_check_signs (own ∷ rest)
    ≡ (if is then byte ∷ [] else []) ++ without_check_signs rest

taking_filled : (takes : Bool) (file from cross : ℕ) (rest : List ℕ) → IsByteIf takes file from
    → IsByteIf takes 120 cross → without_check_signs (from ∷ cross ∷ rest)
    ≡ (if takes then file ∷ 120 ∷ [] else []) ++ without_check_signs rest
taking_filled true file from cross rest first second =
    first (cross ∷ rest) ∙ ap (λ x. file ∷ x) (second rest)
taking_filled false file from cross rest first second = first (cross ∷ rest) ∙ second rest

square_filled : (s : Place) (rest : List ℕ)
    → without_check_signs (file_letter s.file ∷ rank_digit s.rank ∷ rest)
    ≡ square_text s ++ without_check_signs rest
square_filled s rest =
    stays_first (file_letter s.file) (rank_digit s.rank ∷ rest) (omega arith)
    ∙ ap (λ x. file_letter s.file ∷ x) (stays_first (rank_digit s.rank) rest (omega arith))

pub promotion_filled : (kind : Kind) (promote : Option Kind) (letter : ℕ) → promote ≡ Some kind
    → letter ≡ kind_letter kind
    → without_check_signs (61 ∷ letter ∷ []) ≡ promotion_text true promote
promotion_filled kind promote letter is same =
    ap (λ b. without_check_signs (61 ∷ b ∷ [])) same
    ∙ ap (λ x. 61 ∷ x) (stays_first (kind_letter kind) [] (above_kind kind))
    ∙ ap (promotion_text true) (sym is)

pub pawn_filled : (m : Move) (takes : Bool) (from cross file rank : ℕ) (rest : List ℕ)
    → IsByteIf takes (file_letter m.from.file) from → IsByteIf takes 120 cross
    → file ≡ file_letter m.to.file → rank ≡ rank_digit m.to.rank
    → without_check_signs rest ≡ promotion_text true m.promote
    → without_check_signs (from ∷ cross ∷ file ∷ rank ∷ rest) ≡ pawn_body m takes
pawn_filled m takes from cross file rank rest first second on up promotes =
    ap (λ b. without_check_signs (from ∷ cross ∷ b ∷ rank ∷ rest)) on
    ∙ ap (λ b. without_check_signs (from ∷ cross ∷ file_letter m.to.file ∷ b ∷ rest)) up
    ∙ taking_filled takes (file_letter m.from.file) from cross
    (file_letter m.to.file ∷ rank_digit m.to.rank ∷ rest) first second
    ∙ ap (λ x. (if takes then file_letter m.from.file ∷ 120 ∷ [] else []) ++ x)
    (square_filled m.to rest ∙ ap (λ x. square_text m.to ++ x) promotes)

pub piece_filled : (coded : CodedMove) (f r : Bool)
    (letter first second cross file rank : ℕ) → letter ≡ kind_letter coded.man.kind
    → IsByteIf f (file_letter coded.m.from.file) first
    → IsByteIf r (rank_digit coded.m.from.rank) second → IsByteIf coded.takes 120 cross
    → file ≡ file_letter coded.m.to.file → rank ≡ rank_digit coded.m.to.rank
    → without_check_signs (letter ∷ first ∷ second ∷ cross ∷ file ∷ rank ∷ [])
    ≡ piece_body coded (origin_of f r coded.m.from)
piece_filled coded f r letter first second cross file rank is one two takes on up =
    let to = coded.m.to in
    let here = if f then file_letter coded.m.from.file ∷ [] else [] in
    let there = if r then rank_digit coded.m.from.rank ∷ [] else [] in
    let taking = if coded.takes then 120 ∷ [] else [] in
    ap (λ b. without_check_signs (b ∷ first ∷ second ∷ cross ∷ file ∷ rank ∷ [])) is
    ∙ stays_first (kind_letter coded.man.kind) (first ∷ second ∷ cross ∷ file ∷ rank ∷ [])
    (above_kind coded.man.kind)
    ∙ ap (λ x. kind_letter coded.man.kind ∷ x)
    (one (second ∷ cross ∷ file ∷ rank ∷ [])
    ∙ ap (λ x. here ++ x)
    (two (cross ∷ file ∷ rank ∷ [])
    ∙ ap (λ x. there ++ x)
    (takes (file ∷ rank ∷ [])
    ∙ ap (λ x. taking ++ x)
    (ap (λ b. without_check_signs (b ∷ rank ∷ [])) on
    ∙ ap (λ b. without_check_signs (file_letter to.file ∷ b ∷ [])) up ∙ square_filled to [])))
    ∙ sym (append_assoc here there (taking ++ square_text to)))

-- ---- the text of a move that is told

-- what distinguishes a man is his file and his rank, or one of them, or nothing, as where there is
-- no rival
abbrev IsOrigin : State → Move → Bool → Bool → Type 0
IsOrigin P m f r = (¬ HasRival P m (λ s. Unit {0})) → (f ≡ false) × (r ≡ false)

distinguished : (P : State) (m : Move) (x : List ℕ) → IsDisambiguation P m x → (f r : Bool)
    × (x ≡ origin_of f r m.from) × IsOrigin P m f r
distinguished P m _ (alone never) = (false, false, refl, λ none. (refl, refl))
distinguished P m _ (by_file some never) = (true, false, refl, λ none. absurd (none some))
distinguished P m _ (by_rank some never) =
    (false, true, refl, λ none. absurd (none (some.0, some.1, tt)))
distinguished P m _ (by_both some other) =
    (true, true, refl, λ none. absurd (none (some.0, some.1, tt)))

-- the text is the one that is told, with what distinguishes the man
abbrev pub IsTextBy : CodedMove → State → Move → List ℕ → Type 0
IsTextBy coded P m x = (f r : Bool) × (x ≡ body_of coded (origin_of f r coded.m.from))
    × IsOrigin P m f r

module _ (coded : CodedMove) (P : State) (takes : coded.takes ≡ is_capture P coded.m) where
  told_piece : (kind : Kind) (x : List ℕ) → kind ≡ coded.man.kind → IsPieceText P coded.m kind x
      → (f r : Bool) × (x ≡ piece_body coded (origin_of f r coded.m.from)) × IsOrigin P coded.m f r
  told_piece kind x same (origin, is, text) =
      let (f, r, from, only) = distinguished P coded.m origin is in (
        f,
        r,
        text
            ∙ ap (λ (k : Kind). kind_letter k
            ∷ (origin ++ (capture_text P coded.m ++ square_text coded.m.to))) same
            ∙ ap (λ o. kind_letter coded.man.kind
            ∷ (o ++ (capture_text P coded.m ++ square_text coded.m.to))) from
            ∙ ap (λ t. kind_letter coded.man.kind
            ∷ (origin_of f r coded.m.from ++ ((if t then 120 ∷ [] else [])
            ++ square_text coded.m.to))) (sym takes),
        only,
      )

  told_body : (castle : Option Wing) (kind : Kind) (x : List ℕ) → kind ≡ coded.man.kind
      → IsBody P coded.m castle kind x → (f r : Bool)
      × (x ≡ text_of coded (origin_of f r coded.m.from) castle kind) × IsOrigin P coded.m f r
  told_body (Some wing) kind x same is = (false, false, is, λ none. (refl, refl))
  told_body None Pawn x same is =
      (false, false, is ∙ ap (pawn_body coded.m) (sym takes), λ none. (refl, refl))
  told_body None King x same is = told_piece King x same is
  told_body None Queen x same is = told_piece Queen x same is
  told_body None Rook x same is = told_piece Rook x same is
  told_body None Bishop x same is = told_piece Bishop x same is
  told_body None Knight x same is = told_piece Knight x same is

  told_here : (text : List ℕ) → man_at P.men coded.m.from ≡ Some coded.man
      → (san : IsSan P coded.m text) → IsTextBy coded P coded.m (without_check_signs text)
  told_here text here san =
      let same : san.man ≡ coded.man = same_Some san.man coded.man (sym san.here ∙ here) in
      let (f, r, is, only) = told_body coded.m.castle coded.man.kind san.body refl
      (subst (λ (man : Man). IsBody P coded.m coded.m.castle man.kind san.body) same
      san.body_is) in
      (f, r, bare_text P coded.m text san ∙ is, only)

pub text_told : (coded : CodedMove) (P : State) (m : Move) (text : List ℕ) → IsCodedOf coded P m
    → IsSan P m text → IsTextBy coded P m (without_check_signs text)
text_told coded P m text of san =
    subst (λ (n : Move). coded.takes ≡ is_capture P n → man_at P.men n.from ≡ Some coded.man
    → IsSan P n text → IsTextBy coded P n (without_check_signs text)) of.is
    (λ takes here is. told_here coded P takes text here is) of.takes of.here san

-- ---- a man who is alone

goes_there : (P : State) (n : Move) (kind : Kind) → (kind ≡ Pawn → ⊥) → Goes P n kind
    → (kind ≡ King) ⊎ Reaches P.men P.turn kind n.from n.to
goes_there P n Pawn officer goes = absurd (officer refl)
goes_there P n King officer goes = inl refl
goes_there P n Queen officer goes = inr goes.2
goes_there P n Rook officer goes = inr goes.2
goes_there P n Bishop officer goes = inr goes.2
goes_there P n Knight officer goes = inr goes.2

pub no_rival : (coded : CodedMove) (P : State) (m : Move) → IsCodedOf coded P m
    → IsAloneIn P.men coded.man m.from m.to → (coded.man.kind ≡ Pawn → ⊥)
    → ¬ HasRival P m (λ s. Unit {0})
no_rival coded P m of is officer (s, rival, _) =
    let (promote, castle, legal) = rival.goes in
    let step = legal.pseudo_legal in
    let here : man_at P.men s ≡ Some coded.man = rival.alike ∙ of.here in
    let same : step.man ≡ coded.man = same_Some step.man coded.man (sym step.here ∙ here) in
    is s rival.other here
    (subst (λ side. (coded.man.kind ≡ King) ⊎ Reaches P.men side coded.man.kind s m.to)
    (sym step.own ∙ ap (λ (man : Man). man.side) same)
    (goes_there P (record { from = s; to = m.to; promote = promote; castle = castle })
    coded.man.kind officer
    (subst (λ (man : Man). Goes P (record {
      from = s;
      to = m.to;
      promote = promote;
      castle = castle;
    }) man.kind) same step.goes)))

-- no other square is that of such a man
module _ (men : Placement) (man : Man) (from to : Place) (own others : Places)
    (on : AreOnBoard men) (his : IsSquaresOf men man own)
    (left : (s : Place) → is_in others s ≡ (is_in own s && not (same_square s from))) where
  other_there : (s : Place) → (s ≡ from → ⊥) → man_at men s ≡ Some man → is_in others s ≡ true
  other_there s other here =
      let has : is_in own s ≡ true = (his s).1 (on s man here, here) in
      let apart : same_square s from ≡ false = elim (same_square s from) as
      (λ t. same_square s from ≡ t → same_square s from ≡ false) [
        | true ↦ λ e. absurd (other (same_square-then s from e))
        | false ↦ λ e. e
      ] refl in
      left s ∙ ap (λ t. t && not (same_square s from)) has ∙ ap not apart

  pub alone_of_kings : others ≡ no_places → IsAloneIn men man from to
  alone_of_kings none s other here reach =
      false≢true (sym (ap (λ (set : Places). is_in set s) none ∙ is_in-empty s)
      ∙ other_there s other here)

  pub alone_there : (set : Places) → HoldsExactly (IsAttacker men man to others) set
      → set ≡ no_places → (man.kind ≡ King → ⊥) → IsAloneIn men man from to
  alone_there set holds none lesser s other here (inl king) = lesser king
  alone_there set holds none lesser s other here (inr reaches) =
      false≢true (sym (ap (λ (set : Places). is_in set s) none ∙ is_in-empty s)
      ∙ (holds s).1 (on s man here, (other_there s other here, here, reaches)))

-- ---- what is plain

same_text : (coded : CodedMove) (origin : List ℕ) (castle : Option Wing) (kind : Kind)
    → (is_some castle ≡ true) ⊎ (kind ≡ Pawn)
    → text_of coded origin castle kind ≡ text_of coded [] castle kind
same_text coded origin (Some wing) kind either = refl
same_text coded origin None Pawn either = refl
same_text coded origin None King (inl is) = absurd (false≢true is)
same_text coded origin None King (inr is) = absurd (cc (is))
same_text coded origin None Queen (inl is) = absurd (false≢true is)
same_text coded origin None Queen (inr is) = absurd (cc (is))
same_text coded origin None Rook (inl is) = absurd (false≢true is)
same_text coded origin None Rook (inr is) = absurd (cc (is))
same_text coded origin None Bishop (inl is) = absurd (false≢true is)
same_text coded origin None Bishop (inr is) = absurd (cc (is))
same_text coded origin None Knight (inl is) = absurd (false≢true is)
same_text coded origin None Knight (inr is) = absurd (cc (is))

pawn_kind : (man : Man) → is_pawn (Some man) ≡ true → man.kind ≡ Pawn
pawn_kind man is = kind_pawn man.kind is
  where
    kind_pawn : (kind : Kind) → is_pawn (Some (record { side = man.side; kind = kind })) ≡ true
        → kind ≡ Pawn
    kind_pawn Pawn e = refl
    kind_pawn King e = absurd (false≢true e)
    kind_pawn Queen e = absurd (false≢true e)
    kind_pawn Rook e = absurd (false≢true e)
    kind_pawn Bishop e = absurd (false≢true e)
    kind_pawn Knight e = absurd (false≢true e)

pawn_is : (man : Man) → man.kind ≡ Pawn → is_pawn (Some man) ≡ true
pawn_is man pawn =
    ap (λ (k : Kind). is_pawn (Some (record { side = man.side; kind = k }))) pawn

module _ (coded : CodedMove) (P : State) (m : Move) (of : IsCodedOf coded P m) (text : List ℕ)
    (san : IsSan P m text) where
  pub plain_of : (is_some coded.m.castle ≡ true) ⊎ (coded.man.kind ≡ Pawn)
      → without_check_signs text ≡ body_of coded []
  plain_of either =
      let (f, r, is, only) = text_told coded P m text of san in
      is ∙ same_text coded (origin_of f r coded.m.from) coded.m.castle coded.man.kind either

  plain_officer : IsAloneIn P.men coded.man m.from m.to → (coded.man.kind ≡ Pawn → ⊥)
      → without_check_signs text ≡ body_of coded []
  plain_officer is officer =
      let (f, r, same, only) = text_told coded P m text of san in
      let both = only (no_rival coded P m of is officer) in
      same ∙ ap (λ t. body_of coded (origin_of t r coded.m.from)) both.0
      ∙ ap (λ t. body_of coded (origin_of false t coded.m.from)) both.1

  pub plain_alone : (men : Placement) → men ≡ P.men
      → IsAloneIn men coded.man coded.m.from coded.m.to
      → without_check_signs text ≡ body_of coded []
  plain_alone men same is =
      let there : IsAloneIn P.men coded.man m.from m.to =
      subst (λ placed. IsAloneIn placed coded.man m.from m.to) same
      (subst (λ (n : Move). IsAloneIn men coded.man n.from n.to) of.is is) in
      elim (is_pawn (Some coded.man)) as (λ t. is_pawn (Some coded.man) ≡ t
      → without_check_signs text ≡ body_of coded []) [
        | true ↦ λ e. plain_of (inr (pawn_kind coded.man e))
        | false ↦ λ e. plain_officer there
            (λ pawn. false≢true (sym e ∙ pawn_is coded.man pawn))
      ] refl

-- ---- whether it is like a word

pub by_plain : (coded : CodedMove) (text word : List ℕ) (is : Bool)
    → without_check_signs text ≡ body_of coded [] → Likes coded word false false is
    → IsTrue is ↔ IsLike word (without_check_signs text)
by_plain coded text word is plain reports =
    subst (λ x. IsTrue is ↔ IsLike word x) (sym plain) reports

pub told_alike : (coded : CodedMove) (P : State) (m : Move) (text word : List ℕ) (is : Bool)
    → IsCodedOf coded P m → IsSan P m text → ((f r : Bool) → Likes coded word f r is)
    → IsTrue is ↔ IsLike word (without_check_signs text)
told_alike coded P m text word is of san each =
    let (f, r, same, only) = text_told coded P m text of san in
    subst (λ x. IsTrue is ↔ IsLike word x) (sym same) (each f r)

-- a star stands for what is put in front
star_front : (front word text : List ℕ) → IsLike (42 ∷ word) text
    → IsLike (42 ∷ word) (front ++ text)
star_front [] word text like = like
star_front (b ∷ front) word text like =
    star_on word b (front ++ text) (star_front front word text like)

officer_text : (coded : CodedMove) (origin : List ℕ) (castle : Option Wing) (kind : Kind)
    → castle ≡ None → (kind ≡ Pawn → ⊥) → text_of coded origin castle kind ≡ piece_body coded origin
officer_text coded origin (Some wing) kind none officer = absurd (cc (none))
officer_text coded origin None Pawn none officer = absurd (officer refl)
officer_text coded origin None King none officer = refl
officer_text coded origin None Queen none officer = refl
officer_text coded origin None Rook none officer = refl
officer_text coded origin None Bishop none officer = refl
officer_text coded origin None Knight none officer = refl

pub tail_like : (coded : CodedMove) (word : List ℕ) (cross file rank : ℕ) → 1 ≤ length word
    → get_or word 0 0 ≡ 42 → IsByteIf coded.takes 120 cross
    → file ≡ file_letter coded.m.to.file → rank ≡ rank_digit coded.m.to.rank
    → coded.m.castle ≡ None → (coded.man.kind ≡ Pawn → ⊥)
    → IsLike word (without_check_signs (cross ∷ file ∷ rank ∷ [])) → (f r : Bool)
    → Likes coded word f r true
tail_like coded [] cross file rank long starred takes on up castle officer like f r =
    absurd (omega (arith, long))
tail_like coded (star ∷ more) cross file rank long starred takes on up castle officer like f r =
    let origin = origin_of f r coded.m.from in
    let tail = (if coded.takes then 120 ∷ [] else []) ++ square_text coded.m.to in
    let bare : without_check_signs (cross ∷ file ∷ rank ∷ []) ≡ tail =
    takes (file ∷ rank ∷ []) ∙ ap (λ x. (if coded.takes then 120 ∷ [] else []) ++ x)
    (ap (λ b. without_check_signs (b ∷ rank ∷ [])) on
    ∙ ap (λ b. without_check_signs (file_letter coded.m.to.file ∷ b ∷ [])) up
    ∙ square_filled coded.m.to []) in
    let here : IsLike (42 ∷ more) tail =
    subst (λ b. IsLike (b ∷ more) tail) starred (subst (IsLike (star ∷ more)) bare like) in (
      λ t. subst (IsLike (star ∷ more))
          (sym (officer_text coded origin coded.m.castle coded.man.kind castle officer))
          (subst (λ b. IsLike (b ∷ more) (piece_body coded origin)) (sym starred)
          (star_front (kind_letter coded.man.kind ∷ origin) more tail here)),
      λ so. refl,
    )

-- a star at the end stands for what is put after it
star_back : (front x y : List ℕ) → IsLike (front ++ 42 ∷ []) x
    → IsLike (front ++ 42 ∷ []) (x ++ y)
star_back [] x y like = inl (refl, (x ++ y, [], sym (append-nil (x ++ y)), refl))
star_back (b ∷ front) x y (inl (is, (some, rest, parts, like))) =
    inl (
      is,
      (
        some,
        rest ++ y,
        ap (λ t. t ++ y) parts ∙ append_assoc some rest y,
        star_back front rest y like,
      ),
    )
star_back (b ∷ front) x y (inr (rest, parts, like)) =
    inr (rest ++ y, ap (λ t. t ++ y) parts, star_back front rest y like)

pub head_like : (coded : CodedMove) (word : List ℕ) (letter : ℕ) → 1 ≤ length word
    → get_or word (length word - 1) 0 ≡ 42 → letter ≡ kind_letter coded.man.kind
    → coded.m.castle ≡ None → (coded.man.kind ≡ Pawn → ⊥)
    → IsLike word (without_check_signs (letter ∷ [])) → (f r : Bool) → Likes coded word f r true
head_like coded word letter long starred is castle officer like f r =
    let origin = origin_of f r coded.m.from in
    let tail = origin ++ ((if coded.takes then 120 ∷ [] else []) ++ square_text coded.m.to) in
    let (front, parts) = last_part word long in
    let whole : word ≡ front ++ 42 ∷ [] = parts ∙ ap (λ b. front ++ b ∷ []) starred in
    let bare : without_check_signs (letter ∷ []) ≡ kind_letter coded.man.kind ∷ [] =
    ap (λ b. without_check_signs (b ∷ [])) is
    ∙ stays_first (kind_letter coded.man.kind) [] (above_kind coded.man.kind) in
    let here : IsLike (front ++ 42 ∷ []) (kind_letter coded.man.kind ∷ []) =
    subst (λ w. IsLike w (kind_letter coded.man.kind ∷ [])) whole
    (subst (IsLike word) bare like) in (
      λ t. subst (IsLike word)
          (sym (officer_text coded origin coded.m.castle coded.man.kind castle officer))
          (subst (λ w. IsLike w (piece_body coded origin)) (sym whole)
          (star_back front (kind_letter coded.man.kind ∷ []) tail here)),
      λ so. refl,
    )

-- so the move is, which has a text
pub by_its_text : (P : State) (m : Move) (word : List ℕ) (is : Bool) → (x : List ℕ) × IsSan P m x
    → ((text : List ℕ) → IsSan P m text → IsTrue is ↔ IsLike word (without_check_signs text))
    → IsTrue is ↔ IsMoveLike P m word
by_its_text P m word is some reports = (
  λ t. (some.0, some.1, (reports some.0 some.1).0 t),
  λ found. (reports found.0 found.1).1 found.2,
)

-- ---- the first of the codes that are left

pub first_like : (P : State) (moves : List Move) (left word : List ℕ) (is : Bool)
    → 3 ≤ length left → AreLegalMoves P moves → AreCodes P moves (codes_in left)
    → ((m : Move) → IsLegal P m → IsCode P m (first_code left)
    → IsTrue is ↔ IsMoveLike P m word) → IsTrue is ↔ IsSomeLike P (slice_get moves 0) word
first_like P [] left word is long legal are reports =
    let spelled = three left long in absurd (cc (spelled, are))
first_like P (m ∷ moves) left word is long legal (c, more, codes, code, are) reports =
    let spelled = three left long in
    let same : c ≡ first_code left = cc (spelled, codes) in
    reports m legal.0 (subst (IsCode P m) same code)

pub none_like : (P : State) (moves : List Move) (left word : List ℕ) → length left < 3
    → AreCodes P moves (codes_in left) → IsTrue false ↔ IsSomeLike P (slice_get moves 0) word
none_like P [] left word short are = (λ t. absurd (false≢true t), λ so. absurd so)
none_like P (m ∷ moves) left word short (c, more, codes, code, are) =
    let spelled = below left short in absurd (cc (spelled, codes))
