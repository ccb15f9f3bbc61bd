-- The text of a claim ends with a solid byte, and its first word is that of its kind: neither `not`
-- nor `either`, and with a solid byte at its
-- head. So it is never that of a denied claim.
use Rattle.std.specs.Prelude.{codes, ◌+◌, ◌&&◌, ◌||◌, ◌==◌, if◌then◌else◌}
use Rattle.pgn_criteria.proofs.Common.{◌≡◌, ◌≢◌, ℕ, Bool, true, false, List, [], ◌∷◌, ◌++◌, not}
use Rattle.pgn_criteria.proofs.Common.{refl, sym, ap, ◌∙◌, subst, and_parts, is_blank}
use Rattle.pgn_criteria.proofs.Common.{can_be_mirrored, position_seen, run_of, after_word}
use Rattle.pgn_criteria.proofs.Common.{ReadsWord, SpellsNamed, SpellsTag, SpellsGame}
use Rattle.pgn_criteria.proofs.Common.{SpellsPosition, SpellsMove, SpellsSpan, SpellsTaken}
use Rattle.pgn_criteria.proofs.Common.{side_text, relation_text, comparison_text, ValueClaim, Text}
use Rattle.pgn_criteria.proofs.Common.{Number, Date, GameClaim, Tag, Moves, Plies, Result}
use Rattle.pgn_criteria.proofs.Common.{PositionClaim, Fen, Flip, Material, Turn, Check, Mate}
use Rattle.pgn_criteria.proofs.Common.{Stalemate, MoveClaim, Next, Played, Setup, SpanClaim, For}
use Rattle.pgn_criteria.proofs.Common.{Count}
use Rattle.pgn_criteria.proofs.SolidFacts.{is_solid, BeginsSolid, EndsSolid, solid_ends, ends_after}
use Rattle.pgn_criteria.proofs.SolidFacts.{begins_some, word_read, word_spelled}
use Rattle.pgn_criteria.proofs.TurnFacts.{side_ends, turn_read}
use Rattle.pgn_criteria.proofs.FenFacts.{pattern_some, pattern_solid, fen_read, flip_read}
use Rattle.pgn_criteria.proofs.PliesFacts.{count_ends, plies_read, counted_read, for_read}
use Rattle.pgn_criteria.proofs.DayTextFacts.{days_end}
use Rattle.pgn_criteria.proofs.TagFacts.{tag_read, number_read, date_read}
use Rattle.pgn_criteria.proofs.MaterialFacts.{material_read}
use Rattle.pgn_criteria.proofs.LimitFacts.{limits_some, limits_solid}
use Rattle.pgn_criteria.proofs.MoveWordFacts.{words_end, moves_read, like_ends, next_read}
use Rattle.pgn_criteria.proofs.MoveWordFacts.{played_read}
use Rattle.pgn_criteria.proofs.SetupTextFacts.{setup_read}
use Rattle.pgn_criteria.proofs.ResultFacts.{result_ends, result_read}

-- words are told apart by the sum of their bytes
abbrev pub total : List ℕ → ℕ
total [] = 0
total (b ∷ x) = b + total x

-- the first word of a condition: its first byte is solid and no #, and it is not `or`
abbrev pub is_word : List ℕ → Bool
is_word [] = false
is_word (b ∷ x) = is_solid b && (not (b == 35) && not (total (b ∷ x) == 225))

-- one of a claim, which is neither `not` nor `either`
abbrev pub is_key : List ℕ → Bool
is_key word = is_word word && (not (total word == 337) && not (total word == 641))

-- what the claim is on whose first word has this sum: 1 the game, 2 a position, 3 moves, 4 plies
abbrev pub kind_at : ℕ → ℕ
kind_at n =
    if n == 316 || n == 649 || n == 414 || n == 554 || n == 541 || n == 671 then 1
    else if n == 313 || n == 427 || n == 847 || n == 457 || n == 510 || n == 423 || n == 960 then 2
    else if n == 447 || n == 639 || n == 885 then 3
    else if n == 327 || n == 553 then 4
    else 0

-- the first word of the text is this one, and is that of a claim of the kind
abbrev pub HasKey : ℕ → List ℕ → List ℕ → Type 0
HasKey kind text key = (run_of text ≡ key) × (is_key key ≡ true) × (kind_at (total key) ≡ kind)

key_is_word : (key : List ℕ) → is_key key ≡ true → is_word key ≡ true
key_is_word key good = (and_parts (is_word key) _ good).0

pub key_begins : (kind : ℕ) (text key : List ℕ) → HasKey kind text key → BeginsSolid text
key_begins kind [] key (run, good, of) =
    let clash : false ≡ true = ap is_key run ∙ good in cc
key_begins kind (b ∷ x) key (run, good, of) =
    elim (is_blank b) as (λ t. is_word (if t then [] else b ∷ run_of x) ≡ true
    → BeginsSolid (b ∷ x)) [
      | true ↦ λ none. let clash : false ≡ true = none in cc
      | false ↦ λ is. (b, x, refl, (and_parts (is_solid b) _ is).0)
    ] (ap is_word run ∙ key_is_word key good)

key_apart : (kind : ℕ) (text key word : List ℕ) → HasKey kind text key → is_key word ≡ false
    → run_of text ≢ word
key_apart kind text key word (run, good, of) bad is =
    let clash : false ≡ true = sym bad ∙ ap is_key (sym is ∙ run) ∙ good in cc

pub ends_as : (text whole : List ℕ) → text ≡ whole → EndsSolid whole → EndsSolid text
ends_as text whole is (front, b, ends, solid) = (front, b, is ∙ ends, solid)

-- a text is read in one way
pub one_own : (word text own other : List ℕ) (p q : Bool) → ReadsWord word text p own
    → ReadsWord word text q other → (p ≡ q) × (own ≡ other)
one_own word text own other true true (run, is) (same, too) = (refl, is ∙ sym too)
one_own word text own other false false (run, is) (same, too) = (refl, is ∙ sym too)
one_own word text own other true false (run, is) (none, too) = absurd (none run)
one_own word text own other false true (none, is) (run, too) = absurd (none run)

-- ---- the claims of a kind

-- the texts of claims are such
pub record AreClaims {C : Type 0} (Spells : List ℕ → C → Type 0) : Type 0 where
  pub kind : ℕ
  pub key : C → List ℕ
  pub keyed : (text : List ℕ) (claim : C) → Spells text claim → HasKey kind text (key claim)
  pub ends : (text : List ℕ) (claim : C) → Spells text claim → EndsSolid text

abbrev pub tag_key : ValueClaim (List ℕ) → List ℕ
tag_key (Text relation contents) = codes "tag"
tag_key (Number comparison number) = codes "number"
tag_key (Date comparison days) = codes "date"

tag_keyed : (text names : List ℕ) (claim : ValueClaim (List ℕ)) → SpellsTag text names claim
    → HasKey 1 text (tag_key claim)
tag_keyed text names (Text relation contents) spells =
    ((tag_read text names relation contents spells).key_is, refl, refl)
tag_keyed text names (Number comparison number) spells =
    ((number_read text names comparison number spells).1.key_is, refl, refl)
tag_keyed text names (Date comparison days) spells =
    ((date_read text names comparison days spells).1.key_is, refl, refl)

named_ends : (key text names operator own : List ℕ) → SpellsNamed key text names operator own
    → EndsSolid own → EndsSolid text
named_ends key text names operator own (first, second, third, is, g, h, k, are) ends =
    ends_as text _ is (ends_after key (first ++ (names ++ (second ++ (operator ++ (third ++ own)))))
    (ends_after first (names ++ (second ++ (operator ++ (third ++ own))))
    (ends_after names (second ++ (operator ++ (third ++ own)))
    (ends_after second (operator ++ (third ++ own))
    (ends_after operator (third ++ own) (ends_after third own ends))))))

tag_ends : (text names : List ℕ) (claim : ValueClaim (List ℕ)) → SpellsTag text names claim
    → EndsSolid text
tag_ends text names (Text relation contents) (named, good, fits) =
    named_ends (codes "tag") text names (relation_text relation) (34 ∷ (contents ++ 34 ∷ [])) named
    (34 ∷ contents, 34, refl, refl)
tag_ends text names (Number comparison number) (digits, named, counted) =
    named_ends (codes "number") text names (comparison_text comparison) digits named
    (count_ends digits number counted)
tag_ends text names (Date comparison days) (date, named, spelled) =
    named_ends (codes "date") text names (comparison_text comparison) date named
    (days_end date days spelled)

abbrev pub game_key : GameClaim (List ℕ) → List ℕ
game_key (Tag names value) = tag_key value
game_key (Moves words) = codes "moves"
game_key (Plies comparison count) = codes "plies"
game_key (Result result) = codes "result"

pub game_keyed : (text : List ℕ) (claim : GameClaim (List ℕ)) → SpellsGame text claim
    → HasKey 1 text (game_key claim)
game_keyed text (Tag names value) spells = tag_keyed text names value spells
game_keyed text (Moves words) spells = ((moves_read text words spells).0, refl, refl)
game_keyed text (Plies comparison count) spells =
    ((plies_read text comparison count spells).key_is, refl, refl)
game_keyed text (Result result) spells = ((result_read text result spells).0, refl, refl)

pub game_ends : (text : List ℕ) (claim : GameClaim (List ℕ)) → SpellsGame text claim
    → EndsSolid text
game_ends text (Tag names value) spells = tag_ends text names value spells
game_ends text (Moves words) ((gap, is, g), are) =
    ends_as text _ is (ends_after (codes "moves") (gap
    ++ words) (ends_after gap words (words_end words are)))
game_ends text (Plies comparison count) (first, second, digits, is, g, h, counted) =
    ends_as text _ is (ends_after (codes "plies") (first
    ++ (comparison_text comparison ++ (second ++ digits)))
    (ends_after first (comparison_text comparison ++ (second ++ digits))
    (ends_after (comparison_text comparison) (second
    ++ digits) (ends_after second digits (count_ends digits count counted)))))
game_ends text (Result result) ((gap, is, g), good) =
    ends_as text _ is (ends_after (codes "result") (gap
    ++ result) (ends_after gap result (result_ends result good)))

unfoldable pub games_are : AreClaims SpellsGame
games_are = record { kind = 1; key = game_key; keyed = game_keyed; ends = game_ends }

abbrev pub position_key : PositionClaim (List ℕ) → List ℕ
position_key (Fen pattern) = codes "fen"
position_key (Flip pattern) = codes "flip"
position_key (Material white black) = codes "material"
position_key (Turn side) = codes "turn"
position_key Check = codes "check"
position_key Mate = codes "mate"
position_key Stalemate = codes "stalemate"

pub position_keyed : (text : List ℕ) (claim : PositionClaim (List ℕ)) → SpellsPosition text claim
    → HasKey 2 text (position_key claim)
position_keyed text (Fen pattern) spells = ((fen_read text pattern spells).0, refl, refl)
position_keyed text (Flip pattern) spells = ((flip_read text pattern spells).0, refl, refl)
position_keyed text (Material white black) spells =
    ((material_read text white black spells).key_is, refl, refl)
position_keyed text (Turn side) spells = ((turn_read text side spells).0, refl, refl)
position_keyed text _ spells = (ap run_of spells, refl, refl)

pub position_ends : (text : List ℕ) (claim : PositionClaim (List ℕ)) → SpellsPosition text claim
    → EndsSolid text
position_ends text (Fen pattern) ((gap, is, g), good) =
    ends_as text _ is (ends_after (codes "fen") (gap
    ++ pattern)
    (ends_after gap pattern
    (solid_ends pattern (pattern_some pattern good) (pattern_solid pattern good))))
position_ends text (Flip pattern) (own, (first, is, g), (gap, own_is, h), good) =
    ends_as text _ is (ends_after (codes "flip") (first
    ++ own) (ends_after first own (ends_as own _ own_is
    (ends_after (codes "fen") (gap
    ++ pattern)
    (ends_after gap pattern
    (solid_ends pattern (pattern_some pattern good) (pattern_solid pattern good)))))))
position_ends text (Material white black)
    (first, second, third, of_white, of_black, is, g, h, k, spells_white, spells_black) =
    let last = ends_after third of_black
    (solid_ends of_black (limits_some of_black black spells_black)
    (limits_solid of_black black spells_black)) in
    ends_as text _ is (ends_after (codes "material") (first
    ++ (of_white ++ (second ++ (codes "v" ++ (third ++ of_black)))))
    (ends_after first (of_white ++ (second ++ (codes "v" ++ (third ++ of_black))))
    (ends_after of_white (second ++ (codes "v" ++ (third ++ of_black)))
    (ends_after second (codes "v"
    ++ (third ++ of_black)) (ends_after (codes "v") (third ++ of_black) last)))))
position_ends text (Turn side) (gap, is, g) =
    ends_as text _ is (ends_after (codes "turn") (gap
    ++ side_text side) (ends_after gap (side_text side) (side_ends side)))
position_ends text Check is = ends_as text _ is (codes "chec", 107, refl, refl)
position_ends text Mate is = ends_as text _ is (codes "mat", 101, refl, refl)
position_ends text Stalemate is = ends_as text _ is (codes "stalemat", 101, refl, refl)

unfoldable pub positions_are : AreClaims SpellsPosition
positions_are =
    record { kind = 2; key = position_key; keyed = position_keyed; ends = position_ends }

abbrev pub move_key : MoveClaim (List ℕ) → List ℕ
move_key (Next word) = codes "next"
move_key (Played word) = codes "played"
move_key (Setup setup) = codes "position"

pub move_keyed : (text : List ℕ) (claim : MoveClaim (List ℕ)) → SpellsMove text claim
    → HasKey 3 text (move_key claim)
move_keyed text (Next word) spells = ((next_read text word spells).0, refl, refl)
move_keyed text (Played word) spells = ((played_read text word spells).0, refl, refl)
move_keyed text (Setup setup) spells = ((setup_read text setup spells).0, refl, refl)

pub move_ends : (text : List ℕ) (claim : MoveClaim (List ℕ)) → SpellsMove text claim
    → EndsSolid text
move_ends text (Next word) ((gap, is, g), like) =
    ends_as text _ is (ends_after (codes "next") (gap
    ++ word) (ends_after gap word (like_ends word like)))
move_ends text (Played word) ((gap, is, g), like) =
    ends_as text _ is (ends_after (codes "played") (gap
    ++ word) (ends_after gap word (like_ends word like)))
move_ends text (Setup setup) (own, (gap, is, g), trimmed, gives) =
    ends_as text _ is
    (ends_after (codes "position") (gap ++ own) (ends_after gap own trimmed.1))

unfoldable pub moves_are : AreClaims SpellsMove
moves_are = record { kind = 3; key = move_key; keyed = move_keyed; ends = move_ends }

abbrev pub span_key : SpanClaim → List ℕ
span_key (For count) = codes "for"
span_key (Count comparison count) = codes "count"

pub span_keyed : (text : List ℕ) (claim : SpanClaim) → SpellsSpan text claim
    → HasKey 4 text (span_key claim)
span_keyed text (For count) spells = ((for_read text count spells).0, refl, refl)
span_keyed text (Count comparison count) spells =
    ((counted_read text comparison count spells).key_is, refl, refl)

pub span_ends : (text : List ℕ) (claim : SpanClaim) → SpellsSpan text claim → EndsSolid text
span_ends text (For count) (digits, (gap, is, g), counted, some) =
    ends_as text _ is (ends_after (codes "for") (gap
    ++ digits) (ends_after gap digits (count_ends digits count counted)))
span_ends text (Count comparison count) (first, second, digits, is, g, h, counted) =
    ends_as text _ is (ends_after (codes "count") (first
    ++ (comparison_text comparison ++ (second ++ digits)))
    (ends_after first (comparison_text comparison ++ (second ++ digits))
    (ends_after (comparison_text comparison) (second
    ++ digits) (ends_after second digits (count_ends digits count counted)))))

unfoldable pub spans_are : AreClaims SpellsSpan
spans_are = record { kind = 4; key = span_key; keyed = span_keyed; ends = span_ends }

-- ---- denied or not

module _ {C : Type 0} (Spells : List ℕ → C → Type 0) (are : AreClaims Spells) where
  pub claim_begins : (text : List ℕ) (claim : C) → Spells text claim → BeginsSolid text
  claim_begins text claim spells =
      key_begins are.kind text (are.key claim) (are.keyed text claim spells)

  pub claim_not : (text : List ℕ) (claim : C) → Spells text claim → run_of text ≢ codes "not"
  claim_not text claim spells =
      key_apart are.kind text (are.key claim) (codes "not") (are.keyed text claim spells) refl

  pub claim_either : (text : List ℕ) (claim : C) → Spells text claim → run_of text ≢ codes "either"
  claim_either text claim spells =
      key_apart are.kind text (are.key claim) (codes "either") (are.keyed text claim spells) refl

  -- a denied claim is read after its first word
  pub not_read : (text : List ℕ) (claim : C) → SpellsTaken Spells text true claim
      → (run_of text ≡ codes "not") × Spells (after_word text) claim
  not_read text claim (own, (gap, is, g), spells) =
      let parts = word_read text (codes "not") gap own is refl g (claim_begins own claim spells) in
      (parts.0, subst (λ x. Spells x claim) (sym parts.1) spells)

  -- what is read so is spelled so, and the other way round
  pub taken_spelled : (text own : List ℕ) (denied : Bool) (claim : C)
      → ReadsWord (codes "not") text denied own → Spells own claim
      → SpellsTaken Spells text denied claim
  taken_spelled text own false claim (run, is) spells = subst (λ x. Spells x claim) is spells
  taken_spelled text own true claim (run, is) spells =
      let some = begins_some own (claim_begins own claim spells) in
      (own, word_spelled text (codes "not") own run (sym is) some, spells)

  pub taken_own : (text : List ℕ) (denied : Bool) (claim : C) → SpellsTaken Spells text denied claim
      → (own : List ℕ) × ReadsWord (codes "not") text denied own × Spells own claim
  taken_own text false claim spells = (text, (claim_not text claim spells, refl), spells)
  taken_own text true claim spells =
      let own = not_read text claim spells in (after_word text, (own.0, refl), own.1)

  pub taken_read : (text own : List ℕ) (read denied : Bool) (claim : C)
      → ReadsWord (codes "not") text read own → SpellsTaken Spells text denied claim
      → (read ≡ denied) × Spells own claim
  taken_read text own read denied claim reads spells =
      let it = taken_own text denied claim spells in
      let same = one_own (codes "not") text own it.0 read denied reads it.1 in
      (same.0, subst (λ x. Spells x claim) (sym same.1) it.2)

  pub taken_begins : (text : List ℕ) (denied : Bool) (claim : C)
      → SpellsTaken Spells text denied claim → BeginsSolid text
  taken_begins text false claim spells = claim_begins text claim spells
  taken_begins text true claim (own, (gap, is, g), spells) = (110, _, is, refl)

  pub taken_ends : (text : List ℕ) (denied : Bool) (claim : C)
      → SpellsTaken Spells text denied claim → EndsSolid text
  taken_ends text false claim spells = are.ends text claim spells
  taken_ends text true claim (own, (gap, is, g), spells) =
      ends_as text _ is (ends_after (codes "not") (gap
      ++ own) (ends_after gap own (are.ends own claim spells)))

  pub taken_word : (text : List ℕ) (denied : Bool) (claim : C)
      → SpellsTaken Spells text denied claim → is_word (run_of text) ≡ true
  taken_word text false claim spells =
      let keyed = are.keyed text claim spells in
      ap is_word keyed.0 ∙ key_is_word (are.key claim) keyed.1
  taken_word text true claim spells = ap is_word (not_read text claim spells).0

  pub taken_either : (text : List ℕ) (denied : Bool) (claim : C)
      → run_of text ≡ codes "either" → SpellsTaken Spells text denied claim → ⊥
  taken_either text false claim run spells = claim_either text claim spells run
  taken_either text true claim run spells =
      let clash : false ≡ true =
      ap (λ x. total x == 337) (sym run ∙ (not_read text claim spells).0) in cc

  -- claims of one text have one first word
  pub same_key : (text : List ℕ) (d e : Bool) (a b : C) → SpellsTaken Spells text d a
      → SpellsTaken Spells text e b → are.key a ≡ are.key b
  same_key text d e a b spells has =
      let own = taken_own text d a spells in
      sym (are.keyed own.0 a own.2).0
      ∙ (are.keyed own.0 b (taken_read text own.0 d e b own.1 has).1).0

-- the first word tells whether a claim can be made of the mirror
abbrev pub can_by_key : List ℕ → Bool
can_by_key key = not (total key == 510) && not (total key == 423) && not (total key == 960)

pub can_read : (claim : PositionClaim (List ℕ))
    → can_be_mirrored claim ≡ can_by_key (position_key claim)
can_read (Fen pattern) = refl
can_read _ = refl

-- whatever its texts are held in
pub can_be_seen : {T : Type 0} (bytes : T → List ℕ) (claim : PositionClaim T)
    → can_be_mirrored (position_seen bytes claim) ≡ can_be_mirrored claim
can_be_seen bytes (Fen pattern) = refl
can_be_seen bytes _ = refl
