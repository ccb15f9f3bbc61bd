-- An accepted text has one meaning: its lines are cut in one way, and each kind of claim has its
-- own first word, as a denied claim has.
use Rattle.std.specs.Prelude.{◌+◌}
use Rattle.pgn_criteria.proofs.Common.{◌≡◌, ◌≤◌, ℕ, Bool, true, false, List, [], ◌∷◌, ◌++◌, length}
use Rattle.pgn_criteria.proofs.Common.{get_or, refl, sym, ap, ◌∙◌, subst, inl, inr, arith, codes}
use Rattle.pgn_criteria.proofs.Common.{◌==◌, if◌then◌else◌, append_cancel_right, parted_at}
use Rattle.pgn_criteria.proofs.Common.{number_from, Side, White, Black, Kind, King, Queen, Rook}
use Rattle.pgn_criteria.proofs.Common.{Bishop, Knight, Pawn, run_of, after_word, core_of, ReadsWord}
use Rattle.pgn_criteria.proofs.Common.{limit_of, SpellsTag, SpellsGame, SpellsPosition, SpellsMove}
use Rattle.pgn_criteria.proofs.Common.{SpellsDays, SpellsSpan, SpellsTaken, SpellsTurned}
use Rattle.pgn_criteria.proofs.Common.{SpellsCondition, SpellsLimits, Spells, IsLine, AreLines}
use Rattle.pgn_criteria.proofs.Common.{side_text, relation_text, comparison_text, alternatives_of}
use Rattle.pgn_criteria.proofs.Common.{IsFirstBad, Comparison, Relation, Has, Begins, Limits}
use Rattle.pgn_criteria.proofs.Common.{Condition, Game, Position, Move, Span, ValueClaim, Text}
use Rattle.pgn_criteria.proofs.Common.{Number, Date, GameClaim, Tag, Moves, Plies, Result}
use Rattle.pgn_criteria.proofs.Common.{PositionClaim, Fen, Flip, Material, Turn, Check, Mate}
use Rattle.pgn_criteria.proofs.Common.{Stalemate, MoveClaim, Next, Played, Setup, SpanClaim, For}
use Rattle.pgn_criteria.proofs.Common.{Count}
use Rattle.pgn_criteria.proofs.Common.{Meaning, Nothing, Or, Asks}
use Rattle.pgn_criteria.specs.Public.Laws.{TextHasOneMeaning, TextHasOneAnswer}
use Rattle.pgn_criteria.specs.Public.Laws.{MemoryIsTheOnlyFault}
use Rattle.pgn_criteria.specs.declared.compare.Relation.TheVariants.{Equal, Unequal, Less}
use Rattle.pgn_criteria.specs.declared.compare.Relation.TheVariants.{LessOrEqual, Greater}
use Rattle.pgn_criteria.specs.declared.compare.Relation.TheVariants.{GreaterOrEqual}
use Rattle.pgn_criteria.proofs.TurnFacts.{turn_read}
use Rattle.pgn_criteria.proofs.FenFacts.{fen_read, flip_read}
use Rattle.pgn_criteria.proofs.PliesFacts.{IsComparedRead, plies_read, counted_read, for_read}
use Rattle.pgn_criteria.proofs.DayTextFacts.{one_days}
use Rattle.pgn_criteria.proofs.TagFacts.{tag_read, number_read, date_read, named_once, quoted}
use Rattle.pgn_criteria.proofs.MoveWordFacts.{moves_read, next_read, played_read}
use Rattle.pgn_criteria.proofs.SetupTextFacts.{one_setup}
use Rattle.pgn_criteria.proofs.ResultFacts.{result_read}
use Rattle.pgn_criteria.proofs.MaterialFacts.{IsMaterialRead, material_read}
use Rattle.pgn_criteria.proofs.LimitFacts.{limits_given}
use Rattle.pgn_criteria.proofs.ClaimFacts.{AreClaims, total, is_word, kind_at, one_own, tag_key}
use Rattle.pgn_criteria.proofs.ClaimFacts.{game_key, games_are, position_key, positions_are}
use Rattle.pgn_criteria.proofs.ClaimFacts.{move_key, moves_are, span_key, spans_are, taken_own}
use Rattle.pgn_criteria.proofs.ClaimFacts.{taken_read, taken_word, taken_either, same_key}
use Rattle.pgn_criteria.proofs.ConditionFacts.{line_read, either_read, turned_own}
use Rattle.pgn_criteria.specs.declared.compare.Comparison.TheVariants as compared

-- texts of relations and sides are those of one
abbrev pub relation_at : ℕ → Relation
relation_at n = if n == 61 then Equal else if n == 122 then Unequal else if n == 60 then Less
    else if n == 121 then LessOrEqual else if n == 62 then Greater else if n == 123
    then GreaterOrEqual else if n == 316 then Has else Begins

relation_back : (relation : Relation) → relation_at (total (relation_text relation)) ≡ relation
relation_back Equal = refl
relation_back _ = refl

one_relation : (a b : Relation) → relation_text a ≡ relation_text b → a ≡ b
one_relation a b e = sym (relation_back a) ∙ ap (λ x. relation_at (total x)) e ∙ relation_back b

abbrev pub side_at : ℕ → Side
side_at n = if n == 545 then White else Black

side_back : (side : Side) → side_at (total (side_text side)) ≡ side
side_back White = refl
side_back Black = refl

one_side : (a b : Side) → side_text a ≡ side_text b → a ≡ b
one_side a b e = sym (side_back a) ∙ ap (λ x. side_at (total x)) e ∙ side_back b

one_contents : (a b : List ℕ) → 34 ∷ (a ++ 34 ∷ []) ≡ 34 ∷ (b ++ 34 ∷ []) → a ≡ b
one_contents a b e = let tails : a ++ 34 ∷ [] ≡ b ++ 34 ∷ [] = cc in
    append_cancel_right a b (34 ∷ []) tails

same_limits : (a b : Limits) → ((kind : Kind) → limit_of a kind ≡ limit_of b kind) → a ≡ b
same_limits a b each =
    let king : a.king ≡ b.king = each King in
    let queen : a.queen ≡ b.queen = each Queen in
    let rook : a.rook ≡ b.rook = each Rook in
    let bishop : a.bishop ≡ b.bishop = each Bishop in
    let knight : a.knight ≡ b.knight = each Knight in
    let pawn : a.pawn ≡ b.pawn = each Pawn in
    λ i. record {
      king = king i;
      queen = queen i;
      rook = rook i;
      bishop = bishop i;
      knight = knight i;
      pawn = pawn i;
    }

one_limits : (text : List ℕ) (a b : Limits) → SpellsLimits text a → SpellsLimits text b → a ≡ b
one_limits text a b is has =
    same_limits a b (λ kind. limits_given text a is kind ∙ sym (limits_given text b has kind))

abbrev pub comparison_at : ℕ → Comparison
comparison_at n = if n == 61 then compared.Equal else if n == 122 then compared.Unequal
    else if n == 60 then compared.Less else if n == 121 then compared.LessOrEqual else if n == 62
    then compared.Greater else compared.GreaterOrEqual

comparison_back : (comparison : Comparison)
    → comparison_at (total (comparison_text comparison)) ≡ comparison
comparison_back compared.Equal = refl
comparison_back _ = refl

one_comparison : (a b : Comparison) → comparison_text a ≡ comparison_text b → a ≡ b
one_comparison a b e = sym (comparison_back a) ∙ ap (λ x. comparison_at (total x)) e
    ∙ comparison_back b

-- claims of one word
one_tag : (text names other : List ℕ) (c d : ValueClaim (List ℕ)) → SpellsTag text names c
    → SpellsTag text other d → tag_key c ≡ tag_key d → (names ≡ other) × (c ≡ d)
one_tag text names other (Text relation contents) (Text reverse more) spells has same =
    let read = named_once (codes "tag") text names other (relation_text relation)
    (relation_text reverse) (quoted contents) (quoted more)
    (tag_read text names relation contents spells) (tag_read text other reverse more has) in
    let relations = one_relation relation reverse read.1 in
    let strings = one_contents contents more read.2 in
    (read.0, ap (λ x. Text x contents) relations ∙ ap (λ x. Text reverse x) strings)
one_tag text names other (Number comparison number) (Number sign more) spells has same =
    let is = number_read text names comparison number spells in
    let too = number_read text other sign more has in
    let read = named_once (codes "number") text names other (comparison_text comparison)
    (comparison_text sign) is.0 too.0 is.1 too.1 in
    let signs = one_comparison comparison sign read.1 in
    let numbers : number ≡ more = is.2.value ∙ ap (number_from 0) read.2 ∙ sym too.2.value in
    (read.0, ap (λ x. Number x number) signs ∙ ap (λ x. Number sign x) numbers)
one_tag text names other (Date comparison days) (Date sign more) spells has same =
    let is = date_read text names comparison days spells in
    let too = date_read text other sign more has in
    let read = named_once (codes "date") text names other (comparison_text comparison)
    (comparison_text sign) is.0 too.0 is.1 too.1 in
    let signs = one_comparison comparison sign read.1 in
    let spelled = subst (λ x. SpellsDays (parted_at 46 x) days) read.2 is.2 in
    let all = one_days (parted_at 46 too.0) days more spelled too.2 in
    (read.0, ap (λ x. Date x days) signs ∙ ap (λ x. Date sign x) all)
one_tag text names other c d spells has same =
    let e : total (tag_key c) ≡ total (tag_key d) = ap total same in absurd (omega arith)

one_material : (text : List ℕ) (white black first second : Limits) → IsMaterialRead text white black
    → IsMaterialRead text first second
    → ◌≡◌ {A = PositionClaim (List ℕ)} (Material white black) (Material first second)
one_material text white black first second is has =
    let whites : white ≡ first =
    one_limits (run_of (after_word text)) white first is.white_is has.white_is in
    let blacks : black ≡ second =
    one_limits (after_word (after_word (after_word text))) black second is.black_is has.black_is
    in
    ap (λ x. Material x black) whites ∙ ap (λ x. Material first x) blacks

one_compared : (key text : List ℕ) (comparison other : Comparison) (count number : ℕ)
    → IsComparedRead key text comparison count → IsComparedRead key text other number
    → (comparison ≡ other) × (count ≡ number)
one_compared key text comparison other count number is has = (
  one_comparison comparison other (sym is.sign_is ∙ has.sign_is),
  is.count_is.value ∙ sym has.count_is.value,
)

one_fen : (text pattern other : List ℕ) → SpellsPosition text (Fen pattern)
    → SpellsPosition text (Fen other) → pattern ≡ other
one_fen text pattern other spells has =
    sym (fen_read text pattern spells).1 ∙ (fen_read text other has).1

-- of which form a claim on the game is, and that its key word tells it
abbrev planned : GameClaim (List ℕ) → ℕ
planned (Tag names value) = 1
planned (Moves words) = 2
planned (Plies comparison count) = 3
planned (Result result) = 4

abbrev form_at : ℕ → ℕ
form_at n = if n == 554 then 2 else if n == 541 then 3 else if n == 671 then 4 else 1

form_back : (claim : GameClaim (List ℕ)) → form_at (total (game_key claim)) ≡ planned claim
form_back (Tag names (Text relation contents)) = refl
form_back (Tag names (Number comparison number)) = refl
form_back (Tag names (Date comparison days)) = refl
form_back (Moves words) = refl
form_back (Plies comparison count) = refl
form_back (Result result) = refl

one_game : (text : List ℕ) (c d : GameClaim (List ℕ)) → SpellsGame text c → SpellsGame text d
    → c ≡ d
unfolding games_are
one_game text (Tag names value) (Tag other claim) spells has =
    let keys =
    same_key SpellsGame games_are text false false (Tag names value) (Tag other claim) spells
    has in
    let same = one_tag text names other value claim spells has keys in
    ap (λ x. Tag x value) same.0 ∙ ap (λ x. Tag other x) same.1
one_game text (Moves words) (Moves other) spells has =
    ap Moves (sym (moves_read text words spells).1 ∙ (moves_read text other has).1)
one_game text (Plies comparison count) (Plies other number) spells has =
    let same = one_compared (codes "plies") text comparison other count number
    (plies_read text comparison count spells) (plies_read text other number has) in
    ap (λ x. Plies x count) same.0 ∙ ap (λ x. Plies other x) same.1
one_game text (Result result) (Result other) spells has =
    ap Result (sym (result_read text result spells).1 ∙ (result_read text other has).1)
one_game text c d spells has =
    let keys = same_key SpellsGame games_are text false false c d spells has in
    let e : planned c ≡ planned d =
    sym (form_back c) ∙ ap (λ x. form_at (total x)) keys ∙ form_back d in absurd (omega arith)

one_position : (text : List ℕ) (c d : PositionClaim (List ℕ)) → SpellsPosition text c
    → SpellsPosition text d → c ≡ d
unfolding positions_are
one_position text (Fen pattern) (Fen other) spells has =
    ap Fen (one_fen text pattern other spells has)
one_position text (Flip pattern) (Flip other) spells has =
    ap Flip (one_fen (after_word text) pattern other (flip_read text pattern spells).1
    (flip_read text other has).1)
one_position text (Material white black) (Material first second) spells has =
    one_material text white black first second (material_read text white black spells)
    (material_read text first second has)
one_position text (Turn side) (Turn other) spells has =
    ap Turn (one_side side other (sym (turn_read text side spells).1
    ∙ (turn_read text other has).1))
one_position text Check Check spells has = refl
one_position text Mate Mate spells has = refl
one_position text Stalemate Stalemate spells has = refl
one_position text c d spells has =
    let e : total (position_key c) ≡ total (position_key d) =
    ap total (same_key SpellsPosition positions_are text false false c d spells has) in
    absurd (omega arith)

one_move : (text : List ℕ) (c d : MoveClaim (List ℕ)) → SpellsMove text c → SpellsMove text d
    → c ≡ d
unfolding moves_are
one_move text (Next word) (Next other) spells has =
    ap Next (sym (next_read text word spells).1 ∙ (next_read text other has).1)
one_move text (Played word) (Played other) spells has =
    ap Played (sym (played_read text word spells).1 ∙ (played_read text other has).1)
one_move text (Setup setup) (Setup other) spells has =
    ap Setup (one_setup text setup other spells has)
one_move text c d spells has =
    let e : total (move_key c) ≡ total (move_key d) =
    ap total (same_key SpellsMove moves_are text false false c d spells has) in absurd (omega arith)

one_span : (text : List ℕ) (c d : SpanClaim) → SpellsSpan text c → SpellsSpan text d → c ≡ d
unfolding spans_are
one_span text (For count) (For number) spells has =
    ap For ((for_read text count spells).1.value ∙ sym (for_read text number has).1.value)
one_span text (Count comparison count) (Count other number) spells has =
    let same = one_compared (codes "count") text comparison other count number
    (counted_read text comparison count spells) (counted_read text other number has) in
    ap (λ x. Count x count) same.0 ∙ ap (λ x. Count other x) same.1
one_span text c d spells has =
    let e : total (span_key c) ≡ total (span_key d) =
    ap total (same_key SpellsSpan spans_are text false false c d spells has) in absurd (omega arith)

-- ---- conditions of one kind, and of two

-- the word after `either` and `not` is the first of a claim of the kind
abbrev pub HasKind : List ℕ → ℕ → Type 0
HasKind text kind = (turned denied : Bool) × (after own : List ℕ)
    × ReadsWord (codes "either") text turned after × ReadsWord (codes "not") after denied own
    × (kind_at (total (run_of own)) ≡ kind)

pub one_kind : (text : List ℕ) (a b : ℕ) → HasKind text a → HasKind text b → a ≡ b
one_kind text a b (turned, denied, after, own, first, second, is)
    (too, also, rest, other, one, two, has) =
    let same = one_own (codes "either") text after rest turned too first one in
    let reads = subst (λ x. ReadsWord (codes "not") x also other) (sym same.1) two in
    let owns = one_own (codes "not") after own other denied also second reads in
    sym is ∙ ap (λ x. kind_at (total (run_of x))) owns.1 ∙ has

module _ {C : Type 0} (Spells : List ℕ → C → Type 0) (are : AreClaims Spells) where
  kind_after : (text after : List ℕ) (turned denied : Bool) (claim : C)
      → ReadsWord (codes "either") text turned after → SpellsTaken Spells after denied claim
      → HasKind text are.kind
  kind_after text after turned denied claim reads spells =
      let own = taken_own Spells are after denied claim spells in
      let keyed = are.keyed own.0 claim own.2 in
      let is = ap (λ w. kind_at (total w)) keyed.0 ∙ keyed.2 in
      (turned, denied, after, own.0, reads, own.1, is)

  plain_kind : (text : List ℕ) (denied : Bool) (claim : C) → SpellsTaken Spells text denied claim
      → HasKind text are.kind
  plain_kind text denied claim spells =
      kind_after text text false denied claim
      ((λ run. taken_either Spells are text denied claim run spells), refl) spells

  one_taken : ((text : List ℕ) (a b : C) → Spells text a → Spells text b → a ≡ b)
      → (text : List ℕ) (p q : Bool) (a b : C) → SpellsTaken Spells text p a
      → SpellsTaken Spells text q b → (p ≡ q) × (a ≡ b)
  one_taken one text p q a b spells has =
      let own = taken_own Spells are text p a spells in
      let other = taken_read Spells are text own.0 p q b own.1 has in
      (other.0, one own.0 a b own.2 other.1)

one_turned : (text : List ℕ) (e f p q : Bool) (a b : PositionClaim (List ℕ))
    → SpellsTurned text e p a → SpellsTurned text f q b → (e ≡ f) × (p ≡ q) × (a ≡ b)
one_turned text e f p q a b spells has =
    let first = turned_own text e p a spells in
    let second = turned_own text f q b has in
    let same = one_own (codes "either") text first.0 second.0 e f first.1 second.1 in
    let too = subst (λ x. SpellsTaken SpellsPosition x q b) (sym same.1) second.2 in
    let taken = one_taken SpellsPosition positions_are one_position first.0 p q a b first.2 too in
    (same.0, taken.0, taken.1)

abbrev pub kind : Condition (List ℕ) → ℕ
kind (Game own) = 1
kind (Position own) = 2
kind (Move own) = 3
kind (Span claim) = 4

pub condition_kind : (text : List ℕ) (condition : Condition (List ℕ))
    → SpellsCondition text condition → HasKind text (kind condition)
unfolding games_are positions_are moves_are spans_are
condition_kind text (Game own) spells =
    plain_kind SpellsGame games_are text own.is_denied own.claim spells
condition_kind text (Position own) spells =
    let turned = turned_own text own.is_either own.is_denied own.claim spells in
    kind_after SpellsPosition positions_are text turned.0 own.is_either own.is_denied own.claim
    turned.1 turned.2
condition_kind text (Move own) spells =
    plain_kind SpellsMove moves_are text own.is_denied own.claim spells
condition_kind text (Span claim) spells = plain_kind SpellsSpan spans_are text false claim spells

one_condition : (text : List ℕ) (c d : Condition (List ℕ)) → SpellsCondition text c
    → SpellsCondition text d → c ≡ d
one_condition text (Game c) (Game d) spells has =
    let same =
    one_taken SpellsGame games_are one_game text c.is_denied d.is_denied c.claim d.claim spells
    has in
    λ i. Game (record { is_denied = same.0 i; claim = same.1 i })
one_condition text (Position c) (Position d) spells has =
    let same =
    one_turned text c.is_either d.is_either c.is_denied d.is_denied c.claim d.claim spells has
    in
    λ i. Position (record { is_either = same.0 i; is_denied = same.1 i; claim = same.2 i })
one_condition text (Move c) (Move d) spells has =
    let same =
    one_taken SpellsMove moves_are one_move text c.is_denied d.is_denied c.claim d.claim spells
    has in
    λ i. Move (record { is_denied = same.0 i; claim = same.1 i })
one_condition text (Span c) (Span d) spells has = ap Span (one_span text c d spells has)
one_condition text c d spells has =
    let e : kind c ≡ kind d =
    one_kind text (kind c) (kind d) (condition_kind text c spells) (condition_kind text d has) in
    absurd (omega arith)

-- a condition is no comment, not empty, and not `or`
turned_word : (text : List ℕ) (either denied : Bool) (claim : PositionClaim (List ℕ))
    → SpellsTurned text either denied claim → is_word (run_of text) ≡ true
turned_word text false denied claim spells =
    taken_word SpellsPosition positions_are text denied claim spells
turned_word text true denied claim spells = ap is_word (either_read text denied claim spells).0

condition_word : (text : List ℕ) (condition : Condition (List ℕ)) → SpellsCondition text condition
    → is_word (run_of text) ≡ true
condition_word text (Game own) spells =
    taken_word SpellsGame games_are text own.is_denied own.claim spells
condition_word text (Position own) spells =
    turned_word text own.is_either own.is_denied own.claim spells
condition_word text (Move own) spells =
    taken_word SpellsMove moves_are text own.is_denied own.claim spells
condition_word text (Span claim) spells = taken_word SpellsSpan spans_are text false claim spells

no_condition : (text : List ℕ) (condition : Condition (List ℕ)) → is_word (run_of text) ≡ false
    → SpellsCondition text condition → ⊥
no_condition text condition none spells =
    let clash : false ≡ true = sym none ∙ condition_word text condition spells in cc

nothing_word : (text : List ℕ) → Spells text Nothing → is_word (run_of text) ≡ false
nothing_word text (inl none) = ap (λ x. is_word (run_of x)) none
nothing_word text (inr comment) = ap (λ x. is_word (run_of x)) comment.1

or_word : (text : List ℕ) → text ≡ codes "or" → is_word (run_of text) ≡ false
or_word text is = ap (λ x. is_word (run_of x)) is

nothing_or : (text : List ℕ) → Spells text Nothing → text ≡ codes "or" → ⊥
nothing_or text (inl none) is = let clash : [] ≡ codes "or" = sym none ∙ is in cc
nothing_or text (inr comment) is =
    let first : get_or text 0 0 ≡ 35 = ap (λ x. get_or x 0 0) comment.1 in
    let other : get_or text 0 0 ≡ 111 = ap (λ x. get_or x 0 0) is in
    absurd (omega arith)

one_spelled : (text : List ℕ) (first second : Meaning (List ℕ)) → Spells text first
    → Spells text second → first ≡ second
one_spelled text Nothing Nothing is has = refl
one_spelled text Nothing Or is has = absurd (nothing_or text is has)
one_spelled text Nothing (Asks d) is has = absurd (no_condition text d (nothing_word text is) has)
one_spelled text Or Nothing is has = absurd (nothing_or text has is)
one_spelled text Or Or is has = refl
one_spelled text Or (Asks d) is has = absurd (no_condition text d (or_word text is) has)
one_spelled text (Asks c) Nothing is has = absurd (no_condition text c (nothing_word text has) is)
one_spelled text (Asks c) Or is has = absurd (no_condition text c (or_word text has) is)
one_spelled text (Asks c) (Asks d) is has = ap Asks (one_condition text c d is has)

one_line : (line : List ℕ) (first second : Meaning (List ℕ)) → IsLine line first
    → IsLine line second → first ≡ second
one_line line first second is has =
    one_spelled (core_of line) first second (line_read line first is) (line_read line second has)

one_list : (lines : List (List ℕ)) (first second : List (Meaning (List ℕ))) → AreLines lines first
    → AreLines lines second → first ≡ second
one_list [] first second is has = is ∙ sym has
one_list (line ∷ lines) first second (own, more, is, own_is, are)
    (other, rest, has, other_is, others) =
    is ∙ ap (λ x. x ∷ more) (one_line line own other own_is other_is)
    ∙ ap (λ x. other ∷ x) (one_list lines more rest are others) ∙ sym has

pub text_one_meaning : TextHasOneMeaning
text_one_meaning text first second (short, (means, are, is)) (short_too, (others, have, has)) =
    is ∙ ap alternatives_of (one_list (parted_at 10 text) means others are have) ∙ sym has

-- a bad line stands in no accepted text
are_at : (before after : List (List ℕ)) (bad : List ℕ) (means : List (Meaning (List ℕ)))
    → AreLines (before ++ (bad ∷ after)) means → (own : Meaning (List ℕ)) × IsLine bad own
are_at [] after bad means (own, more, is, own_is, are) = (own, own_is)
are_at (line ∷ before) after bad means (own, more, is, own_is, are) =
    are_at before after bad more are

bad_refused : (lines : List (List ℕ)) (number : ℕ) (means : List (Meaning (List ℕ)))
    → IsFirstBad lines number → AreLines lines means → ⊥
bad_refused lines number means (before, after, bad, is, counted, good, none) are =
    let own = are_at before after bad means (subst (λ x. AreLines x means) is are) in
    none own.0 own.1

-- and one bad line is the first
one_bad : (before after other rest : List (List ℕ)) (bad worse : List ℕ)
    (means others : List (Meaning (List ℕ))) → before ++ (bad ∷ after) ≡ other ++ (worse ∷ rest)
    → AreLines before means → AreLines other others
    → ((own : Meaning (List ℕ)) → IsLine bad own → ⊥)
    → ((own : Meaning (List ℕ)) → IsLine worse own → ⊥) → length before ≡ length other
one_bad [] after [] rest bad worse means others is are have none never = refl
one_bad [] after (y ∷ other) rest bad worse means others is are
    (own, more, has, own_is, have) none never =
    let same : y ≡ bad = cc in absurd (none own (subst (λ x. IsLine x own) same own_is))
one_bad (x ∷ before) after [] rest bad worse means others is
    (own, more, has, own_is, are) have none never =
    let same : x ≡ worse = cc in absurd (never own (subst (λ y. IsLine y own) same own_is))
one_bad (x ∷ before) after (y ∷ other) rest bad worse means others is
    (own, more, has, own_is, are) (own_too, more_too, has_too, own_too_is, have) none never =
    let tails : before ++ (bad ∷ after) ≡ other ++ (worse ∷ rest) = cc in
    let same : length before ≡ length other =
    one_bad before after other rest bad worse more more_too tails are have none never in
    omega arith

one_number : (lines : List (List ℕ)) (number other : ℕ) → IsFirstBad lines number
    → IsFirstBad lines other → number ≡ other
one_number lines number other (before, after, bad, is, counted, good, none)
    (before_too, after_too, bad_too, has, counted_too, good_too, never) =
    let same : length before ≡ length before_too =
    one_bad before after before_too after_too bad bad_too good.0 good_too.0 (sym is
    ∙ has) good.1 good_too.1 none never in
    counted ∙ ap (λ n. n + 1) same ∙ sym counted_too

pub text_one_answer : TextHasOneAnswer
text_one_answer = (
  (λ text alternatives accepted long. let short : length text ≤ 65536 = accepted.0 in omega arith),
  (λ text alternatives number accepted refused.
      bad_refused (parted_at 10 text) number accepted.1.0 refused.1 accepted.1.1),
  (λ text number long refused. let short : length text ≤ 65536 = refused.0 in omega arith),
  (λ text number other refused refused_too.
      one_number (parted_at 10 text) number other refused.1 refused_too.1),
)

pub memory_only_fault : MemoryIsTheOnlyFault
memory_only_fault text (alternatives, accepted) = (
  (λ long. text_one_answer.0 text alternatives accepted long),
  (λ number refused. text_one_answer.1 text alternatives number accepted refused),
)
