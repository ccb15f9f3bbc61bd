-- The lines of a text read one after the other, and the alternatives that they spell.
use Rattle.std.specs.Prelude.{◌+◌, Option, Some, None}
use Rattle.pgn_criteria.proofs.Common.{◌≡◌, ◌≤◌, ◌<◌, ℕ, Bool, true, List, [], ◌∷◌, ◌++◌, refl, sym}
use Rattle.pgn_criteria.proofs.Common.{ap, ◌∙◌, false, length, subst, append_assoc, append-nil}
use Rattle.pgn_criteria.proofs.Common.{length-append, arith, ◌==◌, if◌then◌else◌, MatchOption}
use Rattle.pgn_criteria.proofs.Common.{parted_at, before_first, SpellsGame, SpellsTaken}
use Rattle.pgn_criteria.proofs.Common.{SpellsCondition, IsLine, AreLines, alternatives_of}
use Rattle.pgn_criteria.proofs.Common.{onto_first, SpellsCriteria, IsFirstBad, joined, with_open}
use Rattle.pgn_criteria.proofs.Common.{IsGood, AreGood, AllGood, Condition, Conditions}
use Rattle.pgn_criteria.proofs.Common.{no_conditions, with_condition, Game, Position, Move, Span}
use Rattle.pgn_criteria.proofs.Common.{Text, Date, GameClaim, Tag, Meaning, Nothing, Or, Asks}
use Rattle.pgn_criteria.proofs.DayTextFacts.{days_good}

-- one line more
pub are_more : (lines : List (List ℕ)) (means : List (Meaning (List ℕ))) (line : List ℕ)
    (own : Meaning (List ℕ)) → AreLines lines means → IsLine line own
    → AreLines (lines ++ (line ∷ [])) (means ++ (own ∷ []))
are_more [] means line own none is = (own, [], ap (λ m. m ++ (own ∷ [])) none, is, refl)
are_more (first ∷ lines) means line own (head, more, is, head_is, are) line_is = (
  head,
  more ++ (own ∷ []),
  ap (λ m. m ++ (own ∷ [])) is,
  head_is,
  are_more lines more line own are line_is,
)

-- the size of a text by its parts
abbrev pub size_of : List (List ℕ) → ℕ
size_of [] = 0
size_of (x ∷ more) = length x + 1 + size_of more

before_size : (b : ℕ) (parts : List (List ℕ)) → 1 ≤ size_of parts
    → size_of (before_first b parts) ≡ size_of parts + 1
before_size b [] h = absurd (omega arith)
before_size b (x ∷ more) h = omega arith

parted_size : (separator : ℕ) (x : List ℕ) → size_of (parted_at separator x) ≡ length x + 1
parted_size separator [] = refl
parted_size separator (b ∷ x) =
    let more : size_of (parted_at separator x) ≡ length x + 1 = parted_size separator x in
    elim (b == separator) as (λ t.
    size_of (if t then [] ∷ parted_at separator x else before_first b (parted_at separator x))
    ≡ length (b ∷ x) + 1) [
      | true ↦ omega arith
      | false ↦ let some : 1 ≤ size_of (parted_at separator x) = omega arith in
          let size : size_of (before_first b (parted_at separator x))
          ≡ size_of (parted_at separator x) + 1 = before_size b (parted_at separator x) some in
          omega arith
    ]

-- what follows a part is shorter
pub part_shorter : (separator : ℕ) (text part rest : List ℕ)
    → parted_at separator text ≡ part ∷ parted_at separator rest → length rest < length text
part_shorter separator text part rest parts =
    let whole : length text + 1 ≡ length part + 1 + size_of (parted_at separator rest) =
    sym (parted_size separator text) ∙ ap size_of parts in
    let after : size_of (parted_at separator rest) ≡ length rest + 1 = parted_size separator rest in
    omega arith

pub rest_shorter : (text part rest : List ℕ) → parted_at 10 text ≡ part ∷ parted_at 10 rest
    → length rest < length text
rest_shorter text part rest parts = part_shorter 10 text part rest parts

-- the lines up to the rest have meanings, and so many are they
pub record IsUpTo (text rest : List ℕ) (number : ℕ) : Type 0 where
  pub before : List (List ℕ)
  pub means : List (Meaning (List ℕ))
  pub parts : parted_at 10 text ≡ before ++ parted_at 10 rest
  pub counted : number ≡ length before + 1
  pub are : AreLines before means
  pub small : number + length rest ≤ length text + 1

pub up_start : (text : List ℕ) → IsUpTo text text 1
up_start text =
    record {
      before = [];
      means = [];
      parts = refl;
      counted = refl;
      are = refl;
      small = omega arith;
    }

pub up_more : (text rest line after : List ℕ) (number : ℕ) (own : Meaning (List ℕ))
    → IsUpTo text rest number → parted_at 10 rest ≡ line ∷ parted_at 10 after → IsLine line own
    → IsUpTo text after (number + 1)
up_more text rest line after number own up parts is =
    let shorter : length after < length rest = rest_shorter rest line after parts in
    let counted : number ≡ length up.before + 1 = up.counted in
    let size : length (up.before ++ (line ∷ [])) ≡ length up.before + 1 =
    length-append up.before (line ∷ []) in
    let small : number + length rest ≤ length text + 1 = up.small in
    record {
      before = up.before ++ (line ∷ []);
      means = up.means ++ (own ∷ []);
      parts = up.parts ∙ ap (λ x. up.before ++ x) parts
          ∙ sym (append_assoc up.before (line ∷ []) (parted_at 10 after));
      counted = omega arith;
      are = are_more up.before up.means line own up.are is;
      small = omega arith;
    }

-- the first part, whatever follows it
pub first_part : {T : Type 0} (now : T → List ℕ) (rest line : List ℕ) (tail : Option T)
    → MatchOption tail (parted_at 10 rest ≡ line ∷ []) (λ found. parted_at 10 rest
    ≡ line ∷ parted_at 10 (now found))
    → (after : List (List ℕ)) × (parted_at 10 rest ≡ line ∷ after)
first_part now rest line None is = ([], is)
first_part now rest line (Some found) is = (parted_at 10 (now found), is)

pub up_bad : (text rest line : List ℕ) (number : ℕ) → IsUpTo text rest number
    → ((after : List (List ℕ)) × (parted_at 10 rest ≡ line ∷ after))
    → ((means : Meaning (List ℕ)) → IsLine line means → ⊥) → IsFirstBad (parted_at 10 text) number
up_bad text rest line number up (after, parts) bad = (
  up.before,
  after,
  line,
  up.parts ∙ ap (λ x. up.before ++ x) parts,
  up.counted,
  (up.means, up.are),
  bad,
)

pub up_end : (text rest line : List ℕ) (number : ℕ) (own : Meaning (List ℕ))
    → IsUpTo text rest number → parted_at 10 rest ≡ line ∷ [] → IsLine line own
    → (means : List (Meaning (List ℕ))) × AreLines (parted_at 10 text) means
up_end text rest line number own up parts is = (
  up.means ++ (own ∷ []),
  subst (λ lines. AreLines lines (up.means ++ (own ∷ [])))
      (sym (up.parts ∙ ap (λ x. up.before ++ x) parts))
      (are_more up.before up.means line own up.are is),
)

-- conditions are joined in any order, and with none they are as they were
joined_assoc : (a b d : Conditions) → joined (joined a b) d ≡ joined a (joined b d)
joined_assoc a b d = λ i. record {
  games = append_assoc a.games b.games d.games i;
  positions = append_assoc a.positions b.positions d.positions i;
  moves = append_assoc a.moves b.moves d.moves i;
  spans = append_assoc a.spans b.spans d.spans i;
}

joined_none : (a : Conditions) → joined a no_conditions ≡ a
joined_none a =
    λ i. record {
      games = append-nil a.games i;
      positions = append-nil a.positions i;
      moves = append-nil a.moves i;
      spans = append-nil a.spans i;
    }

with_joined : (condition : Condition (List ℕ)) (a : Conditions)
    → joined (with_condition condition no_conditions) a ≡ with_condition condition a
with_joined (Game own) a = refl
with_joined _ a = refl

-- there is always a first alternative
pub some_alternative : (means : List (Meaning (List ℕ)))
    → (first : Conditions) × (more : List Conditions) × (alternatives_of means ≡ first ∷ more)
some_alternative [] = (no_conditions, [], refl)
some_alternative (Nothing ∷ means) = some_alternative means
some_alternative (Or ∷ means) = (no_conditions, alternatives_of means, refl)
some_alternative (Asks condition ∷ means) =
    let f = some_alternative means in
    (with_condition condition f.0, f.1, ap (onto_first condition) f.2)

-- the alternatives of the lines up to the rest are built: those after go on with what is open
pub record IsBuilt (text rest : List ℕ) (done : List Conditions) (begun : Conditions) : Type 0 where
  pub before : List (List ℕ)
  pub means : List (Meaning (List ℕ))
  pub parts : parted_at 10 text ≡ before ++ parted_at 10 rest
  pub are : AreLines before means
  pub later : List (Meaning (List ℕ))
  pub left : AreLines (parted_at 10 rest) later
  pub same : (more : List (Meaning (List ℕ)))
      → alternatives_of (means ++ more) ≡ with_open done begun (alternatives_of more)

pub built_start : (text : List ℕ)
    → ((means : List (Meaning (List ℕ))) × AreLines (parted_at 10 text) means)
    → IsBuilt text text [] no_conditions
built_start text (means, are) =
    record {
      before = [];
      means = [];
      parts = refl;
      are = refl;
      later = means;
      left = are;
      same = fresh;
    }
  where
    fresh : (more : List (Meaning (List ℕ)))
        → alternatives_of more ≡ with_open [] no_conditions (alternatives_of more)
    fresh more = let f = some_alternative more in f.2 ∙ ap (with_open [] no_conditions) (sym f.2)

-- so the next line has a meaning
pub built_next : (text rest line : List ℕ) (done : List Conditions) (begun : Conditions)
    → IsBuilt text rest done begun → ((after : List (List ℕ)) × (parted_at 10 rest ≡ line ∷ after))
    → (means : Meaning (List ℕ)) × IsLine line means
built_next text rest line done begun built (after, parts) =
    let left = subst (λ lines. AreLines lines built.later) parts built.left in (left.0, left.3)

-- what a line adds
pub record IsAdded (line : List ℕ) (old : List Conditions) (open_old : Conditions)
    (new : List Conditions) (open_new : Conditions) : Type 0 where
  pub own : Meaning (List ℕ)
  pub is : IsLine line own
  pub same : (more : List (Meaning (List ℕ))) → with_open new open_new (alternatives_of more)
      ≡ with_open old open_old (alternatives_of (own ∷ more))

built_same : (text rest line : List ℕ) (done : List Conditions) (begun : Conditions)
    (new : List Conditions) (open_new : Conditions)
    → (built : IsBuilt text rest done begun) → (added : IsAdded line done begun new open_new)
    → (more : List (Meaning (List ℕ))) → alternatives_of ((built.means ++ (added.own ∷ [])) ++ more)
    ≡ with_open new open_new (alternatives_of more)
built_same text rest line done begun new open_new built added more =
    ap alternatives_of (append_assoc built.means (added.own ∷ []) more)
    ∙ built.same (added.own ∷ more) ∙ sym (added.same more)

pub built_more : (text rest line after : List ℕ) (done : List Conditions) (begun : Conditions)
    (new : List Conditions) (open_new : Conditions)
    → IsBuilt text rest done begun → IsAdded line done begun new open_new
    → parted_at 10 rest ≡ line ∷ parted_at 10 after → IsBuilt text after new open_new
built_more text rest line after done begun new open_new built added parts =
    let left = subst (λ lines. AreLines lines built.later) parts built.left in
    record {
      before = built.before ++ (line ∷ []);
      means = built.means ++ (added.own ∷ []);
      parts = built.parts ∙ ap (λ x. built.before ++ x) parts
          ∙ sym (append_assoc built.before (line ∷ []) (parted_at 10 after));
      are = are_more built.before built.means line added.own built.are added.is;
      later = left.1;
      left = left.4;
      same = built_same text rest line done begun new open_new built added;
    }

pub built_end : (text rest line : List ℕ) (done : List Conditions) (begun : Conditions)
    (new : List Conditions) (open_new : Conditions)
    → IsBuilt text rest done begun → IsAdded line done begun new open_new
    → parted_at 10 rest ≡ line ∷ [] → SpellsCriteria text (new ++ (open_new ∷ []))
built_end text rest line done begun new open_new built added parts =
    let means = built.means ++ (added.own ∷ []) in
    let last : with_open new open_new (no_conditions ∷ []) ≡ new ++ (open_new ∷ []) =
    ap (λ x. new ++ (x ∷ [])) (joined_none open_new) in (
      means,
      subst (λ lines. AreLines lines means) (sym (built.parts ∙ ap (λ x. built.before ++ x) parts))
          (are_more built.before built.means line added.own built.are added.is),
      sym (ap alternatives_of (sym (append-nil means))
          ∙ built_same text rest line done begun new open_new built added [] ∙ last),
    )

-- what the three meanings add
pub or_added : (done : List Conditions) (begun : Conditions) (more : List (Meaning (List ℕ)))
    → with_open (done ++ (begun ∷ [])) no_conditions (alternatives_of more)
    ≡ with_open done begun (alternatives_of (Or ∷ more))
or_added done begun more =
    let f = some_alternative more in
    ap (with_open (done ++ (begun ∷ [])) no_conditions) f.2
    ∙ append_assoc done (begun ∷ []) (f.0 ∷ f.1)
    ∙ ap (λ x. done ++ (x ∷ (f.0 ∷ f.1))) (sym (joined_none begun))
    ∙ ap (λ x. with_open done begun (no_conditions ∷ x)) (sym f.2)

pub condition_added : (done : List Conditions) (begun : Conditions) (condition : Condition (List ℕ))
    (more : List (Meaning (List ℕ)))
    → with_open done (joined begun (with_condition condition no_conditions)) (alternatives_of more)
    ≡ with_open done begun (alternatives_of (Asks condition ∷ more))
condition_added done begun condition more =
    let f = some_alternative more in
    ap (with_open done (joined begun (with_condition condition no_conditions))) f.2
    ∙ ap (λ x. done ++ (x ∷ f.1)) (joined_assoc begun (with_condition condition no_conditions) f.0
    ∙ ap (joined begun) (with_joined condition f.0))
    ∙ ap (λ x. with_open done begun (onto_first condition x)) (sym f.2)

-- conditions that are spelled have the contents of strings
claim_good : (text : List ℕ) (claim : GameClaim (List ℕ)) → SpellsGame text claim → IsGood claim
claim_good text (Tag names (Text relation contents)) spells = spells.1
claim_good text (Tag names (Date comparison days)) spells =
    days_good (parted_at 46 spells.0) days spells.2
claim_good text claim spells = tt

taken_good : (text : List ℕ) (denied : Bool) (claim : GameClaim (List ℕ))
    → SpellsTaken SpellsGame text denied claim → IsGood claim
taken_good text false claim spells = claim_good text claim spells
taken_good text true claim (own, after, spells) = claim_good own claim spells

with_good : (text : List ℕ) (condition : Condition (List ℕ)) (asked : Conditions)
    → SpellsCondition text condition → AreGood asked → AreGood (with_condition condition asked)
with_good text (Game own) asked spells good = (taken_good text own.is_denied own.claim spells, good)
with_good text (Position own) asked spells good = good
with_good text (Move own) asked spells good = good
with_good text (Span claim) asked spells good = good

onto_good : (text : List ℕ) (condition : Condition (List ℕ)) (alternatives : List Conditions)
    → SpellsCondition text condition → AllGood alternatives
    → AllGood (onto_first condition alternatives)
onto_good text condition [] spells all = (with_good text condition no_conditions spells tt, tt)
onto_good text condition (first ∷ more) spells all =
    (with_good text condition first spells all.0, all.1)

with_own : (line : List ℕ) (own : Meaning (List ℕ)) (more : List (Meaning (List ℕ)))
    → IsLine line own → AllGood (alternatives_of more) → AllGood (alternatives_of (own ∷ more))
with_own line Nothing more is all = all
with_own line Or more is all = (tt, all)
with_own line (Asks condition) more is all =
    onto_good is.text condition (alternatives_of more) is.spells all

lines_good : (lines : List (List ℕ)) (means : List (Meaning (List ℕ))) → AreLines lines means
    → AllGood (alternatives_of means)
lines_good [] means none = subst (λ m. AllGood (alternatives_of m)) (sym none) (tt, tt)
lines_good (line ∷ lines) means (own, more, is, own_is, are) =
    rw is (with_own line own more own_is (lines_good lines more are))

pub spelled_good : (text : List ℕ) (alternatives : List Conditions)
    → SpellsCriteria text alternatives → AllGood alternatives
spelled_good text alternatives (means, are, same) =
    subst AllGood (sym same) (lines_good (parted_at 10 text) means are)
