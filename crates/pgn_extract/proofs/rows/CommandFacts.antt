-- The value that is found of a command is the one that its definition says.
use Rattle.std.specs.Prelude.{◌==◌}
use Rattle.pgn_extract.proofs.Common.{◌≡◌, ◌≢◌, ◌≤◌, ℕ, true, false, List, [], ◌∷◌, ◌++◌}
use Rattle.pgn_extract.proofs.Common.{Option, None, Some, length, refl, sym, ap, ◌∙◌, arith}
use Rattle.pgn_extract.proofs.Common.{cases_Bool, eqb-true, same_Some, inl, inr, length-append}
use Rattle.pgn_extract.proofs.Common.{append_assoc, rest_after, drop}
use Rattle.chess.proofs.FieldFacts.{run_whole}
use Rattle.chess.specs.Shared.Runs.{run_of, after_run}
use Rattle.pgn_game.specs.Public.Comments.{has_bracket}
use Rattle.pgn_text.proofs.OneList.{same_fronts}
use Rattle.pgn_extract.specs.Private.Commands.{before_bracket, value_here, command_value}
use Rattle.pgn_extract.specs.Public.Annotations.{IsCommandAt, IsCommandValue, missing, stands}
use Rattle.pgn_extract.proofs.app.MarkLineFacts.{follows}

-- a text after the prefix that it begins with
begins_so : (prefix text rest : List ℕ) → rest_after prefix text ≡ Some rest
    → text ≡ prefix ++ rest
begins_so [] text rest is = same_Some text rest is
begins_so (a ∷ prefix) [] rest is = absurd (cc)
begins_so (a ∷ prefix) (b ∷ text) rest is = elim (cases_Bool (a == b)) [
  | inl same ↦ ap (λ c. c ∷ text) (sym (eqb-true a b same))
      ∙ ap (λ t. a ∷ t) (begins_so prefix text rest (rw same at is))
  | inr other ↦ absurd (cc (rw other at is))
]

-- The bytes before the first bracket.

-- from the first one on
after_has : (text : List ℕ) → has_bracket text ≡ true
    → (after : List ℕ) × (after_run 93 text ≡ 93 ∷ after)
after_has [] has = absurd (cc)
after_has (b ∷ text) has = elim (cases_Bool (b == 93)) [
  | inl is ↦ (text, rw is (ap (λ c. c ∷ text) (eqb-true b 93 is)))
  | inr other ↦ rw other (after_has text (rw other at has))
]

after_none : (text : List ℕ) → has_bracket text ≡ false → after_run 93 text ≡ []
after_none [] free = refl
after_none (b ∷ text) free = elim (cases_Bool (b == 93)) [
  | inl is ↦ absurd (cc (rw is at free))
  | inr other ↦ rw other (after_none text (rw other at free))
]

-- a text with a bracket is what stands before its first one, and more
bracket_parts : (text : List ℕ) → has_bracket text ≡ true
    → (after : List ℕ) × (text ≡ run_of 93 text ++ 93 ∷ after)
bracket_parts text has =
    let (after, is) = after_has text has in
    (after, sym (run_whole 93 text) ∙ ap (λ t. run_of 93 text ++ t) is)

run_has_none : (text : List ℕ) → has_bracket (run_of 93 text) ≡ false
run_has_none [] = refl
run_has_none (b ∷ text) = elim (cases_Bool (b == 93)) [
  | inl is ↦ rw is refl
  | inr other ↦ rw (other, other) (run_has_none text)
]

-- and what stands before it is a text without one
run_before : (value after : List ℕ) → has_bracket value ≡ false
    → run_of 93 (value ++ 93 ∷ after) ≡ value
run_before [] after free = refl
run_before (b ∷ value) after free = elim (cases_Bool (b == 93)) [
  | inl is ↦ absurd (cc (rw is at free))
  | inr other ↦ rw other (ap (λ t. b ∷ t) (run_before value after (rw other at free)))
]

-- as the code sees it
pub before_none : (text : List ℕ) → after_run 93 text ≡ [] → [] ≡ before_bracket text
before_none text is = elim (cases_Bool (has_bracket text)) [
  | inl has ↦ absurd (let some = after_has text has in cc (some.1))
  | inr free ↦ rw free refl
]

pub before_some : (text : List ℕ) → after_run 93 text ≢ [] → run_of 93 text ≡ before_bracket text
before_some text some = elim (cases_Bool (has_bracket text)) [
  | inl has ↦ rw has refl
  | inr free ↦ absurd (some (after_none text free))
]

-- A later command.

-- what follows the first of two fronts of a text ends with what follows the longer one
later_part : (x y p q : List ℕ) → x ++ y ≡ p ++ q → length x ≤ length p
    → (middle : List ℕ) × (y ≡ middle ++ q)
later_part [] y p q same short = (p, same)
later_part (a ∷ x) y [] q same short = absurd (omega arith)
later_part (a ∷ x) y (b ∷ p) q same short = later_part x y p q (ap (drop 1) same) (omega arith)

has_after : (front value after : List ℕ) → has_bracket (front ++ (value ++ 93 ∷ after)) ≡ true
has_after [] [] after = refl
has_after [] (b ∷ value) after = elim (cases_Bool (b == 93)) [
  | inl is ↦ rw is refl
  | inr other ↦ rw other (has_after [] value after)
]
has_after (b ∷ front) value after = elim (cases_Bool (b == 93)) [
  | inl is ↦ rw is refl
  | inr other ↦ rw other (has_after front value after)
]

-- a text with a command has a bracket, which follows where the command begins
pub command_closes : (opening text before value : List ℕ) → IsCommandAt opening text before value
    → has_bracket text ≡ true
command_closes opening text before value at =
    let ends = value ++ 93 ∷ at.after in
    ap has_bracket (at.parted ∙ sym (append_assoc before opening ends))
    ∙ has_after (before ++ opening) value at.after

bracket_later : (opening rest before value : List ℕ)
    → IsCommandAt opening (opening ++ rest) before value → has_bracket rest ≡ true
bracket_later opening rest before value at =
    let ends = value ++ 93 ∷ at.after in
    let (middle, is) = later_part opening rest (before ++ opening) ends
    (at.parted ∙ sym (append_assoc before opening ends))
    (omega (arith, length-append before opening)) in
    rw is (has_after middle value at.after)

no_command_in_nothing : (opening before value : List ℕ) → IsCommandAt opening [] before value → ⊥
no_command_in_nothing opening before value at =
    omega (
      arith,
      ap length at.parted,
      length-append before (opening ++ (value ++ 93 ∷ at.after)),
      length-append opening (value ++ 93 ∷ at.after),
      length-append value (93 ∷ at.after),
    )

-- the same command, with one byte more before it
one_before : (opening text before value : List ℕ) (b : ℕ) → IsCommandAt opening text before value
    → IsCommandAt opening (b ∷ text) (b ∷ before) value
one_before opening text before value b at = record {
  after = at.after;
  parted = ap (λ t. b ∷ t) at.parted;
  within = at.within;
}

-- where none begins at the first byte, each begins at a later one
later : (opening text before value : List ℕ) (b : ℕ) → rest_after opening (b ∷ text) ≡ None
    → IsCommandAt opening (b ∷ text) before value
    → (more : List ℕ) × (before ≡ b ∷ more) × IsCommandAt opening text more value
later opening text [] value b other at =
    let ends = value ++ 93 ∷ at.after in
    absurd (cc (follows opening ends, ap (rest_after opening) at.parted))
later opening text (c ∷ before) value b other at =
    let same : c ≡ b = cc (at.parted) in (
      before,
      ap (λ x. x ∷ before) same,
      record { after = at.after; parted = ap (drop 1) at.parted; within = at.within },
    )

-- The value that is found.

-- of a command that begins at the first byte
value_at_front : (opening rest : List ℕ)
    → IsCommandValue opening (opening ++ rest) (before_bracket rest)
value_at_front opening rest = elim (cases_Bool (has_bracket rest)) [
  | inl has ↦
      let (after, parts) = bracket_parts rest has in
      rw has (stands [] (record {
        after = after;
        parted = ap (λ t. opening ++ t) parts;
        within = run_has_none rest;
      }) (λ earlier other at. omega arith))
  | inr free ↦ rw free (missing (λ before value at.
      cc (bracket_later opening rest before value at)) refl)
]

-- of a later one
value_later : (opening text value : List ℕ) (b : ℕ) → rest_after opening (b ∷ text) ≡ None
    → IsCommandValue opening text value → IsCommandValue opening (b ∷ text) value
value_later opening text value b other (stands before at least) =
    stands (b ∷ before) (one_before opening text before value b at) (λ earlier own place.
    let (more, is, there) = later opening text earlier own b other place in
    let short = least more own there in
    rw is (omega arith))
value_later opening text value b other (missing never is) =
    missing (λ before own place.
    let (more, _, there) = later opening text before own b other place in
    never more own there) is

found : (opening text later : List ℕ) (rest : Option (List ℕ)) → rest_after opening text ≡ rest
    → (rest_after opening text ≡ None → IsCommandValue opening text later)
    → IsCommandValue opening text (value_here rest later)
found opening text later None is otherwise = otherwise is
found opening text later (Some rest) is otherwise =
    rw (begins_so opening text rest is) (value_at_front opening rest)

pub is_command_value : (opening text : List ℕ)
    → IsCommandValue opening text (command_value opening text)
is_command_value opening [] =
    found opening [] [] (rest_after opening []) refl (λ other.
    missing (no_command_in_nothing opening) refl)
is_command_value opening (b ∷ text) =
    found opening (b ∷ text) (command_value opening text) (rest_after opening (b ∷ text)) refl
    (λ other. value_later opening text (command_value opening text) b other
    (is_command_value opening text))

-- as the code sees it: where a command begins, and where it goes on
pub value_found : (opening text rest : List ℕ) → rest_after opening text ≡ Some rest
    → before_bracket rest ≡ command_value opening text
value_found opening [] rest is = rw is refl
value_found opening (b ∷ text) rest is = rw is refl

pub value_passed : (opening text more : List ℕ) (b : ℕ) → rest_after opening text ≡ None
    → text ≡ b ∷ more → command_value opening more ≡ command_value opening text
value_passed opening text more b other is = rw is (rw (rw is at other) refl)

pub value_missing : (opening text : List ℕ) → rest_after opening text ≡ None → text ≡ []
    → [] ≡ command_value opening text
value_missing opening text other is = rw is (rw (rw is at other) refl)

-- There is one.

one_at : (opening text before other x y : List ℕ) → length before ≡ length other
    → IsCommandAt opening text before x → IsCommandAt opening text other y → x ≡ y
one_at opening text before other x y same at of =
    let ends : opening ++ (x ++ 93 ∷ at.after) ≡ opening ++ (y ++ 93 ∷ of.after) =
    (same_fronts before (opening ++ (x ++ 93 ∷ at.after)) other (opening ++ (y ++ 93 ∷ of.after))
    same (sym at.parted ∙ of.parted)).1 in
    let values : x ++ 93 ∷ at.after ≡ y ++ 93 ∷ of.after =
    (same_fronts opening (x ++ 93 ∷ at.after) opening (y ++ 93 ∷ of.after) refl ends).1 in
    sym (run_before x at.after at.within) ∙ ap (run_of 93) values
    ∙ run_before y of.after of.within

pub one_command_value : (opening text x y : List ℕ) → IsCommandValue opening text x
    → IsCommandValue opening text y → x ≡ y
one_command_value opening text x y (stands before at least) (stands other of most) =
    let one = least other y of in
    let two = most before x at in
    one_at opening text before other x y (omega arith) at of
one_command_value opening text x y (stands before at least) (missing never is) =
    absurd (never before x at)
one_command_value opening text x y (missing never is) (stands other of most) =
    absurd (never other y of)
one_command_value opening text x y (missing never is) (missing nowhere also) = is ∙ sym also
