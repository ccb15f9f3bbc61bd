-- Which refusal is the first that applies.
use Rattle.std.specs.Option.{option_or}
use Rattle.pgn_extract.proofs.Common.{◌≡◌, ◌<◌, ◌≤◌, ℕ, nat_lt, true, false, Bool, List, [], ◌∷◌}
use Rattle.pgn_extract.proofs.Common.{◌++◌, Option, None, Some, codes, cond, refl, ap, ◌∙◌, arith}
use Rattle.pgn_extract.proofs.Common.{nat_tests, list_all, Refusal, first_line, option_refusals}
use Rattle.pgn_extract.proofs.Common.{text_refusals, refused, begin_of, end_of, is_one_line}
use Rattle.pgn_extract.proofs.Common.{bad_mark, Request}
use Rattle.pgn_extract.specs.Public.Requests.{row_refusals, other_refusals}
use Rattle.pgn_extract.specs.declared.marks.GameId.{GameId}

first_of_two : (first second : List Refusal)
    → first_line (first ++ second) ≡ option_or (first_line first) (first_line second)
first_of_two [] second = refl
first_of_two (refusal ∷ more) second =
    elim refusal.applies as (λ applies.
    cond applies (Some refusal.line) (first_line (more ++ second))
    ≡ option_or (cond applies (Some refusal.line) (first_line more)) (first_line second)) [
      | true ↦ refl
      | false ↦ first_of_two more second
    ]

-- that of rows, and without one that of the others
pub by_rows : (request : Request) (line : List ℕ) → first_line (row_refusals request) ≡ Some line
    → first_line (option_refusals request) ≡ Some line
by_rows request line is =
    first_of_two (row_refusals request) (other_refusals request)
    ∙ ap (λ found. option_or found (first_line (other_refusals request))) is

pub by_others : (request : Request) → first_line (row_refusals request) ≡ None
    → first_line (option_refusals request) ≡ first_line (other_refusals request)
by_others request none =
    first_of_two (row_refusals request) (other_refusals request)
    ∙ ap (λ found. option_or found (first_line (other_refusals request))) none

-- that of the options
pub by_options : (noted : Bool) (request : Request) (line : List ℕ)
    → first_line (option_refusals request) ≡ Some line → refused noted request ≡ Some line
by_options noted request line is =
    first_of_two (option_refusals request) (text_refusals noted request)
    ∙ ap (λ found. option_or found (first_line (text_refusals noted request))) is

-- and without one that of the texts
by_texts : (noted : Bool) (request : Request) (found : Option (List ℕ))
    → first_line (option_refusals request) ≡ None
    → first_line (text_refusals noted request) ≡ found → refused noted request ≡ found
by_texts noted request found none is =
    first_of_two (option_refusals request) (text_refusals noted request)
    ∙ ap (λ first. option_or first (first_line (text_refusals noted request))) none ∙ is

pub by_begin : (noted : Bool) (request : Request) → first_line (option_refusals request) ≡ None
    → begin_of request ≡ None → refused noted request ≡ Some (bad_mark noted)
by_begin noted request none begin =
    by_texts noted request (Some (bad_mark noted)) none (rw begin refl)

pub by_end : (noted : Bool) (request : Request) (begin : GameId)
    → first_line (option_refusals request) ≡ None → begin_of request ≡ Some begin
    → end_of request ≡ None → refused noted request ≡ Some (bad_mark noted)
by_end noted request begin none begins ends =
    by_texts noted request (Some (bad_mark noted)) none (rw (begins, ends) refl)

pub by_stretch : (noted : Bool) (request : Request) (begin : GameId) (end : ℕ)
    → first_line (option_refusals request) ≡ None → begin_of request ≡ Some begin
    → end_of request ≡ Some end → end ≤ begin.offset
    → refused noted request ≡ Some (codes "pgn-extract: --until is not after --from\n")
by_stretch noted request begin end none begins ends within =
    let short : nat_lt begin.offset end ≡ false = grind (arith, nat_tests) in
    by_texts noted request (Some (codes "pgn-extract: --until is not after --from\n")) none
    (rw (begins, ends, short) refl)

pub by_lines : (noted : Bool) (request : Request) (begin : GameId) (end : ℕ)
    → first_line (option_refusals request) ≡ None → begin_of request ≡ Some begin
    → end_of request ≡ Some end → begin.offset < end
    → list_all (λ condition. is_one_line condition.now) request.conditions.items ≡ false
    → refused noted request ≡ Some (codes "pgn-extract: --where takes one line\n")
by_lines noted request begin end none begins ends above lines =
    let long : nat_lt begin.offset end ≡ true = grind (arith, nat_tests) in
    by_texts noted request (Some (codes "pgn-extract: --where takes one line\n")) none
    (rw (begins, ends, long, lines) refl)
