use Rattle.std.proofs.lemmas.Bool.Decides.{Decides-eqb}
use Rattle.std.proofs.lemmas.Slice.Eq.{strip_prefix_is}
use Rattle.pgn_extract.proofs.Common.{◌≡◌, ℕ, List, Bor, sym, ap, ◌∙◌, option_map, rest_after}
use Rattle.chess.proofs.RestFacts.{first_and_rest}
use Rattle.pgn_extract.proofs.app.MarkLineFacts.{stripped}
use Rattle.pgn_extract.proofs.rows.CommandFacts.{value_found, value_passed}
use Rattle.pgn_extract.proofs.rows.commands.command_value.Goals as goal

pub returns-in-Some : goal.returns-in-Some
returns-in-Some c =
    let opening = c.args.opening.now in
    let rest = c.loop-after.rest.now in
    let begins : option_map (λ (r : Bor (List ℕ)). r.now) c.strip_prefix.result
    ≡ rest_after opening rest =
    stripped opening rest c.strip_prefix.result
    (strip_prefix_is Decides-eqb rest opening c.strip_prefix.result c.strip_prefix.ensures.cases) in
    c.before_bracket.ensures
    ∙ value_found opening rest c.in-Some.after.now
    (sym begins ∙ ap (option_map (λ (r : Bor (List ℕ)). r.now)) c.in-Some.is)
    ∙ c.loop-after.invariant

pub loop-after-preserved : goal.loop-after-preserved
loop-after-preserved c =
    let opening = c.args.opening.now in
    let rest = c.loop-after.rest.now in
    let begins : option_map (λ (r : Bor (List ℕ)). r.now) c.strip_prefix.result
    ≡ rest_after opening rest =
    stripped opening rest c.strip_prefix.result
    (strip_prefix_is Decides-eqb rest opening c.strip_prefix.result c.strip_prefix.ensures.cases) in
    value_passed opening rest _ _
    (sym begins ∙ ap (option_map (λ (r : Bor (List ℕ)). r.now)) c.in_default.is)
    (first_and_rest rest c.in-len1-up.len_at_least)
    ∙ c.loop-after.invariant
