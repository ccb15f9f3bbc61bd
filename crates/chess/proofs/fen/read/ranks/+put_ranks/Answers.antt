use Rattle.chess.proofs.Common.{◌≡◌, ℕ, List, ◌∷◌, subst, arith, Placement}
use Rattle.chess.proofs.Common.{parted_at, SpellRanks, run_of, after_run}
use Rattle.chess.proofs.FieldFacts.{parted_by_run, parted_after}
use Rattle.chess.proofs.fen.read.ranks.+put_ranks.Goals as goal

no_rank : (p : Placement) (rest : List ℕ) → SpellRanks p 0 (parted_at 47 rest) → ⊥
no_rank p rest spelled =
    let first : SpellRanks p 0 (run_of 47 rest ∷ parted_after 47 (after_run 47 rest)) =
    subst (SpellRanks p 0) (parted_by_run 47 rest) spelled in
    let low = first.0 in
    omega arith

-- a text with a slash is more than one rank
two_ranks : (p : Placement) (text first rest : List ℕ)
    → parted_at 47 text ≡ first ∷ parted_at 47 rest → SpellRanks p 1 (parted_at 47 text) → ⊥
two_ranks p text first rest e spelled = let both = subst (SpellRanks p 1) e spelled in
    no_rank p rest both.2

pub returns-then-rank-eq1-2-clause-spelled : goal.returns-then-rank-eq1-2-clause-spelled
returns-then-rank-eq1-2-clause-spelled g t c p spelled =
    let first = c.next_rank.result.0.now in
    let text = c.args.text.now in
    let last : c.args.rank ≡ 1 = omega arith in
    let parted : parted_at 47 text ≡ first ∷ parted_at 47 c.in-Some.rest.now =
    rw c.in-Some.is at c.next_rank.ensures in
    two_ranks p text first c.in-Some.rest.now parted
    (subst (λ n. SpellRanks p n (parted_at 47 text)) last spelled)
