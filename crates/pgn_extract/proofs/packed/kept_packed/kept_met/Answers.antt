use Rattle.std.proofs.lemmas.Result.{MatchResult-weaker}
use Rattle.pgn_extract.proofs.Common.{◌↔◌, ◌∙◌, List, Option, refl, sym, subst, Conditions, IsMet}
use Rattle.pgn_extract.proofs.Common.{heading_of}
use Rattle.pgn_criteria.specs.Public.Meeting.{Meets}
use Rattle.pgn_extract.proofs.entries.KeptLines.{tells_known}
use Rattle.pgn_extract.proofs.packed.kept_packed.kept_met.Goals as goal

pub returns-in-Ok-Some-clause-ok : goal.returns-in-Ok-Some-clause-ok
returns-in-Ok-Some-clause-ok c =
    MatchResult-weaker c.keep_record.result c.keep_record.ensures.ok
    (λ line stands aim given.
    stands aim
    (λ game other packed own replay is ply within.
    subst (λ (o : Option (List Conditions)). Meets (heading_of game) replay ply c.in-Ok-Some.search
    ↔ IsMet o (heading_of game) replay ply) (sym given)
    ((rw c.in-Ok-Some.field-0-is at c.in-Ok-Some.ensures.ok) game other packed own replay is ply
    within)))
    (λ fault none. tt)

pub returns-in-Ok-clause-ok : goal.returns-in-Ok-clause-ok
returns-in-Ok-clause-ok c =
    MatchResult-weaker c.keep_record-in-Ok.result c.keep_record-in-Ok.ensures.ok
    (λ line stands aim given.
    stands aim
    (λ game replay packed own.
    tells_known game replay own.is_replay c.args.criteria.now c.in-Ok.met.items c.in-Ok.met.items
    (c.in-Ok.ensures.met game replay packed own) (λ ply. refl) _ (given ∙ c.requires.criteria)))
    (λ fault none. tt)
