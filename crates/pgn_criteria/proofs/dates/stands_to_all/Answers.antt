use Rattle.std.proofs.Common.{◌↔◌}
use Rattle.pgn_criteria.specs.Private.DateEnds.{date_text}
use Rattle.pgn_criteria.proofs.DateFacts.{surely_equal, surely_unlike, surely_less, surely_no_more}
use Rattle.pgn_criteria.proofs.DateFacts.{surely_more, surely_no_less}
use Rattle.pgn_criteria.proofs.dates.stands_to_all.Goals as goal

along : {A B C : Type 0} → A ↔ B → B ↔ C → A ↔ C
along f g = (λ a. g.0 (f.0 a), λ c. f.1 (g.1 c))

pub returns-in-Equal : goal.returns-in-Equal
returns-in-Equal c =
    rw c.in-Equal.is (along c.are_within.ensures (surely_equal (date_text c.args.written)
    c.args.first c.args.last c.args.days c.requires.first c.requires.last))

pub returns-in-Unequal : goal.returns-in-Unequal
returns-in-Unequal c =
    rw c.in-Unequal.is (surely_unlike (date_text c.args.written) c.args.first c.args.last
    c.args.days c.requires.first c.requires.last c.may_be_within.result c.may_be_within.ensures)

pub returns-in-Less : goal.returns-in-Less
returns-in-Less c =
    let reports = rw (c.number_of.ensures, c.day_number-from.ensures) at c.compares.ensures in
    rw c.in-Less.is (along reports (surely_less (date_text c.args.written) c.args.first c.args.last
    c.args.days c.requires.first c.requires.last))

pub returns-in-LessOrEqual : goal.returns-in-LessOrEqual
returns-in-LessOrEqual c =
    let reports = rw (
      c.number_of-in-LessOrEqual.ensures,
      c.day_number-to.ensures,
    ) at c.compares-in-LessOrEqual.ensures in
    rw c.in-LessOrEqual.is (along reports (surely_no_more (date_text c.args.written) c.args.first
    c.args.last c.args.days c.requires.first c.requires.last))

pub returns-in-Greater : goal.returns-in-Greater
returns-in-Greater c =
    let reports =
    rw (c.number_of-in-Greater.ensures, c.day_number-to.ensures) at c.compares-in-Greater.ensures in
    rw c.in-Greater.is (along reports (surely_more (date_text c.args.written) c.args.first
    c.args.last c.args.days c.requires.first c.requires.last))

pub returns-in-GreaterOrEqual : goal.returns-in-GreaterOrEqual
returns-in-GreaterOrEqual c =
    let reports = rw (
      c.number_of-in-GreaterOrEqual.ensures,
      c.day_number-from.ensures,
    ) at c.compares-in-GreaterOrEqual.ensures in
    rw c.in-GreaterOrEqual.is (along reports (surely_no_less (date_text c.args.written) c.args.first
    c.args.last c.args.days c.requires.first c.requires.last))
