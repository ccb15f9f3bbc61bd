use Rattle.pgn_extract.proofs.Common.{codes, on_ok_weaker}
use Rattle.pgn_extract.proofs.Writing.{appends_titled}
use Rattle.pgn_extract.proofs.app.endings.put_line.Goals as goal

pub returns : goal.returns
returns g c =
    let held = g.E.Write.contents in
    on_ok_weaker c.write_all-4.result
    (λ rest.
    appends_titled (held c.args.err.now.inner) (held c.write_all.new.out.inner)
    (held c.write_all-2.new.out.inner)
    (held c.write_all-3.new.out.inner) (held c.write_all-4.new.out.inner) (codes "pgn-extract: ") _
    _ _ _ c.title_of.ensures
    c.in_ok-write_all.ensures.ok c.in_ok-write_all-2.ensures.ok c.in_ok-write_all-3.ensures.ok rest)
    c.write_all-4.ensures.ok
