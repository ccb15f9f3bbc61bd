use Rattle.std.proofs.Common.{Some}
use Rattle.pgn_text.proofs.Common.{refl, ap, take, ◌+◌, take_rest, KeptComment}
use Rattle.pgn_text.proofs.Braces.{brace_found, brace_none}
use Rattle.pgn_text.proofs.lex.scan.brace_comment.Goals as goal

pub returns-in_default : goal.returns-in_default
returns-in_default c = rw (brace_none c.args.text.now c.in_default.ensures) refl

pub returns : goal.returns
returns c =
    rw (brace_found c.args.text.now c.in-Some.end c.in-Some.ensures)
    (ap (λ rest. Some (KeptComment (take c.in-Some.end c.args.text.now), rest))
    (take_rest c.args.text.now (c.in-Some.end + 1)))
