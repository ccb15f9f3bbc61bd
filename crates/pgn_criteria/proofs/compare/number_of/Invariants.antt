use Rattle.pgn_criteria.proofs.Common.{◌≡◌, ◌≤◌, ◌<◌, ◌^◌, value_of, number_in, number_after}
use Rattle.pgn_criteria.proofs.compare.number_of.Given as goal

abbrev pub invariant-loop-byte : goal.invariant-loop-byte
invariant-loop-byte l = record {
  few : l.digits ≤ 18;
  small : l.number < 10 ^ l.digits;
  rest : number_after l.number l.digits l.byte-iterator ≡ number_in (value_of l.contents);
}
