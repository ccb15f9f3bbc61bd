use Rattle.std.proofs.Common.{◌≡◌, ◌%◌, ◌<◌, length, drop}
use Rattle.std.specs.Int.Digits.{number_from_digits_after}
use Rattle.pgn_game.specs.Public.Residues.{modulus, residue}
use Rattle.pgn_game.proofs.pack.residue.residue.Given as goal

abbrev pub invariant-loop-rest : goal.invariant-loop-rest
invariant-loop-rest l = (l.left < modulus) × (number_from_digits_after 256 l.left l.rest % modulus ≡
    residue l.bytes)

abbrev pub decreases-loop-rest : goal.decreases-loop-rest
decreases-loop-rest l = length l.rest

abbrev pub invariant-loop-byte : goal.invariant-loop-byte
invariant-loop-byte l = (l.left < modulus) × (number_from_digits_after 256 l.left
    (drop l.byte-index l.byte-items) % modulus ≡ residue l.bytes)
