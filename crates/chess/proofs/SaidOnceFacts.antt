-- A move text says one thing: one castling, or one move of a man.
use Rattle.chess.proofs.Common.{◌≡◌, ℕ, sym, ◌∙◌, List, reverse, reverse-reverse, same_Some, Said}
use Rattle.chess.proofs.Common.{Spells, IsCastlingText, unmarked, Wing}
use Rattle.chess.proofs.CastlingTextFacts.{stem_castles, castling_found}
use Rattle.chess.proofs.SpelledParts.{said_of, said_bytes}
use Rattle.chess.proofs.TextParts.{Bytes, ReadAs, read_text}

-- ---- castling

pub one_wing : (x : List ℕ) (v w : Wing) → IsCastlingText v x → IsCastlingText w x → v ≡ w
one_wing x v w text other =
    let stem = reverse (unmarked (reverse x)) in
    let is = reverse-reverse (unmarked (reverse x)) in
    same_Some v w ((castling_found v x stem is (stem_castles v x stem is text) w).0 other)

-- ---- what is said

-- two readings of one text say the same
said_by_bytes : (y : List ℕ) (a b : Bytes) → ReadAs y a → ReadAs y b → said_of a ≡ said_of b
said_by_bytes y a b one other =
    let letter : a.letter ≡ b.letter = sym one.letter ∙ other.letter in
    let file : a.file ≡ b.file = sym one.file ∙ other.file in
    let rank : a.rank ≡ b.rank = sym one.rank ∙ other.rank in
    let promotion : a.promotion ≡ b.promotion = sym one.promotion ∙ other.promotion in
    let target_file =
    same_Some a.target_file b.target_file (sym one.target_file ∙ other.target_file) in
    let target_rank =
    same_Some a.target_rank b.target_rank (sym one.target_rank ∙ other.target_rank) in
    λ i. said_of (record {
      letter = letter i;
      file = file i;
      rank = rank i;
      sign = a.sign;
      target_file = target_file i;
      target_rank = target_rank i;
      equals = a.equals;
      promotion = promotion i;
    })

pub one_said : (x : List ℕ) (s t : Said) → Spells x s → Spells x t → s ≡ t
one_said x s t spells others =
    let a = said_bytes x s spells in
    let b = said_bytes x t others in
    a.back
    ∙ said_by_bytes (reverse x) a.bytes b.bytes (read_text x a.marks a.bytes a.are a.all a.text)
    (read_text x b.marks b.bytes b.are b.all b.text)
    ∙ sym b.back
