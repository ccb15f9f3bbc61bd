-- Bytes are the pack of one list of games at most.
use Rattle.std.proofs.Common.{◌≡◌, ℕ, ◌/◌, ◌%◌, ◌^◌, ◌<◌, ◌==◌, List, [], ◌∷◌, ◌++◌, length, refl}
use Rattle.std.proofs.Common.{sym, ap, ◌∙◌, append_assoc, arith}
use Rattle.pgn_game.proofs.Common.{flat_map, AllByRecursion, flat_map-cons, PlyCode, FitsCode}
use Rattle.pgn_game.proofs.Common.{code_bytes, code_of, PackedGame, Tag, FitsTag, FitsRecord}
use Rattle.pgn_game.proofs.Common.{with_length, tag_bytes, head_of, numbered_result, record_bytes}
use Rattle.pgn_game.proofs.Common.{pack_bytes, RawRecord, raw_of, text_at, record_at}
use Rattle.pgn_game.specs.Public.Laws.{CodeIsReadBack, RecordHasOneReading, PackHasOneReading}
use Rattle.pgn_game.proofs.PlyCodeFacts.{code_again}
use Rattle.pgn_game.proofs.HeadFacts.{head_shows}
use Rattle.pgn_game.proofs.RecordFields.{ok_is, text_again}
use Rattle.pgn_game.proofs.RecordFacts.{record_again}

texts_same : (a b rest more : List ℕ) → length a < 2 ^ 32 → length b < 2 ^ 32
    → with_length a ++ rest ≡ with_length b ++ more → (a ≡ b) × (rest ≡ more)
texts_same a b rest more own other e =
    let both =
    ok_is (a, rest) (b, more) (sym (text_again a rest own) ∙ ap text_at e
    ∙ text_again b more other) in
    (ap (λ (p : List ℕ × List ℕ). p.0) both, ap (λ (p : List ℕ × List ℕ). p.1) both)

-- ---- tags

apart : (t : Tag) (ts : List Tag) (rest : List ℕ)
    → flat_map tag_bytes (t ∷ ts) ++ rest ≡ with_length t.0
    ++ (with_length t.1 ++ (flat_map tag_bytes ts ++ rest))
apart t ts rest =
    ap (λ (x : List ℕ). x ++ rest) (flat_map-cons tag_bytes t ts)
    ∙ append_assoc (tag_bytes t) (flat_map tag_bytes ts) rest
    ∙ append_assoc (with_length t.0) (with_length t.1) (flat_map tag_bytes ts ++ rest)

tags_same : (ts us : List Tag) (rest more : List ℕ) → length ts ≡ length us
    → AllByRecursion FitsTag ts → AllByRecursion FitsTag us
    → flat_map tag_bytes ts ++ rest ≡ flat_map tag_bytes us ++ more → ts ≡ us
tags_same [] [] rest more len own other e = refl
tags_same [] (u ∷ us) rest more len own other e = absurd (omega (arith, len))
tags_same (t ∷ ts) [] rest more len own other e = absurd (omega (arith, len))
tags_same (t ∷ ts) (u ∷ us) rest more len own other e =
    let names =
    texts_same t.0 u.0 (with_length t.1 ++ (flat_map tag_bytes ts ++ rest)) (with_length u.1
    ++ (flat_map tag_bytes us ++ more)) own.0.name other.0.name (sym (apart t ts rest) ∙ e
    ∙ apart u us more) in
    let contents =
    texts_same t.1 u.1 (flat_map tag_bytes ts ++ rest) (flat_map tag_bytes us
    ++ more) own.0.contents other.0.contents names.1 in
    let others = tags_same ts us rest more (omega (arith, len)) own.1 other.1 contents.1 in
    λ i. (names.0 i, contents.0 i) ∷ others i

-- ---- plies

abbrev first_code : List ℕ → PlyCode
first_code (a ∷ b ∷ d ∷ rest) = code_of a b d
first_code other = code_of 0 0 0

abbrev after_code : List ℕ → List ℕ
after_code (a ∷ b ∷ d ∷ rest) = rest
after_code other = []

-- the code that a code's bytes spell is that code
pub code_read_back : CodeIsReadBack
code_read_back c a b d fits e = ap first_code (sym e) ∙ code_again c fits

plies_same : (cs ds : List PlyCode) → AllByRecursion FitsCode cs → AllByRecursion FitsCode ds
    → flat_map code_bytes cs ≡ flat_map code_bytes ds → cs ≡ ds
plies_same [] [] own other e = refl
plies_same [] (d ∷ ds) own other e =
    absurd (omega (arith, ap length (e ∙ flat_map-cons code_bytes d ds)))
plies_same (c ∷ cs) [] own other e =
    absurd (omega (arith, ap length (sym e ∙ flat_map-cons code_bytes c cs)))
plies_same (c ∷ cs) (d ∷ ds) own other e =
    let both : code_bytes c ++ flat_map code_bytes cs ≡ code_bytes d ++ flat_map code_bytes ds =
    sym (flat_map-cons code_bytes c cs) ∙ e ∙ flat_map-cons code_bytes d ds in
    let first : c ≡ d = sym (code_again c own.0) ∙ ap first_code both ∙ code_again d other.0 in
    let others = plies_same cs ds own.1 other.1 (ap after_code both) in
    λ i. first i ∷ others i

-- ---- records

raw_same : (game other : PackedGame) → FitsRecord game → FitsRecord other
    → raw_of game ≡ raw_of other → game ≡ other
raw_same game other own fits e =
    let number = ap (λ (r : RawRecord). r.number) e in let offset =
    ap (λ (r : RawRecord). r.offset) e in
    let name = ap (λ (r : RawRecord). r.name) e in
    let head : head_of game ≡ head_of other = ap (λ (r : RawRecord). r.head) e in
    let shown = head_shows game own in let also = head_shows other fits in
    let count : length game.tags ≡ length other.tags =
    sym shown.count ∙ ap (λ (h : ℕ). h / 32) head ∙ also.count in
    let result = sym shown.result ∙ ap (λ (h : ℕ). numbered_result (h / 4 % 4)) head ∙ also.result
    in
    let check = sym shown.check ∙ ap (λ (h : ℕ). h % 2 == 1) head ∙ also.check in
    let stuck = sym shown.stuck ∙ ap (λ (h : ℕ). h / 2 % 2 == 1) head ∙ also.stuck in
    let plies =
    plies_same game.plies other.plies own.plies fits.plies (ap (λ (r : RawRecord). r.plies) e)
    in
    let tags =
    tags_same game.tags other.tags (flat_map code_bytes game.plies)
    (flat_map code_bytes other.plies) count own.tags fits.tags
    (ap (λ (r : RawRecord). r.tail) e) in
    λ i. record {
      number = number i;
      offset = offset i;
      name = name i;
      tags = tags i;
      result = result i;
      check = check i;
      stuck = stuck i;
      plies = plies i;
    }

pub one_record : RecordHasOneReading
one_record game other rest more own fits e =
    let both =
    ok_is (raw_of game, rest) (
      raw_of other,
      more,
    ) (sym (record_again game rest own) ∙ ap record_at e ∙ record_again other more fits) in (
      raw_same game other own fits (ap (λ (p : RawRecord × List ℕ). p.0) both),
      ap (λ (p : RawRecord × List ℕ). p.1) both,
    )

-- ---- packs

no_record : (game : PackedGame) (games : List PackedGame) → [] ≡ pack_bytes (game ∷ games) → ⊥
no_record game games e = omega (arith, ap length (e ∙ flat_map-cons record_bytes game games))

pub one_pack : PackHasOneReading
one_pack [] [] own fits e = refl
one_pack [] (other ∷ others) own fits e = absurd (no_record other others e)
one_pack (game ∷ games) [] own fits e = absurd (no_record game games (sym e))
one_pack (game ∷ games) (other ∷ others) own fits e =
    let both =
    one_record game other (pack_bytes games) (pack_bytes others) own.0 fits.0
    (sym (flat_map-cons record_bytes game games) ∙ e ∙ flat_map-cons record_bytes other others)
    in
    let more = one_pack games others own.1 fits.1 both.1 in
    λ i. both.0 i ∷ more i
