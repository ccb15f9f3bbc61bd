-- What is reported of the first pieces of a block: a beginning is written, and a report has the
-- rest.
use Rattle.std.proofs.lemmas.List.Sums.{fold_push}
use Rattle.pgn_extract.proofs.Common.{◌≡◌, ℕ, ◌+◌, List, [], ◌∷◌, ◌++◌, length, Option, refl, sym}
use Rattle.pgn_extract.proofs.Common.{ap, ◌∙◌, subst, arith, append_assoc, length-append}
use Rattle.pgn_extract.proofs.Common.{if◌then◌else◌, MarkedPiece, Reports, Gathers, Passes}
use Rattle.pgn_extract.proofs.Common.{AddsMark, Begins, AppendsFront, Verdict, AreVerdicts}
use Rattle.pgn_extract.proofs.Common.{output_of, fault_line_of, is_faulty, Report, Aim}
use Rattle.pgn_extract.specs.Private.Blockwise.{AddsVerdict, BeginsVerdict, PassesVerdict}
use Rattle.pgn_extract.specs.Public.Verdicts.{IsVerdict}
use Rattle.pgn_extract.proofs.engine.Beginnings.{front_join}
use Rattle.pgn_extract.proofs.VerdictFacts.{output_text-append, fault_lines-append, verdicts-append}
use Rattle.pgn_extract.proofs.VerdictFacts.{joined}
use Rattle.pgn_extract.proofs.Writing.{appends_none, appends_join}

-- nothing is written, and the report has all
pub gathers_all : {aim : Aim} {report : Report} {number : ℕ} {pieces : List MarkedPiece}
    (out err : Option (List ℕ))
    → Reports aim report number pieces → Gathers aim report out out err err number pieces
gathers_all out err reports = record {
  verdicts = reports.verdicts;
  each = reports.each;
  first_output = [];
  first_faults = [];
  out_grew = appends_none out;
  err_grew = appends_none err;
  output = reports.output;
  faults = reports.faults;
  same = reports.same;
  games = reports.games;
  faulty = reports.faulty;
}

-- no pieces
pub gathers_none : (aim : Aim) (report : Report) (number : ℕ) (out err : Option (List ℕ))
    → report.output.items ≡ [] → report.faults.items ≡ []
    → report.games ≡ 0 → report.faulty ≡ 0 → Gathers aim report out out err err number []
gathers_none aim report number out err output faults games faulty =
    gathers_all out err (record {
      verdicts = [];
      each = refl;
      output = output;
      faults = faults;
      same = refl;
      games = games;
      faulty = faulty;
    })

-- one more text after what is written and what is gathered
push_text : (first old new one whole all : List ℕ) → first ++ old ≡ whole → new ≡ old ++ one
    → all ≡ whole ++ (one ++ []) → first ++ new ≡ all
push_text first old new one whole all was adds is =
    ap (λ t. first ++ t) adds ∙ sym (append_assoc first old one) ∙ ap (λ t. t ++ one) was
    ∙ joined whole one all is

-- what was gathered is in part written
pass_text : (first more old new whole : List ℕ) → first ++ old ≡ whole → more ++ new ≡ old
    → (first ++ more) ++ new ≡ whole
pass_text first more old new whole was is =
    append_assoc first more new ∙ ap (λ t. first ++ t) is ∙ was

-- what is added is all gathered
pub adds_passing : {old new : Report} {verdict : Verdict} {count : ℕ} (out err : Option (List ℕ))
    → AddsVerdict old new verdict count → PassesVerdict old new out out err err verdict count
adds_passing out err adds = record {
  first_output = [];
  first_faults = [];
  out_grew = appends_none out;
  err_grew = appends_none err;
  output = adds.output;
  faults = adds.faults;
  games = adds.games;
  faulty = adds.faulty;
}

module _ {aim : Aim} {report : Report} {out out' err err' : Option (List ℕ)} {number : ℕ}
    {pieces : List MarkedPiece}
    (g : Gathers aim report out out' err err' number pieces) where
  -- one more piece, and a beginning of what is reported of all of them is written
  pub gathers_passing : {out'' err'' : Option (List ℕ)} (new : Report) (here : ℕ)
      (piece : MarkedPiece) → here ≡ number + length pieces
      → (verdict : Verdict) × IsVerdict aim here piece verdict
      × PassesVerdict report new out' out'' err' err'' verdict 1
      → Gathers aim new out out'' err err'' number (pieces ++ piece ∷ [])
  gathers_passing {out''} {err''} new here piece is (verdict, how, p) = record {
    verdicts = g.verdicts ++ verdict ∷ [];
    each = verdicts-append aim number pieces (piece ∷ []) g.verdicts (verdict ∷ []) g.each
        (subst (λ n. AreVerdicts aim n (piece ∷ []) (verdict ∷ [])) is
        (verdict, [], refl, how, refl));
    first_output = g.first_output ++ p.first_output;
    first_faults = g.first_faults ++ p.first_faults;
    out_grew = appends_join out out' out'' g.first_output p.first_output g.out_grew p.out_grew;
    err_grew = appends_join err err' err'' g.first_faults p.first_faults g.err_grew p.err_grew;
    output =
        append_assoc g.first_output p.first_output _
        ∙ push_text g.first_output _ _ (output_of verdict) _ _ g.output p.output
        (output_text-append g.verdicts (verdict ∷ []));
    faults =
        append_assoc g.first_faults p.first_faults _
        ∙ push_text g.first_faults _ _ (fault_line_of verdict) _ _ g.faults p.faults
        (fault_lines-append g.verdicts (verdict ∷ []));
    same = omega
        (arith, g.same, length-append g.verdicts (verdict ∷ []), length-append pieces (piece ∷ []));
    games = p.games ∙ ap (λ n. n + 1) g.games ∙ omega (arith, length-append pieces (piece ∷ []));
    faulty = p.faulty ∙ ap (λ n. n + (if is_faulty verdict then 1 else 0)) g.faulty
        ∙ sym (fold_push (λ (n : ℕ) (x : Verdict).
        n + (if is_faulty x then 1 else 0)) 0 g.verdicts verdict);
  }

  -- nothing of it is written
  pub gathers_more : (new : Report) (here : ℕ) (piece : MarkedPiece) → here ≡ number + length pieces
      → AddsMark aim report new here piece
      → Gathers aim new out out' err err' number (pieces ++ piece ∷ [])
  gathers_more new here piece is (verdict, how, adds) =
      gathers_passing new here piece is (verdict, how, adds_passing out' err' adds)

  -- what the report has is passed on
  pub gathers_passed : {new : Report} {out'' err'' : Option (List ℕ)}
      → Passes report new out' out'' err' err'' → Gathers aim new out out'' err err'' number pieces
  gathers_passed {new} {out''} {err''} p = record {
    verdicts = g.verdicts;
    each = g.each;
    first_output = g.first_output ++ p.first_output;
    first_faults = g.first_faults ++ p.first_faults;
    out_grew = appends_join out out' out'' g.first_output p.first_output g.out_grew p.out_grew;
    err_grew = appends_join err err' err'' g.first_faults p.first_faults g.err_grew p.err_grew;
    output = pass_text g.first_output p.first_output _ _ _ g.output p.output;
    faults = pass_text g.first_faults p.first_faults _ _ _ g.faults p.faults;
    same = g.same;
    games = p.games ∙ g.games;
    faulty = p.faulty ∙ g.faulty;
  }

  -- a beginning of what the report has is written
  pub gathers_begun : {out'' err'' : Option (List ℕ)} (own after : List MarkedPiece)
      → own ≡ pieces ++ after
      → AppendsFront out' out'' report.output.items → AppendsFront err' err'' report.faults.items
      → Begins aim out out'' err err'' number own
  gathers_begun {out''} {err''} own after parted output faults = record {
    before = pieces;
    after = after;
    parted = parted;
    verdicts = g.verdicts;
    each = g.each;
    output =
        subst (AppendsFront out out'') g.output
        (front_join out out' out'' g.first_output report.output.items g.out_grew output);
    faults =
        subst (AppendsFront err err'') g.faults
        (front_join err err' err'' g.first_faults report.faults.items g.err_grew faults);
  }

  -- a beginning of that and of what is reported of one more piece is
  pub gathers_begun_in : {out'' err'' : Option (List ℕ)} (here : ℕ) (piece : MarkedPiece)
      (own after : List MarkedPiece) → here ≡ number + length pieces
      → own ≡ (pieces ++ piece ∷ []) ++ after
      → (verdict : Verdict) × IsVerdict aim here piece verdict
      × BeginsVerdict report out' out'' err' err'' verdict
      → Begins aim out out'' err err'' number own
  gathers_begun_in {out''} {err''} here piece own after is parted (verdict, how, b) = record {
    before = pieces ++ piece ∷ [];
    after = after;
    parted = parted;
    verdicts = g.verdicts ++ verdict ∷ [];
    each = verdicts-append aim number pieces (piece ∷ []) g.verdicts (verdict ∷ []) g.each
        (subst (λ n. AreVerdicts aim n (piece ∷ []) (verdict ∷ [])) is
        (verdict, [], refl, how, refl));
    output =
        subst (AppendsFront out out'')
        (push_text g.first_output _ _ (output_of verdict) _ _ g.output refl
        (output_text-append g.verdicts (verdict ∷ [])))
        (front_join out out' out'' g.first_output (report.output.items ++ output_of verdict)
        g.out_grew b.output);
    faults =
        subst (AppendsFront err err'')
        (push_text g.first_faults _ _ (fault_line_of verdict) _ _ g.faults refl
        (fault_lines-append g.verdicts (verdict ∷ [])))
        (front_join err err' err'' g.first_faults (report.faults.items ++ fault_line_of verdict)
        g.err_grew b.faults);
  }
