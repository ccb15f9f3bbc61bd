-- The first entry is kept, and no later one.
use Rattle.std.specs.Prelude.{Option, None, Some, is_some, not}
use Rattle.std.proofs.Common.{◌≡◌, ◌∷◌, ℕ, [], true, false, length, ap, ◌∙◌}
use Rattle.pgn_extract.specs.Public.Listing.{AfterPly, Entry}
use Rattle.pgn_extract.specs.Private.Lines.{first_ply, is_bare}
use Rattle.pgn_extract.specs.Public.Rows.{place_of}
use Rattle.pgn_extract.proofs.ShownTexts.{nothing_shown}
use Rattle.pgn_extract.proofs.entries.sink.OptionUsizeSink.put.Goals as goal
use Rattle.pgn_extract.proofs.entries.sink.OptionUsizeSink.put.Goals.{then-is_none, else-is_none}

taken : (old new : Option ℕ) (own : ℕ) (entry : Entry) → is_some old ≡ false → new ≡ Some own
    → own ≡ entry.ply → new ≡ first_ply old (entry ∷ [])
taken None new own entry none put same = put ∙ ap (λ n. Some n) same
taken (Some ply) new own entry none put same = absurd (cc)

kept : (old new : Option ℕ) (entry : Entry) → is_some old ≡ true → new ≡ old
    → new ≡ first_ply old (entry ∷ [])
kept None new entry some same = absurd (cc)
kept (Some ply) new entry some same = same

pub returns-clause-put : goal.returns-clause-put
returns-clause-put g c = (
  AfterPly [],
  λ aim game before P at id makes. (
    λ replay own rest is.
        nothing_shown aim.line (ap is_bare makes.line ∙ c.requires.takes.0)
        (place_of aim.name aim.openings id aim.of_line game replay (length before))
        (makes.of_line ∙ c.requires.takes.1),
    elim c.if-is_none.branch [
      | then-is_none w ↦
          taken c.args.self.now _ w.ply.result _ (c.is_none.ensures ∙ ap not w.if-is_none.true)
          (w.self-is) (w.ply.ensures aim game before P at)
      | else-is_none w ↦
          kept c.args.self.now _ _ (c.is_none.ensures ∙ ap not w.if-is_none.false) w.self-is
    ],
  ),
)
