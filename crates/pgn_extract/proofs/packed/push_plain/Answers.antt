use Rattle.std.specs.Prelude.{replicate}
use Rattle.std.proofs.lemmas.List.{length-replicate}
use Rattle.pgn_extract.proofs.Common.{◌≡◌, ◌+◌, ◌/◌, ◌++◌, ℕ, List, [], length, sym, ap}
use Rattle.pgn_extract.proofs.Common.{◌∙◌}
use Rattle.pgn_extract.proofs.Common.{initial, Replay, GameText, named_mark, listing}
use Rattle.pgn_extract.proofs.Common.{raw_id}
use Rattle.pgn_extract.proofs.PackedFacts.{plies_counted}
use Rattle.pgn_extract.proofs.packed.push_plain.Goals as goal

no_game : GameText
no_game = record { at = 0; text = []; tags = []; elements = []; result = [] }

pub returns-clause-ok : goal.returns-clause-ok
returns-clause-ok c =
    let raw = c.args.context.record.now in
    let marked : c.deref.result.now ≡ named_mark raw.name (raw_id raw) =
    c.deref.ensures.value ∙ c.in_ok-push_record_mark.ensures
    ∙ ap (λ t. t ++ named_mark raw.name (raw_id raw)) c.in_ok-mark.ensures.items in
    let adds = c.in_ok-push_lines.ensures raw.name c.args.context.settings.now.openings
    (raw_id raw) marked in
    let count = length c.plies.result.now / 3 in
    let any : Replay = record { positions = replicate (count + 1) initial; played = []; turns = [] }
    in
    let some = adds no_game any (length-replicate (count + 1) initial) in (
      (listing raw.name some.0, some.2),
      λ game replay packed own.
          let (entries, listed, text) = adds game replay
          (plies_counted own ∙ ap (λ (bytes : List ℕ). length bytes / 3 + 1) (sym c.plies.ensures))
          in (
            entries,
            listed,
            text,
          ),
    )
