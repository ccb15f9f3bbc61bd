use Rattle.std.specs.Prelude.{not}
use Rattle.pgn_extract.proofs.Common.{◌↔◌, false, IsTrue, sym, subst, false≢true, aim_of, HasEntry}
use Rattle.pgn_extract.proofs.Common.{IsSelected, heading_of}
use Rattle.pgn_extract.proofs.Exported.{turned}
use Rattle.pgn_extract.proofs.engine.exporting.is_selected.Goals as goal

pub returns-in-Matching : goal.returns-in-Matching
returns-in-Matching c game replay reports =
    let Has = HasEntry (aim_of c.args.settings.now) (heading_of game) replay in
    subst (λ s. IsTrue c.args.has ↔ IsSelected s Has) (sym c.in-Matching.is) reports

pub returns-in-Others : goal.returns-in-Others
returns-in-Others c game replay reports =
    let Has = HasEntry (aim_of c.args.settings.now) (heading_of game) replay in
    subst (λ s. IsTrue (not c.args.has)
    ↔ IsSelected s Has) (sym c.in-Others.is) (turned c.args.has Has reports)

pub returns-in-Faulty : goal.returns-in-Faulty
returns-in-Faulty c game replay reports =
    let Has = HasEntry (aim_of c.args.settings.now) (heading_of game) replay in
    subst (λ s. IsTrue false ↔ IsSelected s Has) (sym c.in-Faulty.is) (
      (λ yes. false≢true yes),
      (λ never. absurd never),
    )
