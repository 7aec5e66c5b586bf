use Rattle.std.proofs.Common.{◌≡◌, ◌∙◌, rules, tests}
use Rattle.std.specs.List.{list_all}
use Rattle.std.proofs.lemmas.Iterator.{YieldsList-from_slice}
use Rattle.std.proofs.lemmas.Iterator.Search.{all_from_yields_List}
use Rattle.table.specs.Rows.{rows}
use Rattle.plan_def.specs.ReadBack.{add_in}
use Rattle.apply_def.proofs.Chunks.{all_read}
use Rattle.apply_clear.specs.Clear.{add_alone}
use Rattle.apply_clear.proofs.each_fits.Goals as goal

pub returns : goal.returns
returns c =
    let cs = c.args.adds.now in
    let h : c.all.result ≡ list_all (λ a. add_alone c.args.m.counts.gone.now (rows c.args.m.table.numbers.now) (add_in a)) cs =
    all_from_yields_List (λ a. add_alone c.args.m.counts.gone.now (rows c.args.m.table.numbers.now) (add_in a)) _ _ c.all.result c.all.ensures.ran (YieldsList-from_slice cs cc) (λ x b q k. search (rules, tests)) in
    h ∙ all_read add_in (add_alone c.args.m.counts.gone.now (rows c.args.m.table.numbers.now)) cs
