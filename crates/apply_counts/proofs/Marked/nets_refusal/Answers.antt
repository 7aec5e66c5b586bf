use Rattle.std.proofs.Common.{◌≡◌, ◌∙◌, ap, rules, tests, Bool}
use Rattle.std.specs.List.{list_all, zip}
use Rattle.std.proofs.lemmas.Iterator.{YieldsList-from_slice, YieldsList-from_zip}
use Rattle.std.proofs.lemmas.Iterator.Consumers.{YieldsList-from_first}
use Rattle.std.proofs.lemmas.Iterator.Search.{all_from_yields_List}
use lib.IntN.{ℤ}
use Rattle.records.specs.Stages.{unless}
use Rattle.table.specs.declared.Row.{Row}
use Rattle.table.specs.Rows.{rows}
use Rattle.table.specs.Reading.{left}
use Rattle.apply_counts.specs.Counts.{net_fits}
use Rattle.apply_counts.proofs.Nets.{nets_read}
use Rattle.apply_counts.proofs.Marked.nets_refusal.Goals as goal

pub returns : goal.returns
returns c =
    let rs = rows c.args.self.table.numbers.now in
    let ds = c.args.self.counts.changes.now in
    let h : c.all-fit.result ≡ list_all (λ (p : Row × ℤ). net_fits p.0.references p.1) (zip rs ds) =
    all_from_yields_List (λ (p : Row × ℤ). net_fits p.0.references p.1) c.all-fit.new.self _ c.all-fit.result c.all-fit.ensures.ran (YieldsList-from_zip (YieldsList-from_first (λ (x : Row). x) left rs cc) (YieldsList-from_slice ds cc)) (λ x b q k. search (rules, tests)) in
    c.check.ensures ∙ ap (λ (b : Bool). unless b 3) (h ∙ nets_read rs ds)
