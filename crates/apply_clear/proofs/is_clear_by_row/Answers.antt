use Rattle.std.proofs.Common.{◌≡◌, ◌∙◌, rules, tests, Bool, ◌||◌}
use Rattle.std.specs.List.{list_all, zip}
use Rattle.std.proofs.lemmas.Iterator.{YieldsList-from_slice, YieldsList-from_zip}
use Rattle.std.proofs.lemmas.Iterator.Consumers.{YieldsList-from_first}
use Rattle.std.proofs.lemmas.Iterator.Search.{all_from_yields_List}
use Rattle.table.specs.declared.Row.{Row}
use Rattle.table.specs.Rows.{rows}
use Rattle.table.specs.Reading.{left}
use Rattle.plan_def.specs.Places.{clear}
use Rattle.apply_clear.proofs.Clear.{staying_read}
use Rattle.apply_clear.proofs.is_clear_by_row.Goals as goal

pub returns : goal.returns
returns c =
    let rs = rows c.args.m.table.numbers.now in
    let gs = c.args.m.counts.gone.now in
    let h : c.all.result ≡ list_all (λ (p : Row × Bool). p.1 || clear c.args.start c.args.len p.0.start p.0.length) (zip rs gs) =
    all_from_yields_List (λ (p : Row × Bool). p.1 || clear c.args.start c.args.len p.0.start p.0.length) c.all.new.self _ c.all.result c.all.ensures.ran (YieldsList-from_zip (YieldsList-from_first (λ (x : Row). x) left rs cc) (YieldsList-from_slice gs cc)) (λ x b q k. search (rules, tests)) in
    h ∙ staying_read c.args.start c.args.len rs gs
