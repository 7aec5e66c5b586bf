use Rattle.std.proofs.Common.{◌≡◌, ◌∙◌, rules, tests, get_or}
use Rattle.std.specs.List.{list_all}
use Rattle.std.proofs.lemmas.Iterator.{YieldsList-from_slice}
use Rattle.std.proofs.lemmas.Iterator.Search.{all_from_yields_List}
use Rattle.plan_def.specs.Places.{clear}
use Rattle.apply_clear.proofs.Clear.{clear_read}
use Rattle.apply_clear.proofs.is_clear_of_adds.Goals as goal

pub returns : goal.returns
returns c =
    let cs = c.args.adds.now in
    let h : c.all.result ≡ list_all (λ a. clear (get_or a 0 0) (get_or a 1 0) c.args.start c.args.len) cs =
    all_from_yields_List (λ a. clear (get_or a 0 0) (get_or a 1 0) c.args.start c.args.len) _ _ c.all.result c.all.ensures.ran (YieldsList-from_slice cs cc) (λ x b q k. search (rules, tests)) in
    h ∙ clear_read c.args.start c.args.len cs
