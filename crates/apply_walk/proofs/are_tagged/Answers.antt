use Rattle.std.proofs.Common.{◌≡◌, ◌∙◌, ap, rules, tests}
use Rattle.std.specs.List.{list_all}
use Rattle.std.proofs.lemmas.Iterator.{YieldsList-from_slice}
use Rattle.std.proofs.lemmas.Iterator.Search.{all_from_yields_List}
use Rattle.apply_walk.proofs.Checks.{tag-of, tags-all}
use Rattle.apply_walk.proofs.are_tagged.Goals as goal

pub returns : goal.returns
returns c =
    let h : c.all.result ≡ list_all tag-of c.as_chunks.result.0.now =
    all_from_yields_List tag-of _ _ c.all.result c.all.ensures.ran (YieldsList-from_slice c.as_chunks.result.0.now cc) (λ x b q k. search (rules, tests)) in
    h ∙ ap (list_all tag-of) c.as_chunks.ensures.front ∙ tags-all c.args.edits.now
