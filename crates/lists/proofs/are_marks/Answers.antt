use Rattle.std.proofs.Common.{leb, ◌&&◌, refl, ◌∙◌, rules, tests}
use Rattle.std.specs.List.{list_all}
use Rattle.std.proofs.lemmas.Iterator.{YieldsList-from_slice}
use Rattle.std.proofs.lemmas.Iterator.Search.{all_from_yields_List}
use Rattle.std.proofs.lemmas.List.Recursion.{same_from_clauses}
use Rattle.records.specs.Stages.{every}
use Rattle.lists.proofs.are_marks.Goals as goal

-- what `all` answers is the library's test of a list, which recurses as `every` does
pub returns : goal.returns
unfolding every
returns c = all_from_yields_List (λ b. leb b 1) _ _ _ c.all.ensures.ran (YieldsList-from_slice c.args.shared.now cc) (λ x b q k. search (rules, tests))
    ∙ same_from_clauses (list_all (λ b. leb b 1)) (every (λ b. leb b 1)) (λ b all. leb b 1 && all) refl (λ _ _. refl) (λ _ _. refl) c.args.shared.now
