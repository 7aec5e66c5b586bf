use mathlib.Core.Path.{refl, ◌∙◌}
use native.Mathlib.Omega.{arith}
use Rattle.std.proofs.Common.{rules, ◌≤◌}
use Rattle.table.specs.Rows.{rows}
use Rattle.change_refusals.proofs.Refusing.{lines-few, shares-told}
use Rattle.change_refusals.proofs.shares_refusal.Goals as goal
use Rattle.change_refusals.proofs.shares_refusal.Goals.{After-put_more-n}

-- there are at most 4 lines
few : (c : After-put_more-n) → c.put_more-n.result ≤ 4
few c = lines-few c.args.v c.args.c c.args.p c.args.list _ c.joined_of_list-m.ensures c.cut_of-k.result _ _ _ c.put_more-n.ensures

pub joined_of_list-m-requires : goal.joined_of_list-m-requires
joined_of_list-m-requires c = (c.requires, omega arith)

pub overflow_mul-lines : goal.overflow_mul-lines
overflow_mul-lines c = omega (arith, few (goal.at.overflow_mul-lines c).After-put_more-n)

pub slice_bounds-lines-end : goal.slice_bounds-lines-end
slice_bounds-lines-end c = let e = few (goal.at.slice_bounds-lines-end c).After-put_more-n in search rules

pub slice_bounds-lines_refusal-end : goal.slice_bounds-lines_refusal-end
slice_bounds-lines_refusal-end c = let e = few (goal.at.slice_bounds-lines_refusal-end c).After-put_more-n in search rules

pub returns : goal.returns
returns c = λ f shared part one.
    let a = c.args in
    c.lines_refusal.ensures
    ∙ shares-told a.v a.c a.p a.list _ c.joined_of_list-m.ensures _ _ _ _ c.put_more-n.ensures refl c.cut_of-k.ensures (rows a.table.numbers.now) f shared part one
