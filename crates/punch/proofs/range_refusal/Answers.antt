use Rattle.std.proofs.Common.{sym, arith}
use Rattle.punch.proofs.Passed.{Facts, facts}
use Rattle.punch.proofs.range_refusal.Goals as goal

pub invariant_of-leaves : goal.invariant_of-leaves
invariant_of-leaves c = let l = c.args.l in record { runs = (facts l.volume l.file c.args.r l.list.now l.shared.now l.table.now (sym c.in_ok-range_stages.ensures)).runs }

pub invariant_of-leaves-2 : goal.invariant_of-leaves-2
invariant_of-leaves-2 c = let l = c.args.l in record { one_each = (facts l.volume l.file c.args.r l.list.now l.shared.now l.table.now (sym c.in_ok-range_stages.ensures)).«one-each» }

pub invariant_of-ground : goal.invariant_of-ground
invariant_of-ground c = let l = c.args.l in record { kept = (facts l.volume l.file c.args.r l.list.now l.shared.now l.table.now (sym c.in_ok-range_stages.ensures)).«rows-kept» }

pub overflow_add-result : goal.overflow_add-result
overflow_add-result c = let l = c.args.l in omega (arith, (facts l.volume l.file c.args.r l.list.now l.shared.now l.table.now (sym c.in_ok-range_stages.ensures)).limit)

pub invariant_of-ground-2 : goal.invariant_of-ground-2
invariant_of-ground-2 c = let l = c.args.l in record { sound = (facts l.volume l.file c.args.r l.list.now l.shared.now l.table.now (sym c.in_ok-range_stages.ensures)).sound }

pub invariant_of-result : goal.invariant_of-result
invariant_of-result c =
    let l = c.args.l in
    let f : Facts l.volume l.file c.args.r l.list.now l.shared.now l.table.now = facts l.volume l.file c.args.r l.list.now l.shared.now l.table.now (sym c.in_ok-range_stages.ensures) in
    record { size_limit = f.size; some = f.some; limit = f.limit; sized = f.sized }
