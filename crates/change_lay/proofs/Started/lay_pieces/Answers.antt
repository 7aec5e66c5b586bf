use mathlib.Core.Path.{refl}
use Rattle.plan_def.specs.Outputs.{write_numbers}
use Rattle.plan_lines.proofs.Loops.{laid_same}
use Rattle.change_lay.proofs.Laying.{can_write, writes-same}
use Rattle.change_lay.proofs.Started.lay_pieces.Goals as goal

pub put_writes-writes-requires : goal.put_writes-writes-requires
put_writes-writes-requires c = can_write c.args.self

pub returns-clause-laid : goal.returns-clause-laid
returns-clause-laid c =
    let a = c.args in
    record {
      refs = c.lay_refs-refs.ensures a.at;
      edits = c.lay_edits-edits.ensures;
      writes = laid_same write_numbers 4 0 _ _ _ _ _ (writes-same a.self a.at) c.put_writes-writes.ensures;
      adds = refl;
    }
