use native.Mathlib.Omega.{arith}
use Rattle.change_lay.proofs.Laying.{ready_now, rising, below, edits-laid}
use Rattle.change_lay.proofs.Started.lay_edits.Goals as goal

pub changed_segment-m-requires : goal.changed_segment-m-requires
changed_segment-m-requires c = let s = c.args.self in (ready_now s.begun s.generation, omega arith)

pub put_changes-requires : goal.put_changes-requires
put_changes-requires c = let a = c.args in rising a.self.begun a.at _ c.changed_segment-m.ensures _ c.requires

pub bytes_after-requires : goal.bytes_after-requires
bytes_after-requires c = let a = c.args in below a.self.begun a.at _ c.changed_segment-m.ensures

pub returns : goal.returns
returns c = let a = c.args in edits-laid a.self.begun a.at _ c.changed_segment-m.ensures _ c.requires _ _ _ _ c.put_changes.ensures c.bytes_after.ensures
