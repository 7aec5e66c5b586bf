use native.Mathlib.Omega.{arith}
use Rattle.change_lay.proofs.Laying.{ready_now, refs-laid}
use Rattle.change_lay.proofs.Started.lay_refs.Goals as goal

pub joined_segment-m-requires : goal.joined_segment-m-requires
joined_segment-m-requires c = let s = c.args.self in (ready_now s.begun s.generation, omega arith)

pub returns : goal.returns
returns c = λ at. refs-laid c.args.self.begun _ c.cut_of-k.ensures _ c.joined_segment-m.ensures at _ _ _ _ _ _ _ _ _ c.put_shares-shared.ensures c.put_drops-drops.ensures.unrefs c.put_drops-drops.ensures.releases
