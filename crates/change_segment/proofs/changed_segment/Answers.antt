use Rattle.change_segment.proofs.Puts.{new_all, made_read}
use Rattle.change_segment.proofs.changed_segment.Goals as goal

pub returns : goal.returns
returns c =
    let a = c.args in
    let p = c.insert_new.ensures in
    let q = c.insert_new-2.ensures in
    made_read _ _ _ _ _ _ _ _ (new_all _ a.c a.p a.at.front a.at.back a.g.leaves.list _ c.requires.0.inside _ _ _ c.written-m.ensures (rw c.front_new.ensures at p.put) p.stays _ (rw c.back_new.ensures at q.put) q.stays) c.read.ensures
