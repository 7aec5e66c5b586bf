use Rattle.change_segment.proofs.Puts.{join_front, join_back, made_all}
use Rattle.change_segment.proofs.written.Goals as goal

pub join_part-requires : goal.join_part-requires
join_part-requires c = let a = c.args in let p = c.insert_in_place.ensures in let q = c.insert_in_place-2.ensures in join_front a.t a.c a.p a.list _ c.requires.0 _ _ c.cut-m.ensures p.put p.stays _ q.put q.stays

pub join_part-requires-2 : goal.join_part-requires-2
join_part-requires-2 c =
    let a = c.args in
    let p = c.insert_in_place.ensures in
    let q = c.insert_in_place-2.ensures in
    let j = c.join_part.ensures in
    join_back a.t a.c a.p a.list _ c.requires.0 _ _ c.cut-m.ensures p.put p.stays _ q.put q.stays _ j.joined j.stays

pub returns : goal.returns
returns c =
    let a = c.args in
    let p = c.insert_in_place.ensures in
    let q = c.insert_in_place-2.ensures in
    let j = c.join_part.ensures in
    let k = c.join_part-2.ensures in
    made_all a.t a.c a.p a.list _ c.requires.0 _ _ c.cut-m.ensures p.put p.stays _ q.put q.stays _ j.joined j.stays _ k.joined k.stays
