use Rattle.std.proofs.Common.{sym, refl, arith}
use Rattle.clone_copies.proofs.Steps.{next_copy, next-rest}
use Rattle.clone_copies.proofs.Merge.next_new.Goals as goal

pub next_copied-next-requires : goal.next_copied-next-requires
next_copied-next-requires c = omega (arith, c.in-Some.ensures.0)

pub returns-in-Some : goal.returns-in-Some
returns-in-Some c = let a = c.args in let p = c.requires in let s = c.in-Some.ensures in
    next_copy a.self.copies.copying.range a.self.copies.source.now a.self.segment.now a.j a.k a.self.copies_rise p.0 p.1 _ (sym s.2) _ _ refl s.0 s.1 c.next_copied-next.ensures

pub returns : goal.returns
returns c = let a = c.args in let p = c.requires in
    next-rest a.self.copies.copying.range a.self.copies.source.now a.self.segment.now a.j a.k a.self.copies_rise p.0 p.1 _ (sym c.in_default.ensures) c.segment_next.result refl c.segment_next.ensures
