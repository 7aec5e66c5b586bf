use Rattle.std.proofs.Common.{refl, sym, ◌∙◌, arith}
use Rattle.clone_copies.proofs.Walk.{sought_at, sought_none}
use Rattle.clone_copies.proofs.Copies.next_copied.Goals as goal

pub overflow_add-result : goal.overflow_add-result
overflow_add-result c = let a = c.args in let s = sought_at a.self.copying.range a.self.source.now a.k _ (sym c.distance.ensures ∙ c.in-Some.is) in omega (arith, s.settled.most)

pub returns-in-Some : goal.returns-in-Some
returns-in-Some c = let a = c.args in sought_at a.self.copying.range a.self.source.now a.k _ (sym c.distance.ensures ∙ c.in-Some.is)

pub returns-in-None : goal.returns-in-None
returns-in-None c = let a = c.args in sought_none a.self.copying.range a.self.source.now a.k _ refl c.requires (sym c.distance.ensures ∙ c.in-None.is)
