use Rattle.std.proofs.Common.{rules}
use Rattle.std.proofs.lemmas.List.{map-append}
use Rattle.std.proofs.lemmas.Iterator.Consumers.{YieldsList-at, YieldsList-turn, YieldsList-end}
use native.Mathlib.Omega.{arith}
use mathlib.Core.List.{[], ◌∷◌}
use mathlib.Core.Path.{refl, ◌∙◌}
use lib.ListN.{length-append}
use borrow.Author.Tests.{eq-eqb}
use Rattle.records.proofs.Lists.{every_append, every_one}
use Rattle.drop_chains.specs.Chains.{unshared}
use Rattle.drop_chains.proofs.Walks.{freed_held, freed_count}
use Rattle.drop_chains.proofs.is_freed.Goals as goal

pub loop-byte-init : goal.loop-byte-init
unfolding Rattle.records.specs.Stages.every
loop-byte-init g c = rw c.into_iter-byte-iterator.ensures.into_iter_gives (c.requires.can, c.requires.ends, refl, refl)

pub returns-then-byte-ne0 : goal.returns-then-byte-ne0
returns-then-byte-ne0 g c bs road =
    let l = c.loop-byte in
    let t = YieldsList-turn (YieldsList-at c.into_iter-byte-iterator.ensures.into_iter_gives road) l.yielded _ l.yielded_by _ _ _ c.in-Some.is c.next.ensures.steps in
    freed_held c.args.references bs _ _ t.0 t.1 c.if-byte-ne0.true

pub overflow_add-drops : goal.overflow_add-drops
overflow_add-drops g c =
    let l = c.loop-byte in
    let t = YieldsList-turn (YieldsList-at c.into_iter-byte-iterator.ensures.into_iter_gives c.requires.few.1) l.yielded _ l.yielded_by _ _ _ c.in-Some.is c.next.ensures.steps in
    omega (arith, l.invariant.2, t.0, c.requires.few.2)

pub loop-byte-preserved : goal.loop-byte-preserved
loop-byte-preserved g c =
    let p = c.next.ensures.goes in (
      search (rules, p),
      search (rules, p),
      omega (arith, c.loop-byte.invariant.2, length-append c.loop-byte.yielded (c.in-Some.byte ∷ [])),
      rw map-append (every_append unshared _ _ c.loop-byte.invariant.3 (every_one unshared c.in-Some.byte (eq-eqb c.in-Some.byte 0 c.if-byte-ne0.false))),
    )

pub returns : goal.returns
returns g c bs road =
    let l = c.loop-byte in
    let t = YieldsList-end (YieldsList-at c.into_iter-byte-iterator.ensures.into_iter_gives road) l.yielded _ l.yielded_by _ _ c.in-None.is c.next.ensures.steps in
    freed_count c.args.references bs _ (rw t.0 at l.invariant.3) (l.invariant.2 ∙ t.1)
