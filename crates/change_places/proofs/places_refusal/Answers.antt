use mathlib.Core.Path.{◌∙◌, sym}
use lib.ListN.{length-map}
use Rattle.std.proofs.Common.{rules}
use Rattle.records.specs.Stages.{first}
use Rattle.table.specs.Rows.{rows}
use Rattle.plan_places.proofs.Laws.{places_wrong}
use Rattle.change_holes.specs.Walk.{wishes_of}
use Rattle.change_places.specs.Wishes.{wanted_of}
use Rattle.change_places.proofs.Ahead.{places_right}
use Rattle.change_places.proofs.places_refusal.Goals as goal

pub returns-then-places-wanted : goal.returns-then-places-wanted
returns-then-places-wanted c = places_wrong _ _ _ _ c.if-places-wanted.true (length-map (wishes_of c.args.w) wanted_of ∙ c.requires)

pub returns-in_err-each_refusal : goal.returns-in_err-each_refusal
unfolding first
returns-in_err-each_refusal c = let a = c.args in rw (← places_right (rows a.table.numbers.now) a.places.now (wishes_of a.w) (c.requires ∙ sym c.if-places-wanted.false), ← c.walk.ensures) (search rules)

pub returns : goal.returns
unfolding first
returns c = let a = c.args in rw (← places_right (rows a.table.numbers.now) a.places.now (wishes_of a.w) (c.requires ∙ sym c.if-places-wanted.false), ← c.walk.ensures) (search rules)
