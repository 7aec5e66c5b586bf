use mathlib.Core.Path.{◌≡◌}
use Rattle.std.proofs.Common.{rules}
use Rattle.records.specs.Refusals.{number, why}
use Rattle.records.proofs.Refusals.{number-some}
use Rattle.change_ground.specs.Lent.{items_in, rows_in}
use Rattle.change_range.proofs.Finish.{why-placed, why-roomed}
use Rattle.change_range.proofs.finish_refusal.Goals as goal

pub places_refusal-requires : goal.places_refusal-requires
places_refusal-requires c = rw (c.along-wanted.ensures.0, c.along-wanted.ensures.1) c.requires

pub returns-in_err-places_refusal : goal.returns-in_err-places_refusal
returns-in_err-places_refusal c =
    let b = c.args.a.begun.base in
    let e = c.in_err-places_refusal in
    let told : why c.from_residual.result ≡ number e.field-0.0 = search rules in
    rw told (why-placed c.args.n (items_in b) (rows_in b) c.args.places.now _ _ (rw (c.along-wanted.ensures.0, c.along-wanted.ensures.1) at e.ensures) (number-some e.field-0.0))

pub returns : goal.returns
returns c =
    let b = c.args.a.begun.base in
    why-roomed c.args.n (items_in b) (rows_in b) c.args.places.now _ (rw (c.along-wanted.ensures.0, c.along-wanted.ensures.1) at c.in_ok-places_refusal.ensures) _ c.room_refusal.ensures
