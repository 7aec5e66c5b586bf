use mathlib.Core.Path.{◌≡◌}
use mathlib.Core.List.{map}
use Prim.Native.Nat.{◌/◌}
use lib.ListN.{length}
use Rattle.std.proofs.Common.{rules}
use Rattle.records.specs.Refusals.{number, why}
use Rattle.records.proofs.Refusals.{number-some}
use Rattle.change_holes.specs.Walk.{left}
use Rattle.change_places.specs.Wishes.{wanted_of}
use Rattle.change_places.proofs.Ahead.{part-refused}
use Rattle.change_places.proofs.+pairs_refusal.Goals as goal

pub returns-in_err-pairs_refusal : goal.returns-in_err-pairs_refusal
returns-in_err-pairs_refusal t c =
    let a = c.args.all in
    let e = c.in_err-pairs_refusal in
    let told : why c.from_residual.result ≡ number e.field-0.0 = search rules in
    rw told (part-refused (length a.places.now / 2) a.places.now (map wanted_of (left a.walk)) _ e.ensures (number-some e.field-0.0))
