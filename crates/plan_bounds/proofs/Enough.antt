-- Ample outputs have room for a plan of so many lines. Assumes nothing.
use mathlib.Core.Path.{◌≡◌}
use mathlib.Core.Bool.{true}
use Prim.Native.Nat.{◌*◌, ◌+◌, ◌/◌, ◌≤◌}
use native.Mathlib.Omega.{arith}
use lib.Dec.{leb}
use lib.ListN.{length}
use borrow.Author.Tests.{le-leb}
use Rattle.records.proofs.Tests.{both}
use Rattle.plan_def.specs.Plans.{Plan}
use Rattle.plan_def.specs.Outputs.{Rooms, room_for}
use Rattle.plan_bounds.specs.Ample.{most_records, most_places, enough, Ample}

pub enough-ample : Ample enough
enough-ample = record { edits = omega arith; shares = omega arith; unrefs = omega arith; releases = omega arith; adds = omega arith; writes = omega arith }

-- at most so many lines of each
pub record Few (p : Plan) : Type 0 where
  pub edits : length p.edits ≤ 4 * most_records
  pub shares : length p.shares ≤ 3 * most_records + 2
  pub unrefs : length p.unrefs ≤ 2 * most_records
  pub releases : length p.releases ≤ most_records
  pub adds : length p.adds ≤ most_places
  pub writes : length p.writes ≤ 2

pub fits : (r : Rooms) (p : Plan) → Ample r → Few p → room_for r p ≡ true
fits r p a f =
    both (leb (length p.edits) (r.edits / 71)) _ (le-leb (length p.edits) (r.edits / 71) (let x = a.edits in let y = f.edits in omega arith))
    (both (leb (length p.shares) (r.shares / 2)) _ (le-leb (length p.shares) (r.shares / 2) (let x = a.shares in let y = f.shares in omega arith))
    (both (leb (length p.unrefs) (r.unrefs / 2)) _ (le-leb (length p.unrefs) (r.unrefs / 2) (let x = a.unrefs in let y = f.unrefs in omega arith))
    (both (leb (length p.releases) (r.releases / 2)) _ (le-leb (length p.releases) (r.releases / 2) (let x = a.releases in let y = f.releases in omega arith))
    (both (leb (length p.adds) (r.adds / 3)) _ (le-leb (length p.adds) (r.adds / 3) (let x = a.adds in let y = f.adds in omega arith))
    (le-leb (length p.writes) (r.writes / 4) (let x = a.writes in let y = f.writes in omega arith))))))
