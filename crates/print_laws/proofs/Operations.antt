-- What is printed for each operation's answer. Assumes nothing.
use mathlib.Core.Path.{◌≡◌}
use mathlib.Core.Bool.{Bool}
use mathlib.Core.List.{List}
use Prim.Native.Nat.{ℕ, ◌<◌, ◌^◌}
use Rattle.endian.specs.Le.{Bytes}
use Rattle.request.specs.declared.Volume.{Volume}
use Rattle.request.specs.declared.File.{File}
use Rattle.request.specs.declared.Range.{Range}
use Rattle.request.specs.Given.{Answer}
use Rattle.plan_def.specs.Outputs.{Outs, Rooms, MetWith}
use Rattle.punch_def.specs.Punch.{punch_lent}
use Rattle.fallocate_def.specs.Fallocate.{fallocate_lent}
use Rattle.clone_span.specs.declared.CloneRange.{CloneRange}
use Rattle.clone_def.specs.Clone.{clone_lent}
use Rattle.plan_bounds.proofs.Fitting.{punch_fits, fallocate_fits, clone_fits}
use Rattle.print_answer.specs.Printed.{printed, shown}
use Rattle.print_laws.proofs.Back.{shown-printed}

-- what was lent are numbers of 64 bits and bytes, as every caller in Rattle has them
module _ (v : Volume) (f : File) (list shared table : List ℕ) (rooms : Rooms) (answer : Answer) (before after : Outs) (number : f.number < 2 ^ 64) (bytes : Bytes list) where
  module _ (r : Range) (places : List ℕ) (generation : v.generation < 2 ^ 64) where
    pub punch-shown : MetWith f.number (punch_lent v f r list shared table places rooms) answer before after → shown answer after ≡ printed (punch_lent v f r list shared table places rooms)
    punch-shown m = shown-printed f.number _ answer before after m (λ p e. punch_fits v f r list shared table places rooms p generation number bytes e)

    pub fallocate-shown : (keepSize : Bool) → MetWith f.number (fallocate_lent v f r keepSize list shared table places rooms) answer before after → shown answer after ≡ printed (fallocate_lent v f r keepSize list shared table places rooms)
    fallocate-shown keepSize m = shown-printed f.number _ answer before after m (λ p e. fallocate_fits v f r list shared table places rooms p generation number bytes keepSize e)

  pub clone-shown : (src : File) (own : Bool) (span : CloneRange) (source : List ℕ) → Bytes source → MetWith f.number (clone_lent v f src own span list shared source table rooms) answer before after → shown answer after ≡ printed (clone_lent v f src own span list shared source table rooms)
  clone-shown src own span source more m = shown-printed f.number _ answer before after m (λ p e. clone_fits v f src own span list shared source table rooms p number bytes more e)
