-- Ample outputs suffice for whatever an input says: the answer is the one that `enough` gives, and never 27. Assumes nothing.
use mathlib.Core.Path.{◌≡◌}
use mathlib.Core.List.{List, flat_map}
use Prim.Native.Nat.{ℕ, ◌≤◌}
use native.Mathlib.Omega.{arith}
use lib.ListN.{length, length-append}
use Rattle.item.specs.Items.{Fields, encode, items}
use Rattle.item.proofs.Laws.{items-length}
use Rattle.item.proofs.Widths.{length-encode}
use Rattle.plan_lines.proofs.Laws.{length_flat}
use Rattle.request.specs.Answers.{refused}
use Rattle.plan_def.specs.Outputs.{Rooms}
use Rattle.plan_bounds.specs.Ample.{most_records, enough, Ample}
use Rattle.plan_bounds.proofs.Enough.{enough-ample}
use Rattle.read_order.specs.Run.{Reading}
use Rattle.read_input.specs.Input.{read_input}
use Rattle.extplan_reply.specs.Replies.{operation_on}
use Rattle.extplan_reply.proofs.Operation.{operation-same, operation_never}
use Rattle.extplan_reply.proofs.Counts.{Known, known}

flat_few : (l : List Fields) → length l ≤ most_records → length (items (flat_map encode l)) ≤ most_records
flat_few l h = omega (arith, items-length (flat_map encode l), length_flat encode 70 (omega arith) length-encode l)

module _ (s : List ℕ) (short : length s ≤ 65536) where
  abbrev x : Reading
  x = read_input s

  k : Known x
  k = known s short

  few : length (items (flat_map encode x.items)) ≤ most_records
  few = flat_few x.items (omega (arith, k.few_items, length-append x.items x.source))

  more : length (items (flat_map encode x.source)) ≤ most_records
  more = flat_few x.source (omega (arith, k.few_items, length-append x.items x.source))

  pub enough-same : (rooms : Rooms) → Ample rooms → operation_on x rooms ≡ operation_on x enough
  unfolding operation_on
  enough-same rooms a = operation-same x.numbers _ _ _ _ _ rooms a few more k.few_places

  pub never_27 : operation_on x enough ≡ refused 27 → ⊥
  unfolding operation_on
  never_27 = operation_never x.numbers _ _ _ _ _ enough enough-ample few more k.few_places
