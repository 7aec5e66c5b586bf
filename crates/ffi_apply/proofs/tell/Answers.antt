use mathlib.Core.Path.{ap}
use mathlib.Core.List.{[], ◌∷◌}
use native.Mathlib.Omega.{arith}
use lib.Seq.{sets-eq}
use Rattle.endian.specs.Le.{put}
use Rattle.apply.specs.Outcomes.{applied_said}
use Rattle.ffi_apply.proofs.Telling.{heard-done}
use Rattle.ffi_apply.proofs.tell.Goals as goal

pub returns-in-Ok : goal.returns-in-Ok
unfolding put
returns-in-Ok c = heard-done _ _ _ _ _ (ap applied_said c.in-Ok.is) (sets-eq (_ ∷ _ ∷ []) c.args.answer.now 0 (omega arith))
