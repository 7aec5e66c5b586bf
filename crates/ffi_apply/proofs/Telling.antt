-- The byte and the two counts of an answer, and what the export leaves. Assumes nothing.
use mathlib.Core.Path.{◌≡◌, refl, sym}
use mathlib.Core.List.{List, [], ◌∷◌}
use Prim.Native.Nat.{ℕ, ◌≤◌, ◌<◌}
use lib.ListN.{length}
use borrow.Author.Tests.{le-leb, lt-leb}
use Rattle.endian.specs.Le.{put}
use Rattle.apply_def.specs.Apply.{Applying}
use Rattle.apply.specs.Outcomes.{Told, done, Applied, applied_said, MetApplyingWith}
use Rattle.ffi_apply.specs.Exports.{with_two, Heard, ExportedWith}

-- a plan that is applied is told by its two counts
pub heard-done : (t : Told) (items rows : ℕ) (answer answer' : List ℕ) → t ≡ done items rows → answer' ≡ put (items ∷ rows ∷ []) 0 answer → Heard t 0 answer answer'
heard-done t items rows answer answer' e w = rw e (record { byte = refl; counts = w })

-- too short an `answer`
pub export_short : (o : Applying) (answer list table : List ℕ) → length answer < 2 → ExportedWith (with_two answer o) 27 answer answer list list table table
export_short o answer list table h = rw (lt-leb _ _ h) (record { heard = record { byte = refl; counts = refl }; bytes = refl; numbers = refl })

-- what applying did, told
pub export-told :
    (o : Applying) (a : Applied) (r : ℕ) (answer answer' list list' table table' : List ℕ) → 2 ≤ length answer
    → MetApplyingWith o a list list' table table' → Heard (applied_said a) r answer answer'
    → ExportedWith (with_two answer o) r answer answer' list list' table table'
export-told o a r answer answer' list list' table table' h m t =
    rw (le-leb _ _ h) (record { heard = rw (sym m.answer) t; bytes = m.bytes; numbers = m.numbers })
