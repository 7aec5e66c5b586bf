-- The byte and the nine numbers of an answer, and what an export leaves. Assumes nothing.
use mathlib.Core.Path.{◌≡◌, refl, sym, ◌∙◌}
use mathlib.Core.List.{List, [], ◌∷◌}
use native.Mathlib.Omega.{arith}
use Prim.Native.Nat.{ℕ, ◌≤◌, ◌<◌}
use lib.ListN.{length}
use borrow.Author.Tests.{le-leb, lt-leb}
use Rattle.endian.specs.Le.{put}
use Rattle.request.specs.declared.Numbers.{Numbers}
use Rattle.request.specs.Given.{Answer}
use Rattle.request.specs.Answers.{Outcome, plan, said}
use Rattle.plan_def.specs.Plans.{Plan, refused_or}
use Rattle.plan_def.specs.Outputs.{Outs, MetWith, outs}
use Rattle.ffi.specs.Exports.{nine, with_nine, Told, ExportedWith}

-- too short an `answer`
pub export_short : (file : ℕ) (o : Outcome Plan) (answer : List ℕ) (before : Outs) → length answer < 9 → ExportedWith file (with_nine answer o) 27 answer answer before before
unfolding refused_or
export_short file o answer before h = rw (lt-leb _ _ h) (record { told = record { byte = refl; numbers = refl }; outputs = refl })

-- what the operation did, told
pub export-told :
    (file : ℕ) (o : Outcome Plan) (a : Answer) (r : ℕ) (answer answer' : List ℕ) (before after after' : Outs) → 9 ≤ length answer
    → MetWith file o a before after → Told (said a) r answer answer' → after' ≡ after
    → ExportedWith file (with_nine answer o) r answer answer' before after'
unfolding refused_or
export-told file o a r answer answer' before after after' h m t e = rw (le-leb _ _ h) (record { told = rw (sym m.answer) t; outputs = e ∙ m.outputs })

-- a clone's last two outputs are empty
pub four-same : (e s u r a w : List ℕ) (after : Outs) → length a ≡ 0 → length w ≡ 0 → outs e s u r a w ≡ after → outs e s u r [] [] ≡ after
four-same e s u r [] [] after p q h = h
four-same e s u r [] (x ∷ w) after p q h = absurd (omega arith)
four-same e s u r (x ∷ a) w after p q h = absurd (omega arith)
