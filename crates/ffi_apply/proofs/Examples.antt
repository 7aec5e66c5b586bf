-- Answers of applying as the export tells them, computed: the byte, and `answer` where it held 7, 8 and 9.
use mathlib.Core.Path.{◌≡◌, refl}
use mathlib.Core.List.{List, [], ◌∷◌, map}
use Prim.Native.Nat.{ℕ}
use Rattle.endian.specs.Le.{put}
use Rattle.apply_def.specs.Apply.{Applying, applied, refusal}
use Rattle.table.specs.declared.Row.{Row}
use Rattle.apply.specs.Outcomes.{told}
use Rattle.ffi_apply.specs.Exports.{code, counts_over, with_two}

row : Row
row = record { start = 4096; length = 4096; references = 1; made = 7; keyed = 0 }

tells : (answer : List ℕ) → Applying → ℕ × List ℕ
tells answer o = (code (told (with_two answer o)), counts_over (told (with_two answer o)) answer)

-- what is asked, and what is due
cases : List ((ℕ × List ℕ) × (ℕ × List ℕ))
cases =
    -- no record and two rows are left; a refusal
    (tells (7 ∷ 8 ∷ 9 ∷ []) (applied [] (row ∷ row ∷ [])), (0, 0 ∷ 2 ∷ 9 ∷ []))
    ∷ (tells (7 ∷ 8 ∷ 9 ∷ []) (refusal 14), (14, 7 ∷ 8 ∷ 9 ∷ []))
    -- two numbers suffice, one does not
    ∷ (tells (7 ∷ 8 ∷ []) (applied [] (row ∷ [])), (0, 0 ∷ 1 ∷ []))
    ∷ (tells (7 ∷ []) (applied [] (row ∷ [])), (27, 7 ∷ []))
    ∷ (tells [] (refusal 14), (27, []))
    ∷ []

right : map (λ (c : (ℕ × List ℕ) × (ℕ × List ℕ)). c.0) cases ≡ map (λ (c : (ℕ × List ℕ) × (ℕ × List ℕ)). c.1) cases
unfolding cases tells row put
right = refl
