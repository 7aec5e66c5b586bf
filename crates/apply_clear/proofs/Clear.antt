-- The loops of the tests. Assumes nothing.
use mathlib.Core.Path.{◌≡◌, refl, ap, ◌∙◌}
use mathlib.Core.Bool.{Bool, true, false, ◌&&◌, ◌||◌}
use mathlib.Core.List.{List, [], ◌∷◌, map}
use Rattle.std.specs.List.{list_all, zip}
use Rattle.std.specs.Simd.{first_chunks}
use Rattle.apply_def.proofs.Chunks.{all_read}
use Prim.Native.Nat.{ℕ, ◌/◌}
use lib.ListN.{length, get_or}
use Rattle.records.specs.Stages.{every, pairs}
use Rattle.records.proofs.Tests.{both, both_left, both_right, either_right}
use Rattle.table.specs.declared.Row.{Row}
use Rattle.plan_def.specs.Plans.{Add}
use Rattle.plan_def.specs.Places.{clear}
use Rattle.plan_def.specs.ReadBack.{add_in, adds_in}
use Rattle.apply_rows.proofs.Pairs.{adds_read}
use Rattle.apply_clear.specs.Clear.{add_sound, clear_staying, clear_of, add_fits, adds_fit, add_alone, adds_apart}

-- ---- rows

-- the code's test of each row is that of the lists
pub staying_read : (start l : ℕ) (rs : List Row) (gs : List Bool) → list_all (λ (p : Row × Bool). p.1 || clear start l p.0.start p.0.length) (zip rs gs) ≡ clear_staying gs start l rs
unfolding clear_staying
staying_read start l [] [] = refl
staying_read start l [] (g ∷ gs) = refl
staying_read start l (r ∷ rs) [] = refl
staying_read start l (r ∷ rs) (g ∷ gs) = ap (λ (b : Bool). (g || clear start l r.start r.length) && b) (staying_read start l rs gs)

-- ---- adds, each a chunk of three numbers

pub clear_read : (start l : ℕ) (cs : List (List ℕ)) → list_all (λ c. clear (get_or c 0 0) (get_or c 1 0) start l) cs ≡ every (clear_of start l) (map add_in cs)
unfolding add_in
clear_read start l cs = all_read add_in (clear_of start l) cs

-- ---- each by itself

-- clear of all rows, so of those that stay
pub all_clear : (gs : List Bool) (start l : ℕ) (rs : List Row) → every (λ (r : Row). clear start l r.start r.length) rs ≡ true → clear_staying gs start l rs ≡ true
unfolding clear_staying every
all_clear [] start l rs h = refl
all_clear (g ∷ gs) start l [] h = refl
all_clear (g ∷ gs) start l (r ∷ rs) h =
    let t : Row → Bool = λ r. clear start l r.start r.length in
    both (g || t r) (clear_staying gs start l rs) (either_right g (t r) (both_left (t r) (every t rs) h)) (all_clear gs start l rs (both_right (t r) (every t rs) h))

-- ---- the two parts together

four : (s c a e p : Bool) → ((s && c) && e) && (a && p) ≡ (s && (c && a)) && (e && p)
four true true true e p = refl
four true true false true p = refl
four true true false false p = refl
four true false a e p = refl
four false c a e p = refl

fits_both : (gone : List Bool) (rs : List Row) (adds : List Add) → (every (add_alone gone rs) adds && pairs adds_apart adds) ≡ adds_fit gone rs adds
unfolding every pairs adds_fit
fits_both gone rs [] = refl
fits_both gone rs (a ∷ adds) =
    four (add_sound a) (clear_staying gone a.start a.length rs) (every (clear_of a.start a.length) adds) (every (add_alone gone rs) adds) (pairs adds_apart adds)
    ∙ ap (λ (c : Bool). add_fits gone rs a adds && c) (fits_both gone rs adds)

pub fits_told : (gone : List Bool) (rs : List Row) (s : List ℕ) (cs : List (List ℕ)) (b : Bool) → cs ≡ first_chunks 3 (length s / 3) s
    → b ≡ (every (add_alone gone rs) (map add_in cs) && pairs adds_apart (map add_in cs)) → b ≡ adds_fit gone rs (adds_in s)
fits_told gone rs s cs b e q = q ∙ fits_both gone rs (map add_in cs) ∙ ap (adds_fit gone rs) (adds_read s cs e)
