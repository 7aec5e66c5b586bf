-- The table with the adds inserted is kept exactly if they fit. Assumes nothing.
use mathlib.Core.Path.{◌≡◌, refl, ap, ap₂, ◌∙◌, sym}
use mathlib.Core.Bool.{Bool, true, false, cond, ◌&&◌, ◌||◌}
use mathlib.Core.List.{List, [], ◌∷◌}
use Prim.Native.Nat.{ℕ, ◌≤◌}
use native.Mathlib.Omega.{arith}
use lib.IntN.{ℤ}
use lib.ListN.{length}
use Rattle.records.specs.Stages.{every, pairs}
use Rattle.records.proofs.Lists.{every-mapped}
use Rattle.table.specs.declared.Row.{Row}
use Rattle.table.specs.Rows.{row_sound, table_kept}
use Rattle.plan_def.specs.Plans.{Add}
use Rattle.plan_def.specs.Places.{clear}
use Rattle.apply_def.specs.Apply.{row_of_add, insert_rows}
use Rattle.apply_def.proofs.Table.{rows_clear, inserted_kept}
use Rattle.apply_rows.specs.Places.{net_row, stay, new_rows}
use Rattle.apply_clear.specs.Clear.{add_sound, clear_staying, adds_fit}

-- clear of each row that stays
clear_stay : (ds : List ℤ) (gs : List Bool) (start n : ℕ) (rs : List Row) → length rs ≤ length ds → length rs ≤ length gs → clear_staying gs start n rs ≡ every (λ (r : Row). clear start n r.start r.length) (stay ds gs rs)
unfolding clear_staying stay every
clear_stay [] [] start n [] h k = refl
clear_stay [] (g ∷ gs) start n [] h k = refl
clear_stay (d ∷ ds) [] start n [] h k = refl
clear_stay (d ∷ ds) (g ∷ gs) start n [] h k = refl
clear_stay [] gs start n (r ∷ rs) h k = absurd (omega arith)
clear_stay (d ∷ ds) [] start n (r ∷ rs) h k = absurd (omega arith)
clear_stay (d ∷ ds) (g ∷ gs) start n (r ∷ rs) h k = go g (clear_stay ds gs start n rs (omega arith) (omega arith))
  where
    t : Row → Bool
    t r = clear start n r.start r.length

    go : (b : Bool) → clear_staying gs start n rs ≡ every t (stay ds gs rs) → ((b || t r) && clear_staying gs start n rs) ≡ every t (cond b (stay ds gs rs) (net_row r d ∷ stay ds gs rs))
    go true i = i
    go false i = ap (λ (c : Bool). t r && c) i

and-true : (b : Bool) → (b && true) ≡ b
and-true true = refl
and-true false = refl

-- three tests of all are one test after the other of each
three : (s c a s' c' a' : Bool) → ((s && (c && a)) && (s' && (c' && a'))) ≡ ((s && s') && ((c && c') && (a && a')))
three true true true s' c' a' = refl
three true true false true true a' = refl
three true true false true false a' = refl
three true true false false c' a' = refl
three true false a true c' a' = refl
three true false a false c' a' = refl
three false c a s' c' a' = refl

module _ (generation : ℕ) (ds : List ℤ) (gs : List Bool) (rs : List Row) (h : length rs ≤ length ds) (k : length rs ≤ length gs) where
  abbrev staying : List Row
  staying = stay ds gs rs

  fits_all : (adds : List Add) → adds_fit gs rs adds ≡ (every row_sound (new_rows generation adds) && (every (λ x. every (rows_clear x) staying) (new_rows generation adds) && pairs (λ x y. rows_clear y x) (new_rows generation adds)))
  unfolding adds_fit every pairs
  fits_all [] = refl
  fits_all (a ∷ adds) =
      ap₂ (λ (x y : Bool). x && y)
      (ap₂ (λ (x y : Bool). x && y) (sym (and-true (add_sound a)))
      (ap₂ (λ (x y : Bool). x && y) (clear_stay ds gs a.start a.length rs h k) (sym (every-mapped (λ (y : Row). rows_clear y (row_of_add generation a)) (row_of_add generation) adds))))
      (fits_all adds)
      ∙ three (row_sound (row_of_add generation a)) (every (rows_clear (row_of_add generation a)) staying) (every (λ (y : Row). rows_clear y (row_of_add generation a)) (new_rows generation adds))
      (every row_sound (new_rows generation adds)) (every (λ x. every (rows_clear x) staying) (new_rows generation adds)) (pairs (λ x y. rows_clear y x) (new_rows generation adds))

  pub fits_kept : table_kept staying ≡ true → (adds : List Add) → adds_fit gs rs adds ≡ table_kept (insert_rows (new_rows generation adds) staying)
  fits_kept z adds = fits_all adds ∙ sym (inserted_kept (new_rows generation adds) staying z)
