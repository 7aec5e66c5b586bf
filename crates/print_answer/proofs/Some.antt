-- No line is empty: a line of length 0 is past the last. Assumes nothing.
use mathlib.Core.Path.{◌≡◌}
use mathlib.Core.List.{List, [], ◌∷◌, ◌++◌, map}
use Prim.Native.Nat.{ℕ, zero, suc, ◌<◌, ◌≤◌}
use native.Mathlib.Omega.{arith}
use lib.ListN.{length}
use Rattle.print_field.specs.Text.{joined}
use Rattle.print_field.specs.Puts.{put_line}
use Rattle.cut_def.specs.Refs.{Ref}
use Rattle.cut_def.specs.Edits.{Edit, put, delete}
use Rattle.request.specs.Answers.{Outcome, plan, nothing, refused}
use Rattle.plan_def.specs.Plans.{Plan, Add, Write}
use Rattle.print_line.specs.Lines.{number_line, refused_line, plan_line, delete_line, edit_line, ref_line, share_line, unref_line, release_line, add_line, write_line}
use Rattle.print_answer.specs.Printed.{plan_lines, printed, line_at}

-- none of them is empty
abbrev Full : List (List ℕ) → Type 0
Full [] = Unit {0}
Full (x ∷ l) = (0 < length x) × Full l

full_append : (l m : List (List ℕ)) → Full l → Full m → Full (l ++ m)
full_append [] m h k = k
full_append (x ∷ l) m h k = (h.0, full_append l m h.1 k)

full_map : {A : Type 0} (f : A → List ℕ) → ((a : A) → 0 < length (f a)) → (l : List A) → Full (map f l)
full_map f h [] = tt
full_map f h (a ∷ l) = (h a, full_map f h l)

edit_full : (e : Edit) → 0 < length (edit_line e)
unfolding put_line delete_line joined
edit_full (put f) = omega arith
edit_full (delete k) = omega arith

share_full : (r : Ref) → 0 < length (share_line r)
unfolding ref_line joined
share_full r = omega arith

unref_full : (r : Ref) → 0 < length (unref_line r)
unfolding ref_line joined
unref_full r = omega arith

release_full : (r : Ref) → 0 < length (release_line r)
unfolding ref_line joined
release_full r = omega arith

add_full : (a : Add) → 0 < length (add_line a)
unfolding add_line joined
add_full a = omega arith

write_full : (w : Write) → 0 < length (write_line w)
unfolding write_line joined
write_full w = omega arith

plan_full : (p : Plan) → 0 < length (plan_line p.size p.bytes p.prealloc)
unfolding plan_line joined
plan_full p = omega arith

refused_full : (n : ℕ) → 0 < length (refused_line n)
unfolding number_line joined
refused_full n = omega arith

printed_full : (o : Outcome Plan) → Full (printed o)
unfolding printed plan_lines
printed_full (plan p) = (
  plan_full p,
  full_append (map edit_line p.edits) _ (full_map edit_line edit_full p.edits)
      (full_append (map share_line p.shares) _ (full_map share_line share_full p.shares)
      (full_append (map unref_line p.unrefs) _ (full_map unref_line unref_full p.unrefs)
      (full_append (map release_line p.releases) _ (full_map release_line release_full p.releases)
      (full_append (map add_line p.adds) _ (full_map add_line add_full p.adds) (full_map write_line write_full p.writes))))),
)
printed_full nothing = (omega arith, tt)
printed_full (refused n) = (refused_full n, tt)

past : (l : List (List ℕ)) (n : ℕ) → Full l → length (line_at n l) ≡ 0 → length l ≤ n
past [] n h e = omega arith
past (x ∷ l) zero h e = absurd (omega (arith, h.0, e))
past (x ∷ l) (suc n) h e = omega (arith, past l n h.1 e)

-- so a caller that asks for line after line ends where the answer does
pub line-past : (o : Outcome Plan) (n : ℕ) → length (line_at n (printed o)) ≡ 0 → length (printed o) ≤ n
line-past o n e = past (printed o) n (printed_full o) e
