-- Computed examples: the lines of document 01, a line for each error, and the bounds by kind. Assumes nothing.
use mathlib.Core.Path.{◌≡◌, refl}
use mathlib.Core.List.{List, [], ◌∷◌, map}
use Prim.Native.Nat.{ℕ, ◌-◌, ◌^◌}
use Prim.Native.String.{String}
use lib.ListN.{get_or}
use Rattle.read_field.specs.Decimal.{digits, value, plain}
use Rattle.read_field.specs.Words.{bytes, starts}
use Rattle.read_field.specs.Parts.{more, into, numbers, filled}
use Rattle.read_field.specs.Fields.{fields}
use Rattle.read_line.specs.Forms.{read_by, read_line}
use Rattle.read_line.proofs.Sound.{greatest, least}

abbrev read : String → List ℕ
read s = (read_line (bytes s)).kind ∷ (read_line (bytes s)).values

-- a kind and its numbers; an unreadable line
abbrev line : ℕ → List ℕ → List ℕ
line kind vs = kind ∷ filled vs

abbrev unread : List ℕ
unread = line 0 []

abbrev readable : List (String × List ℕ)
readable =
    ("(volume (sector 4096) (total 1073741824) (generation 7) (snapshot 0))", line 1 (4096 ∷ 1073741824 ∷ 7 ∷ []))
    ∷ ("(file (number 257) (size 16384) (cow 1))", line 2 (257 ∷ 16384 ∷ 1 ∷ []))
    ∷ ("(item (key 0) (kind 1) (extent 1048576 16384) (window 0 16384))", line 3 (0 ∷ 1 ∷ 1048576 ∷ 16384 ∷ 0 ∷ 16384 ∷ []))
    ∷ ("(extent (at 1048576) (len 16384) (refs 1) (made 5) (keyed 0))", line 4 (1048576 ∷ 16384 ∷ 1 ∷ 5 ∷ 0 ∷ []))
    ∷ ("(punch (from 4096) (len 4096))", line 6 (4096 ∷ 4096 ∷ []))
    ∷ ("(place 8192)", line 5 (8192 ∷ []))
    ∷ ("(fallocate (from 1) (len 2) (keep 0))", line 7 (1 ∷ 2 ∷ 0 ∷ []))
    ∷ ("(clone (from 1) (to 2) (len 3))", line 8 (1 ∷ 2 ∷ 3 ∷ []))
    ∷ ("(item (key 1) (kind 2) (extent 3 4) (window 5 6) (generation 7) (ram 8) (compression 9) (encryption 10) (other 11) (shared 12))", line 3 (1 ∷ 2 ∷ 3 ∷ 4 ∷ 5 ∷ 6 ∷ 7 ∷ 8 ∷ 9 ∷ 10 ∷ 11 ∷ 12 ∷ []))
    ∷ ("(punch)", line 6 [])
    ∷ ("(item)", line 3 [])
    ∷ ("(punch (len 5))", line 6 (0 ∷ 5 ∷ []))
    ∷ ("(item (shared 255))", line 3 (0 ∷ 0 ∷ 0 ∷ 0 ∷ 0 ∷ 0 ∷ 0 ∷ 0 ∷ 0 ∷ 0 ∷ 0 ∷ 255 ∷ []))
    ∷ ("(item (kind 255) (other 65535))", line 3 (0 ∷ 255 ∷ 0 ∷ 0 ∷ 0 ∷ 0 ∷ 0 ∷ 0 ∷ 0 ∷ 0 ∷ 65535 ∷ []))
    ∷ ("(file (cow 1))", line 2 (0 ∷ 0 ∷ 1 ∷ []))
    ∷ ("(fallocate (keep 1))", line 7 (0 ∷ 0 ∷ 1 ∷ []))
    ∷ ("(place 18446744073709551615)", line 5 ((2 ^ 64 - 1) ∷ []))
    ∷ []

-- the numbers of these lines, and none of the others
readable_lines : map (λ (c : String × List ℕ). read c.0) readable ≡ map (λ (c : String × List ℕ). c.1) readable
unfolding digits value plain starts more into numbers fields read_by read_line
readable_lines = refl

abbrev unreadables : List String
unreadables =
    ""
    ∷ "("
    ∷ ")"
    ∷ "()"
    ∷ "punch"
    ∷ "(punch"
    ∷ " (punch)"
    ∷ "(punch) "
    ∷ "(punch))"
    ∷ "(punch)\r"
    ∷ "(punch )"
    ∷ "(Punch)"
    ∷ "(punched)"
    ∷ "(punch (from 1) (from 1))"
    ∷ "(punch (len 1) (from 1))"
    ∷ "(punch (to 1))"
    ∷ "(punch  (from 1))"
    ∷ "(punch\t(from 1))"
    ∷ "(punch(from 1))"
    ∷ "(punch (from 01))"
    ∷ "(punch (from +1))"
    ∷ "(punch (from -1))"
    ∷ "(punch (from 1) (len 18446744073709551616))"
    ∷ "(punch (from 1) (len))"
    ∷ "(item (extent 1))"
    ∷ "(item (extent 1 2 3))"
    ∷ "(item (window 1))"
    ∷ "(item (kind 256))"
    ∷ "(item (compression 256))"
    ∷ "(item (encryption 256))"
    ∷ "(item (other 65536))"
    ∷ "(item (shared 256))"
    ∷ "(item (window 0 1) (extent 1 1))"
    ∷ "(file (cow 2))"
    ∷ "(fallocate (keep 2))"
    ∷ "(place)"
    ∷ "(place )"
    ∷ "(place 1 2)"
    ∷ "(place (at 1))"
    ∷ "(clone (from 1) (len 3) (to 2))"
    ∷ []

unreadable-lines : map read unreadables ≡ map (λ (s : String). unread) unreadables
unfolding digits value plain starts more into numbers fields read_by read_line
unreadable-lines = refl

-- the bounds that a caller asks for: of an item, of cow and of keep, and the shortest item, extent and place
item_bounds : greatest 3 ≡ (2 ^ 64 - 1) ∷ 255 ∷ (2 ^ 64 - 1) ∷ (2 ^ 64 - 1) ∷ (2 ^ 64 - 1) ∷ (2 ^ 64 - 1) ∷ (2 ^ 64 - 1) ∷ (2 ^ 64 - 1) ∷ 255 ∷ 255 ∷ 65535 ∷ 255 ∷ []
item_bounds = refl

flag_bounds : (get_or (greatest 2) 2 0 ∷ get_or (greatest 7) 2 0 ∷ []) ≡ 1 ∷ 1 ∷ []
flag_bounds = refl

shortest_lines : (least 3 ∷ least 4 ∷ least 5 ∷ []) ≡ 6 ∷ 8 ∷ 9 ∷ []
shortest_lines = refl
