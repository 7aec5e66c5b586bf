-- How long a plan's parts are, and what an output keeps under them. Assumes nothing.
use mathlib.Core.Path.{◌≡◌, refl, sym}
use mathlib.Core.List.{List, [], ◌∷◌, ◌++◌, flat_map}
use Prim.Native.Nat.{ℕ, ◌*◌, ◌≤◌}
use native.Mathlib.Omega.{arith}
use native.Mathlib.Nat.{zero-add, suc-mul, zero-mul}
use lib.ListN.{length, take, drop, length-append}
use lib.Seq.{take-append_seam, drop-append_seam, get_or-take}
use Rattle.plan_def.specs.ReadBack.{add_in}
use Rattle.endian.specs.Le.{put}
use Rattle.endian.proofs.Numbers.{length-enc}
use Rattle.endian.proofs.Puts.{length-put}
use Rattle.item.specs.Items.{encode}
use Rattle.cut_def.specs.Refs.{Ref}
use Rattle.cut_def.specs.Edits.{Edit, put as putItem, delete}
use Rattle.plan_def.specs.Plans.{Add, Write}
use Rattle.plan_def.specs.Outputs.{edit_bytes, ref_numbers, add_numbers, write_numbers, laid}

-- ---- lengths

-- an edit is 71 bytes
pub edit-length : (file : ℕ) (e : Edit) → length (edit_bytes file e) ≡ 71
edit-length file (putItem f) = unfold encode in simp (length-append, length-enc)
edit-length file (delete k) = simp (length-append, length-enc)

-- a share, an unref and a release are 2 numbers
pub ref-length : (r : Ref) → length (ref_numbers r) ≡ 2
ref-length r = refl

-- an add is 3
pub add_length : (a : Add) → length (add_numbers a) ≡ 3
add_length a = refl

-- a sector write is 4
pub write_length : (w : Write) → length (write_numbers w) ≡ 4
write_length w = refl

module _ {A : Type 0} (f : A → List ℕ) where
  -- all parts, if each has w numbers
  pub parts_length : (w : ℕ) → ((a : A) → length (f a) ≡ w) → (parts : List A) → length (flat_map f parts) ≡ length parts * w
  unfolding flat_map
  parts_length w h [] = sym (zero-mul w)
  parts_length w h (a ∷ parts) = rw (length-append, h, suc-mul) (omega (arith, parts_length w h parts))

  -- ---- outputs

  -- an output stays as long as it is
  pub laid-length : (parts : List A) (out : List ℕ) → length (flat_map f parts) ≤ length out → length (laid f parts out) ≡ length out
  laid-length parts out h = length-put (flat_map f parts) 0 out (omega arith)

  -- the parts, and what is left of the output
  laid-is : (parts : List A) (out : List ℕ) → laid f parts out ≡ flat_map f parts ++ drop (length (flat_map f parts)) out
  unfolding put
  laid-is parts out = rw zero-add refl

  -- it starts with the parts
  pub laid_parts : (parts : List A) (out : List ℕ) → take (length (flat_map f parts)) (laid f parts out) ≡ flat_map f parts
  laid_parts parts out = rw (laid-is, take-append_seam) refl

  -- "Output past the plan keeps its bytes."
  pub laid-past : (parts : List A) (out : List ℕ) → drop (length (flat_map f parts)) (laid f parts out) ≡ drop (length (flat_map f parts)) out
  laid-past parts out = rw (laid-is, drop-append_seam) refl

-- an add is its own three numbers
pub add_own : (s : List ℕ) → add_in (take 3 s) ≡ add_in s
unfolding add_in
add_own s = rw (get_or-take 3 s 0 0 (omega arith), get_or-take 3 s 1 0 (omega arith), get_or-take 3 s 2 0 (omega arith)) refl
