-- The lists of a volume's files as bytes, and what they decode to. Assumes nothing.
use mathlib.Core.Path.{◌≡◌, refl, ap}
use mathlib.Core.Bool.{Bool, true, false, cond}
use mathlib.Core.List.{List, [], ◌∷◌, map}
use Prim.Native.Nat.{ℕ, ◌%◌}
use native.Mathlib.Omega.{arith}
use lib.Dec.{eqb}
use lib.ListN.{length}
use Rattle.endian.specs.Le.{Bytes}
use Rattle.records.specs.Records.{records, chunks}
use Rattle.item.specs.Items.{items}
use Rattle.history_theorem.specs.States.{FileList, list_of, with_list}
use Rattle.history_bytes.specs.StoredState.{FileBytes, bytes_of, with_bytes, read_file, WholeFiles}

pub list_read : (n : ℕ) (fs : List FileBytes) → list_of n (map read_file fs) ≡ items (bytes_of n fs)
unfolding list_of bytes_of
list_read n [] = unfold items records chunks in refl
list_read n (f ∷ fs) = go (eqb f.number n) (list_read n fs)
  where
    go : (b : Bool) → list_of n (map read_file fs) ≡ items (bytes_of n fs) → cond b (items f.bytes) (list_of n (map read_file fs)) ≡ items (cond b f.bytes (bytes_of n fs))
    go true h = refl
    go false h = h

pub with_read : (n : ℕ) (b : List ℕ) (fs : List FileBytes) → map read_file (with_bytes n b fs) ≡ with_list n (items b) (map read_file fs)
unfolding with_bytes with_list
with_read n b [] = refl
with_read n b (f ∷ fs) = go (eqb f.number n) (with_read n b fs)
  where
    go : (c : Bool) → map read_file (with_bytes n b fs) ≡ with_list n (items b) (map read_file fs)
        → map read_file (cond c (record { number = f.number; bytes = b } ∷ fs) (f ∷ with_bytes n b fs)) ≡ cond c (record { number = f.number; items = items b } ∷ map read_file fs) (read_file f ∷ with_list n (items b) (map read_file fs))
    go true h = refl
    go false h = ap (λ (l : List FileList). read_file f ∷ l) h

-- the list of every number is whole, also of one that is not there
pub whole_of : (n : ℕ) (fs : List FileBytes) → WholeFiles fs → (length (bytes_of n fs) % 70 ≡ 0) × Bytes (bytes_of n fs)
unfolding bytes_of
whole_of n [] w = (refl, λ i. omega arith)
whole_of n (f ∷ fs) w = go (eqb f.number n) (whole_of n fs w.2)
  where
    go : (b : Bool) → (length (bytes_of n fs) % 70 ≡ 0) × Bytes (bytes_of n fs) → (length (cond b f.bytes (bytes_of n fs)) % 70 ≡ 0) × Bytes (cond b f.bytes (bytes_of n fs))
    go true h = (w.0, w.1)
    go false h = h

pub whole_with : (n : ℕ) (b : List ℕ) → length b % 70 ≡ 0 → Bytes b → (fs : List FileBytes) → WholeFiles fs → WholeFiles (with_bytes n b fs)
unfolding with_bytes
whole_with n b m y [] w = (m, y, tt)
whole_with n b m y (f ∷ fs) w = go (eqb f.number n) (whole_with n b m y fs w.2)
  where
    go : (c : Bool) → WholeFiles (with_bytes n b fs) → WholeFiles (cond c (record { number = f.number; bytes = b } ∷ fs) (f ∷ with_bytes n b fs))
    go true h = (m, y, w.2)
    go false h = (w.0, w.1, h)
