-- Items put into a buffer of records: it is a list of items, set one by one. Assumes nothing.
use mathlib.Core.Path.{◌≡◌, refl, ap, ap₂, ◌∙◌, sym}
use mathlib.Core.List.{List, ◌∷◌, ◌++◌, append_assoc}
use mathlib.Core.Bool.{Bool, true, false}
use Prim.Native.Nat.{ℕ, zero, suc, ◌+◌, ◌*◌, ◌/◌, ◌^◌, ◌<◌, ◌≤◌}
use native.Mathlib.Omega.{arith}
use native.Mathlib.Nat.{zero-add, add_assoc, zero-mul, mul-le-mul_right, le-div_iff_mul-le, div-mul-le_self}
use lib.ListN.{length, take, drop, set, length-take, length-drop}
use lib.Seq.{drop_at, take-take, take-append-le, drop-append-le, drop-drop}
use Rattle.endian.specs.Le.{put, Bytes, room}
use Rattle.endian.proofs.Numbers.{num-room}
use Rattle.endian.proofs.Puts.{length-put}
use Rattle.records.specs.Select.{only}
use Rattle.records.specs.Records.{chunks, records}
use Rattle.item.specs.Items.{Fields, fields, item_of, decode, encode, items, Sound}
use Rattle.item.specs.declared.Item.{Item}
use Rattle.item.proofs.Runs.{decode-encode}
use Rattle.item.proofs.Laws.{item-decode, items_at, items-length}
use Rattle.records.proofs.Chunks.{drop-take}
use Rattle.item.proofs.Widths.{decode-take, length-encode}
use Rattle.cut_segment.specs.Segments.{nothing, item_at, Added}

-- ---- general laws of take, drop and put

take_put : (m at : ℕ) (vs s : List ℕ) → m ≤ at → at ≤ length s → take m (put vs at s) ≡ take m s
unfolding put
take_put m at vs s h l =
    let k : m ≤ length (take at s) = simp length-take (omega arith) in
    rw (append_assoc, take-append-le m (take at s) _ k, take-take) refl

drop-put : (m at : ℕ) (vs s : List ℕ) → m + at ≤ length s → drop m (put vs (m + at) s) ≡ put vs at (drop m s)
unfolding put
drop-put m at vs s h =
    let k : m ≤ length (take (m + at) s) = simp length-take (omega arith) in
    rw (append_assoc, drop-append-le m (take (m + at) s) _ k, drop-take, drop-drop, ← append_assoc, ← add_assoc) refl

-- ---- one record put: d reads a record of w numbers, which f gives

module _ {A : Type 0} (d : List ℕ → A) (f : A → List ℕ) (w : ℕ) (wide : (a : A) → length (f a) ≡ w) (own : (s : List ℕ) → d (take w s) ≡ d s) where
  -- of one that is read again
  chunks-put : (a : A) → ((s : List ℕ) → d (f a ++ s) ≡ a) → (n k : ℕ) (s : List ℕ) → k < n → n * w ≤ length s → chunks d w n (put (f a) (k * w) s) ≡ set (chunks d w n s) k a
  unfolding chunks
  chunks-put a r zero k s l m = absurd (omega arith)
  chunks-put a r (suc n) zero s l m =
      let e : put (f a) (0 * w) s ≡ f a ++ drop w s = unfold put in rw (zero-mul, zero-add, wide) refl in
      rw (e, r (drop w s), drop_at (f a) (drop w s) w (wide a)) refl
  chunks-put a r (suc n) (suc k) s l m =
      let q : suc k * w ≤ n * w = mul-le-mul_right w (omega arith) in
      let e : suc k * w ≡ w + k * w = omega arith in
      let t : d (put (f a) (suc k * w) s) ≡ d s = sym (own _) ∙ ap d (take_put w (suc k * w) (f a) s (omega arith) (omega arith)) ∙ own s in
      let u : drop w (put (f a) (suc k * w) s) ≡ put (f a) (k * w) (drop w s) = rw e (drop-put w (k * w) (f a) s (omega arith)) in
      ap₂ (λ (x : A) (xs : List A). x ∷ xs) t (ap (chunks d w n) u ∙ chunks-put a r n k (drop w s) (omega arith) (simp length-drop (omega arith)))

  -- a buffer is a list of records, and putting one in sets it
  pub records-put : 0 < w → (a : A) → ((s : List ℕ) → d (f a ++ s) ≡ a) → (k : ℕ) (s : List ℕ) → k < length s / w → records d w (put (f a) (k * w) s) ≡ set (records d w s) k a
  unfolding records
  records-put pos a r k s l =
      let m : suc k * w ≤ length s = (le-div_iff_mul-le {k = w} {x = suc k} {y = length s} pos).0 l in
      let e : length (put (f a) (k * w) s) ≡ length s = length-put (f a) (k * w) s (omega (arith, wide a)) in
      rw e (chunks-put a r (length s / w) k s l (div-mul-le_self (length s) w))

pub items-put : (f : Fields) (k : ℕ) (s : List ℕ) → Sound f → k < length s / 70 → items (put (encode f) (k * 70) s) ≡ set (items s) k f
unfolding items
items-put f k s h l = records-put decode encode 70 length-encode decode-take (omega arith) f (λ t. decode-encode f t h) k s l

-- the numbers of an item in code fit their widths
pub item-sound : (i : Item) → Bytes i.«data» → i.file < 2 ^ 64 → i.key_type < 256 → i.key < 2 ^ 64 → Sound (fields i)
unfolding room
item-sound i b h t k =
    record {
      file = omega arith;
      key_type = omega arith;
      key = omega arith;
      generation = num-room 8 0 i.«data» b;
      ram = num-room 8 8 i.«data» b;
      compression = num-room 1 16 i.«data» b;
      encryption = num-room 1 17 i.«data» b;
      other = num-room 2 18 i.«data» b;
      kind = num-room 1 20 i.«data» b;
      extent_start = num-room 8 21 i.«data» b;
      extent_length = num-room 8 29 i.«data» b;
      position = num-room 8 37 i.«data» b;
      length = num-room 8 45 i.«data» b;
    }

-- record n, read
pub record_read : (r : Item) (s : List ℕ) (n : ℕ) → n < length (items s) → r ≡ item_of (drop (n * 70) s) → fields r ≡ item_at s n
record_read r s n h e = item-decode r _ e ∙ sym (items_at s n nothing (omega (arith, items-length s)))

-- ---- appending

-- at most one more
pub added-few : (t : Bool) (n m : ℕ) (f : Fields) (s s' : List ℕ) → Added n (only t f) s m s' → m ≤ n + 1
added-few true n m f s s' h = omega (arith, h.many)
added-few false n m f s s' h = omega (arith, h.many)

-- a buffer of k records
pub items-room : (k : ℕ) (s : List ℕ) → k * 70 ≤ length s → k ≤ length (items s)
items-room k s h = omega (arith, items-length s)

-- as many bytes, as many records
pub items-same : (s s' : List ℕ) → length s' ≡ length s → length (items s') ≡ length (items s)
items-same s s' h = items-length s' ∙ rw h (sym (items-length s))
