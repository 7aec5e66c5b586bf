-- A list's items with their shared bytes, for loops over both. Assumes nothing.
use mathlib.Core.Path.{◌≡◌, refl, ap, ap₂, ◌∙◌, subst}
use mathlib.Core.List.{List, [], ◌∷◌}
use mathlib.Core.Logic.{◌⊎◌, inl, inr}
use Prim.Native.Nat.{ℕ, ◌+◌, ◌*◌, ◌/◌, ◌<◌, ◌≤◌}
use native.Mathlib.Numerals.{add-one}
use lib.ListN.{length, get_or, drop}
use lib.Seq.{drop-cons}
use denote.Ref.{Bor}
use Rattle.std.specs.Prelude.{Option, Some, None}
use Rattle.std.specs.Iterator.{YieldsFirstBy}
use Rattle.std.specs.Iterator.Adapters.{zip_first, zip_second, zip_steps}
use Rattle.std.specs.declared.iter.Zip.{Zip}
use Rattle.std.specs.declared.slice.Iter.{Iter}
use Rattle.std.proofs.lemmas.List.{nil_from_length}
use Rattle.std.specs.Slice.Iter.{iter_rest, iter_steps}
use Rattle.records.proofs.Loops.{rest, rest_cons, rest_nil}
use Rattle.item.specs.declared.Item.{Item}
use Rattle.item.specs.declared.reader.Reader.{Reader}
use Rattle.item.specs.Items.{Fields, decode, fields, items}
use Rattle.item.specs.Reading.{left}
use Rattle.item.proofs.Laws.{rest-items}
use Rattle.ref_def.specs.Drops.{InLeaf, in_leaves}

-- of n items those from i on
abbrev pub leaves_rest : (list shared : List ℕ) (n i : ℕ) → List InLeaf
leaves_rest list shared n i = in_leaves (rest decode 70 list n i) (drop i shared)

pub leaves_all : (list shared : List ℕ) → leaves_rest list shared (length list / 70) 0 ≡ in_leaves (items list) shared
leaves_all list shared = rw rest-items refl

pub leaves_cons : (list shared : List ℕ) (n i : ℕ) → i < n → i < length shared
    → leaves_rest list shared n i ≡ record { item = decode (drop (i * 70) list); shared = get_or shared i 0 } ∷ leaves_rest list shared n (i + 1)
unfolding in_leaves
leaves_cons list shared n i h l = rw (rest_cons decode 70 list n i h, drop-cons shared i 0 l, add-one) refl

pub leaves_nil : (list shared : List ℕ) (n i : ℕ) → n ≤ i → leaves_rest list shared n i ≡ []
unfolding in_leaves
leaves_nil list shared n i h = rw (rest_nil decode 70 list n i h) refl

-- ---- `for (item, byte) in items(list).zip(shared)`: what is left to come, a turn, and the end

abbrev pub leaves_left : Zip Reader (Iter ℕ) → List InLeaf
leaves_left z = in_leaves (left (zip_first z)) (iter_rest (zip_second z))

abbrev steps : Zip Reader (Iter ℕ) → Option (Item × Bor ℕ) → Zip Reader (Iter ℕ) → Type 0
steps = zip_steps (YieldsFirstBy fields left) (iter_steps {A = ℕ})

pub leaves_more : (s t : Zip Reader (Iter ℕ)) (r : Option (Item × Bor ℕ)) (item : Item) (byte : Bor ℕ) → r ≡ Some (item, byte) → steps s r t
    → leaves_left s ≡ record { item = fields item; shared = byte.now } ∷ leaves_left t
unfolding in_leaves
leaves_more s t r item byte e h =
    let k = subst (λ (o : Option (Item × Bor ℕ)). steps s o t) e h in
    ap₂ in_leaves k.0 k.1

leaves_none : (fs : List Fields) → in_leaves fs [] ≡ []
unfolding in_leaves
leaves_none [] = refl
leaves_none (f ∷ fs) = refl

pub leaves_end : (s t : Zip Reader (Iter ℕ)) (r : Option (Item × Bor ℕ)) → r ≡ None → steps s r t → leaves_left s ≡ []
unfolding in_leaves
leaves_end s t r e h = by (subst (λ (o : Option (Item × Bor ℕ)). steps s o t) e h)
  where
    by : ((u : Reader) × YieldsFirstBy fields left (zip_first s) None u) ⊎ ((u : Iter ℕ) × iter_steps (zip_second s) None u) → leaves_left s ≡ []
    by (inl a) = rw a.1.0 refl
    by (inr b) = ap (in_leaves (left (zip_first s))) (nil_from_length _ b.1.0) ∙ leaves_none (left (zip_first s))
