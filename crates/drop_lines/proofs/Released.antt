-- The drops of one extent, and whether it is released, from its drops' shared bytes. Assumes nothing.
use mathlib.Core.Path.{◌≡◌, refl, ap, ◌∙◌, sym}
use mathlib.Core.Bool.{Bool, true, false, cond}
use mathlib.Core.List.{List, [], ◌∷◌, map}
use Prim.Native.Nat.{ℕ}
use Rattle.std.specs.List.{filter, zip}
use lib.Dec.{eqb}
use Rattle.records.specs.Select.{keep}
use Rattle.records.proofs.Picks.{keep-keep}
use Rattle.item.specs.Items.{Fields}
use Rattle.table.specs.declared.Row.{Row}
use Rattle.ref_def.specs.Drops.{InLeaf, in_leaves, drops_of, released}
use Rattle.drop_chains.specs.Chains.{byte_in, freed}
use Rattle.drop_chains.proofs.Walks.{freed_released}
use Rattle.drop_lines.specs.declared.Cut.{Cut}
use Rattle.drop_lines.specs.Dropped.{dropped, drops_in}
use Rattle.drop_lines.specs.Raw.{drop_of}

-- the drops of one extent
abbrev pub of_extent : Cut → ℕ → InLeaf → Bool
of_extent c start d = drop_of c start d.item

-- an item with its byte, as `zip` gives them: whether it is one, and the byte
abbrev pub paired : Cut → ℕ → Fields × ℕ → Bool
paired c start p = drop_of c start p.0

abbrev pub byte_of : Fields × ℕ → ℕ
byte_of p = p.1

module _ (c : Cut) where
  pub drops_of_lem : (start : ℕ) (fs : List Fields) (bs : List ℕ) → drops_of start (drops_in c fs bs) ≡ keep (of_extent c start) (in_leaves fs bs)
  drops_of_lem start fs bs = keep-keep (λ (d : InLeaf). eqb d.item.extent_start start) (dropped c) (in_leaves fs bs)

  zipped : (start : ℕ) (fs : List Fields) (bs : List ℕ) → map byte_of (filter (paired c start) (zip fs bs)) ≡ map byte_in (keep (of_extent c start) (in_leaves fs bs))
  unfolding in_leaves keep
  zipped start [] bs = refl
  zipped start (f ∷ fs) [] = refl
  zipped start (f ∷ fs) (b ∷ bs) = go (drop_of c start f) (zipped start fs bs)
    where
      go : (t : Bool) → map byte_of (filter (paired c start) (zip fs bs)) ≡ map byte_in (keep (of_extent c start) (in_leaves fs bs))
          → map byte_of (cond t ((f, b) ∷ filter (paired c start) (zip fs bs)) (filter (paired c start) (zip fs bs)))
          ≡ map byte_in (cond t (record { item = f; shared = b } ∷ keep (of_extent c start) (in_leaves fs bs)) (keep (of_extent c start) (in_leaves fs bs)))
      go true e = ap (λ (l : List ℕ). b ∷ l) e
      go false e = e

  pub released_bytes : (row : Row) (fs : List Fields) (bs : List ℕ) → freed row.references (map byte_of (filter (paired c row.start) (zip fs bs))) ≡ released (drops_in c fs bs) row
  released_bytes row fs bs =
      ap (freed row.references) (zipped row.start fs bs) ∙ freed_released row.references (keep (of_extent c row.start) (in_leaves fs bs)) ∙ sym (rw (drops_of_lem row.start fs bs) refl)
