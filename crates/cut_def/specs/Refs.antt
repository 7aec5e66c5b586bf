-- References: which extent an item names, at which reference offset, and how many items do.
use Rattle.std.specs.Prelude.{Bool, ◌&&◌, List, ℕ, eqb}
use Rattle.records.specs.Select.{count}
use Rattle.item.specs.Items.{Fields, reference}
use Rattle.cut_def.specs.Mappings.{named}

-- an extent's start and a reference offset: a share, an unref or a release
pub record Ref : Type 0 where
  pub start : ℕ
  pub offset : ℕ

abbrev pub ref_of : Fields → Ref
ref_of f = record { start = f.extent_start; offset = reference f }

abbrev pub same_ref : Ref → Ref → Bool
same_ref r q = eqb r.start q.start && eqb r.offset q.offset

-- an item that names an extent, and whose reference passes a test
abbrev pub ref_passes : (Ref → Bool) → Fields → Bool
ref_passes p f = named f && p (ref_of f)

-- it names this extent; at this reference offset
abbrev pub names : ℕ → Fields → Bool
names start f = ref_passes (λ (q : Ref). eqb q.start start) f

abbrev pub refers : Ref → Fields → Bool
refers r f = ref_passes (λ (q : Ref). same_ref q r) f

-- how many items of a list do
abbrev pub naming : ℕ → List Fields → ℕ
naming start fs = count (names start) fs

abbrev pub referring : Ref → List Fields → ℕ
referring r fs = count (refers r) fs
