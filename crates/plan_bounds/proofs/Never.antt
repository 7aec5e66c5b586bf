-- Only the last stage of an operation, a want of room, refuses with 27: no stage before it does. Assumes nothing.
use mathlib.Core.Path.{◌≡◌, refl}
use mathlib.Core.Bool.{Bool, true, false, cond}
use mathlib.Core.List.{List, [], ◌∷◌}
use mathlib.Core.Option.{Option, none, some}
use Prim.Native.Nat.{ℕ, zero, suc}
use lib.Dec.{eqb}
use Rattle.std.specs.Prelude.{Some, None}
use Rattle.records.specs.Stages.{first, first_of, stage}
use Rattle.item.specs.Items.{Fields}
use Rattle.table.specs.declared.Row.{Row}
use Rattle.table.specs.Rows.{Found, with_row}
use Rattle.request.specs.declared.Volume.{Volume}
use Rattle.request.specs.declared.File.{File}
use Rattle.request.specs.declared.Range.{Range}
use Rattle.request.specs.Lent.{lent_refusal, lent_refusal2}
use Rattle.ref_def.specs.Drops.{InLeaf, Due, due_of, drops_refusal}
use Rattle.change_def.specs.Rewrites.{Ground, when_held}
use Rattle.change_def.specs.Changes.{Change, change_refusal}
use Rattle.punch_def.specs.Punch.{range_refusal}
use Rattle.fallocate_def.specs.Fallocate.{fallocate_refusal}
use Rattle.clone_span.specs.declared.CloneRange.{CloneRange}
use Rattle.clone_def.specs.Clone.{lent_and_source, clone_refusal}

-- not 27
abbrev pub Other : ℕ → Type 0
Other n = eqb n 27 ≡ false

-- ---- what stages are made of

pub cond-other : (b : Bool) (m n : ℕ) → Other m → Other n → Other (cond b m n)
cond-other true m n p q = p
cond-other false m n p q = q

pub first-other : (m n : ℕ) → Other m → Other n → Other (first m n)
unfolding first
first-other zero n p q = q
first-other (suc m) n p q = p

pub stage-other : {A : Type 0} (f : A → ℕ) → ((a : A) → Other (f a)) → (l : List A) → Other (stage f l)
unfolding stage
stage-other f p [] = refl
stage-other f p (a ∷ l) = first-other (f a) (stage f l) (p a) (stage-other f p l)

pub row_other : (found : Found) (f : Row → ℕ) → ((row : Row) → Other (f row)) → Other (with_row found f)
row_other (Some (k, row)) f p = p row
row_other None f p = refl

pub held-other : (o : Option InLeaf) (f : InLeaf → ℕ) → ((h : InLeaf) → Other (f h)) → Other (when_held o 0 f)
held-other none f p = refl
held-other (some h) f p = p h

pub due-other : (b : Bool) (d e : Due) → Other d.number → Other e.number → Other (cond b d e).number
due-other true d e p q = p
due-other false d e p q = q

pub ruleset others = (cond-other, first-other, stage-other, row_other, held-other, due-other)

-- ---- the stages

drops-other : (rows : List Row) (ds : List InLeaf) → Other (drops_refusal rows ds)
unfolding due_of
drops-other rows [] = refl
drops-other rows (d ∷ ds) = search (others, drops-other rows ds)

pub range_other : (v : Volume) (f : File) (r : Range) (fs : List Fields) (shared : List ℕ) (rs : List Row) → Other (range_refusal v f r fs shared rs)
unfolding range_refusal lent_refusal first_of
range_other v f r fs shared rs = search others depth 20

pub fallocate-other : (v : Volume) (f : File) (r : Range) (fs : List Fields) (shared : List ℕ) (rs : List Row) → Other (fallocate_refusal v f r fs shared rs)
unfolding fallocate_refusal first_of
fallocate-other v f r fs shared rs = search (others, range_other) depth 20

pub change_other : (g : Ground) (c : Change) → Other (change_refusal g c)
unfolding change_refusal first_of
change_other g c = search (others, drops-other) depth 20

module _ (v : Volume) (dst src : File) (own : Bool) (span : CloneRange) (before : List Fields) (shared : List ℕ) (source : List Fields) (rs : List Row) where
  pub source-other : Other (lent_and_source v dst src own span before shared source rs)
  unfolding lent_and_source lent_refusal2 first_of
  source-other = search others depth 20

  pub clone-other : Other (clone_refusal v dst src own span before shared source rs)
  unfolding clone_refusal first_of
  clone-other = search (others, drops-other) depth 20
