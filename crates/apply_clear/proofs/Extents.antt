-- What the order of the adds' extents says. Assumes nothing.
use mathlib.Core.Path.{◌≡◌, refl, ap, ◌∙◌, sym}
use mathlib.Core.Bool.{Bool, true, false, ◌||◌, false≢true}
use mathlib.Core.List.{List, map}
use Rattle.std.proofs.lemmas.List.{take-map}
use Prim.Native.Nat.{ℕ, ◌+◌}
use lib.Dec.{leb}
use lib.ListN.{take}
use Rattle.records.specs.Stages.{pairs}
use Rattle.records.proofs.Tests.{never}
use Rattle.records.proofs.Lists.{pairs-take}
use Rattle.cut_def.specs.Refs.{Ref}
use Rattle.plan_def.specs.Plans.{Add}
use Rattle.plan_def.specs.Places.{places_apart}
use Rattle.plan_def.specs.ReadBack.{add_in}
use Rattle.plan_apart.specs.Spacing.{apart, extent_of}
use Rattle.plan_apart.proofs.Adds.{extents-apart}
use Rattle.apply_clear.specs.Clear.{adds_apart}

-- either way round
turned : (a b : Add) → places_apart a b ≡ adds_apart a b
turned a b = go (leb (a.start + a.length) b.start) (leb (b.start + b.length) a.start)
  where
    go : (x y : Bool) → (x || y) ≡ (y || x)
    go true true = refl
    go true false = refl
    go false true = refl
    go false false = refl

pub copied-apart : (l : List Add) (rs : List Ref) → rs ≡ map extent_of l → pairs apart rs ≡ pairs adds_apart l
copied-apart l rs e = extents-apart l rs e ∙ ap (λ (p : Add → Add → Bool). pairs p l) (λ i a b. turned a b i)

-- ---- the first half

-- if it does not pass, all do not
pub half_refused : (n : ℕ) (cs : List (List ℕ)) (b : Bool) → b ≡ pairs adds_apart (map add_in (take n cs)) → b ≡ false → false ≡ pairs adds_apart (map add_in cs)
half_refused n cs b e z = sym (never (pairs adds_apart (map add_in cs)) (λ q. false≢true (sym z ∙ e ∙ ap (pairs adds_apart) (sym (take-map add_in n cs)) ∙ pairs-take adds_apart n (map add_in cs) q)))
