-- The edits by cases of the first old item and the first piece, where keys rise. Assumes nothing.
use mathlib.Core.Path.{◌≡◌, refl, sym}
use mathlib.Core.Bool.{Bool, true, false, not}
use mathlib.Core.List.{List, [], ◌∷◌, ◌++◌, append_assoc, flat_map}
use Prim.Native.Nat.{ℕ}
use native.Mathlib.Omega.{arith}
use lib.Dec.{eqb, ltb}
use borrow.Author.Tests.{ltb-true, lt-ltb, le-ltb, eq-eqb, ne_eqb}
use Rattle.records.specs.Select.{only, keep, any}
use Rattle.records.specs.Stages.{every}
use Rattle.records.proofs.Tests.{both_left, every_map}
use Rattle.records.proofs.Counts.{count_none, any_none}
use Rattle.records.proofs.Picks.{keep_all, keep-none}
use Rattle.item.specs.Items.{Fields}
use Rattle.lists.specs.Lists.{rises}
use Rattle.cut_def.specs.Pieces.{Piece}
use Rattle.cut_def.specs.Edits.{Edit, put, delete, below, edits}

-- a piece past a key
abbrev pub over : ℕ → Piece → Bool
over k p = ltb k p.item.key

-- of pieces past k none lies below it or at it
module _ (k : ℕ) (ps : List Piece) (h : every (over k) ps ≡ true) where
  from_on : every (λ (p : Piece). not (below k p)) ps ≡ true
  from_on = every_map (over k) (λ p. not (below k p)) (λ p e. let t = ltb-true k p.item.key e in rw (le-ltb p.item.key k (omega arith)) refl) ps h

  pub none_below : keep (below k) ps ≡ []
  none_below = keep-none (below k) ps from_on

  pub all_from : keep (λ (p : Piece). not (below k p)) ps ≡ ps
  all_from = keep_all (λ p. not (below k p)) ps from_on

  pub none-at : any (λ (p : Piece). eqb p.item.key k) ps ≡ false
  none-at = any_none (λ p. eqb p.item.key k) ps (count_none (λ p. eqb p.item.key k) ps (every_map (over k) (λ p. not (eqb p.item.key k)) (λ p e. let t = ltb-true k p.item.key e in rw (ne_eqb p.item.key k (λ q. omega arith)) refl) ps h))

-- what a piece puts
abbrev pub puts_of : Piece → List Edit
puts_of p = only p.built (put p.item)

-- an old item before all pieces goes
pub edits-gone : (f : Fields) (fs : List Fields) (ps : List Piece) → every (over f.key) ps ≡ true → edits (f ∷ fs) ps ≡ delete f.key ∷ edits fs ps
unfolding edits flat_map
edits-gone f fs ps h = rw (none_below f.key ps h, all_from f.key ps h, none-at f.key ps h) refl

-- a piece before all old items comes first
pub edits-first : (fs : List Fields) (p : Piece) (ps : List Piece) → every (rises p.item) fs ≡ true → edits fs (p ∷ ps) ≡ puts_of p ++ edits fs ps
unfolding edits flat_map keep any every
edits-first [] p ps h = refl
edits-first (f ∷ fs) p ps h =
    let l = ltb-true p.item.key f.key (both_left (rises p.item f) (every (rises p.item) fs) h) in
    rw (lt-ltb p.item.key f.key l, ne_eqb p.item.key f.key (λ e. omega arith)) (append_assoc (puts_of p) _ _)

-- an old item at the first piece's key is passed
pub edits-same : (f : Fields) (fs : List Fields) (p : Piece) (ps : List Piece) → f.key ≡ p.item.key → every (over f.key) ps ≡ true → edits (f ∷ fs) (p ∷ ps) ≡ edits fs (p ∷ ps)
unfolding edits flat_map keep any
edits-same f fs p ps e h =
    rw (le-ltb p.item.key f.key (omega arith), eq-eqb p.item.key f.key (sym e), none_below f.key ps h, all_from f.key ps h) refl
