-- The edits where a part of a list makes way for others. Assumes nothing.
use mathlib.Core.Path.{◌≡◌, refl, ap, ap₂, ◌∙◌, sym}
use mathlib.Core.Bool.{Bool, true, not, or-false}
use mathlib.Core.List.{List, [], ◌∷◌, ◌++◌, append-nil, map, flat_map, map-append}
use Prim.Native.Nat.{ℕ, zero, suc, ◌-◌, ◌≤◌}
use native.Mathlib.Omega.{arith}
use native.Mathlib.Nat.{sub-zero}
use lib.Dec.{eqb, ltb}
use lib.ListN.{take, drop}
use lib.Seq.{take-nil}
use Rattle.records.specs.Select.{only, keep, any}
use Rattle.records.specs.Stages.{every, pairs}
use Rattle.records.proofs.Tests.{both_left, both_right, every-keep}
use Rattle.records.proofs.Lists.{every_append, any_appended, every_take, every_drop, every-mapped}
use Rattle.records.proofs.Picks.{keep_append, keep-mapped}
use Rattle.item.specs.Items.{Fields}
use Rattle.lists.specs.Lists.{rises}
use Rattle.cut_def.specs.Pieces.{Piece, built, kept, items_of}
use Rattle.cut_def.specs.Raw.{replaced}
use Rattle.cut_def.specs.Edits.{Edit, put, delete, puts, below, edits}
use Rattle.cut_def.proofs.Mappings.{items_made, items_kept}
use Rattle.cut_def.proofs.Cases.{over, none_below, all_from, none-at, edits-first, edits-same}
use Rattle.edit_merge.proofs.Cases.{made_over}

-- ---- the items

pub items-replaced : (fs : List Fields) (from to : ℕ) (s : List Fields) → items_of (replaced fs from to s) ≡ take from fs ++ (s ++ drop to fs)
items-replaced fs from to s =
    map-append (λ (p : Piece). p.item) (map kept (take from fs)) (map built s ++ map kept (drop to fs))
    ∙ ap₂ (λ (l m : List Fields). l ++ m) (items_kept (take from fs))
    (map-append (λ (p : Piece). p.item) (map built s) (map kept (drop to fs)) ∙ ap₂ (λ (l m : List Fields). l ++ m) (items_made s) (items_kept (drop to fs)))

-- ---- the edits

-- each of these lies before each of those
abbrev pub all_rise : List Fields → List Fields → Bool
all_rise fs gs = every (λ (f : Fields). every (rises f) gs) fs

kept-over : (f : Fields) (fs : List Fields) → every (rises f) fs ≡ true → every (over f.key) (map kept fs) ≡ true
kept-over f fs h = rw (every-mapped (over f.key) kept fs) h

-- an item that stays, before all else
edits_stays : (f : Fields) (fs : List Fields) (ps : List Piece) → every (rises f) fs ≡ true → every (over f.key) ps ≡ true → edits (f ∷ fs) (kept f ∷ ps) ≡ edits fs ps
edits_stays f fs ps h k = edits-same f fs (kept f) ps refl k ∙ edits-first fs (kept f) ps h

-- nothing changes
edits-none : (fs : List Fields) → pairs rises fs ≡ true → edits fs (map kept fs) ≡ []
unfolding pairs
edits-none [] r = unfold edits flat_map in refl
edits-none (f ∷ fs) r =
    let h = both_left (every (rises f) fs) (pairs rises fs) r in
    edits_stays f fs (map kept fs) h (kept-over f fs h) ∙ edits-none fs (both_right (every (rises f) fs) (pairs rises fs) r)

-- new items before all old ones, which stay
edits-before : (fs s : List Fields) → pairs rises fs ≡ true → all_rise s fs ≡ true → edits fs (map built s ++ map kept fs) ≡ edits [] (map built s)
unfolding every
edits-before fs [] r h = edits-none fs r ∙ unfold edits flat_map in refl
edits-before fs (g ∷ s) r h =
    let t : Fields → Bool = λ g. every (rises g) fs in
    edits-first fs (built g) (map built s ++ map kept fs) (both_left (t g) (every t s) h)
    ∙ ap (λ (l : List Edit). put g ∷ l) (edits-before fs s r (both_right (t g) (every t s) h))
    ∙ sym (edits-first [] (built g) (map built s) refl)

-- an old item before pieces that follow others
edits-part :
    (f : Fields) (fs : List Fields) (ps qs : List Piece) → every (over f.key) qs ≡ true
    → edits (f ∷ fs) (ps ++ qs) ≡ puts (keep (below f.key) ps) ++ (only (not (any (λ (p : Piece). eqb p.item.key f.key) ps)) (delete f.key) ++ edits fs (keep (λ (p : Piece). not (below f.key p)) ps ++ qs))
unfolding edits
edits-part f fs ps qs h =
    let k : ℕ = f.key in
    let a : keep (below k) (ps ++ qs) ≡ keep (below k) ps = keep_append (below k) ps qs ∙ rw (none_below k qs h) (append-nil (keep (below k) ps)) in
    let b : any (λ (p : Piece). eqb p.item.key k) (ps ++ qs) ≡ any (λ (p : Piece). eqb p.item.key k) ps = any_appended (λ p. eqb p.item.key k) ps qs ∙ rw (none-at k qs h) (or-false _) in
    let d : keep (λ (p : Piece). not (below k p)) (ps ++ qs) ≡ keep (λ (p : Piece). not (below k p)) ps ++ qs = keep_append (λ p. not (below k p)) ps qs ∙ rw (all_from k qs h) refl in
    rw (a, b, d) refl

-- old items that stay behind the others need no edit
edits-behind : (fs : List Fields) (to : ℕ) (s : List Fields) → pairs rises fs ≡ true → all_rise s (drop to fs) ≡ true → edits fs (map built s ++ map kept (drop to fs)) ≡ edits (take to fs) (map built s)
unfolding pairs edits
edits-behind fs zero s r h = edits-before fs s r h
edits-behind [] (suc to) s r h = rw (append-nil (map built s)) refl
edits-behind (f ∷ fs) (suc to) s r h =
    let k : ℕ = f.key in
    let n : Piece → Bool = λ p. not (below k p) in
    let u : List Fields = keep (λ (g : Fields). not (ltb g.key k)) s in
    let m : keep n (map built s) ≡ map built u = keep-mapped n built s in
    let ih = edits-behind fs to u (both_right (every (rises f) fs) (pairs rises fs) r) (every-keep (λ (g : Fields). every (rises g) (drop to fs)) (λ (g : Fields). not (ltb g.key k)) s h) in
    edits-part f fs (map built s) (map kept (drop to fs)) (kept-over f (drop to fs) (every_drop (rises f) to fs (both_left (every (rises f) fs) (pairs rises fs) r)))
    ∙ rw (m, ih) refl

-- items that make way for others that lie between those that stay: only they need edits
pub edits-replaced :
    (fs : List Fields) (from to : ℕ) (s : List Fields) → pairs rises fs ≡ true → from ≤ to → all_rise (take from fs) s ≡ true → all_rise s (drop to fs) ≡ true
    → edits fs (replaced fs from to s) ≡ edits (take (to - from) (drop from fs)) (map built s)
unfolding pairs every
edits-replaced fs zero to s r l h k = rw sub-zero (edits-behind fs to s r k)
edits-replaced fs (suc from) zero s r l h k = absurd (omega arith)
edits-replaced [] (suc from) (suc to) s r l h k = rw (append-nil (map built s), take-nil (suc to - suc from)) refl
edits-replaced (f ∷ fs) (suc from) (suc to) s r l h k =
    let d : suc to - suc from ≡ to - from = omega arith in
    let t : Fields → Bool = λ f. every (rises f) s in
    let b : every (rises f) fs ≡ true = both_left (every (rises f) fs) (pairs rises fs) r in
    let o : every (over f.key) (replaced fs from to s) ≡ true =
    every_append (over f.key) (map kept (take from fs)) (map built s ++ map kept (drop to fs)) (kept-over f (take from fs) (every_take (rises f) from fs b))
    (every_append (over f.key) (map built s) (map kept (drop to fs)) (made_over f s (both_left (t f) (every t (take from fs)) h)) (kept-over f (drop to fs) (every_drop (rises f) to fs b))) in
    edits_stays f fs (replaced fs from to s) b o
    ∙ rw d (edits-replaced fs from to s (both_right (every (rises f) fs) (pairs rises fs) r) (omega arith) (both_right (t f) (every t (take from fs)) h) k)
