-- The laws of appending parts one by one to a line of at most 256 bytes. Assumes nothing.
use mathlib.Core.Path.{◌≡◌, refl, ap, ◌∙◌, sym}
use mathlib.Core.List.{List, [], ◌∷◌, ◌++◌, append_assoc, append-nil}
use Prim.Native.Nat.{ℕ, zero, suc, ◌+◌, ◌-◌, ◌≤◌, min}
use native.Mathlib.Omega.{arith}
use lib.ListN.{length, take, drop, length-append, length-take}
use lib.Seq.{take_all, length-take-le, take-append-add, take-append_seam}
use borrow.Rule.Slice.PartMut.{put_mid}
use Rattle.std.proofs.lemmas.List.{take_min}
use Rattle.print_field.specs.Text.{joined}
use Rattle.print_field.specs.Added.{added}

-- ---- how long they are

pub length_none : length (joined []) ≡ 0
unfolding joined
length_none = refl

pub length_parts : (p : List ℕ) (ps : List (List ℕ)) → length (joined (p ∷ ps)) ≡ length p + length (joined ps)
unfolding joined
length_parts p ps = length-append p (joined ps)

-- ---- how they are appended

-- what was dropped is not missed
take-again : (n : ℕ) (a b : List ℕ) → take n (take n a ++ b) ≡ take n (a ++ b)
take-again zero a b = refl
take-again (suc n) [] b = refl
take-again (suc n) (x ∷ a) b = ap (λ (l : List ℕ). x ∷ l) (take-again n a b)

-- a text's first bytes, copied over the part behind the u bytes that there are
pub text_kept : (b t part : List ℕ) (u m : ℕ) → length b ≡ 256 → u ≤ 256 → m ≡ min (256 - u) (length t) → part ≡ take m t → take (u + m) (put_mid u (u + m - u) b part) ≡ added (take u b) t
unfolding added
text_kept b t part u m w h e p =
    let v : length (take u b) ≡ u = length-take-le u b (omega arith) in
    let r : u + (256 - u) ≡ 256 = omega arith in
    let k : part ≡ take (256 - u) t = p ∙ rw e (take_min (256 - u) t) in
    let n : length (take u b ++ part) ≡ u + m = length-append (take u b) part ∙ rw (v, p) (omega (arith, length-take m t)) in
    let e : List ℕ = drop (u + m - u) (drop u b) in
    let g : take (length (take u b ++ part)) (take u b ++ (part ++ e)) ≡ take u b ++ part = rw append_assoc at (take-append_seam (take u b ++ part) e) in
    rw n at g ∙ rw k refl ∙ sym (rw (v, r) at (take-append-add (take u b) t (256 - u)))

-- nothing more
pub nothing_kept : (b : List ℕ) (u : ℕ) → u ≤ 256 → added (take u b) [] ≡ take u b
unfolding added
nothing_kept b u h = rw append-nil (take_all 256 (take u b) (omega (arith, length-take u b)))

-- a part, and those behind it
pub part-more : (a p q : List ℕ) (ps : List (List ℕ)) → added a (joined (p ∷ q ∷ ps)) ≡ added (added a p) (joined (q ∷ ps))
unfolding joined added
part-more a p q ps = sym (take-again 256 (a ++ p) (joined (q ∷ ps)) ∙ ap (take 256) (append_assoc a p (joined (q ∷ ps))))

pub part-last : (a p : List ℕ) → added a (joined (p ∷ [])) ≡ added a p
unfolding joined
part-last a p = rw append-nil refl

-- what adding one by one is proved by
pub ruleset parts = (part-more, part-last)

-- a line that is not too long
pub whole : (l : List ℕ) → length l ≤ 256 → l ≡ added [] l
unfolding added
whole l h = sym (take_all 256 l h)
