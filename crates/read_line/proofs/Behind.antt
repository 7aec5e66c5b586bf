-- What stands behind a line's word, step by step. Assumes nothing.
use mathlib.Core.Path.{◌≡◌, refl, ◌∙◌, ap}
use mathlib.Core.List.{List, [], ◌++◌, append-nil, append_assoc}
use Prim.Native.Nat.{ℕ, ◌+◌, ◌-◌, ◌≤◌}
use native.Mathlib.Omega.{arith}
use lib.ListN.{length, take, drop, replicate, length-append, length-replicate}
use lib.Seq.{length-take-le, take-append_seam, drop-append_seam}
use Rattle.std.proofs.lemmas.List.{take-append-drop, drop-replicate, take-replicate}
use borrow.Rule.Slice.PartMut.{post_of}
use Rattle.read_field.specs.Parts.{filled}

abbrev zeros : List ℕ
zeros = replicate 12 0

-- twelve places: the first hold numbers, those behind them what the fields left, and the rest is 0
module _ (count t : ℕ) (vs ws : List ℕ) (few : count + t ≤ 12) (long : length vs ≡ length (take count zeros)) where
  abbrev first : List ℕ
  first = vs ++ drop count zeros

  abbrev second : List ℕ
  second = take (12 - count) (drop count first)

  module _ (wide : length ws ≡ length second) (rest : drop t ws ≡ drop t second) where
    counted : length vs ≡ count
    counted = long ∙ length-take-le count zeros (omega (arith, few))

    second_zeros : second ≡ replicate (12 - length vs) 0
    second_zeros = rw (← counted, drop-append_seam vs (drop (length vs) zeros), drop-replicate {X = ℕ} (length vs) 12 0) (take-replicate {X = ℕ} (12 - length vs) (12 - length vs) 0 (omega arith))

    behind : drop t ws ≡ replicate (12 - length vs - t) 0
    behind = rest ∙ rw second_zeros (drop-replicate {X = ℕ} t (12 - length vs) 0)

    none_left : post_of count (12 - count) first ≡ []
    none_left =
        let e : 12 - length vs - (12 - length vs) ≡ 0 = omega arith in
        rw (← counted, drop-append_seam vs (drop (length vs) zeros), drop-replicate {X = ℕ} (length vs) 12 0, drop-replicate {X = ℕ} (12 - length vs) (12 - length vs) 0, e) refl

    wide_enough : t ≤ length ws
    wide_enough = rw (wide, second_zeros, length-replicate {A = ℕ} (12 - length vs) 0) (omega (arith, counted, few))

    pub values : take count first ++ (ws ++ post_of count (12 - count) first) ≡ filled (vs ++ take t ws)
    values =
        let e : 12 - (length vs + t) ≡ 12 - length vs - t = omega arith in
        rw (none_left, append-nil, length-append vs (take t ws), length-take-le t ws wide_enough, e, ← behind, append_assoc vs (take t ws) (drop t ws), take-append-drop t ws)
        (rw (← counted) (ap (λ (l : List ℕ). l ++ ws) (take-append_seam vs (drop (length vs) zeros))))

-- what reading a shape is proved by
pub ruleset behind_laws = (values, length-take-le, append-nil)
