-- The holes that a fallocate fills, found by one sweep along the items of a list that is well kept. Assumes nothing.
use mathlib.Core.Path.{◌≡◌, refl, ap, ◌∙◌, sym}
use mathlib.Core.Bool.{Bool, true, false, cond}
use mathlib.Core.List.{List, [], ◌∷◌, ◌++◌, flat_map, append-nil}
use Prim.Native.Nat.{ℕ, ◌+◌, ◌-◌, ◌≤◌, ◌<◌, min, max}
use native.Mathlib.Omega.{arith}
use lib.Dec.{ltb}
use borrow.Author.Tests.{ltb-true, ltb-false, lt-ltb, le-ltb}
use Rattle.records.specs.Select.{only, keep}
use Rattle.records.specs.Stages.{every}
use Rattle.records.proofs.Tests.{both, same}
use Rattle.records.proofs.Lists.{flat_append}
use Rattle.records.proofs.Picks.{keep_all, keep_append}
use Rattle.item.specs.Items.{Fields, end}
use Rattle.cut_segment.specs.Segments.{Runs}
use Rattle.change_def.specs.Preallocs.{Stretch}
use Rattle.change_def.specs.Sweep.{up_to, gaps_from, gaps, halves, holes_in}
use Rattle.change_def.specs.Rounding.{round_down, round_up}
use Rattle.change_def.proofs.Rounding.{down_below, up_above}
use Rattle.change_def.proofs.Sweep.{some}
use Rattle.fallocate_def.specs.Fallocate.{end_rewritten, less, less_items, end_sector, end_stop, holes_to_allocate}

-- ---- one stretch

-- it, if it has bytes
abbrev one : Stretch → List Stretch
one s = keep some (s ∷ [])

abbrev piece : (a b : ℕ) → List Stretch
piece a b = one (up_to a b)

piece_none : (a b : ℕ) → b ≤ a → piece a b ≡ []
unfolding keep
piece_none a b h = rw (le-ltb 0 (b - a) (omega arith)) refl

-- alike where start and length are
piece_same : (a b c d : ℕ) → a ≡ c → b - a ≡ d - c → piece a b ≡ piece c d
piece_same a b c d p q = ap one (alike (b - a) (d - c) q)
  where
    alike : (m n : ℕ) → m ≡ n → ◌≡◌ {A = Stretch} (record { start = a; length = m }) (record { start = c; length = n })
    alike m n e = rw (p, e) refl

only_piece : (a b : ℕ) → only (ltb a b) (up_to a b) ≡ piece a b
unfolding keep
only_piece a b = rw alike (go (ltb 0 (b - a)))
  where
    alike : ltb a b ≡ ltb 0 (b - a)
    alike =
        same (ltb a b) (ltb 0 (b - a))
        (λ e. let p = ltb-true a b e in lt-ltb 0 (b - a) (omega arith))
        (λ e. let p = ltb-true 0 (b - a) e in lt-ltb a b (omega arith))

    go : (t : Bool) → only t (up_to a b) ≡ cond t (up_to a b ∷ []) []
    go true = refl
    go false = refl

-- ---- a range taken out of it

module _ (a b : ℕ) where
  -- its halves are left, if they have bytes
  less-halves : (s : Stretch) → less a b s ≡ keep some (halves a b s)
  less-halves s =
      let x : ℕ = s.start in
      let y : ℕ = s.start + s.length in
      ap (λ (l : List Stretch). l ++ only (ltb (max x b) y) (up_to (max x b) y)) (only_piece x (min y a))
      ∙ ap (λ (l : List Stretch). piece x (min y a) ++ l) (only_piece (max x b) y)
      ∙ sym (keep_append some (up_to x (min y a) ∷ []) (up_to (max x b) y ∷ []))

  less_one : (s : Stretch) → flat_map (less a b) (one s) ≡ keep some (halves a b s)
  unfolding keep flat_map
  less_one s = go (some s) refl
    where
      x : ℕ
      x = s.start

      y : ℕ
      y = s.start + s.length

      go : (t : Bool) → some s ≡ t → flat_map (less a b) (cond t (s ∷ []) []) ≡ keep some (halves a b s)
      go true e = append-nil (less a b s) ∙ less-halves s
      go false e =
          let z = ltb-false 0 s.length e in
          sym (keep_append some (up_to x (min y a) ∷ []) (up_to (max x b) y ∷ [])
          ∙ ap (λ (l : List Stretch). l ++ piece (max x b) y) (piece_none x (min y a) (omega arith))
          ∙ piece_none (max x b) y (omega arith))

  less_piece : (c d : ℕ) → flat_map (less a b) (piece c d) ≡ piece c (min d a) ++ piece (max c b) d
  less_piece c d =
      less_one (up_to c d)
      ∙ keep_append some (up_to c (min (c + (d - c)) a) ∷ []) (up_to (max c b) (c + (d - c)) ∷ [])
      ∙ ap (λ (l : List Stretch). l ++ piece (max c b) (c + (d - c))) (piece_same c (min (c + (d - c)) a) c (min d a) refl (omega arith))
      ∙ ap (λ (l : List Stretch). piece c (min d a) ++ l) (piece_same (max c b) (c + (d - c)) (max c b) d refl (omega arith))

  -- and so out of several
  less_all : (ss : List Stretch) → flat_map (less a b) (keep some ss) ≡ keep some (flat_map (halves a b) ss)
  unfolding flat_map keep
  less_all [] = refl
  less_all (s ∷ ss) =
      ap (flat_map (less a b)) (keep_append some (s ∷ []) ss)
      ∙ flat_append (less a b) (one s) (keep some ss)
      ∙ ap (λ (l : List Stretch). l ++ flat_map (less a b) (keep some ss)) (less_one s)
      ∙ ap (λ (l : List Stretch). keep some (halves a b s) ++ l) (less_all ss)
      ∙ sym (keep_append some (halves a b s) (flat_map (halves a b) ss))

-- nothing taken out
less-nothing : (ss : List Stretch) → keep some (flat_map (halves 0 0) ss) ≡ keep some ss
unfolding flat_map keep
less-nothing [] = refl
less-nothing (s ∷ ss) =
    keep_append some (halves 0 0 s) (flat_map (halves 0 0) ss)
    ∙ ap (λ (l : List Stretch). l ++ keep some (flat_map (halves 0 0) ss)) all
    ∙ ap (λ (l : List Stretch). one s ++ l) (less-nothing ss)
    ∙ sym (keep_append some (s ∷ []) ss)
  where
    x : ℕ
    x = s.start

    y : ℕ
    y = s.start + s.length

    alike : up_to (max x 0) y ≡ s
    alike =
        let p : max x 0 ≡ x = omega arith in
        let q : y - max x 0 ≡ s.length = omega arith in
        rw (q, p) refl

    all : keep some (halves 0 0 s) ≡ one s
    all =
        keep_append some (up_to x (min y 0) ∷ []) (up_to (max x 0) y ∷ [])
        ∙ ap (λ (l : List Stretch). l ++ piece (max x 0) y) (piece_none x (min y 0) (omega arith))
        ∙ ap one alike

-- ---- items taken out

items_append : (fs : List Fields) (k l : List Stretch) → less_items fs (k ++ l) ≡ less_items fs k ++ less_items fs l
unfolding less_items
items_append [] k l = refl
items_append (f ∷ fs) k l = ap (less_items fs) (flat_append (less f.key (end f)) k l) ∙ items_append fs (flat_map (less f.key (end f)) k) (flat_map (less f.key (end f)) l)

-- what ends before the first of them stays
items-before : (b c d : ℕ) (fs : List Fields) → Runs b fs → d ≤ b → less_items fs (piece c d) ≡ piece c d
unfolding less_items
items-before b c d [] r h = refl
items-before b c d (f ∷ fs) r h = ap (less_items fs) stays ∙ items-before (end f) c d fs r.4 (omega (arith, r.0))
  where
    stays : flat_map (less f.key (end f)) (piece c d) ≡ piece c d
    stays =
        less_piece f.key (end f) c d
        ∙ ap (λ (l : List Stretch). l ++ piece (max c (end f)) d) (piece_same c (min d f.key) c d refl (omega (arith, r.0)))
        ∙ ap (λ (l : List Stretch). piece c d ++ l) (piece_none (max c (end f)) d (omega (arith, r.0)))
        ∙ append-nil (piece c d)

module _ (from to : ℕ) where
  -- what is left of [a, to), where the items up to a were met
  items-gaps : (a b : ℕ) (fs : List Fields) → Runs b fs → a ≡ max from b → less_items fs (piece a to) ≡ keep some (gaps_from from to a fs)
  unfolding less_items gaps_from
  items-gaps a b [] r h = refl
  items-gaps a b (f ∷ fs) r h =
      let x : ℕ = max from (end f) in
      ap (less_items fs) (less_piece f.key (end f) a to)
      ∙ items_append fs (piece a (min to f.key)) (piece (max a (end f)) to)
      ∙ ap (λ (l : List Stretch). l ++ less_items fs (piece (max a (end f)) to))
      (items-before (end f) a (min to f.key) fs r.4 (omega arith) ∙ piece_same a (min to f.key) a (min f.key to) refl (omega arith))
      ∙ ap (λ (l : List Stretch). piece a (min f.key to) ++ l)
      (ap (less_items fs) (piece_same (max a (end f)) to x to (omega (arith, r.0, h)) (omega (arith, r.0, h))) ∙ items-gaps x (end f) fs r.4 refl)
      ∙ sym (keep_append some (up_to a (min f.key to) ∷ []) (gaps_from from to x fs))

  items_swept : (fs : List Fields) → Runs 0 fs → from < to → less_items fs (up_to from to ∷ []) ≡ keep some (gaps from to fs)
  unfolding every
  items_swept fs r h = ap (less_items fs) whole ∙ items-gaps from 0 fs r (omega arith)
    where
      whole : up_to from to ∷ [] ≡ piece from to
      whole = sym (keep_all some (up_to from to ∷ []) (both (some (up_to from to)) true (lt-ltb 0 (to - from) (omega arith)) refl))

-- ---- the holes of a fallocate

module _ (size sector offset stop : ℕ) (pos : 0 < sector) (order : offset < stop) where
  pub holes_swept : (fs : List Fields) → Runs 0 fs → holes_to_allocate size sector offset stop fs
      ≡ holes_in (end_sector size sector stop) (end_stop size sector stop) (round_down sector offset) (round_up sector stop) fs
  unfolding holes_to_allocate
  holes_swept fs r = go (end_rewritten sector size stop)
    where
      lo : ℕ
      lo = round_down sector offset

      hi : ℕ
      hi = round_up sector stop

      all : less_items fs (up_to lo hi ∷ []) ≡ keep some (gaps lo hi fs)
      all = items_swept lo hi fs r (omega (arith, down_below sector pos offset, up_above sector pos stop))

      go : (t : Bool)
          → cond t (flat_map (less (cond t (round_down sector size) 0) (cond t (round_down sector size + sector) 0)) (less_items fs (up_to lo hi ∷ []))) (less_items fs (up_to lo hi ∷ []))
          ≡ holes_in (cond t (round_down sector size) 0) (cond t (round_down sector size + sector) 0) lo hi fs
      go true = ap (flat_map (less (round_down sector size) (round_down sector size + sector))) all ∙ less_all (round_down sector size) (round_down sector size + sector) (gaps lo hi fs)
      go false = all ∙ sym (less-nothing (gaps lo hi fs))
