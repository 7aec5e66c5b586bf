-- The holes that a fallocate fills. Assumes nothing.
use mathlib.Core.Path.{◌≡◌, refl, ◌∙◌, sym}
use mathlib.Core.Bool.{Bool, true, false, cond, ◌&&◌, not, or-false}
use mathlib.Core.List.{List, [], ◌∷◌, flat_map}
use mathlib.Core.Logic.{inl}
use Prim.Native.Nat.{ℕ, ◌+◌, ◌-◌, ◌%◌, ◌≤◌, ◌<◌}
use native.Mathlib.Omega.{arith}
use native.Mathlib.Nat.{dvd-zero, mod-eq-zero_of_dvd, add-mod_right}
use borrow.Author.Tests.{not-true}
use Rattle.records.specs.Select.{any}
use Rattle.records.specs.Stages.{every, pairs}
use Rattle.records.proofs.Tests.{both, both_left, both_right, same, every_map}
use Rattle.records.proofs.Lists.{every_true}
use Rattle.records.proofs.Wholes.{sub_whole}
use Rattle.item.specs.Items.{Fields}
use Rattle.change_def.specs.Rounding.{round_down, round_up}
use Rattle.change_def.specs.Preallocs.{Stretch, sum_of}
use Rattle.change_def.proofs.Fair.{hole_free, holes_rise}
use Rattle.change_def.proofs.Rounding.{down_below, down_whole, up_above, up_whole}
use Rattle.fallocate_def.specs.Fallocate.{end_rewritten, less, less_items, end_sector, end_stop, holes_to_allocate}
use Rattle.fallocate_def.proofs.Less.{within, within-true, within_facts, without-true, without_facts, inside, over, inside-less, inside-less_items, Rising, rising_less, rising_less_items, between, rising_between, rising_pairs, rising_sum, clear_of, clear_told, less-clear, less_items_free, free_less, wholes_told, whole_span, whole_item, whole_less, whole_less_items}

module _ (size sector offset stop : ℕ) where
  abbrev lo : ℕ
  lo = round_down sector offset

  abbrev hi : ℕ
  hi = round_up sector stop

  abbrev end_lo : ℕ
  end_lo = end_sector size sector stop

  abbrev end_hi : ℕ
  end_hi = end_stop size sector stop

  -- the rounded range, and it less the items
  abbrev range : List Stretch
  range = record { start = lo; length = hi - lo } ∷ []

  abbrev base : List Fields → List Stretch
  base fs = less_items fs range

  abbrev holes : List Fields → List Stretch
  holes fs = holes_to_allocate size sector offset stop fs

  -- with the end's sector taken out, or as they are
  holes_are : (P : List Stretch → Type 0) (fs : List Fields) → (end_rewritten sector size stop ≡ true → P (flat_map (less end_lo end_hi) (base fs))) → (end_rewritten sector size stop ≡ false → P (base fs)) → P (holes fs)
  unfolding holes_to_allocate
  holes_are P fs out all = go (end_rewritten sector size stop) refl
    where
      go : (t : Bool) → end_rewritten sector size stop ≡ t → P (cond t (flat_map (less end_lo end_hi) (base fs)) (base fs))
      go true e = out e
      go false e = all e

  -- the end's sector, if it is rewritten
  pub end-order : end_lo ≤ end_hi
  end-order = go (end_rewritten sector size stop)
    where
      go : (t : Bool) → cond t (round_down sector size) 0 ≤ cond t (round_down sector size + sector) 0
      go true = omega arith
      go false = omega arith

  end_none : end_rewritten sector size stop ≡ false → end_hi ≡ 0
  end_none e = rw e refl

  pub end_whole : 0 < sector → (end_lo % sector ≡ 0) × (end_hi % sector ≡ 0)
  end_whole pos = go (end_rewritten sector size stop)
    where
      go : (t : Bool) → (cond t (round_down sector size) 0 % sector ≡ 0) × (cond t (round_down sector size + sector) 0 % sector ≡ 0)
      go true = (down_whole sector pos size, add-mod_right (round_down sector size) sector ∙ down_whole sector pos size)
      go false = (mod-eq-zero_of_dvd sector (dvd-zero sector), mod-eq-zero_of_dvd sector (dvd-zero sector))

  -- ---- which offsets they hold

  inside_base : (o : ℕ) (fs : List Fields) → inside o (base fs) ≡ (within lo hi o && not (any (over o) fs))
  unfolding any
  inside_base o fs = inside-less_items o fs range ∙ rw (or-false (within lo (lo + (hi - lo)) o), same-range) refl
    where
      same-range : within lo (lo + (hi - lo)) o ≡ within lo hi o
      same-range =
          same (within lo (lo + (hi - lo)) o) (within lo hi o)
          (λ e. let k = within_facts lo (lo + (hi - lo)) o e in within-true lo hi o k.0 (omega arith))
          (λ e. let k = within_facts lo hi o e in within-true lo (lo + (hi - lo)) o k.0 (omega arith))

  -- those of the rounded range that no item is over, the end's sector aside
  pub inside-holes : (o : ℕ) (fs : List Fields) → inside o (holes fs) ≡ ((within lo hi o && not (any (over o) fs)) && not (within end_lo end_hi o))
  inside-holes o fs =
      holes_are (λ (ss : List Stretch). inside o ss ≡ ((within lo hi o && not (any (over o) fs)) && not (within end_lo end_hi o))) fs
      (λ e. inside-less end_lo end_hi o (base fs) ∙ rw (inside_base o fs) refl)
      (λ e.
      let z = end_none e in
      inside_base o fs ∙ sym (rest (within lo hi o && not (any (over o) fs)) (not (within end_lo end_hi o)) (without-true end_lo end_hi o (λ p q. omega arith))))
    where
      rest : (a b : Bool) → b ≡ true → (a && b) ≡ a
      rest true b h = h
      rest false b h = refl

  -- what that says of an offset
  pub record InHole (o : ℕ) (fs : List Fields) : Type 0 where
    pub low : lo ≤ o
    pub high : o < hi
    pub free : any (over o) fs ≡ false
    pub aside : end_lo ≤ o → o < end_hi → ⊥

  pub hole_facts : (o : ℕ) (fs : List Fields) → inside o (holes fs) ≡ true → InHole o fs
  hole_facts o fs h =
      let r : Bool = within lo hi o in
      let n : Bool = not (any (over o) fs) in
      let x : Bool = not (within end_lo end_hi o) in
      let k : ((r && n) && x) ≡ true = sym (inside-holes o fs) ∙ h in
      let m : (r && n) ≡ true = both_left (r && n) x k in
      let w = within_facts lo hi o (both_left r n m) in
      record { low = w.0; high = w.1; free = not-true (any (over o) fs) (both_right r n m); aside = without_facts end_lo end_hi o (both_right (r && n) x k) }

  pub hole-told : (o : ℕ) (fs : List Fields) → InHole o fs → inside o (holes fs) ≡ true
  hole-told o fs k = inside-holes o fs ∙ rw (within-true lo hi o k.low k.high, k.free, without-true end_lo end_hi o k.aside) refl

  -- ---- how they lie

  -- the end's sector is not in them
  pub holes-clear : (fs : List Fields) → every (clear_of end_lo end_hi) (holes fs) ≡ true
  holes-clear fs =
      holes_are (λ (ss : List Stretch). every (clear_of end_lo end_hi) ss ≡ true) fs (λ e. less-clear end_lo end_hi (base fs))
      (λ e. let z = end_none e in every_map (λ (s : Stretch). true) (clear_of end_lo end_hi) (λ s t. clear_told end_lo end_hi s (inl (omega arith))) (base fs) (every_true (base fs)))

  -- nor an item
  pub holes_free : (fs : List Fields) → every (hole_free fs) (holes fs) ≡ true
  holes_free fs =
      holes_are (λ (ss : List Stretch). every (hole_free fs) ss ≡ true) fs
      (λ e. free_less fs end_lo end_hi (base fs) (less_items_free fs range))
      (λ e. less_items_free fs range)

  module _ (pos : 0 < sector) where
    -- they are whole sectors
    pub holes_whole : (fs : List Fields) → every (whole_item sector) fs ≡ true → every (whole_span sector) (holes fs) ≡ true
    unfolding every
    holes_whole fs h =
        holes_are (λ (ss : List Stretch). every (whole_span sector) ss ≡ true) fs
        (λ e. whole_less sector end_lo end_hi (end_whole pos).0 (end_whole pos).1 (base fs) left)
        (λ e. left)
      where
        left : every (whole_span sector) (base fs) ≡ true
        left =
            whole_less_items sector fs h range
            (both (whole_span sector (record { start = lo; length = hi - lo })) true
            (wholes_told sector lo (hi - lo) (down_whole sector pos offset) (sub_whole sector hi lo (up_whole sector pos stop) (down_whole sector pos offset))) refl)

    module _ (some : offset < stop) where
      -- they rise inside the rounded range
      pub holes_rising : (fs : List Fields) → Rising lo hi (holes fs)
      holes_rising fs =
          holes_are (Rising lo hi) fs (λ e. rising_less end_lo end_hi lo hi end-order (base fs) left) (λ e. left)
        where
          left : Rising lo hi (base fs)
          left =
              let a = down_below sector pos offset in
              let b = up_above sector pos stop in
              rising_less_items lo hi fs range (omega arith, omega arith, omega arith)

      pub holes_between : (fs : List Fields) → every (between lo hi) (holes fs) ≡ true
      holes_between fs = rising_between lo hi (holes fs) (holes_rising fs)

      pub holes-apart : (fs : List Fields) → pairs holes_rise (holes fs) ≡ true
      holes-apart fs = rising_pairs lo hi (holes fs) (holes_rising fs)

      -- and are no longer than it together
      pub holes_sum : (fs : List Fields) → sum_of (holes fs) ≤ hi - lo
      holes_sum fs = rising_sum lo hi (holes fs) (holes_rising fs)
