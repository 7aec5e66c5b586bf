-- The change that a fallocate asks for is fair: what the laws of `change_range` rest on. Assumes nothing.
use mathlib.Core.Path.{◌≡◌, refl, subst}
use mathlib.Core.Bool.{Bool, true, false, cond, ◌&&◌, ◌||◌, not}
use mathlib.Core.List.{List}
use mathlib.Core.Logic.{⊎_elim}
use Prim.Native.Nat.{ℕ, ◌+◌, ◌%◌, ◌≤◌, ◌<◌, ◌^◌}
use native.Mathlib.Omega.{arith}
use lib.Dec.{eqb, leb, ltb}
use borrow.Author.Tests.{eqb-false, leb-true, ltb-true, le-leb, eq-eqb, not-true}
use Rattle.records.specs.Select.{only}
use Rattle.records.specs.Stages.{every, pairs}
use Rattle.records.proofs.Tests.{both, both_left, both_right, either, either_left, either_right, implied, every_map, every_both}
use Rattle.item.specs.Items.{Fields, ranged}
use Rattle.lists.specs.Lists.{whole_sectors}
use Rattle.request.specs.declared.Volume.{Volume}
use Rattle.request.specs.declared.File.{File}
use Rattle.request.specs.declared.Range.{Range}
use Rattle.table.specs.declared.Row.{Row}
use Rattle.plan_def.specs.Plans.{Plan}
use Rattle.change_def.specs.Rounding.{round_down, round_up}
use Rattle.change_def.specs.Preallocs.{Stretch, sum_of}
use Rattle.change_def.specs.declared.Rewrite.{Rewrite}
use Rattle.change_def.specs.Rewrites.{Ground, leaf_items}
use Rattle.change_def.specs.Changes.{Change}
use Rattle.change_def.proofs.Fair.{Sound, Fair, rewrite_inside, rewrites_rise, hole_inside}
use Rattle.change_def.proofs.Rounding.{down_whole, down_next, up_limit, sector-limit}
use Rattle.fallocate_def.specs.Fallocate.{end_rewritten, end_sector, end_stop, holes_to_allocate, fallocate_change}
use Rattle.fallocate_def.proofs.Less.{between, clear_of, whole_item, whole_span}
use Rattle.fallocate_def.proofs.Holes.{end-order, end_whole, holes_whole, holes_free, holes-clear, holes_between, holes-apart, holes_sum}
use Rattle.punch_def.proofs.Planned.{records-ranged, ground_items, ground_sound}
use Rattle.fallocate_def.proofs.Planned.{ground, change, Planned}

-- ranged items of whole sectors
items_whole : (sector : ℕ) (fs : List Fields) → every ranged fs ≡ true → every (whole_sectors sector) fs ≡ true → every (whole_item sector) fs ≡ true
items_whole sector fs r w =
    every_map (λ (f : Fields). ranged f && whole_sectors sector f) (whole_item sector)
    (λ f e. implied (ranged f) (whole_item sector f) (both_right (ranged f) (whole_sectors sector f) e) (both_left (ranged f) (whole_sectors sector f) e))
    fs (every_both ranged (whole_sectors sector) fs r w)

module _ (keep : Bool) (g : Ground) (size offset stop : ℕ) (sound : Sound g) (sized : size < 2 ^ 63) (limit : stop < 2 ^ 63) (some : offset < stop) where
  abbrev fs : List Fields
  fs = leaf_items g.in_leaves

  abbrev asked : Change
  asked = fallocate_change keep fs size g.sector offset stop

  pos : 0 < g.sector
  pos = (sector-limit g.sector sound.sector).0

  -- the end's sector ends at or before 2^63
  end-limit : end_stop size g.sector stop ≤ 2 ^ 63
  end-limit = go (end_rewritten g.sector size stop) refl
    where
      go : (t : Bool) → end_rewritten g.sector size stop ≡ t → cond t (round_down g.sector size + g.sector) 0 ≤ 2 ^ 63
      go true e =
          let n = eqb-false (size % g.sector) 0 (not-true (eqb (size % g.sector) 0) (both_right (ltb size stop) (not (eqb (size % g.sector) 0)) e)) in
          omega (arith, down_next g.sector pos size n, up_limit g.sector pos (sector-limit g.sector sound.sector).1 size sized)
      go false e = omega arith

  range-limit : round_up g.sector stop ≤ 2 ^ 63
  range-limit = up_limit g.sector pos (sector-limit g.sector sound.sector).1 stop limit

  -- the holes' bytes fit 64 bits
  pub sum_limit : sum_of (holes_to_allocate size g.sector offset stop fs) ≤ 2 ^ 63
  sum_limit = omega (arith, range-limit, holes_sum size g.sector offset stop pos some fs)

  rewrites-inside : every (rewrite_inside g asked) asked.rewrites ≡ true
  unfolding every
  rewrites-inside = go (end_rewritten g.sector size stop)
    where
      s : ℕ
      s = round_down g.sector size

      go : (t : Bool)
          → every (λ (r : Rewrite). eqb (r.sector % g.sector) 0 && (leb (cond t s 0) r.sector && leb (r.sector + g.sector) (cond t (s + g.sector) 0))) (only t (record { sector = s; first = size; end = s + g.sector })) ≡ true
      go true = rw (eq-eqb (s % g.sector) 0 (down_whole g.sector pos size), le-leb s s (omega arith), le-leb (s + g.sector) (s + g.sector) (omega arith)) refl
      go false = refl

  rewrites-rise : pairs (rewrites_rise g) asked.rewrites ≡ true
  unfolding pairs every
  rewrites-rise = go (end_rewritten g.sector size stop)
    where
      go : (t : Bool) → pairs (rewrites_rise g) (only t (record { sector = round_down g.sector size; first = size; end = round_down g.sector size + g.sector })) ≡ true
      go true = refl
      go false = refl

  -- what is known of each hole
  abbrev known : Stretch → Bool
  known s =
      whole_span g.sector s && (between (round_down g.sector offset) (round_up g.sector stop) s && clear_of (end_sector size g.sector stop) (end_stop size g.sector stop) s)

  hole-inside : (s : Stretch) → known s ≡ true → hole_inside g asked s ≡ true
  hole-inside s h =
      let lo : ℕ = round_down g.sector offset in
      let hi : ℕ = round_up g.sector stop in
      let w : Bool = whole_span g.sector s in
      let b : Bool = between lo hi s in
      let c : Bool = clear_of asked.lo asked.hi s in
      let l : Bool = leb 1 s.length in
      let e : ℕ = s.start + s.length in
      let hbc : (b && c) ≡ true = both_right w (b && c) h in
      let hb : (l && leb e hi) ≡ true = both_right (leb lo s.start) (l && leb e hi) (both_left b c hbc) in
      let top = leb-true e hi (both_right l (leb e hi) hb) in
      both w ((l && leb e (2 ^ 63)) && (leb e asked.lo || leb asked.hi s.start)) (both_left w (b && c) h)
      (both (l && leb e (2 ^ 63)) (leb e asked.lo || leb asked.hi s.start)
      (both l (leb e (2 ^ 63)) (both_left l (leb e hi) hb) (le-leb e (2 ^ 63) (omega (arith, range-limit))))
      (⊎_elim (either_right (leb e asked.lo) (leb asked.hi s.start)) (either_left (leb e asked.lo) (leb asked.hi s.start))
      (either (leb asked.hi s.start) (leb e asked.lo) (both_right b c hbc))))

  -- the change of a fallocate on a sound file is fair
  pub fair : Fair g asked
  fair =
      record {
        sound = sound;
        lower = (end_whole size g.sector offset stop pos).0;
        upper = (end_whole size g.sector offset stop pos).1;
        order = end-order size g.sector offset stop;
        limit = end-limit;
        rewrites = rewrites-inside;
        rising = rewrites-rise;
        holes =
            every_map known (hole_inside g asked) hole-inside asked.holes
            (every_both (whole_span g.sector) _ asked.holes
            (holes_whole size g.sector offset stop pos fs (items_whole g.sector fs sound.ranges sound.sectors))
            (every_both _ _ asked.holes (holes_between size g.sector offset stop pos some fs) (holes-clear size g.sector offset stop fs)));
        free = holes_free size g.sector offset stop fs;
        apart = holes-apart size g.sector offset stop pos some fs;
      }

-- so is that of a planned one
pub planned-fair :
    (v : Volume) (f : File) (r : Range) (keepSize : Bool) (fs : List Fields) (shared : List ℕ) (rs : List Row) (places : List ℕ) (p : Plan)
    → Planned v f r keepSize fs shared rs places p
    → Fair (ground v f r keepSize fs shared rs) (change v f r keepSize fs shared rs)
planned-fair v f r keepSize fs shared rs places p k =
    subst (λ (l : List Fields). Fair (ground v f r keepSize fs shared rs) (fallocate_change keepSize l f.size v.sector r.offset (r.offset + r.length))) (ground_items v f fs shared rs k.lent)
    (fair keepSize (ground v f r keepSize fs shared rs) f.size r.offset (r.offset + r.length) (ground_sound v f fs shared rs k.lent (records-ranged fs k.records))
    (ltb-true f.size (2 ^ 63) k.lent.size) k.limit (omega (arith, k.some)))
