-- A punch asks for a fair change, of the whole and partial sectors of its range. Assumes nothing.
use mathlib.Core.Path.{◌≡◌, refl, ◌∙◌}
use mathlib.Core.Bool.{Bool, true, false, cond}
use mathlib.Core.List.Memᴰ
use mathlib.Core.List.{List, Memᴰ}
use mathlib.Core.Option.{Option, none, some}
use mathlib.Core.Logic.{◌⊎◌, inl, inr, ⊎_elim}
use Prim.Native.Nat.{ℕ, ◌+◌, ◌%◌, ◌≤◌, ◌<◌, ◌^◌, max, min}
use native.Mathlib.Omega.{arith}
use native.Mathlib.Decide.{dec_lt}
use lib.Dec.{ltb}
use borrow.Author.Tests.{eq-eqb, le-leb, ltb-true}
use Rattle.records.specs.Stages.{every, pairs}
use Rattle.records.proofs.Lists.{every_mem, every_all}
use Rattle.records.proofs.Wholes.{add_whole}
use Rattle.item.specs.Items.{Fields, ranged, end}
use Rattle.table.specs.declared.Row.{Row}
use Rattle.lists.specs.Lists.{whole_sectors}
use Rattle.lists.proofs.Laws.{Kept, whole_facts}
use Rattle.cut_def.specs.Mappings.{holds, holder}
use Rattle.request.specs.declared.Volume.{Volume}
use Rattle.request.specs.declared.File.{File}
use Rattle.request.specs.declared.Range.{Range}
use Rattle.plan_def.specs.Plans.{Plan}
use Rattle.change_def.specs.Rounding.{round_down, round_up}
use Rattle.change_def.specs.declared.Rewrite.{Rewrite}
use Rattle.change_def.specs.Rewrites.{ground_of, Ground, leaf_items}
use Rattle.change_def.specs.Changes.{Change}
use Rattle.change_def.proofs.Fair.{Sound, Fair, rewrite_inside}
use Rattle.change_def.proofs.Rounding.{whole_next, down_below, down_near, down_whole, down_last, down_rises, up_above, up_whole, up_self, up_limit, sector-limit}
use Rattle.punch_def.specs.Punch.{first_held, start_in, held_by, punch_change, change_from, plan_punch, Part}
use Rattle.punch_def.proofs.Planned.{Planned, records-ranged, ground_items, ground_sound}
use Rattle.punch_def.proofs.Starts.{holding, hold, holder-some, some-holder, First, first_some, first_past, first-least, first_holds, first_whole}
use Rattle.punch_def.proofs.Shapes.{Rewritten, Drawn, drawn}

-- two whole numbers of sectors are one

rewrite_is : (w : Rewrite) (y b e : ℕ) → w.sector ≡ y → w.first ≡ b → w.end ≡ e → ◌≡◌ {A = Rewrite} (record { sector = y; first = b; end = e }) w
rewrite_is w y b e p q r = rw (← p, ← q, ← r) refl

-- ---- what is asked for

pub record Asked (fs : List Fields) (size s offset stop : ℕ) (c : Change) : Type 0 where
  pub start : ℕ
  pub found : first_held offset fs ≡ some start
  pub first : First offset start fs
  pub before : start < stop
  pub made : c ≡ punch_change fs size s start stop

pub asked : (fs : List Fields) (size s offset stop : ℕ) (c : Change) → plan_punch fs size s offset stop ≡ some c → Asked fs size s offset stop c
unfolding plan_punch
asked fs size s offset stop c h = go (first_held offset fs) refl h
  where
    in_range : (x : ℕ) (b : Bool) → first_held offset fs ≡ some x → ltb x stop ≡ b → change_from fs size s stop (cond b (some x) none) ≡ some c → Asked fs size s offset stop c
    in_range x true e t h = record { start = x; found = e; first = first_some offset fs x e; before = ltb-true x stop t; made = cc }
    in_range x false e t h = let z : ◌≡◌ {A = ℕ} 0 1 = cc in absurd (omega arith)

    go : (o : Option ℕ) → first_held offset fs ≡ o → change_from fs size s stop (start_in o stop) ≡ some c → Asked fs size s offset stop c
    go none e h = let z : ◌≡◌ {A = ℕ} 0 1 = cc in absurd (omega arith)
    go (some x) e h = in_range x (ltb x stop) e refl h

-- what a rewrite zeroes lies in the range and in its sector
pub record Zeroed (s offset stop : ℕ) (w : Rewrite) : Type 0 where
  pub low : offset ≤ w.first
  pub high : w.end ≤ stop
  pub some : w.first < w.end
  pub begins : w.sector ≤ w.first
  pub ends : w.end ≤ w.sector + s

module _ (g : Ground) (fs : List Fields) (items : leaf_items g.in_leaves ≡ fs) (sound : Sound g) (size offset stop : ℕ) (c : Change) (a : Asked fs size g.sector offset stop c) where
  pos : 0 < g.sector
  pos = (sector-limit g.sector sound.sector).0

  kept : Kept g.file fs
  kept = rw items at sound.kept

  ranges : every ranged fs ≡ true
  ranges = rw items at sound.ranges

  sectors : every (whole_sectors g.sector) fs ≡ true
  sectors = rw items at sound.sectors

  -- the item that holds the start holds its sector
  start-held : held_by (holder (round_down g.sector a.start) fs) ≡ true
  start-held =
      let f : Fields = a.first.item in
      let k = holding a.start f (first_holds offset a.start fs a.first g.file kept ranges) in
      let w = whole_facts g.sector f (every_mem (whole_sectors g.sector) a.first.among sectors) k.range in
      holder-some (round_down g.sector a.start) f fs a.first.among
      (hold (round_down g.sector a.start) f
      (record { range = k.range; named = k.named; low = down_last g.sector pos a.start f.key w.0 k.low; high = omega (arith, down_below g.sector pos a.start) }))

  pub drawn_from : Drawn fs size g.sector a.start stop c
  drawn_from = rw a.made (drawn fs size g.sector a.start stop pos a.before start-held)

  -- ---- the change is fair

  pub fair : stop < 2 ^ 63 → Fair g c
  unfolding every pairs
  fair l =
      let d = drawn_from in
      record {
        sound = sound;
        lower = d.lower;
        upper = d.upper;
        order = d.order;
        limit = omega (arith, d.ends, up_limit g.sector pos (sector-limit g.sector sound.sector).1 stop l);
        rewrites = every_all (rewrite_inside g c) c.rewrites (λ w m. inside w (d.rewritten w m));
        rising = d.rising;
        holes = rw d.unfilled refl;
        free = rw d.unfilled refl;
        apart = rw d.unfilled refl;
      }
    where
      inside : (w : Rewrite) → Rewritten fs size g.sector a.start stop c.lo c.hi w → rewrite_inside g c w ≡ true
      inside w r = rw (eq-eqb (w.sector % g.sector) 0 r.part.aligned, le-leb c.lo w.sector r.lower, le-leb (w.sector + g.sector) c.hi r.upper) refl

  -- ---- where it changes the file

  pub change_begins : round_down g.sector offset ≤ c.lo
  change_begins = omega (arith, drawn_from.begins, down_rises g.sector pos offset a.start (first_past offset a.start fs a.first))

  pub change_ends : c.hi ≤ round_up g.sector stop
  change_ends = drawn_from.ends

  -- ---- partial sectors

  -- of a partial sector the same is covered from the start on as from the offset on
  start-same : (y : ℕ) → y % g.sector ≡ 0 → a.start < y + g.sector → held_by (holder y fs) ≡ true → max a.start y ≡ max offset y
  start-same y w e h =
      let i = some-holder y fs h in
      let q = first_past offset a.start fs a.first in
      elim (dec_lt y offset) [
        | yes l ↦ ⊎_elim (λ o. omega arith) (λ o. absurd (omega (arith, whole_next g.sector pos y a.start w o (omega arith)))) (first_whole offset a.start fs a.first g.file kept ranges g.sector sectors)
        | no l ↦ omega (arith, first-least offset a.start fs a.first i.0 y i.1 i.2 (omega arith))
      ]

  -- every rewrite is of a sector that the range covers in part, and zeroes just that
  pub rewrite_part : (w : Rewrite) → Memᴰ w c.rewrites → Rewritten fs size g.sector offset stop c.lo c.hi w
  rewrite_part w m =
      let r = drawn_from.rewritten w m in
      let p = r.part in
      let e = start-same w.sector p.aligned p.ends p.held in
      record {
        part =
            record {
              aligned = p.aligned;
              begins = p.begins;
              ends = omega (arith, first_past offset a.start fs a.first);
              partly = ⊎_elim (λ l. inl (omega arith)) (λ l. inr l) p.partly;
              below = p.below;
              held = p.held;
            };
        first = r.first ∙ e;
        end = r.end;
        lower = r.lower;
        upper = r.upper;
      }

  -- the item that holds a sector holds all of it, so the start is at or before every offset of the range in it
  start-before : (y o : ℕ) → y % g.sector ≡ 0 → held_by (holder y fs) ≡ true → offset ≤ o → y ≤ o → o < y + g.sector → a.start ≤ o
  start-before y o w h l b e =
      let i = some-holder y fs h in
      let k = holding y i.0 i.2 in
      let v = whole_facts g.sector i.0 (every_mem (whole_sectors g.sector) i.1 sectors) k.range in
      let n = whole_next g.sector pos y (end i.0) w (add_whole g.sector i.0.key i.0.length v.0 v.1) k.high in
      first-least offset a.start fs a.first i.0 o i.1 (hold o i.0 (record { range = k.range; named = k.named; low = omega arith; high = omega arith })) l

  -- a sector that the range covers in part is so covered from the start on
  part-from : (y : ℕ) → Part fs size g.sector offset stop y → Part fs size g.sector a.start stop y
  part-from y p =
      record {
        aligned = p.aligned;
        begins = p.begins;
        ends = omega (arith, start-before y (max offset y) p.aligned p.held (omega arith) (omega arith) (omega (arith, pos)), pos);
        partly = ⊎_elim (λ l. inl (omega (arith, first_past offset a.start fs a.first))) (λ l. inr l) p.partly;
        below = p.below;
        held = p.held;
      }

  -- every such sector is rewritten, with just what is covered of it zero
  pub part_rewritten : (y : ℕ) → Part fs size g.sector offset stop y → Memᴰ (record { sector = y; first = max offset y; end = min stop (y + g.sector) }) c.rewrites
  part_rewritten y p = go (drawn_from.parts y (part-from y p))
    where
      go : (w : Rewrite) × Memᴰ w c.rewrites × (w.sector ≡ y) → Memᴰ (record { sector = y; first = max offset y; end = min stop (y + g.sector) }) c.rewrites
      go (w, m, e) =
          let r = rewrite_part w m in
          Memᴰ.cast {b = w} (rewrite_is w y (max offset y) (min stop (y + g.sector)) e (rw e at r.first) (rw e at r.end)) m

  -- such is the sector of an offset of the range, if it is not wholly in the range
  pub part_at : (o : ℕ) → offset ≤ o → o < stop → (round_down g.sector o < offset) ⊎ (stop < round_down g.sector o + g.sector) → round_down g.sector o < round_up g.sector size → held_by (holder (round_down g.sector o) fs) ≡ true → Part fs size g.sector offset stop (round_down g.sector o)
  part_at o l h p b k =
      record { aligned = down_whole g.sector pos o; begins = omega (arith, down_below g.sector pos o); ends = omega (arith, down_near g.sector pos o); partly = p; below = b; held = k }

  -- ---- what is zeroed

  pub rewrite_zeroed : (w : Rewrite) → Memᴰ w c.rewrites → Zeroed g.sector offset stop w
  rewrite_zeroed w m =
      let r = rewrite_part w m in
      let q = first_past offset a.start fs a.first in
      record { low = omega arith; high = omega arith; some = omega (arith, a.before, pos, r.part.begins, r.part.ends); begins = omega arith; ends = omega arith }

  -- ---- whole sectors

  -- none is rewritten
  pub whole_unwritten : (o : ℕ) → round_up g.sector offset ≤ o → o < round_down g.sector stop → (w : Rewrite) → Memᴰ w c.rewrites → (o < w.sector) ⊎ (w.sector + g.sector ≤ o)
  whole_unwritten o l h w m =
      let p = (rewrite_part w m).part in
      ⊎_elim
      (λ b. inr (omega (arith, whole_next g.sector pos w.sector (round_up g.sector offset) p.aligned (up_whole g.sector pos offset) (omega (arith, up_above g.sector pos offset)))))
      (λ e.
      elim (dec_lt w.sector (round_down g.sector stop)) [
        | yes b ↦ absurd (omega (arith, whole_next g.sector pos w.sector (round_down g.sector stop) p.aligned (down_whole g.sector pos stop) b, down_below g.sector pos stop))
        | no b ↦ inl (omega arith)
      ])
      p.partly

  -- and what is held of them is cut
  pub whole_cut : (f : Fields) (o : ℕ) → Memᴰ f fs → holds o f ≡ true → round_up g.sector offset ≤ o → o < round_down g.sector stop → (c.lo ≤ o) × (o < c.hi)
  whole_cut f o m h l e = drawn_from.inside o start_up e
    where
      start_up : round_up g.sector a.start ≤ o
      start_up =
          ⊎_elim (λ p. rw p l)
          (λ p. rw (up_self g.sector pos a.start p) (first-least offset a.start fs a.first f o m h (omega (arith, up_above g.sector pos offset))))
          (first_whole offset a.start fs a.first g.file kept ranges g.sector sectors)

-- ---- of a plan

module _ (v : Volume) (f : File) (fs : List Fields) (shared : List ℕ) (rs : List Row) (r : Range) (places : List ℕ) (p : Plan) (d : Planned v f fs shared rs r places p) where
  pub planned-sound : Sound (ground_of v f fs shared rs)
  planned-sound = ground_sound v f fs shared rs d.lent (records-ranged fs d.records)

  pub planned-asked : Asked fs f.size v.sector r.offset (r.offset + r.length) d.change
  planned-asked = asked fs f.size v.sector r.offset (r.offset + r.length) d.change d.asked

  pub planned-fair : Fair (ground_of v f fs shared rs) d.change
  planned-fair = fair (ground_of v f fs shared rs) fs (ground_items v f fs shared rs d.lent) planned-sound f.size r.offset (r.offset + r.length) d.change planned-asked d.limit
