-- The sector writes of a punch: one for each sector that its range covers in part and an item holds, with just what is
-- covered of it zero. Assumes nothing.
use mathlib.Core.Path.{◌≡◌, ap, ◌∙◌, sym}
use mathlib.Core.List.{List, Memᴰ}
use Prim.Native.Nat.{ℕ, ◌+◌, ◌≤◌, max, min}
use lib.Dec.{eqb}
use Rattle.records.specs.Select.{count}
use Rattle.item.specs.Items.{Fields}
use Rattle.table.specs.declared.Row.{Row}
use Rattle.request.specs.declared.Volume.{Volume}
use Rattle.request.specs.declared.File.{File}
use Rattle.request.specs.declared.Range.{Range}
use Rattle.cut_def.specs.Mappings.{mapping}
use Rattle.cut_def.specs.Pieces.{items_of}
use Rattle.plan_def.specs.Plans.{Plan, Write}
use Rattle.change_def.specs.Preallocs.{piece_limit}
use Rattle.change_def.specs.declared.Rewrite.{Rewrite}
use Rattle.change_def.specs.Rewrites.{ground_of, Ground}
use Rattle.change_def.specs.Changes.{pieces_after, plan_of}
use Rattle.change_def.proofs.Writes.{write_once as once, rewrite_written, write_rewrite}
use Rattle.punch_def.specs.Punch.{Part, zeroes, PartsZeroed}
use Rattle.punch_def.proofs.Planned.{Planned, ground_items}
use Rattle.punch_def.proofs.Shapes.{Rewritten}
use Rattle.punch_def.proofs.Shown.{others-kept}
use Rattle.punch_def.proofs.Fair.{rewrite_part, part_rewritten, planned-sound, planned-asked, planned-fair}

module _ (v : Volume) (f : File) (fs : List Fields) (shared : List ℕ) (rs : List Row) (r : Range) (places : List ℕ) (p : Plan) (d : Planned v f fs shared rs r places p) where
  abbrev g : Ground
  g = ground_of v f fs shared rs

  abbrev stop : ℕ
  stop = r.offset + r.length

  made : p.writes ≡ (plan_of g d.change piece_limit places).writes
  made = ap (λ (q : Plan). q.writes) d.made

  -- what is known of each rewrite
  part : (w : Rewrite) → Memᴰ w d.change.rewrites → Rewritten fs f.size v.sector r.offset stop d.change.lo d.change.hi w
  part = rewrite_part g fs (ground_items v f fs shared rs d.lent) (planned-sound v f fs shared rs r places p d) f.size r.offset stop d.change (planned-asked v f fs shared rs r places p d)

  -- every such sector has just one write, that zeroes just what is covered
  one_write : (y : ℕ) → Part fs f.size v.sector r.offset stop y
      → count (zeroes v.sector r.offset stop y) p.writes ≡ 1
  one_write y h =
      rw made
      (rewrite_written g d.change (planned-fair v f fs shared rs r places p d) piece_limit places d.placed (record { sector = y; first = max r.offset y; end = min stop (y + v.sector) })
      (part_rewritten g fs (ground_items v f fs shared rs d.lent) (planned-sound v f fs shared rs r places p d) f.size r.offset stop d.change (planned-asked v f fs shared rs r places p d) y h))

  -- no sector has two
  write_once : (y : ℕ) → count (λ (w : Write). eqb w.key y) p.writes ≤ 1
  write_once y = rw made (once g d.change (planned-fair v f fs shared rs r places p d) piece_limit places d.placed y)

  -- and no other sector has one
  write_part : (w : Write) → Memᴰ w p.writes → Part fs f.size v.sector r.offset stop w.key × (w.first ≡ max r.offset w.key) × (w.end ≡ min stop (w.key + v.sector))
  write_part w m =
      go (write_rewrite g d.change (planned-fair v f fs shared rs r places p d) piece_limit places d.placed w (rw made at m))
    where
      go : (t : Rewrite) × Memᴰ t d.change.rewrites × (t.sector ≡ w.key) × (t.first ≡ w.first) × (t.end ≡ w.end)
          → Part fs f.size v.sector r.offset stop w.key × (w.first ≡ max r.offset w.key) × (w.end ≡ min stop (w.key + v.sector))
      go (t, n, k, b, e) =
          let u = part t n in
          (rw k at u.part, sym b ∙ rw k at u.first, sym e ∙ rw k at u.end)

  -- partial sectors are zeroed, as fallocate(2) says
  pub parts_zeroed : PartsZeroed fs f.size v.sector r.offset stop p.writes (λ (o : ℕ). mapping o fs) (λ (o : ℕ). mapping o (items_of (pieces_after g d.change piece_limit places)))
  parts_zeroed = record { one = one_write; once = write_once; only = write_part; kept = others-kept v f fs shared rs r places p d }
