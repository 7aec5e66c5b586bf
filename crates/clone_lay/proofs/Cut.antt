-- A clone's ground with what the cut of its range leaves: its bytes, and what its edits are made of. Assumes nothing.
use mathlib.Core.Path.{◌≡◌, ap}
use mathlib.Core.Bool.{true}
use mathlib.Core.List.{List}
use Prim.Native.Nat.{ℕ, ◌+◌, ◌<◌, ◌^◌}
use native.Mathlib.Omega.{arith}
use lib.ListN.{length}
use Rattle.records.specs.Stages.{pairs}
use Rattle.item.specs.Items.{Fields, items}
use Rattle.lists.specs.Lists.{rises}
use Rattle.cut_def.specs.Pieces.{items_of, counted_bytes}
use Rattle.cut_def.specs.Edits.{edits}
use Rattle.cut_segment.specs.declared.Running.{Running}
use Rattle.cut_segment.specs.declared.remade.Remade.{Remade}
use Rattle.cut_segment.specs.Remade.{taken_of, made_of}
use Rattle.plan_def.specs.Outputs.{edit_bytes}
use Rattle.plan_lines.specs.Lines.{Laid}
use Rattle.plan_lines.proofs.Loops.{laid_same}
use Rattle.edit_merge.specs.Merge.{together}
use Rattle.change_segment.specs.Sides.{bytes_of}
use Rattle.change_lines.proofs.Spans.{taken-rises, taken-most, made-most}
use Rattle.clone_items.specs.Copies.{clones}
use Rattle.clone_lay.specs.declared.ground.CloneGround.{CloneGround}
use Rattle.clone_lay.specs.Lent.{number_in, plan_in, CutOut}
use Rattle.clone_lay.proofs.Placed.{new-rises, edits-placed, bytes-placed, bytes_below}

module _ (g : CloneGround) (m : Remade) (p : CutOut g m) where
  abbrev copies : List Fields
  copies = clones g.copies.copying.range (items g.copies.source.now)

  -- ---- bytes

  abbrev cut-bytes : ℕ
  cut-bytes = bytes_of (items m.list.records.now) m.segment (made_of m)

  pub bytes-fit : (cut-bytes < 2 ^ 64) × (counted_bytes copies < 2 ^ 64) × (cut-bytes + counted_bytes copies < 2 ^ 64)
  bytes-fit = rw p.list (bytes_below g.copies.copying.range g.leaves.list.records.now g.copies.source.now g.placing m.segment m.buffer.now p.cut)

  pub bytes-told : (a b : ℕ) → a ≡ cut-bytes → b ≡ counted_bytes copies → a + b ≡ (plan_in g).bytes
  bytes-told a b x y = bytes-placed g.copies.copying.range g.leaves.list.records.now g.copies.source.now g.placing m.segment m.buffer.now p.cut a b (rw p.list at x) y

  -- ---- edits: what is taken, what is made

  module _ (taken made : List Fields) (et : taken ≡ taken_of m) (em : made ≡ made_of m) where
    pub edits-asked :
        (pairs rises copies ≡ true) × (pairs rises taken ≡ true) × (pairs rises (items_of (together copies made)) ≡ true)
        × (length taken + length made + length (items g.copies.source.now) < 2 ^ 64)
    edits-asked =
        let h = g.placing in (
          h.rise,
          rw et (taken-rises m),
          rw em (new-rises g.copies.copying.range g.leaves.list.records.now g.copies.source.now h m.segment m.buffer.now p.cut),
          rw (et, em) (omega (arith, h.sized, h.«source-sized», p.cut.few, taken-most m, made-most m, ap (λ (l : Running). length (items l.records.now)) p.list)),
        )

    pub edits-told :
        (n : ℕ) (out out' : List ℕ) → Laid (edit_bytes (number_in g)) 71 0 (edits taken (together copies made)) out n out' → Laid (edit_bytes (number_in g)) 71 0 (plan_in g).edits out n out'
    edits-told n out out' l =
        laid_same (edit_bytes (number_in g)) 71 _ _ _ _ _ _ (edits-placed g.copies.copying.range g.leaves.list.records.now g.copies.source.now g.placing m.segment m.buffer.now p.cut) (rw (et, em, p.list) at l)
