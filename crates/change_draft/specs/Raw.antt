-- For the code only: what the structs of this crate say, in the terms of the definitions.
use Rattle.std.specs.Prelude.{Option, Some, None, Result, Ok, Err, List, ◌≡◌, ℕ, ◌+◌, ◌≤◌, ltb, length}
use Rattle.records.specs.declared.refusal.Refusal.{Refusal}
use Rattle.records.specs.Refusals.{number}
use Rattle.item.specs.Items.{Fields, items}
use Rattle.request.specs.declared.Volume.{Volume}
use Rattle.request.specs.declared.Numbers.{Numbers}
use Rattle.request.specs.Answers.{Outcome, plan, refused}
use Rattle.plan_def.specs.Plans.{Plan}
use Rattle.change_def.specs.declared.Rewrite.{Rewrite}
use Rattle.change_def.specs.declared.RangeChange.{RangeChange}
use Rattle.change_def.specs.declared.Fill.{Fill}
use Rattle.change_def.specs.Changes.{Change}
use Rattle.change_def.specs.Drafts.{Drafted}
use Rattle.change_holes.specs.declared.Bounds.{Bounds}
use Rattle.change_holes.specs.declared.NewExtents.{NewExtents}
use Rattle.change_holes.specs.declared.Sums.{Sums}
use Rattle.change_holes.specs.Walk.{wishes}
use Rattle.change_segment.specs.declared.Parts.{Parts}
use Rattle.change_segment.specs.Sides.{front_new, back_new}
use Rattle.change_lay.specs.declared.Counts.{Counts}
use Rattle.change_draft.specs.declared.asked.Asked.{Asked}
use Rattle.change_draft.specs.declared.Needs.{Needs}
use Rattle.change_draft.specs.Whole.{filled}

-- a draft, of a file with these items: what a plan needs, or the number of its refusal
abbrev pub draft_said : List Fields → Result Needs Refusal → Outcome Drafted
draft_said fs (Ok n) = plan (record { numbers = n.numbers; extents = wishes n.extents fs })
draft_said fs (Err r) = refused (number r)

-- the stretch of a sector that takes a new extent; else an empty one
abbrev pub side_of : (sector : ℕ) → Option Rewrite → Bounds
side_of sector None = record { start = 0; stop = 0 }
side_of sector (Some r) = record { start = r.sector; stop = r.sector + sector }

-- the new extents of a change
abbrev pub extents_of : Volume → RangeChange → Fill → Parts → NewExtents
extents_of v c w p =
    record {
      one = side_of v.sector (front_new c p);
      two = side_of v.sector (back_new c p);
      lo = c.lo;
      hi = c.hi;
      from = w.from;
      to = w.to;
    }

-- a plan's counts, but for adds
abbrev pub counts_of : Plan → Counts
counts_of q =
    record {
      refs = record { shares = length q.shares; unrefs = length q.unrefs; releases = length q.releases };
      edits = record { edits = length q.edits; bytes = q.bytes };
      writes = length q.writes;
    }

-- a plan's numbers from those of the plan that fills no hole, the sectors that take new extents, and the pieces of holes
abbrev pub numbers_of : Counts → (sectors : ℕ) → Sums → (size : ℕ) → Numbers
numbers_of n sectors s size =
    record {
      edits = n.edits.edits + s.pieces;
      shares = n.refs.shares;
      unrefs = n.refs.unrefs;
      releases = n.refs.releases;
      adds = sectors + s.pieces;
      writes = n.writes;
      size = size;
      bytes = n.edits.bytes + s.bytes;
      prealloc = ltb 0 s.pieces;
    }

-- an asked change with its holes
abbrev pub whole : Asked → Change
whole a = filled a.begun a.fill
