-- What a clone makes of the destination: the range is cut, and the copies are put in (document 01, "A clone"; `remap`,
-- clone.rs).
use Rattle.std.specs.Prelude.{false, ◌&&◌, not, List, [], ◌++◌, map, ℕ, ◌+◌}
use Rattle.records.specs.Select.{keep}
use Rattle.item.specs.Items.{Fields, hole}
use Rattle.table.specs.declared.Row.{Row}
use Rattle.cut_def.specs.Cuts.{covered, split}
use Rattle.cut_def.specs.Pieces.{Piece, items_of, cut_pieces, insert_all, counted_bytes}
use Rattle.cut_def.specs.Refs.{Ref, ref_of}
use Rattle.cut_def.specs.Edits.{edits}
use Rattle.ref_def.specs.Drops.{InLeaf, in_leaves, releases, unrefs}
use Rattle.plan_def.specs.Plans.{Plan}
use Rattle.clone_items.specs.declared.Copying.{Copying}
use Rattle.clone_items.specs.Copies.{clones}

-- where the range that is replaced ends
abbrev pub top : Copying → ℕ
top c = c.to + c.span

-- the covered items that are no holes
abbrev pub clone_drops : Copying → List Fields → (shared : List ℕ) → List InLeaf
clone_drops c before shared = keep (λ (h : InLeaf). covered c.to (top c) h.item && not (hole h.item)) (in_leaves before shared)

-- the references of items cut on both sides
abbrev pub clone_splits : Copying → List Fields → List Ref
clone_splits c before = map ref_of (keep (split c.to (top c)) before)

-- the file's items after it
unfoldable pub pieces_now : Copying → (before source : List Fields) → List Piece
pieces_now c before source = insert_all (clones c source) (cut_pieces c.to (top c) before)

-- the plan, with the size that the file has then
abbrev pub plan_for : Copying → (before : List Fields) → (shared : List ℕ) → (source : List Fields) → List Row → (size : ℕ) → Plan
plan_for c before shared source rs size =
    record {
      edits = edits before (pieces_now c before source);
      shares = clone_splits c before ++ map ref_of (clones c source);
      unrefs = unrefs rs (clone_drops c before shared);
      releases = releases rs (clone_drops c before shared);
      adds = [];
      writes = [];
      size = size;
      bytes = counted_bytes (items_of (pieces_now c before source));
      prealloc = false;
    }
