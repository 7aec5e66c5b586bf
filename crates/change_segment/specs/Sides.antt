-- For the code only: the two sectors of a change, front and back: what each has of the plan's lists, if it is there.
use Rattle.std.specs.Prelude.{List, [], ◌∷◌, ◌++◌, map, Option, Some, None, option_to_list, is_some, cond, ℕ, ◌+◌, ◌-◌, take, drop}
use Rattle.records.specs.Select.{keep}
use Rattle.item.specs.Items.{Fields, regular_item}
use Rattle.cut_def.specs.Pieces.{Piece, insert_all, cut_pieces, counted_bytes}
use Rattle.cut_def.specs.Joins.{join_all}
use Rattle.request.specs.declared.Volume.{Volume}
use Rattle.request.specs.declared.File.{File}
use Rattle.table.specs.declared.Row.{Row}
use Rattle.cut_def.specs.Cuts.{split}
use Rattle.cut_def.specs.Refs.{Ref, ref_of}
use Rattle.cut_segment.specs.declared.Segment.{Segment}
use Rattle.ref_def.specs.Compared.{refs_among, minus}
use Rattle.ref_def.specs.Drops.{unrefs}
use Rattle.drop_lines.specs.declared.Cut.{Cut}
use Rattle.drop_lines.specs.Dropped.{drops_in}
use Rattle.cut_splits.specs.Splits.{elsewhere}
use Rattle.plan_def.specs.Plans.{Write}
use Rattle.plan_def.specs.Places.{Wanted}
use Rattle.change_def.specs.declared.Rewrite.{Rewrite}
use Rattle.change_def.specs.declared.RangeChange.{RangeChange}
use Rattle.change_def.specs.Rewrites.{Ground, new_generation}
use Rattle.change_rewrites.specs.declared.in_place.InPlace.{InPlace}
use Rattle.change_rewrites.specs.Raw.{item_of, extent_of, write_of}
use Rattle.change_segment.specs.declared.Parts.{Parts}
use Rattle.change_segment.specs.Raw.{new_item}

-- a sector that takes a new extent: it is rewritten, and not in place
abbrev pub anew : Option Rewrite → Option InPlace → Option Rewrite
anew r None = r
anew r (Some w) = None

abbrev pub front_new : RangeChange → Parts → Option Rewrite
front_new c p = anew c.front p.front

abbrev pub back_new : RangeChange → Parts → Option Rewrite
back_new c p = anew c.back p.back

-- one thing of each side, if it is there
abbrev pub sides : {A B : Type 0} → Option A → Option A → (A → B) → (A → B) → List B
sides a b f h = map f (option_to_list a) ++ map h (option_to_list b)

-- a sector's new extent, its item and its write
abbrev pub wanted_at : Ground → Rewrite → Wanted
wanted_at g r = record { key = r.sector; length = g.sector; kind = 1 }

abbrev pub new_at : Ground → ℕ → Rewrite → Fields
new_at g x r = regular_item g.file r.sector (new_generation g) x g.sector

abbrev pub write_at : ℕ → Rewrite → Write
write_at x r = record { key = r.sector; at = x; first = r.first; end = r.end }

-- how many sectors take new extents
abbrev pub one_if : {A : Type 0} → Option A → ℕ
one_if a = cond (is_some a) 1 0

abbrev pub anew_count : RangeChange → Parts → ℕ
anew_count c p = one_if (front_new c p) + one_if (back_new c p)

-- the places of new extents
abbrev pub places_at : RangeChange → Parts → ℕ → ℕ → List ℕ
places_at c p x y = sides (front_new c p) (back_new c p) (λ (r : Rewrite). x) (λ (r : Rewrite). y)

-- a plan's writes, those in place first
abbrev pub writes_of : RangeChange → Parts → ℕ → ℕ → List Write
writes_of c p x y = sides p.front p.back write_of write_of ++ sides (front_new c p) (back_new c p) (write_at x) (write_at y)

-- the sector of a write in place
abbrev pub sector_of : InPlace → ℕ
sector_of w = w.rewrite.sector

-- the pieces after the cut, the writes in place and the joins, by the two sides
abbrev pub written_pieces : (generation sector : ℕ) → RangeChange → Parts → List Fields → List Piece
written_pieces generation sector c p fs =
    join_all generation (sides p.front p.back sector_of sector_of) (insert_all (sides p.front p.back (item_of generation sector) (item_of generation sector)) (cut_pieces c.lo c.hi fs))

abbrev pub joined_pieces : Volume → RangeChange → Parts → List Fields → List Piece
joined_pieces v c p fs = written_pieces (v.generation + 1) v.sector c p fs

-- and with the new items, at their places
abbrev pub after_pieces : Volume → File → RangeChange → Parts → ℕ → ℕ → List Fields → List Piece
after_pieces v f c p x y fs =
    insert_all (sides (front_new c p) (back_new c p) (λ (r : Rewrite). new_item v f r x) (λ (r : Rewrite). new_item v f r y)) (joined_pieces v c p fs)

-- what is cut, and the extents of the sectors written in place; 0: none
abbrev pub cut_of : RangeChange → Parts → Cut
cut_of c p = record { lo = c.lo; hi = c.hi; one = extent_of p.front; two = extent_of p.back }

-- ---- lines of references: k is what is cut, s the segment that replaces records s .from up to s.to of fs

abbrev pub middle : List Fields → Segment → List Fields
middle fs s = take (s.to - s.from) (drop s.from fs)

abbrev pub compared_of : Cut → (before after : List Fields) → List Ref
compared_of k before after = minus (refs_among (k.one ∷ k.two ∷ []) after) (refs_among (k.one ∷ k.two ∷ []) before)

abbrev pub shares_of : Cut → List Fields → Segment → List Fields → List Ref
shares_of k fs s segment = keep (elsewhere (k.one ∷ k.two ∷ [])) (map ref_of (keep (split k.lo k.hi) fs)) ++ compared_of k (middle fs s) segment

abbrev pub unrefs_of : Cut → List Row → List Fields → List ℕ → Segment → List Fields → List Ref
unrefs_of k rows fs shared s segment = compared_of k segment (middle fs s) ++ unrefs rows (drops_in k fs shared)

-- ---- bytes

abbrev pub bytes_of : List Fields → Segment → List Fields → ℕ
bytes_of fs s segment = counted_bytes (take s.from fs) + (counted_bytes segment + counted_bytes (drop s.to fs))
