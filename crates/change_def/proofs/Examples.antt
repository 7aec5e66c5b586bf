-- Rounding, pieces and changes of small files, computed. P1, P2, .. are the cards of document 01.
use mathlib.Core.Path.{◌≡◌, refl}
use mathlib.Core.Bool.{Bool, true, false, cond}
use mathlib.Core.List.{List, [], ◌∷◌, map, flat_map}
use Prim.Native.Nat.{ℕ, ◌+◌, ◌-◌, ◌^◌}
use Rattle.records.specs.Stages.{first, first_of, stage, every, pairs}
use Rattle.records.specs.Select.{keep, any, count}
use Rattle.item.specs.Items.{regular_item, with_numbers as with}
use Rattle.table.specs.declared.Row.{Row}
use Rattle.table.specs.Rows.{find_from}
use Rattle.request.specs.Answers.{Outcome, plan, nothing, refused}
use Rattle.cut_def.specs.Pieces.{cut_pieces, insert, insert_all, counted_bytes}
use Rattle.cut_def.specs.Joins.{join_around, join_all}
use Rattle.cut_def.specs.Edits.{Edit, put, delete, edits}
use Rattle.ref_def.specs.Compared.{insert_ref, sorted, without, minus}
use Rattle.ref_def.specs.Drops.{InLeaf, due_of}
use Rattle.plan_def.specs.Plans.{Plan, refused_or}
use Rattle.plan_def.specs.Places.{placed, places_sound}
use Rattle.plan_def.specs.Outputs.{Rooms, ref_numbers, add_numbers, write_numbers}
use Rattle.change_def.specs.Rounding.{round_down, round_up}
use Rattle.change_def.specs.Preallocs.{Stretch, piece_limit, pieces_from, prealloc_pieces}
use Rattle.change_def.specs.Rewrites.{Ground, holder_of, each_in_place}
use Rattle.change_def.specs.Sweep.{gaps_from, filled_of}
use Rattle.std.specs.Prelude.{None}
use Rattle.change_def.specs.Changes.{Change, new_items, writes_anew, pieces_written, pieces_joined, drops, change_refusal, pieces_after, changed}

-- ---- rounding and pieces

-- an offset rounded down and up to sectors of 4,096
rounded : ℕ → List ℕ
rounded x = round_down 4096 x ∷ round_up 4096 x ∷ []

-- the pieces of a hole at 4,096, each its start and length
pieces : ℕ → List ℕ
pieces length = flat_map (λ (s : Stretch). s.start ∷ s.length ∷ []) (prealloc_pieces piece_limit (record { start = 4096; length = length }))

numbers : List (List ℕ × List ℕ)
numbers =
    (rounded 0, 0 ∷ 0 ∷ [])
    ∷ (rounded 1, 0 ∷ 4096 ∷ [])
    ∷ (rounded 4095, 0 ∷ 4096 ∷ [])
    ∷ (rounded 4096, 4096 ∷ 4096 ∷ [])
    ∷ (rounded 4097, 4096 ∷ 8192 ∷ [])
    ∷ (pieces 0, [])
    ∷ (pieces 1, 4096 ∷ 1 ∷ [])
    ∷ (pieces 268435455, 4096 ∷ 268435455 ∷ [])
    ∷ (pieces 268435456, 4096 ∷ 268435456 ∷ [])
    -- P9
    ∷ (pieces 268435457, 4096 ∷ 268435456 ∷ 268439552 ∷ 1 ∷ [])
    ∷ (pieces 536870912, 4096 ∷ 268435456 ∷ 268439552 ∷ 268435456 ∷ [])
    ∷ []

-- ---- a file on the extent [1048576, 1064960), made by generation 5

-- an item of generation 3
item : (kind key position length shared : ℕ) → InLeaf
item kind key position length shared = record { item = with (regular_item 257 key 3 1048576 16384) 257 key 3 kind position length; shared = shared }

extent : (length references keyed : ℕ) → Row
extent length references keyed = record { start = 1048576; length = length; references = references; made = 5; keyed = keyed }

ground : (generation snapshot : ℕ) → Bool → List InLeaf → List Row → Ground
ground generation snapshot nodatacow hs rows =
    record { sector = 4096; generation = generation; snapshot = snapshot; nodatacow = nodatacow; file = 257; in_leaves = hs; rows = rows }

-- at generation 7, with no snapshot
file : List InLeaf → (references : ℕ) → Ground
file hs references = ground 7 0 false hs (extent 16384 references 0 ∷ [])

-- the cards' file: one item over the whole extent; and the same preallocated
regular : List InLeaf
regular = item 1 0 0 16384 0 ∷ []

preallocated : List InLeaf
preallocated = item 2 0 0 16384 0 ∷ []

-- ---- changes

-- [lo, hi) is cut
punch : (lo hi : ℕ) → Change
punch lo hi = record { lo = lo; hi = hi; rewrites = []; holes = []; size = 16384 }

-- the sector at s is rewritten, with 50 bytes of it zeroed
zeroed : ℕ → Change
zeroed s = record { lo = s; hi = s + 4096; rewrites = record { sector = s; first = s + 100; end = s + 150 } ∷ []; holes = []; size = 16384 }

-- a hole behind the file is filled
fill : ℕ → Change
fill length = record { lo = 0; hi = 0; rewrites = []; holes = record { start = 16384; length = length } ∷ []; size = 16385 }

-- ---- plans as numbers: a put is 1, its key, generation, kind, extent, position and length; a delete is 2 and its key

edit_numbers : Edit → List ℕ
edit_numbers (put f) = 1 ∷ f.key ∷ f.generation ∷ f.kind ∷ f.extent_start ∷ f.position ∷ f.length ∷ []
edit_numbers (delete k) = 2 ∷ k ∷ []

refusal : ℕ → List (List ℕ)
refusal n = (n ∷ []) ∷ []

-- edits, shares, unrefs, releases, adds, writes, and the size, the byte count and the mark; or the refusal
plan_numbers : Outcome Plan → List (List ℕ)
plan_numbers (plan p) =
    flat_map edit_numbers p.edits
    ∷ flat_map ref_numbers p.shares
    ∷ flat_map ref_numbers p.unrefs
    ∷ flat_map ref_numbers p.releases
    ∷ flat_map add_numbers p.adds
    ∷ flat_map write_numbers p.writes
    ∷ (p.size ∷ p.bytes ∷ cond p.prealloc 1 0 ∷ [])
    ∷ []
plan_numbers nothing = []
plan_numbers (refused n) = refusal n

roomy : (edits : ℕ) → Rooms
roomy edits = record { edits = edits; shares = 4; unrefs = 4; releases = 4; adds = 6; writes = 4 }

run : Ground → Change → (places : List ℕ) → List (List ℕ)
run g c places = plan_numbers (changed g c piece_limit places (roomy 213))

abbrev Cases : Type 0
Cases = List (List (List ℕ) × List (List ℕ))

-- cuts and new extents
cuts : Cases
cuts =
    -- P1: cut in the middle, so shared once more
    (
      run (file regular 1) (punch 4096 8192) [],
      (1 ∷ 0 ∷ 3 ∷ 1 ∷ 1048576 ∷ 0 ∷ 4096 ∷ 1 ∷ 8192 ∷ 3 ∷ 1 ∷ 1048576 ∷ 8192 ∷ 8192 ∷ [])
          ∷ (1048576 ∷ 0 ∷ [])
          ∷ []
          ∷ []
          ∷ []
          ∷ []
          ∷ (16384 ∷ 12288 ∷ 0 ∷ [])
          ∷ [],
    )
    -- P2: covered, so released; not so with a second reference, or in a shared leaf
    ∷ (run (file regular 1) (punch 0 16384) [], (2 ∷ 0 ∷ []) ∷ [] ∷ [] ∷ (1048576 ∷ 0 ∷ []) ∷ [] ∷ [] ∷ (16384 ∷ 0 ∷ 0 ∷ []) ∷ [])
    ∷ (run (file regular 2) (punch 0 16384) [], (2 ∷ 0 ∷ []) ∷ [] ∷ (1048576 ∷ 0 ∷ []) ∷ [] ∷ [] ∷ [] ∷ (16384 ∷ 0 ∷ 0 ∷ []) ∷ [])
    ∷ (run (file (item 1 0 0 16384 1 ∷ []) 1) (punch 0 16384) [], (2 ∷ 0 ∷ []) ∷ [] ∷ (1048576 ∷ 0 ∷ []) ∷ [] ∷ [] ∷ [] ∷ (16384 ∷ 0 ∷ 0 ∷ []) ∷ [])
    -- P3: a sector rewritten anew takes a place
    ∷ (
      run (file regular 1) (zeroed 0) (2097152 ∷ []),
      (1 ∷ 0 ∷ 8 ∷ 1 ∷ 2097152 ∷ 0 ∷ 4096 ∷ 1 ∷ 4096 ∷ 3 ∷ 1 ∷ 1048576 ∷ 4096 ∷ 12288 ∷ [])
          ∷ []
          ∷ []
          ∷ []
          ∷ (2097152 ∷ 4096 ∷ 0 ∷ [])
          ∷ (0 ∷ 2097152 ∷ 100 ∷ 150 ∷ [])
          ∷ (16384 ∷ 16384 ∷ 0 ∷ [])
          ∷ [],
    )
    -- P5: a piece of a hole takes a place
    ∷ (
      run (file regular 1) (fill 4096) (2097152 ∷ []),
      (1 ∷ 16384 ∷ 8 ∷ 2 ∷ 2097152 ∷ 0 ∷ 4096 ∷ []) ∷ [] ∷ [] ∷ [] ∷ (2097152 ∷ 4096 ∷ 16384 ∷ []) ∷ [] ∷ (16385 ∷ 20480 ∷ 1 ∷ []) ∷ [],
    )
    ∷ []

-- rewrites in place
writes : Cases
writes =
    -- P12: no place is taken, and the references are compared: one more, two more
    (
      run (file preallocated 1) (zeroed 0) [],
      (1 ∷ 0 ∷ 8 ∷ 1 ∷ 1048576 ∷ 0 ∷ 4096 ∷ 1 ∷ 4096 ∷ 3 ∷ 2 ∷ 1048576 ∷ 4096 ∷ 12288 ∷ [])
          ∷ (1048576 ∷ 0 ∷ [])
          ∷ []
          ∷ []
          ∷ []
          ∷ (0 ∷ 1048576 ∷ 100 ∷ 150 ∷ [])
          ∷ (16384 ∷ 16384 ∷ 0 ∷ [])
          ∷ [],
    )
    ∷ (
      run (file preallocated 1) (zeroed 4096) [],
      (1 ∷ 0 ∷ 3 ∷ 2 ∷ 1048576 ∷ 0 ∷ 4096 ∷ 1 ∷ 4096 ∷ 8 ∷ 1 ∷ 1048576 ∷ 4096 ∷ 4096 ∷ 1 ∷ 8192 ∷ 3 ∷ 2 ∷ 1048576 ∷ 8192 ∷ 8192 ∷ [])
          ∷ (1048576 ∷ 0 ∷ 1048576 ∷ 0 ∷ [])
          ∷ []
          ∷ []
          ∷ []
          ∷ (4096 ∷ 1052672 ∷ 4196 ∷ 4246 ∷ [])
          ∷ (16384 ∷ 16384 ∷ 0 ∷ [])
          ∷ [],
    )
    ∷ []

-- and joins
joins : Cases
joins =
    -- joined with the regular item before it, with the new generation: as many references, one less
    (
      run (file (item 1 0 0 4096 0 ∷ item 2 4096 4096 12288 0 ∷ []) 2) (zeroed 4096) [],
      (1 ∷ 0 ∷ 8 ∷ 1 ∷ 1048576 ∷ 0 ∷ 8192 ∷ 2 ∷ 4096 ∷ 1 ∷ 8192 ∷ 3 ∷ 2 ∷ 1048576 ∷ 8192 ∷ 8192 ∷ [])
          ∷ []
          ∷ []
          ∷ []
          ∷ []
          ∷ (4096 ∷ 1052672 ∷ 4196 ∷ 4246 ∷ [])
          ∷ (16384 ∷ 16384 ∷ 0 ∷ [])
          ∷ [],
    )
    ∷ (
      run (file (item 1 0 0 4096 0 ∷ item 2 4096 4096 4096 0 ∷ []) 2) (zeroed 4096) [],
      (1 ∷ 0 ∷ 8 ∷ 1 ∷ 1048576 ∷ 0 ∷ 8192 ∷ 2 ∷ 4096 ∷ [])
          ∷ []
          ∷ (1048576 ∷ 0 ∷ [])
          ∷ []
          ∷ []
          ∷ (4096 ∷ 1052672 ∷ 4196 ∷ 4246 ∷ [])
          ∷ (16384 ∷ 8192 ∷ 0 ∷ [])
          ∷ [],
    )
    ∷ []

-- refusals
refusals : Cases
refusals =
    -- 13 at the last generation
    (run (ground (2 ^ 64 - 2) 0 false [] []) (punch 0 16384) [], [] ∷ [] ∷ [] ∷ [] ∷ [] ∷ [] ∷ (16384 ∷ 0 ∷ 0 ∷ []) ∷ [])
    ∷ (run (ground (2 ^ 64 - 1) 0 false [] []) (punch 0 16384) [], refusal 13)
    -- a split's 14 and 15, a drop's 14 and 17
    ∷ (run (ground 7 0 false regular []) (punch 4096 8192) [], refusal 14)
    ∷ (run (ground 7 0 false regular (extent 16384 1 1 ∷ [])) (punch 4096 8192) [], refusal 15)
    ∷ (run (ground 7 0 false regular []) (punch 0 16384) [], refusal 14)
    ∷ (run (ground 7 0 false regular (extent 16383 1 0 ∷ [])) (punch 0 16384) [], refusal 17)
    -- 16: nodatacow with a regular holder
    ∷ (run (ground 7 0 true regular (extent 16384 1 0 ∷ [])) (zeroed 0) (2097152 ∷ []), refusal 16)
    -- in place 14, 17, and 18 for references, for the snapshot and for the leaf
    ∷ (run (ground 7 0 false preallocated []) (zeroed 0) [], refusal 14)
    ∷ (run (ground 7 0 false preallocated (extent 4095 1 0 ∷ [])) (zeroed 0) [], refusal 17)
    ∷ (run (file preallocated 2) (zeroed 0) [], refusal 18)
    ∷ (run (ground 7 5 false preallocated (extent 16384 1 0 ∷ [])) (zeroed 0) [], refusal 18)
    ∷ (run (file (item 2 0 0 16384 1 ∷ []) 1) (zeroed 0) [], refusal 18)
    -- 26: too few places, too many, one that meets the extent
    ∷ (run (file regular 1) (zeroed 0) [], refusal 26)
    ∷ (run (file regular 1) (punch 0 16384) (2097152 ∷ []), refusal 26)
    ∷ (run (file regular 1) (zeroed 0) (1064959 ∷ []), refusal 26)
    -- 27: room for the edits
    ∷ (plan_numbers (changed (file regular 1) (punch 4096 8192) piece_limit [] (roomy 141)), refusal 27)
    ∷ []

-- what is given is what is due
abbrev Right : {A : Type 0} → List (A × A) → Type 0
Right {A} cases = map (λ (c : A × A). c.0) cases ≡ map (λ (c : A × A). c.1) cases

right : Right numbers × Right cuts × Right writes × Right joins × Right refusals
unfolding numbers rounded pieces pieces_from cuts writes joins refusals item extent ground file regular preallocated punch zeroed fill edit_numbers plan_numbers roomy run refusal
    flat_map keep any count every pairs first first_of stage find_from insert insert_all cut_pieces counted_bytes join_around join_all edits insert_ref sorted without minus due_of
    refused_or placed places_sound holder_of each_in_place new_items writes_anew pieces_written pieces_joined drops change_refusal pieces_after changed
right = (refl, refl, refl, refl, refl)

-- ---- holes

-- the holes of [1024, 20480) in a file with items at [4096, 8192) and [12288, 16384), but for [lo, hi), and the new size
filled : (lo hi : ℕ) → List ℕ
filled lo hi =
    told
    (filled_of
    (record { lo = lo; hi = hi; front = None; back = None })
    (record { from = 1024; to = 20480; size = 9000 })
    (map (λ (h : InLeaf). h.item) (item 1 4096 0 4096 0 ∷ item 1 12288 8192 4096 0 ∷ [])))
  where
    told : Change → List ℕ
    told c = c.size ∷ flat_map (λ (s : Stretch). s.start ∷ s.length ∷ []) c.holes

sweeps : map (λ (r : ℕ × ℕ). filled r.0 r.1) ((0, 0) ∷ (2048, 3072) ∷ (8192, 12288) ∷ [])
    ≡ (9000 ∷ 1024 ∷ 3072 ∷ 8192 ∷ 4096 ∷ 16384 ∷ 4096 ∷ [])
    ∷ (9000 ∷ 1024 ∷ 1024 ∷ 3072 ∷ 1024 ∷ 8192 ∷ 4096 ∷ 16384 ∷ 4096 ∷ [])
    ∷ (9000 ∷ 1024 ∷ 3072 ∷ 16384 ∷ 4096 ∷ [])
    ∷ []
unfolding filled item gaps_from flat_map keep
sweeps = refl
