-- For the code only: what the structs and functions of this crate say, in the terms of the definitions.
use Rattle.std.specs.Prelude.{List, Option, ◌≡◌, ℕ, ◌+◌, ◌<◌, ◌≤◌, ◌^◌, MatchOption}
use Rattle.std.specs.Option.{ForSome}
use Rattle.item.specs.Items.{Fields, regular_item}
use Rattle.cut_def.specs.Pieces.{Piece}
use Rattle.cut_segment.specs.declared.Segment.{Segment}
use Rattle.cut_segment.specs.declared.Running.{Running}
use Rattle.cut_segment.specs.declared.making.Making.{Making}
use Rattle.cut_segment.specs.declared.remade.Remade.{Remade}
use Rattle.cut_segment.specs.Segments.{Around, pieces}
use Rattle.cut_segment.specs.Making.{Of, PutIn}
use Rattle.cut_joins.specs.Joins.{JoinedAround}
use Rattle.ref_def.specs.Drops.{InLeaf}
use Rattle.request.specs.declared.Volume.{Volume}
use Rattle.request.specs.declared.File.{File}
use Rattle.change_def.specs.declared.Rewrite.{Rewrite}
use Rattle.change_def.specs.declared.RangeChange.{RangeChange}
use Rattle.change_rewrites.specs.declared.in_place.InPlace.{InPlace}
use Rattle.change_rewrites.specs.Raw.{in_place_of, said_in_place}
use Rattle.change_segment.specs.declared.Parts.{Parts}
use Rattle.change_segment.specs.declared.Stamp.{Stamp}

-- the preallocated items that hold a change's sectors
pub record Parting (hs : List InLeaf) (c : RangeChange) (p : Parts) : Type 0 where
  pub front : said_in_place p.front ≡ in_place_of hs c.front
  pub back : said_in_place p.back ≡ in_place_of hs c.back

-- ---- the segment, step by step

-- what was done to one in the making with what there is; if there is nothing, it is as before
abbrev pub When : {A : Type 0} → Option A → (A → Making → Making → Type 0) → Making → Making → Type 0
When {A} o done m m' = MatchOption o ((m'.segment ≡ m.segment) × (m'.buffer.now ≡ m.buffer.now)) (λ (a : A). done a m m')

-- an item put in; the joins around a sector that is written in place
abbrev pub PutIf : {A : Type 0} → Option A → (A → Fields) → Making → Making → Type 0
PutIf {A} o item m m' = When o (λ (a : A). PutIn (item a)) m m'

abbrev pub JoinedIf : Option InPlace → (generation : ℕ) → Making → Making → Type 0
JoinedIf o generation m m' = When o (λ (w : InPlace). JoinedAround generation w.rewrite.sector) m m'

-- a segment that makes these pieces of the list, with at most n items; what is cut is [lo, hi)
pub record Made (ps : List Piece) (lo hi n : ℕ) (list : List ℕ) (s : Segment) (seg : List ℕ) : Type 0 where
  pub same : pieces list s seg ≡ ps
  pub few : s.count ≤ n
  pub around : (k : ℕ) → lo ≤ k → k < hi → Around k list s

-- in the making, of this list and in this room; and to be read
pub record MadeIn (ps : List Piece) (lo hi n : ℕ) (l : Running) (room : ℕ) (m : Making) : Type 0 where
  pub those : Of l room m
  pub made : Made ps lo hi n m.list.records.now m.segment m.buffer.now

pub record MadeOf (ps : List Piece) (lo hi n : ℕ) (l : Running) (m : Remade) : Type 0 where
  pub list : m.list ≡ l
  pub made : Made ps lo hi n l.records.now m.segment m.buffer.now

-- a sector lies in what is cut
pub record Within (sector : ℕ) (c : RangeChange) (r : Rewrite) : Type 0 where
  pub low : c.lo ≤ r.sector
  pub some : 0 < sector
  pub high : r.sector + sector ≤ c.hi
  pub limit : c.hi ≤ 2 ^ 63

-- those that are written in place, and those that are rewritten
pub record Inside (sector : ℕ) (c : RangeChange) (p : Parts) : Type 0 where
  pub front : ForSome p.front (λ (w : InPlace). Within sector c w.rewrite)
  pub back : ForSome p.back (λ (w : InPlace). Within sector c w.rewrite)
  pub «new-front» : ForSome c.front (Within sector c)
  pub «new-back» : ForSome c.back (Within sector c)

pub record Ready (v : Volume) (c : RangeChange) (p : Parts) : Type 0 where
  pub generation : v.generation + 1 < 2 ^ 64
  pub inside : Inside v.sector c p

-- the item over a sector that takes a new extent
abbrev pub new_of : Stamp → Rewrite → ℕ → Fields
new_of t r place = regular_item t.file r.sector t.generation place t.sector

abbrev pub new_item : Volume → File → Rewrite → ℕ → Fields
new_item v f r place = regular_item f.number r.sector (v.generation + 1) place v.sector
