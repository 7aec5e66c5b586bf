-- For the code only: what the structs of this crate say, in the terms of the definitions.
use Rattle.std.specs.Prelude.{List, Option, Some, None, ℕ, ◌+◌, ◌<◌, ◌^◌}
use Rattle.std.specs.Option.{ForSome}
use Rattle.std.proofs.Math.Option as maybe
use Rattle.std.proofs.Math.Option.{none, some}
use Rattle.item.specs.Items.{Fields, fields, written_in_place}
use Rattle.ref_def.specs.Drops.{InLeaf}
use Rattle.plan_def.specs.Plans.{Write}
use Rattle.change_def.specs.declared.Rewrite.{Rewrite}
use Rattle.change_def.specs.Rewrites.{when_held, preallocated_in, position_of, write_in_place}
use Rattle.change_rewrites.specs.declared.Holder.{Holder}
use Rattle.change_rewrites.specs.declared.in_place.InPlace.{InPlace}

-- an item with its shared byte
abbrev pub holder_leaf : Holder → InLeaf
holder_leaf h = record { item = fields h.item; shared = h.shared }

-- the item that holds an offset, or none
abbrev pub holder_in : Option Holder → maybe.Option InLeaf
holder_in None = none
holder_in (Some h) = some (holder_leaf h)

-- a rewrite with the preallocated item that holds its sector: of the definitions, and of the code
abbrev pub in_place_of : List InLeaf → Option Rewrite → maybe.Option (Rewrite × InLeaf)
in_place_of hs None = none
in_place_of hs (Some r) = when_held (preallocated_in hs r) none (λ (h : InLeaf). some (r, h))

abbrev pub said_in_place : Option InPlace → maybe.Option (Rewrite × InLeaf)
said_in_place None = none
said_in_place (Some w) = some (w.rewrite, holder_leaf w.holder)

-- ---- a sector that is written in place

-- the volume's byte that it goes to
abbrev pub byte_of : InPlace → ℕ
byte_of w = (fields w.holder.item).extent_start + position_of w.rewrite (holder_leaf w.holder)

-- one that 64 bits can say
abbrev pub Writable : Option InPlace → Type 0
Writable o = ForSome o (λ (w : InPlace). byte_of w < 2 ^ 64)

-- its extent, 0 if there is none; the item over it; its write
abbrev pub extent_of : Option InPlace → ℕ
extent_of None = 0
extent_of (Some w) = (fields w.holder.item).extent_start

abbrev pub item_of : (generation sector : ℕ) → InPlace → Fields
item_of generation sector w = written_in_place (fields w.holder.item) w.rewrite.sector generation (position_of w.rewrite (holder_leaf w.holder)) sector

abbrev pub write_of : InPlace → Write
write_of w = write_in_place w.rewrite (holder_leaf w.holder)
