-- For the code only: what the buffers of an input hold.
use Rattle.std.specs.Prelude.{◌≡◌}
use Rattle.read_store.specs.declared.Store.{Store}
use Rattle.read_store.specs.Buffers.{Buffers, buffers}

abbrev pub buffers_in : Store → Buffers
buffers_in s = buffers s.items.now s.shared.now s.table.now s.places.now

-- a call writes to what it was lent: the buffers are the same slices after it
pub record Same (before after : Store) : Type 0 where
  pub items : after.items.ghost_name ≡ before.items.ghost_name
  pub shared : after.shared.ghost_name ≡ before.shared.ghost_name
  pub table : after.table.ghost_name ≡ before.table.ghost_name
  pub places : after.places.ghost_name ≡ before.places.ghost_name
