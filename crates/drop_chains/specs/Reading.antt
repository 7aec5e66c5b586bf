-- For the code only: what a chain has left to walk.
use Rattle.std.specs.Prelude.{List, ℕ}
use Rattle.item.specs.declared.Item.{Item}
use Rattle.item.specs.Items.{fields}
use Rattle.ref_def.specs.Drops.{InLeaf}
use Rattle.ref_def.specs.Lent.{leaves_of}
use Rattle.drop_chains.specs.declared.chain.Chain.{Chain}
use Rattle.drop_chains.specs.declared.ending.EndingChain.{EndingChain}
use Rattle.drop_chains.specs.Chains.{along}

-- an item with its byte, as a chain gives them
abbrev pub leaf : Item × ℕ → InLeaf
leaf p = record { item = fields p.0; shared = p.1 }

abbrev pub left : Chain → List InLeaf
left c = along c.nexts.now 0 c.number (leaves_of c.leaves)

abbrev pub left_ending : EndingChain → List InLeaf
left_ending c = along c.nexts.now 0 c.number (leaves_of c.leaves)
