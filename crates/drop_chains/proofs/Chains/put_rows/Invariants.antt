use lib.ListN.{length}
use Prim.Native.Nat.{ℕ, ◌-◌, ◌/◌}
use mathlib.Core.Bool.{Bool}
use mathlib.Core.List.{List, flat_map}
use Rattle.records.proofs.Loops.{rest}
use Rattle.item.specs.Items.{Fields}
use Rattle.table.specs.Rows.{row_of, rows}
use Rattle.cut_def.specs.Refs.{Ref}
use Rattle.ref_def.specs.Drops.{InLeaf}
use Rattle.ref_def.specs.Lent.{leaves_of}
use Rattle.plan_def.specs.Outputs.{ref_numbers}
use Rattle.plan_lines.proofs.Laws.{Going}
use Rattle.drop_chains.specs.Chains.{unref_lines, release_lines}
use Rattle.drop_chains.specs.Links.{links, Chained}
use Rattle.drop_chains.proofs.Links.{row_chain}
use Rattle.drop_chains.proofs.Chains.put_rows.Given as goal

-- what is left of the lines of one kind: those of the rows from k on
abbrev pub Left : (ℕ → List InLeaf → List Ref) → (Fields → Bool) → List InLeaf → (table : List ℕ) → (n₀ : ℕ) → (out₀ : List ℕ) → (n k : ℕ) → (out : List ℕ) → Type 0
Left kind p ds table n₀ out₀ n k out = Going ref_numbers 2 n₀ (flat_map (row_chain kind p ds) (rows table)) out₀ n (flat_map (row_chain kind p ds) (rest row_of 5 table (length table / 5) k)) out

abbrev pub invariant-loop-k : goal.invariant-loop-k
invariant-loop-k l = (p : Fields → Bool) → Chained p (rows l.table) (leaves_of l.leaves) 0 (links l.self)
    → Left unref_lines p (leaves_of l.leaves) l.table l.initial.counts.unrefs l.initial.unrefs l.counts.unrefs l.k l.unrefs
    × Left release_lines p (leaves_of l.leaves) l.table l.initial.counts.releases l.initial.releases l.counts.releases l.k l.releases

abbrev pub decreases-loop-k : goal.decreases-loop-k
decreases-loop-k l = l.k-end - l.k
