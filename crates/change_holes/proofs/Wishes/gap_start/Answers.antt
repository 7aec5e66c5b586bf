use mathlib.Core.Path.{◌∙◌, ap}
use Prim.Native.Nat.{ℕ, ◌+◌, max}
use native.Mathlib.Omega.{arith}
use Rattle.item.specs.Items.{fields}
use Rattle.change_holes.proofs.Gaps.{record_end, starts_first, starts-behind}
use Rattle.change_holes.proofs.Wishes.gap_start.Goals as goal

pub returns-then-n-eq0 : goal.returns-then-n-eq0
returns-then-n-eq0 c = starts_first _ _ _ c.if-n-eq0.true

pub overflow_add-item : goal.overflow_add-item
overflow_add-item c = omega (arith, record_end c.args.self.list.now _ _ (omega arith) c.record_at-item.ensures c.args.self.ends, c.length.ensures)

pub returns : goal.returns
returns c = c.max.ensures ∙ ap (λ (l : ℕ). max c.args.self.extents.from ((fields c.record_at-item.result).key + l)) c.length.ensures ∙ starts-behind c.args.self.list.now _ _ (omega arith) c.record_at-item.ensures _ _ (omega arith)
