use Rattle.std.proofs.Common.{◌≡◌, ◌<◌, ◌/◌, true, Some, length, ◌∙◌, sym}
use Rattle.edit_merge.specs.declared.Next.{Next}
use Rattle.edit_merge.specs.Merge.{gone, from}
use native.Mathlib.Omega.{arith}
use Rattle.item.proofs.Laws.{item-decode}
use Rattle.item.specs.Items.{fields}
use Rattle.edit_merge.proofs.Steps.{gone-some, next_gone, merging_gone, merging-put}
use Rattle.edit_merge.proofs.put_next.Goals.{in_default-via-in-Some+else-not-is_gone, in_default-via-in_default}
use Rattle.edit_merge.proofs.put_next.Goals as goal

pub returns-in-Some : goal.returns-in-Some
returns-in-Some c = let a = c.args in
    merging-put a.file a.was.now a.at a.next a.out.now _ _ c.in-Some.new _ c.in-Some.is (sym c.is_gone.ensures ∙ c.if-not-is_gone.true) c.requires.0 c.passed.ensures c.put_edit.ensures

pub item_at-old-requires : goal.item_at-old-requires
item_at-old-requires c = let a = c.args in
    let l : a.at.i < length a.was.now / 70 =
    elim c.in_default.branch [
      | in_default-via-in-Some+else-not-is_gone w ↦ gone-some a.was.now a.at.i (Some w.in-Some.new.item.key) (sym w.if-not-is_gone.false ∙ w.is_gone.ensures)
      | in_default-via-in_default w ↦ c.requires.2 w.in_default.is
    ] in
    omega arith

pub returns-in_default : goal.returns-in_default
returns-in_default c = let a = c.args in
    let l : (a.at.i < length a.was.now / 70) × ((x : Next) → a.next ≡ Some x → gone (Some x.item.key) (from a.was.now a.at.i) ≡ true) =
    elim c.in_default.branch [
      | in_default-via-in-Some+else-not-is_gone w ↦ (gone-some a.was.now a.at.i (Some w.in-Some.new.item.key) (sym w.if-not-is_gone.false ∙ w.is_gone.ensures), λ x e. next_gone a.was.now a.at.i _ _ x w.in-Some.is e (sym w.is_gone.ensures ∙ w.if-not-is_gone.false))
      | in_default-via-in_default w ↦ (c.requires.2 w.in_default.is, λ x e. absurd (w.in_default.not-Some x e))
    ] in
    merging_gone a.file a.was.now a.at a.next a.out.now _ _ (fields c.item_at-old.result) l.0 (item-decode _ _ c.item_at-old.ensures) l.1 c.put_edit-in_default.ensures
