-- What a reader has left, at the end and behind a record.
use Rattle.std.proofs.Common.{◌≡◌, ◌+◌, ◌*◌, ◌/◌, ◌<◌, ◌≤◌, [], ◌∷◌, length, drop, ap, sym, ◌∙◌}
use Rattle.std.specs.Prelude.{Option, Some, None}
use Rattle.std.specs.Iterator.{YieldsFirstBy}
use mathlib.Core.Path.{ap₂, subst}
use denote.Bor.{now}
use Rattle.std.proofs.lemmas.List.{at_drop_more, at_drop_all}
use native.Mathlib.Omega.{arith}
use Rattle.item.specs.declared.Item.{Item}
use Rattle.item.specs.declared.reader.Reader.{Reader}
use Rattle.item.specs.Items.{fields, item_of, items}
use Rattle.item.specs.Reading.{left}
use Rattle.item.proofs.Laws.{item-decode, items-length, items_at}

pub left_none : (r : Reader) → length r.list.now / 70 ≤ r.number → left r ≡ []
left_none r h = at_drop_all (λ l. l) (items r.list.now) r.number (omega (arith, items-length r.list.now))

pub left_more : (r s : Reader) → r.number < length r.list.now / 70 → (item : Item) → item ≡ item_of (drop (r.number * 70) r.list.now)
    → s.list ≡ r.list → s.number ≡ r.number + 1 → left r ≡ fields item ∷ left s
left_more r s h item e o n =
    at_drop_more (λ l. l) (items r.list.now) r.number (fields item) (omega (arith, items-length r.list.now))
    ∙ ap₂ (λ f l. f ∷ l) (items_at r.list.now r.number (fields item) h ∙ sym (item-decode item _ e)) (ap₂ (λ k b. drop k (items b)) (sym n) (ap now (sym o)))

-- what a loop over a reader has of its next item, and at the end
pub next_left : (r s : Reader) (o : Option Item) (item : Item) → o ≡ Some item → YieldsFirstBy fields left r o s → left r ≡ fields item ∷ left s
next_left r s o item e h = subst (λ (o : Option Item). YieldsFirstBy fields left r o s) e h

pub none_left : (r s : Reader) (o : Option Item) → o ≡ None → YieldsFirstBy fields left r o s → left r ≡ []
none_left r s o e h = (subst (λ (o : Option Item). YieldsFirstBy fields left r o s) e h).0
