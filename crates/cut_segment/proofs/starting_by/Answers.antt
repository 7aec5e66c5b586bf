use Rattle.std.proofs.Common.{rules, ◌≡◌, ℕ, true, false, sym}
use Rattle.std.proofs.lemmas.Iterator.{first_from_Range}
use lib.Dec.{ltb}
use borrow.Author.Tests.{ltb-true, ltb-false, le-leb, lt-leb}
use Rattle.item.specs.declared.Item.{Item}
use Rattle.item.specs.Items.{Fields, fields, items}
use Rattle.cut_segment.specs.Segments.{item_at, starts_by}
use Rattle.cut_segment.proofs.Cutting.{leading-found}
use Rattle.cut_segment.proofs.starting_by.Goals as goal

key-past : (f : Fields) (r : Item) (k : ℕ) → fields r ≡ f → true ≡ ltb k r.key → starts_by k f ≡ false
key-past f r k e h = rw (← e) (lt-leb r.key k (ltb-true k r.key (sym h)))

key_by : (f : Fields) (r : Item) (k : ℕ) → fields r ≡ f → false ≡ ltb k r.key → starts_by k f ≡ true
key_by f r k e h = rw (← e) (le-leb r.key k (ltb-false k r.key (sym h)))

pub returns : goal.returns
returns c = let a = c.args in
    leading-found (starts_by a.key) (items a.list.now) a.start a.n _ _ c.requires
    (first_from_Range _ _ _ _ (λ i. starts_by a.key (item_at a.list.now i) ≡ false) (λ i. starts_by a.key (item_at a.list.now i) ≡ true) c.find.ensures.ran (λ x q k. search (rules, key-past)) (λ x q k. search (rules, key_by)))
    c.unwrap_or.ensures
