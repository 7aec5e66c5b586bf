-- What a chain has left, at its end and at a drop. Assumes nothing.
use mathlib.Core.Path.{◌≡◌, refl, ap, ◌∙◌, sym}
use mathlib.Core.List.{List, [], ◌∷◌}
use Prim.Native.Nat.{ℕ, zero, suc, ◌+◌, ◌-◌, ◌*◌, ◌<◌, ◌≤◌}
use native.Mathlib.Omega.{arith}
use lib.ListN.{length, get_or, drop}
use Rattle.item.specs.declared.Item.{Item}
use Rattle.item.specs.Items.{Fields, fields, item_of, items, decode}
use Rattle.item.proofs.Laws.{item-decode, items-length, items_at}
use Rattle.ref_def.specs.Drops.{InLeaf, in_leaves}
use Rattle.ref_def.specs.Lent.{leaves_of}
use Rattle.ref_def.specs.declared.Leaves.{Leaves}
use Rattle.ref_def.proofs.Drops.{leaves-length}
use Rattle.drop_chains.specs.declared.chain.Chain.{Chain}
use Rattle.drop_chains.specs.declared.ending.EndingChain.{EndingChain}
use Rattle.drop_chains.specs.Chains.{along, number_behind, From}
use Rattle.drop_chains.specs.Reading.{leaf, left, left_ending}
use Rattle.drop_chains.proofs.Walks.{along_nil, along_at, along_few, behind_ends, behind_on}

-- how many items there are
pub leaves_many : (l : Leaves) → length (leaves_of l) ≡ length l.shared.now
leaves_many l = leaves-length (items l.list.now) l.shared.now l.one_each ∙ sym l.one_each

-- the item at index i, with its byte
leaves_at : (fs : List Fields) (bs : List ℕ) (i : ℕ) (e : InLeaf) → length bs ≡ length fs → i < length fs → get_or (in_leaves fs bs) i e ≡ record { item = get_or fs i e.item; shared = get_or bs i 0 }
unfolding in_leaves
leaves_at [] bs i e l h = absurd (omega arith)
leaves_at (f ∷ fs) [] i e l h = absurd (omega arith)
leaves_at (f ∷ fs) (b ∷ bs) zero e l h = refl
leaves_at (f ∷ fs) (b ∷ bs) (suc i) e l h = leaves_at fs bs i e (omega arith) (omega arith)

pub leaves_here : (l : Leaves) (i : ℕ) (e : InLeaf) (item : Item) → i < length l.shared.now → item ≡ item_of (drop (i * 70) l.list.now)
    → get_or (leaves_of l) i e ≡ record { item = fields item; shared = get_or l.shared.now i 0 }
leaves_here l i e item h q =
    leaves_at (items l.list.now) l.shared.now i e l.one_each (omega (arith, l.one_each))
    ∙ ap (λ (x : Fields). record { item = x; shared = get_or l.shared.now i 0 }) (items_at l.list.now i e.item (omega (arith, l.one_each, items-length l.list.now)) ∙ sym (item-decode item _ q))

-- what stands for an item past the end
abbrev no_leaf : InLeaf
no_leaf = record { item = decode []; shared = 0 }

pub ending_few : (c : EndingChain) → length (left_ending c) ≤ length c.leaves.shared.now
ending_few c = omega (arith, along_few c.nexts.now (leaves_of c.leaves) 0 c.number, leaves_many c.leaves)

pub ending_none : (c : EndingChain) → c.number ≡ 0 → left_ending c ≡ []
ending_none c e = rw e (along_nil c.nexts.now (leaves_of c.leaves) 0)

module _ (c : EndingChain) (n : c.number ≡ 0 → ⊥) where
  pub ending_in : c.number - 1 < length c.leaves.shared.now
  ending_in = omega (arith, (c.inside n).1)

  here : c.number ≡ c.number - 1 + 1
  here = omega arith

  -- the number that stands at its first item
  goes_on : From (c.number - 1 + 1) (length (leaves_of c.leaves)) (get_or c.nexts.now (c.number - 1) 0) × (number_behind c.nexts.now 0 (get_or c.nexts.now (c.number - 1) 0) (leaves_of c.leaves) ≡ 0)
  goes_on =
      behind_on c.nexts.now (leaves_of c.leaves) (c.number - 1) no_leaf (omega (arith, ending_in, leaves_many c.leaves))
      (ap (λ (h : ℕ). number_behind c.nexts.now 0 h (leaves_of c.leaves)) (sym here) ∙ c.ended)

  pub inside_on : From 0 (length c.leaves.shared.now) (get_or c.nexts.now (c.number - 1) 0)
  inside_on z = let y = goes_on.0 z in (omega (arith, y.0), omega (arith, y.1, leaves_many c.leaves))

  pub ended_on : number_behind c.nexts.now 0 (get_or c.nexts.now (c.number - 1) 0) (leaves_of c.leaves) ≡ 0
  ended_on = goes_on.1

  pub ending_more : (item : Item) → item ≡ item_of (drop ((c.number - 1) * 70) c.leaves.list.now)
      → left_ending c ≡ leaf (item, get_or c.leaves.shared.now (c.number - 1) 0) ∷ along c.nexts.now 0 (get_or c.nexts.now (c.number - 1) 0) (leaves_of c.leaves)
  ending_more item e =
      ap (λ (h : ℕ). along c.nexts.now 0 h (leaves_of c.leaves)) here
      ∙ along_at c.nexts.now (leaves_of c.leaves) (length (leaves_of c.leaves)) (c.number - 1) no_leaf (omega (arith, ending_in, leaves_many c.leaves)) goes_on.0
      ∙ ap (λ (d : InLeaf). d ∷ along c.nexts.now 0 (get_or c.nexts.now (c.number - 1) 0) (leaves_of c.leaves)) (leaves_here c.leaves (c.number - 1) no_leaf item ending_in e)

-- ---- a chain whose numbers all lead onward

-- it ends
abbrev pub ending : Chain → EndingChain
ending c =
    record {
      leaves = c.leaves;
      nexts = c.nexts;
      number = c.number;
      room = c.room;
      inside = c.inside;
      ended = behind_ends c.nexts.now (length c.leaves.shared.now) c.onward (leaves_of c.leaves) 0 c.number (omega (arith, leaves_many c.leaves)) c.inside;
    }

pub left_few : (c : Chain) → length (left c) ≤ length c.leaves.shared.now
left_few c = ending_few (ending c)

pub left_none : (c : Chain) → c.number ≡ 0 → left c ≡ []
left_none c e = ending_none (ending c) e

module _ (c : Chain) (n : c.number ≡ 0 → ⊥) where
  pub number_in : c.number - 1 < length c.leaves.shared.now
  number_in = ending_in (ending c) n

  pub left_more : (item : Item) → item ≡ item_of (drop ((c.number - 1) * 70) c.leaves.list.now)
      → left c ≡ leaf (item, get_or c.leaves.shared.now (c.number - 1) 0) ∷ along c.nexts.now 0 (get_or c.nexts.now (c.number - 1) 0) (leaves_of c.leaves)
  left_more item e = ending_more (ending c) n item e
