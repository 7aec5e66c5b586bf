-- What is read of all lines, one after the other.
use Rattle.std.specs.Prelude.{List, [], ◌∷◌, ◌++◌, ℕ, take, drop}
use Rattle.item.specs.Items.{Fields}
use Rattle.table.specs.declared.Row.{Row}
use Rattle.read_order.specs.Taking.{Numbers, begin, taken, items_in, shared_in, rows_in, places_in}

-- What an input says: the numbers of its lines, the items of the file and of the clone's source, the shared numbers of
-- both, the rows and the places. Where a line is at fault it is what was read before that line.
pub record Reading : Type 0 where
  pub numbers : Numbers
  pub items : List Fields
  pub source : List Fields
  pub shared : List ℕ
  pub rows : List Row
  pub places : List ℕ

-- a line's kind, 0 if it is unreadable, and its numbers
module _ {L : Type 0} (kind : L → ℕ) (values : L → List ℕ) where
  -- what was read after some lines
  unfoldable pub after : Numbers → List L → Numbers
  after r [] = r
  after r (l ∷ ls) = after (taken r (kind l) (values l)) ls

  -- what these lines add, f giving what one line adds
  unfoldable pub along : {A : Type 0} → (Numbers → ℕ → List ℕ → List A) → Numbers → List L → List A
  along f r [] = []
  along f r (l ∷ ls) = f r (kind l) (values l) ++ along f (taken r (kind l) (values l)) ls

  -- the file's items stand before the source's: "volume, file, items, a clone's second file and items"
  unfoldable pub reading_of : List L → Reading
  reading_of ls =
      record {
        numbers = after begin ls;
        items = take (after begin ls).items (along items_in begin ls);
        source = drop (after begin ls).items (along items_in begin ls);
        shared = along shared_in begin ls;
        rows = along rows_in begin ls;
        places = along places_in begin ls;
      }
