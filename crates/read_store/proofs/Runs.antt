-- Lines that are taken one after the other: what is left of them, taken from here, is the whole. Assumes nothing.
use mathlib.Core.Path.{◌≡◌, refl, ap, ◌∙◌, sym}
use mathlib.Core.Bool.{Bool, true, false, cond, ◌&&◌, not, and-false, and-true}
use mathlib.Core.List.{List, [], ◌∷◌}
use Prim.Native.Nat.{ℕ, ◌+◌, ◌≤◌, ◌<◌}
use native.Mathlib.Nat.{add-zero}
use native.Mathlib.Omega.{arith}
use lib.Dec.{eqb}
use lib.ListN.{length, take-append-drop}
use Rattle.table.specs.Rows.{row_numbers}
use Rattle.endian.proofs.Numbers.{length-enc}
use Rattle.records.specs.Select.{only}
use Rattle.item.specs.Items.{Fields, encode}
use Rattle.item.proofs.Widths.{length-encode}
use Rattle.plan_lines.specs.Lines.{lay}
use Rattle.plan_lines.proofs.Laws.{lay_nil, lay_append, length-lay}
use Rattle.read_item.specs.Raw.{byte}
use Rattle.read_order.specs.Order.{next}
use Rattle.read_order.specs.Taking.{Numbers, comes, begin, taken_to, taken, items_in, shared_in, rows_in, places_in}
use Rattle.read_order.specs.Run.{after, along, reading_of}
use Rattle.read_order.specs.Few.{Few}
use Rattle.read_order.proofs.Faults.{next-none}
use Rattle.read_store.specs.Buffers.{Buffers}
use Rattle.read_store.specs.Storing.{alone, Took, Filled, Stored}

-- ---- counts

only-length : {A : Type 0} (b : Bool) (a : A) → length (only b a) ≡ cond b 1 0
only-length true a = refl
only-length false a = refl

one_more : (m n : ℕ) (b : Bool) → m ≤ n → m + cond b 1 0 ≤ n + 1
one_more m n true h = omega arith
one_more m n false h = omega arith

pub stored_more : (r : Numbers) (k : ℕ) (v : List ℕ) → (taken r k v).stored ≡ r.stored + length (items_in r k v)
unfolding taken taken_to items_in
stored_more r k v = ap (λ (n : ℕ). r.stored + n) (sym (only-length (comes 3 (next r.phase k) k) _))

pub shared-more : (r : Numbers) (k : ℕ) (v : List ℕ) → (taken r k v).stored ≡ r.stored + length (shared_in r k v)
unfolding taken taken_to shared_in
shared-more r k v = ap (λ (n : ℕ). r.stored + n) (sym (only-length (comes 3 (next r.phase k) k) _))

pub rows_more : (r : Numbers) (k : ℕ) (v : List ℕ) → (taken r k v).rows ≡ r.rows + length (rows_in r k v)
unfolding taken taken_to rows_in
rows_more r k v = ap (λ (n : ℕ). r.rows + n) (sym (only-length (comes 4 (next r.phase k) k) _))

pub places-more : (r : Numbers) (k : ℕ) (v : List ℕ) → (taken r k v).places ≡ r.places + length (places_in r k v)
unfolding taken taken_to places_in
places-more r k v = ap (λ (n : ℕ). r.places + n) (sym (only-length (comes 5 (next r.phase k) k) _))

-- ---- no more was read than there are lines

pub few-first : Few begin 1
unfolding begin
few-first = record { line = omega arith; items = omega arith; stored = omega arith; rows = omega arith; places = omega arith }

pub few-less : (r : Numbers) (n m : ℕ) → n ≤ m → Few r n → Few r m
few-less r n m h f = record { line = omega (arith, f.line); items = omega (arith, f.items); stored = omega (arith, f.stored); rows = omega (arith, f.rows); places = omega (arith, f.places) }

few-taken : (r : Numbers) (k : ℕ) (v : List ℕ) (n : ℕ) → Few r n → Few (taken r k v) (n + 1)
unfolding taken taken_to
few-taken r k v n f =
    let p : ℕ = next r.phase k in
    record {
      line = one_more _ _ (not (eqb p 0)) f.line;
      items = one_more _ _ (eqb k 3 && eqb p 3) f.items;
      stored = one_more _ _ (comes 3 p k) f.stored;
      rows = one_more _ _ (comes 4 p k) f.rows;
      places = one_more _ _ (comes 5 p k) f.places;
    }

-- ---- a line at fault

no_items : (r : Numbers) (k : ℕ) (v : List ℕ) → next r.phase k ≡ 0 → items_in r k v ≡ []
unfolding items_in
no_items r k v e = rw (e, and-false) refl

no_shared : (r : Numbers) (k : ℕ) (v : List ℕ) → next r.phase k ≡ 0 → shared_in r k v ≡ []
unfolding shared_in
no_shared r k v e = rw (e, and-false) refl

no_rows : (r : Numbers) (k : ℕ) (v : List ℕ) → next r.phase k ≡ 0 → rows_in r k v ≡ []
unfolding rows_in
no_rows r k v e = rw (e, and-false) refl

no_places : (r : Numbers) (k : ℕ) (v : List ℕ) → next r.phase k ≡ 0 → places_in r k v ≡ []
unfolding places_in
no_places r k v e = rw (e, and-false) refl

-- it adds nothing and is not counted
pub fault_took : (r : Numbers) (k : ℕ) (v : List ℕ) (b : Buffers) → next r.phase k ≡ 0 → Took r k v b (taken r k v) b
fault_took r k v b e =
    record {
      numbers = refl;
      kept =
          record {
            items = rw (no_items r k v e) (sym (lay_nil encode 70 r.stored b.items));
            shared = rw (no_shared r k v e) (sym (lay_nil byte 1 r.stored b.shared));
            table = rw (no_rows r k v e) (sym (lay_nil row_numbers 5 r.rows b.table));
            places = rw (no_places r k v e) (sym (lay_nil alone 1 r.places b.places));
          };
    }

pub fault-phase : (r : Numbers) (k : ℕ) (v : List ℕ) → next r.phase k ≡ 0 → ((taken r k v).phase ≡ 0) × ((taken r k v).line ≡ r.line)
unfolding taken taken_to
fault-phase r k v e = (e, rw e (add-zero r.line))

-- nor does it change anything else
pub fault_taken : (r : Numbers) (k : ℕ) (v : List ℕ) → next r.phase k ≡ 0 → taken r k v ≡ record r { phase = 0 }
unfolding taken taken_to
fault_taken r k v e = rw e (simp (and-false, and-true, add-zero) refl)

-- ---- a loop over lines

module _ {L : Type 0} (kind : L → ℕ) (values : L → List ℕ) where
  after_cons : (r : Numbers) (l : L) (ls : List L) → after kind values r (l ∷ ls) ≡ after kind values (taken r (kind l) (values l)) ls
  unfolding after
  after_cons r l ls = refl

  -- g says what a line adds to an output, f gives its numbers, w of them; `count` is how many there are
  module _ {A : Type 0} (g : Numbers → ℕ → List ℕ → List A) (f : A → List ℕ) (w : ℕ) (count : Numbers → ℕ) (more : (r : Numbers) (k : ℕ) (v : List ℕ) → count (taken r k v) ≡ count r + length (g r k v)) where
    along-turn :
        (r r' : Numbers) (l : L) (ls : List L) (out out' : List ℕ)
        → r' ≡ taken r (kind l) (values l)
        → out' ≡ lay f w (count r) (g r (kind l) (values l)) out
        → lay f w (count r') (along kind values g r' ls) out' ≡ lay f w (count r) (along kind values g r (l ∷ ls)) out
    unfolding along
    along-turn r r' l ls out out' e p =
        rw (e, p, more r (kind l) (values l))
        (sym (lay_append f w (count r) (g r (kind l) (values l)) (along kind values g (taken r (kind l) (values l)) ls) out))

  -- lines ls are left of all lines ls₀, and b is what was made of b₀
  pub record Going (ls₀ : List L) (b₀ : Buffers) (r : Numbers) (ls : List L) (b : Buffers) : Type 0 where
    pub numbers : after kind values r ls ≡ after kind values begin ls₀
    pub items : lay encode 70 r.stored (along kind values items_in r ls) b.items ≡ lay encode 70 0 (along kind values items_in begin ls₀) b₀.items
    pub shared : lay byte 1 r.stored (along kind values shared_in r ls) b.shared ≡ lay byte 1 0 (along kind values shared_in begin ls₀) b₀.shared
    pub table : lay row_numbers 5 r.rows (along kind values rows_in r ls) b.table ≡ lay row_numbers 5 0 (along kind values rows_in begin ls₀) b₀.table
    pub places : lay alone 1 r.places (along kind values places_in r ls) b.places ≡ lay alone 1 0 (along kind values places_in begin ls₀) b₀.places

  pub going_first : (ls : List L) (b : Buffers) (r : Numbers) → r ≡ begin → Going ls b r ls b
  unfolding begin
  going_first ls b r e = rw e (record { numbers = refl; items = refl; shared = refl; table = refl; places = refl })

  pub going-turn :
      (ls₀ : List L) (b₀ : Buffers) (r : Numbers) (l : L) (ls : List L) (b : Buffers) (r' : Numbers) (b' : Buffers)
      → Going ls₀ b₀ r (l ∷ ls) b
      → Took r (kind l) (values l) b r' b'
      → Going ls₀ b₀ r' ls b'
  going-turn ls₀ b₀ r l ls b r' b' g t =
      record {
        numbers = rw t.numbers (sym (after_cons r l ls)) ∙ g.numbers;
        items = along-turn items_in encode 70 (λ (x : Numbers). x.stored) stored_more r r' l ls b.items b'.items t.numbers t.kept.items ∙ g.items;
        shared = along-turn shared_in byte 1 (λ (x : Numbers). x.stored) shared-more r r' l ls b.shared b'.shared t.numbers t.kept.shared ∙ g.shared;
        table = along-turn rows_in row_numbers 5 (λ (x : Numbers). x.rows) rows_more r r' l ls b.table b'.table t.numbers t.kept.table ∙ g.table;
        places = along-turn places_in alone 1 (λ (x : Numbers). x.places) places-more r r' l ls b.places b'.places t.numbers t.kept.places ∙ g.places;
      }

  filled_all :
      (ls₀ : List L) (b₀ : Buffers) (r : Numbers) (ls : List L) (b : Buffers)
      → Going ls₀ b₀ r ls b
      → along kind values items_in r ls ≡ []
      → along kind values shared_in r ls ≡ []
      → along kind values rows_in r ls ≡ []
      → along kind values places_in r ls ≡ []
      → Filled (reading_of kind values ls₀) b₀ b
  unfolding reading_of
  filled_all ls₀ b₀ r ls b g i s t p =
      record {
        items = sym (rw i (lay_nil encode 70 r.stored b.items)) ∙ g.items ∙ ap (λ (l : List Fields). lay encode 70 0 l b₀.items) (sym (take-append-drop (after kind values begin ls₀).items _));
        shared = sym (rw s (lay_nil byte 1 r.stored b.shared)) ∙ g.shared;
        table = sym (rw t (lay_nil row_numbers 5 r.rows b.table)) ∙ g.table;
        places = sym (rw p (lay_nil alone 1 r.places b.places)) ∙ g.places;
      }

  pub going_done : (ls₀ : List L) (b₀ : Buffers) (r : Numbers) (b : Buffers) → Going ls₀ b₀ r [] b → Stored (reading_of kind values ls₀) b₀ r b
  unfolding reading_of after along
  going_done ls₀ b₀ r b g = record { numbers = g.numbers; filled = filled_all ls₀ b₀ r [] b g refl refl refl refl }

  -- behind a line at fault no line is counted or stored
  at_fault : (r : Numbers) (ls : List L) → r.phase ≡ 0 → after kind values r ls ≡ r
  unfolding after
  at_fault r [] p = refl
  at_fault r (l ∷ ls) p =
      let q : next r.phase (kind l) ≡ 0 = rw p (next-none (kind l)) in
      let e : taken r (kind l) (values l) ≡ r = fault_taken r (kind l) (values l) q ∙ ap (λ (n : ℕ). record r { phase = n }) (sym p) in
      ap (λ (x : Numbers). after kind values x ls) e ∙ at_fault r ls p

  nothing-more : {A : Type 0} (g : Numbers → ℕ → List ℕ → List A) → ((r : Numbers) (k : ℕ) (v : List ℕ) → next r.phase k ≡ 0 → g r k v ≡ []) → (r : Numbers) (ls : List L) → r.phase ≡ 0 → along kind values g r ls ≡ []
  unfolding along taken taken_to
  nothing-more g h r [] p = refl
  nothing-more g h r (l ∷ ls) p =
      let q : next r.phase (kind l) ≡ 0 = rw p (next-none (kind l)) in
      rw (h r (kind l) (values l) q) (nothing-more g h (taken r (kind l) (values l)) ls q)

  -- so the rest of the lines changes nothing
  pub going_fault :
      (ls₀ : List L) (b₀ : Buffers) (r : Numbers) (ls : List L) (b : Buffers)
      → Going ls₀ b₀ r ls b
      → r.phase ≡ 0
      → Stored (reading_of kind values ls₀) b₀ r b
  unfolding reading_of
  going_fault ls₀ b₀ r ls b g p =
      record {
        numbers = sym (at_fault r ls p) ∙ g.numbers;
        filled = filled_all ls₀ b₀ r ls b g (nothing-more items_in no_items r ls p) (nothing-more shared_in no_shared r ls p) (nothing-more rows_in no_rows r ls p) (nothing-more places_in no_places r ls p);
      }

  pub few-turn : (r : Numbers) (l : L) (b : Buffers) (r' : Numbers) (b' : Buffers) (n m : ℕ) → Few r n → n < m → Took r (kind l) (values l) b r' b' → Few r' m
  few-turn r l b r' b' n m f h t = rw t.numbers (few-less (taken r (kind l) (values l)) (n + 1) m (omega arith) (few-taken r (kind l) (values l) n f))

  -- the buffers keep their lengths
  module _ (ls₀ : List L) (b₀ : Buffers) (r : Numbers) (ls : List L) (b : Buffers) (g : Going ls₀ b₀ r ls b) where
    pub items-length : length b.items ≡ length b₀.items
    items-length = sym (length-lay encode 70 (omega arith) length-encode _ _ _) ∙ ap length g.items ∙ length-lay encode 70 (omega arith) length-encode _ _ _

    pub shared-length : length b.shared ≡ length b₀.shared
    shared-length = sym (length-lay byte 1 (omega arith) (length-enc 1) _ _ _) ∙ ap length g.shared ∙ length-lay byte 1 (omega arith) (length-enc 1) _ _ _

    pub table-length : length b.table ≡ length b₀.table
    table-length = sym (length-lay row_numbers 5 (omega arith) (λ x. refl) _ _ _) ∙ ap length g.table ∙ length-lay row_numbers 5 (omega arith) (λ x. refl) _ _ _

    pub places-length : length b.places ≡ length b₀.places
    places-length = sym (length-lay alone 1 (omega arith) (λ x. refl) _ _ _) ∙ ap length g.places ∙ length-lay alone 1 (omega arith) (λ x. refl) _ _ _
