-- Drops chained by row: an item put before its chain, and what the chains of all rows say. Assumes nothing.
use mathlib.Core.Path.{◌≡◌, refl, ap, ap₂, ◌∙◌, sym}
use mathlib.Core.Bool.{Bool, true, false, cond, and-false}
use mathlib.Core.List.{List, [], ◌∷◌, ◌++◌, map, flat_map}
use Prim.Native.Nat.{ℕ, zero, suc, ◌+◌, ◌*◌, ◌/◌, ◌<◌, ◌≤◌}
use native.Mathlib.Omega.{arith}
use native.Mathlib.Numerals.{add-one}
use native.Mathlib.Decide.{ℕ_discrete, dec_lt}
use lib.Dec.{eqb}
use lib.ListN.{length, get_or, drop, set, length-set, drop_of_length-le, replicate, length-replicate, get_or-replicate}
use lib.Seq.{drop-cons, get_or-set_same, get_or-set_other}
use borrow.Author.Tests.{eq-eqb, ne_eqb}
use Rattle.std.specs.Prelude.{Some, None}
use Rattle.records.specs.Select.{keep}
use Rattle.records.proofs.Loops.{rest, rest_cons, rest_nil}
use Rattle.records.proofs.Picks.{keep-keep}
use Rattle.item.specs.declared.Item.{Item}
use Rattle.item.specs.Items.{Fields, fields, item_of}
use Rattle.item.proofs.Laws.{items-length}
use Rattle.table.specs.declared.Row.{Row}
use Rattle.table.specs.declared.Table.{Table}
use Rattle.table.specs.Rows.{row_of, rows, table_kept, Found, find}
use Rattle.table.proofs.Laws.{kept_rising, found_below, found_row, found_start, missing-none, rows_at, rows-length, rows-rest}
use Rattle.cut_def.specs.Refs.{Ref}
use Rattle.ref_def.specs.Drops.{InLeaf, drops_of, releases, unrefs}
use Rattle.ref_def.specs.Lent.{leaves_of}
use Rattle.ref_def.specs.declared.Leaves.{Leaves}
use Rattle.plan_lines.specs.Lines.{Laid}
use Rattle.plan_lines.proofs.Laws.{Going, going_first, going_done}
use Rattle.std.specs.declared.ops.Range.{Range}
use Rattle.drop_chains.specs.Chains.{along, number_behind, From, Onward, byte_in, freed, line_in, unref_lines, release_lines}
use Rattle.drop_chains.specs.Links.{drops_by, drop_at, Links, linked, Headless, Blank, Chained, Linked}
use Rattle.drop_chains.proofs.Walks.{along_nil, along_at, along_set, behind_nil, behind_ends, behind_set, behind_put, freed_released}
use Rattle.drop_chains.proofs.Reading.{leaves_many, leaves_here}

-- ---- which row a drop is of

module _ (dropped : Fields → Bool) (rs : List Row) (kept : table_kept rs ≡ true) (d : InLeaf) where
  module _ (k : ℕ) (row : Row) (h : Some (k, row) ≡ find d.item.extent_start rs) where
    pub found_in : k < length rs
    found_in = found_below rs d.item.extent_start k row (sym h)

    found_there : (x : Row) → (get_or rs k x).start ≡ d.item.extent_start
    found_there x = ap (λ (r : Row). r.start) (sym (found_row rs d.item.extent_start k row (sym h) x)) ∙ found_start rs d.item.extent_start k row (sym h)

    of_this : dropped d.item ≡ true → (x : Row) → drop_at dropped (get_or rs k x).start d ≡ true
    of_this t x = rw (t, eq-eqb d.item.extent_start (get_or rs k x).start (sym (found_there x))) refl

    of_other : (y : ℕ) (x : Row) → y < length rs → (y ≡ k → ⊥) → drop_at dropped (get_or rs y x).start d ≡ false
    of_other y x l n =
        let q : eqb d.item.extent_start (get_or rs y x).start ≡ false = ne_eqb d.item.extent_start (get_or rs y x).start
        (λ z. elim (dec_lt y k) [
          | yes m ↦ omega (arith, kept_rising rs kept y k x m found_in, found_there x)
          | no m ↦ omega (arith, kept_rising rs kept k y x (omega arith) l, found_there x)
        ]) in
        rw q (and-false (dropped d.item))

  pub of_none : None ≡ find d.item.extent_start rs → (y : ℕ) (x : Row) → y < length rs → drop_at dropped (get_or rs y x).start d ≡ false
  of_none h y x l =
      let q : eqb d.item.extent_start (get_or rs y x).start ≡ false = ne_eqb d.item.extent_start (get_or rs y x).start (λ z. missing-none rs d.item.extent_start (sym h) y x l (sym z)) in
      rw q (and-false (dropped d.item))

-- ---- one more item

module _
    (dropped : Fields → Bool) (rs : List Row) (ds : List InLeaf) (i : ℕ) (l : Links)
    (done : Chained dropped rs ds (i + 1) l) (h : i < length ds) (d : InLeaf) (e : (x : InLeaf) → get_or ds i x ≡ d) where
  next_here : drop i ds ≡ d ∷ drop (i + 1) ds
  next_here = drop-cons ds i d h ∙ rw (e d, add-one) refl

  kept_no : (start : ℕ) → drop_at dropped start d ≡ false → keep (drop_at dropped start) (drop i ds) ≡ keep (drop_at dropped start) (drop (i + 1) ds)
  unfolding keep
  kept_no start n = ap (keep (drop_at dropped start)) next_here ∙ rw n refl

  kept_yes : (start : ℕ) → drop_at dropped start d ≡ true → keep (drop_at dropped start) (drop i ds) ≡ d ∷ keep (drop_at dropped start) (drop (i + 1) ds)
  unfolding keep
  kept_yes start n = ap (keep (drop_at dropped start)) next_here ∙ rw n refl

  -- no row's drop
  chained_skip : ((k : ℕ) (x : Row) → k < length rs → drop_at dropped (get_or rs k x).start d ≡ false) → Chained dropped rs ds i l
  chained_skip skips =
      record {
        few = done.few;
        row_room = done.row_room;
        room = done.room;
        starts = λ k m z. let y = done.starts k m z in (omega (arith, y.0), y.1);
        ended = done.ended;
        those = λ k x m. done.those k x m ∙ sym (kept_no (get_or rs k x).start (skips k x m));
        low = done.low;
        high = done.high;
        before = done.before;
        behind = done.behind;
      }

  -- not dropped
  pub chained_kept : dropped d.item ≡ false → Chained dropped rs ds i l
  chained_kept z = chained_skip (λ k x m. rw z refl)

  module _ (kept : table_kept rs ≡ true) (t : dropped d.item ≡ true) where
    -- put before the chain of row r
    chained_put : (r : ℕ) (row : Row) → Some (r, row) ≡ find d.item.extent_start rs → Chained dropped rs ds i (linked (Some (r, row)) i l)
    chained_put r row f =
        record {
          few = done.few;
          row_room = rw length-set done.row_room;
          room = rw length-set done.room;
          starts = λ k m. start_at k m (ℕ_discrete k r);
          ended = λ k m. elim (ℕ_discrete k r) [
            | yes q ↦ ap (λ (a : ℕ). number_behind nexts' 0 a ds) (head_at k q) ∙ behind_put l.nexts ds (length ds) i h₀ d h (omega (arith, done.room)) past ∙ done.ended r r_in
            | no q ↦ ap (λ (a : ℕ). number_behind nexts' 0 a ds) (get_or-set_other l.heads r k (i + 1) 0 q) ∙ behind_set l.nexts ds (length ds) i h₀ (get_or l.heads k 0) (done.starts k m) ∙ done.ended k m
          ];
          those = λ k x m. elim (ℕ_discrete k r) [
            | yes q ↦
                ap (λ (a : ℕ). along nexts' 0 a ds) (head_at k q) ∙ along_at nexts' ds (length ds) i d h (rw next-at past)
                ∙ ap₂ (λ (a : InLeaf) (b : List InLeaf). a ∷ b) (e d) (ap (λ (a : ℕ). along nexts' 0 a ds) next-at ∙ along_set l.nexts ds (length ds) i h₀ h₀ past ∙ ap (λ (a : ℕ). along l.nexts 0 (get_or l.heads a 0) ds) (sym q) ∙ done.those k x m)
                ∙ sym (kept_yes (get_or rs k x).start (rw q (of_this dropped rs kept d r row f t x)))
            | no q ↦
                ap (λ (a : ℕ). along nexts' 0 a ds) (get_or-set_other l.heads r k (i + 1) 0 q) ∙ along_set l.nexts ds (length ds) i h₀ (get_or l.heads k 0) (done.starts k m) ∙ done.those k x m
                ∙ sym (kept_no (get_or rs k x).start (of_other dropped rs kept d r row f k x m q))
          ];
          low = omega (arith, done.low);
          high = omega (arith, done.high, r_in);
          before = λ k m. get_or-set_other l.heads r k (i + 1) 0 (omega arith) ∙ done.before k (omega arith);
          behind = λ k m n. get_or-set_other l.heads r k (i + 1) 0 (omega arith) ∙ done.behind k (omega arith) n;
        }
      where
        r_in : r < length rs
        r_in = found_in dropped rs kept d r row f

        h₀ : ℕ
        h₀ = get_or l.heads r 0

        nexts' : List ℕ
        nexts' = set l.nexts i h₀

        past : From (i + 1) (length ds) h₀
        past = done.starts r r_in

        head_at : (k : ℕ) → k ≡ r → get_or (set l.heads r (i + 1)) k 0 ≡ i + 1
        head_at k q = ap (λ (a : ℕ). get_or (set l.heads r (i + 1)) a 0) q ∙ get_or-set_same l.heads r (i + 1) 0 (omega (arith, r_in, done.row_room))

        start_at : (k : ℕ) → k < length rs → Dec (k ≡ r) → From i (length ds) (get_or (set l.heads r (i + 1)) k 0)
        start_at k m (yes q) z = (omega (arith, head_at k q), omega (arith, head_at k q))
        start_at k m (no q) z =
            let o = get_or-set_other l.heads r k (i + 1) 0 q in
            let y = done.starts k m (λ w. z (o ∙ w)) in
            (omega (arith, o, y.0), omega (arith, o, y.1))

        next-at : get_or nexts' i 0 ≡ h₀
        next-at = get_or-set_same l.nexts i h₀ 0 (omega (arith, done.room))

    -- put before the chain of its row, if it has one
    pub chained_drop : (o : Found) → o ≡ find d.item.extent_start rs → Chained dropped rs ds i (linked o i l)
    chained_drop (Some (r, row)) f = chained_put r row f
    chained_drop None f = chained_skip (of_none dropped rs kept d f)

-- a turn of a loop over a list's items, from the last to the first: item i is the next, and those from m on are chained
module _
    (dropped : Fields → Bool) (t : Table) (leaves : Leaves) (m i : ℕ) (l : Links) (n : m ≡ i + 1) (done : Chained dropped (rows t.numbers.now) (leaves_of leaves) m l)
    (h : i < length leaves.shared.now) (item : Item) (q : item ≡ item_of (drop (i * 70) leaves.list.now)) (b : Bool) (e : b ≡ dropped (fields item)) where
  pub chained_turn_kept : b ≡ false → Chained dropped (rows t.numbers.now) (leaves_of leaves) i l
  chained_turn_kept z = chained_kept dropped (rows t.numbers.now) (leaves_of leaves) i l (rw n at done) (omega (arith, leaves_many leaves)) _ (λ x. leaves_here leaves i x item h q) (sym e ∙ z)

  pub chained_turn_linked : b ≡ true → (l' : Links) → l' ≡ linked (find (fields item).extent_start (rows t.numbers.now)) i l → Chained dropped (rows t.numbers.now) (leaves_of leaves) i l'
  chained_turn_linked z l' u =
      rw u (chained_drop dropped (rows t.numbers.now) (leaves_of leaves) i l (rw n at done) (omega (arith, leaves_many leaves)) _ (λ x. leaves_here leaves i x item h q) t.kept (sym e ∙ z) _ refl)

-- ---- before the first item is put in

-- no item is chained yet
pub chained_first : (dropped : Fields → Bool) (rs : List Row) (ds : List InLeaf) (i : ℕ) (l : Links) → Headless rs ds l → length ds ≤ i → Chained dropped rs ds i l
unfolding keep
chained_first dropped rs ds i l b h =
    record {
      few = b.few;
      row_room = b.row_room;
      room = b.room;
      starts = λ k m z. absurd (z (b.none k m));
      ended = λ k m. ap (λ (a : ℕ). number_behind l.nexts 0 a ds) (b.none k m) ∙ behind_nil l.nexts ds 0;
      those = λ k x m. ap (λ (a : ℕ). along l.nexts 0 a ds) (b.none k m) ∙ along_nil l.nexts ds 0 ∙ sym (ap (keep (drop_at dropped (get_or rs k x).start)) (drop_of_length-le ds {i = i} h));
      low = omega (arith, b.low);
      high = omega (arith, b.high);
      before = λ k m. b.none k (omega (arith, b.low));
      behind = λ k m n. b.none k n;
    }

-- arrays of n zeros
pub headless : (n : ℕ) (t : List ℕ) (l : Leaves) (s : Range ℕ) → n ≤ 65536 → length t / 5 ≤ n → length l.list.now / 70 ≤ n → s.start ≡ length t / 5 → s.end ≡ 0
    → Headless (rows t) (leaves_of l) (record { heads = replicate n 0; nexts = replicate n 0; span = s })
headless n t l s h r f a b =
    let m = leaves_many l in
    let i = items-length l.list.now in
    record {
      few = omega (arith, l.one_each);
      row_room = rw (length-replicate {A = ℕ} n 0) (omega (arith, rows-length t));
      room = rw (length-replicate {A = ℕ} n 0) (omega (arith, l.one_each));
      none = λ k q. get_or-replicate {A = ℕ} n k 0 0 (omega (arith, rows-length t));
      low = omega (arith, rows-length t);
      high = b;
    }

-- ---- where each number leads onward

module _ (dropped : Fields → Bool) (rs : List Row) (ds : List InLeaf) (i : ℕ) (l : Links) where
  pub linked_chained : Linked dropped rs ds i l → Chained dropped rs ds i l
  linked_chained c =
      record {
        few = c.few;
        row_room = c.row_room;
        room = c.room;
        starts = c.starts;
        ended = λ k m. let y = c.starts k m in behind_ends l.nexts (length ds) c.onward ds 0 (get_or l.heads k 0) (omega arith) (λ z. (omega (arith, (y z).0), (y z).1));
        those = c.those;
        low = c.low;
        high = c.high;
        before = c.before;
        behind = c.behind;
      }

  linked_of : Chained dropped rs ds i l → Onward (length ds) l.nexts → Linked dropped rs ds i l
  linked_of c o =
      record {
        few = c.few;
        row_room = c.row_room;
        room = c.room;
        starts = c.starts;
        onward = o;
        those = c.those;
        low = c.low;
        high = c.high;
        before = c.before;
        behind = c.behind;
      }

-- one more item
module _
    (dropped : Fields → Bool) (rs : List Row) (ds : List InLeaf) (i : ℕ) (l : Links)
    (done : Linked dropped rs ds (i + 1) l) (h : i < length ds) (d : InLeaf) (e : (x : InLeaf) → get_or ds i x ≡ d) where
  chained : Chained dropped rs ds (i + 1) l
  chained = linked_chained dropped rs ds (i + 1) l done

  -- not dropped
  pub linked_kept : dropped d.item ≡ false → Linked dropped rs ds i l
  linked_kept z = linked_of dropped rs ds i l (chained_kept dropped rs ds i l chained h d e z) done.onward

  onward-put : (o : Found) → o ≡ find d.item.extent_start rs → Onward (length ds) (linked o i l).nexts
  onward-put None f = done.onward
  onward-put (Some (r, row)) f = let h₀ = get_or l.heads r 0 in λ j m. elim (ℕ_discrete j i) [
    | yes q ↦ rw (q, get_or-set_same l.nexts i h₀ 0 (omega (arith, done.room))) (done.starts r (found_below rs d.item.extent_start r row (sym f)))
    | no q ↦ rw (get_or-set_other l.nexts i j h₀ 0 q) (done.onward j m)
  ]

  module _ (kept : table_kept rs ≡ true) (t : dropped d.item ≡ true) where
    -- put before the chain of its row, if it has one
    pub linked_drop : (o : Found) → o ≡ find d.item.extent_start rs → Linked dropped rs ds i (linked o i l)
    linked_drop o f = linked_of dropped rs ds i (linked o i l) (chained_drop dropped rs ds i l chained h d e kept t o f) (onward-put o f)

-- a turn of the loop
module _
    (dropped : Fields → Bool) (t : Table) (leaves : Leaves) (m i : ℕ) (l : Links) (n : m ≡ i + 1) (done : Linked dropped (rows t.numbers.now) (leaves_of leaves) m l)
    (h : i < length leaves.shared.now) (item : Item) (q : item ≡ item_of (drop (i * 70) leaves.list.now)) (b : Bool) (e : b ≡ dropped (fields item)) where
  pub turn_kept : b ≡ false → Linked dropped (rows t.numbers.now) (leaves_of leaves) i l
  turn_kept z = linked_kept dropped (rows t.numbers.now) (leaves_of leaves) i l (rw n at done) (omega (arith, leaves_many leaves)) _ (λ x. leaves_here leaves i x item h q) (sym e ∙ z)

  pub turn_linked : b ≡ true → (l' : Links) → l' ≡ linked (find (fields item).extent_start (rows t.numbers.now)) i l → Linked dropped (rows t.numbers.now) (leaves_of leaves) i l'
  turn_linked z l' u =
      rw u (linked_drop dropped (rows t.numbers.now) (leaves_of leaves) i l (rw n at done) (omega (arith, leaves_many leaves)) _ (λ x. leaves_here leaves i x item h q) t.kept (sym e ∙ z) _ refl)

-- before the first item is put in
blank_headless : (rs : List Row) (ds : List InLeaf) (l : Links) → Blank rs ds l → Headless rs ds l
blank_headless rs ds l b = record { few = b.few; row_room = b.row_room; room = b.room; none = b.none; low = b.low; high = b.high }

-- no item is chained yet
pub linked_first : (dropped : Fields → Bool) (rs : List Row) (ds : List InLeaf) (i : ℕ) (l : Links) → Blank rs ds l → length ds ≤ i → Linked dropped rs ds i l
linked_first dropped rs ds i l b h = linked_of dropped rs ds i l (chained_first dropped rs ds i l (blank_headless rs ds l b) h) (λ j m z. absurd (z (b.ends j m)))

-- arrays of n zeros
pub blank : (n : ℕ) (t : List ℕ) (l : Leaves) (s : Range ℕ) → n ≤ 65536 → length t / 5 ≤ n → length l.list.now / 70 ≤ n → s.start ≡ length t / 5 → s.end ≡ 0
    → Blank (rows t) (leaves_of l) (record { heads = replicate n 0; nexts = replicate n 0; span = s })
blank n t l s h r f a b =
    let e = headless n t l s h r f a b in
    let m = leaves_many l in
    let i = items-length l.list.now in
    record { few = e.few; row_room = e.row_room; room = e.room; none = e.none; ends = λ j q. get_or-replicate {A = ℕ} n j 0 0 (omega (arith, l.one_each)); low = e.low; high = e.high }

-- ---- the lines of rows from k on

module _ {B : Type 0} (g : Row → List B) (t : List ℕ) (n : ℕ) where
  row_empty : (k : ℕ) → k < n → g (row_of (drop (k * 5) t)) ≡ [] → flat_map g (rest row_of 5 t n k) ≡ flat_map g (rest row_of 5 t n (k + 1))
  unfolding flat_map
  row_empty k h e = rw (rest_cons row_of 5 t n k h, e) refl

  -- none of the first k rows has a line
  rows_skip : (k : ℕ) → k ≤ n → ((j : ℕ) → j < k → g (row_of (drop (j * 5) t)) ≡ []) → flat_map g (rest row_of 5 t n 0) ≡ flat_map g (rest row_of 5 t n k)
  rows_skip zero h f = refl
  rows_skip (suc k) h f = rows_skip k (omega arith) (λ j m. f j (omega arith)) ∙ row_empty k (omega arith) (f k (omega arith)) ∙ rw add-one refl

  -- none from k on has one
  rows_empty : (a k : ℕ) → n ≤ k + a → ((j : ℕ) → k ≤ j → j < n → g (row_of (drop (j * 5) t)) ≡ []) → flat_map g (rest row_of 5 t n k) ≡ []
  unfolding flat_map
  rows_empty zero k h f = rw (rest_nil row_of 5 t n k (omega arith)) refl
  rows_empty (suc a) k h f = elim (dec_lt k n) [
    | yes m ↦ row_empty k m (f k (omega arith) m) ∙ rows_empty a (k + 1) (omega arith) (λ j p q. f j (omega arith) q)
    | no m ↦ rw (rest_nil row_of 5 t n k (omega arith)) refl
  ]

-- ---- the lines of a row by the chain of its drops

-- the lines that it gives of one kind, from its references and its drops
abbrev pub row_chain : (ℕ → List InLeaf → List Ref) → (Fields → Bool) → List InLeaf → Row → List Ref
row_chain kind dropped hs row = kind row.references (keep (drop_at dropped row.start) hs)

flat_same : {A B : Type 0} (f g : A → List B) → ((a : A) → f a ≡ g a) → (l : List A) → flat_map f l ≡ flat_map g l
unfolding flat_map
flat_same f g h [] = refl
flat_same f g h (a ∷ l) = ap₂ (λ (x y : List _). x ++ y) (h a) (flat_same f g h l)

module _ (dropped : Fields → Bool) (hs : List InLeaf) where
  pub drops-at : (start : ℕ) → drops_of start (drops_by dropped hs) ≡ keep (drop_at dropped start) hs
  drops-at start = keep-keep (λ (d : InLeaf). eqb d.item.extent_start start) (λ (d : InLeaf). dropped d.item) hs

  pub releases_chained : (rs : List Row) → releases rs (drops_by dropped hs) ≡ flat_map (row_chain release_lines dropped hs) rs
  releases_chained rs = flat_same _ (row_chain release_lines dropped hs) (λ row. rw (drops-at row.start, freed_released row.references (keep (drop_at dropped row.start) hs)) refl) rs

  pub unrefs_chained : (rs : List Row) → unrefs rs (drops_by dropped hs) ≡ flat_map (row_chain unref_lines dropped hs) rs
  unrefs_chained rs = flat_same _ (row_chain unref_lines dropped hs) (λ row. rw (drops-at row.start, freed_released row.references (keep (drop_at dropped row.start) hs)) refl) rs

-- a chain without a drop has no line
pub no_release : (n : ℕ) → release_lines n [] ≡ []
no_release n = go (freed n (map byte_in []))
  where
    go : (b : Bool) → cond b (map line_in []) [] ≡ []
    go true = refl
    go false = refl

pub no_unref : (n : ℕ) → unref_lines n [] ≡ []
no_unref n = go (freed n (map byte_in []))
  where
    go : (b : Bool) → cond b [] (map line_in []) ≡ []
    go true = refl
    go false = refl

-- ---- the chain of each row, and the lines of all

module _ (dropped : Fields → Bool) (t : List ℕ) (ds : List InLeaf) (l : Links) (done : Chained dropped (rows t) ds 0 l) where
  pub chain_of : (k : ℕ) (row : Row) → k < length t / 5 → row ≡ row_of (drop (k * 5) t) → along l.nexts 0 (get_or l.heads k 0) ds ≡ keep (drop_at dropped row.start) ds
  chain_of k row h e = done.those k row (omega (arith, rows-length t)) ∙ ap (λ (r : Row). keep (drop_at dropped r.start) ds) (rows_at t k row h ∙ sym e)

  module _ (kind : ℕ → List InLeaf → List Ref) (none : (n : ℕ) → kind n [] ≡ []) where
    no_lines : (k : ℕ) → k < length t / 5 → get_or l.heads k 0 ≡ 0 → row_chain kind dropped ds (row_of (drop (k * 5) t)) ≡ []
    no_lines k h z =
        let row = row_of (drop (k * 5) t) in
        ap (kind row.references) (sym (chain_of k row h refl) ∙ ap (λ (a : ℕ). along l.nexts 0 a ds) z ∙ along_nil l.nexts ds 0) ∙ none row.references

    -- a loop over the range's rows, as it starts and as it ends
    pub span-first : (f : Ref → List ℕ) (v n : ℕ) (out : List ℕ) → Going f v n (flat_map (row_chain kind dropped ds) (rows t)) out n (flat_map (row_chain kind dropped ds) (rest row_of 5 t (length t / 5) l.span.start)) out
    span-first f v n out =
        let g = row_chain kind dropped ds in
        let e : flat_map g (rows t) ≡ flat_map g (rest row_of 5 t (length t / 5) l.span.start) =
        ap (flat_map g) (sym (rows-rest t)) ∙ rows_skip g t (length t / 5) l.span.start (omega (arith, done.low, rows-length t)) (λ j m. no_lines j (omega (arith, done.low, rows-length t)) (done.before j m)) in
        rw (← e) (going_first f v n (flat_map g (rows t)) out)

    pub span-done : (f : Ref → List ℕ) (v n₀ : ℕ) (all : List Ref) (out₀ : List ℕ) (n : ℕ) (out : List ℕ) (k : ℕ) → l.span.end ≤ k → Going f v n₀ all out₀ n (flat_map (row_chain kind dropped ds) (rest row_of 5 t (length t / 5) k)) out → Laid f v n₀ all out₀ n out
    span-done f v n₀ all out₀ n out k h going =
        let g = row_chain kind dropped ds in
        let e : flat_map g (rest row_of 5 t (length t / 5) k) ≡ [] = rows_empty g t (length t / 5) (length t / 5) k (omega arith) (λ j p q. no_lines j q (done.behind j (omega arith) (omega (arith, rows-length t)))) in
        going_done f v n₀ all out₀ n out (rw e at going)
