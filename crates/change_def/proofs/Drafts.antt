-- The numbers of a plan: they do not turn on which places it takes, if there are as many as wanted and none is 0; and how
-- many lines it has at most. Assumes nothing.
use mathlib.Core.Path.{◌≡◌, refl, ap, ap₂, ◌∙◌, sym}
use mathlib.Core.Bool.{Bool, true, false, cond, ◌&&◌, not}
use mathlib.Core.List.{List, [], ◌∷◌, ◌++◌, map, flat_map, tail}
use mathlib.Core.Option.{Option, none as nothing, some}
use Prim.Native.Nat.{ℕ, zero, suc, ◌+◌, ◌*◌, ◌<◌, ◌≤◌, min}
use native.Mathlib.Omega.{arith}
use lib.Dec.{eqb, leb, ltb}
use lib.ListN.{length, length-append, length-map, get_or, replicate, length-replicate}
use borrow.Author.Tests.{not-true, eqb-true, leb-true, le-leb}
use Rattle.records.specs.Stages.{every, pairs}
use Rattle.records.specs.Select.{only, keep, any, count}
use Rattle.records.proofs.Tests.{both, both_left, both_right}
use Rattle.records.proofs.Lists.{every_true}
use Rattle.records.proofs.Picks.{keep_two, only-few}
use Rattle.records.proofs.Counts.{count-length, count-apart}
use Rattle.item.specs.Items.{Fields, hole, end, joined}
use Rattle.table.specs.declared.Row.{Row}
use Rattle.table.specs.Rows.{table_kept}
use Rattle.table.proofs.Laws.{kept-tail, kept_rising}
use Rattle.request.specs.declared.Numbers.{Numbers}
use Rattle.cut_def.specs.Cuts.{front, back, cut, touched, covered, split}
use Rattle.cut_def.specs.Pieces.{Piece, built, kept, items_of, cut_pieces, insert, insert_all, counted_bytes}
use Rattle.cut_def.specs.Joins.{joinable, join_next, past, join_around, join_all}
use Rattle.cut_def.specs.Refs.{Ref, ref_of}
use Rattle.cut_def.specs.Edits.{Edit, puts, delete, below, edits}
use Rattle.cut_def.proofs.Inserts.{insert_all-length}
use Rattle.ref_def.proofs.Compared.{compared_most}
use Rattle.ref_def.specs.Compared.{among, compared_unrefs}
use Rattle.ref_def.specs.Drops.{InLeaf, drops_of, lines, released, releases, unrefs}
use Rattle.ref_def.proofs.Drops.{drops-number}
use Rattle.plan_def.specs.Plans.{Write, numbers}
use Rattle.plan_def.specs.Places.{Wanted, placed, place_sound, places_apart, places_sound}
use Rattle.plan_def.proofs.Places.{placed-length, places_count}
use Rattle.change_def.specs.declared.Rewrite.{Rewrite}
use Rattle.change_def.specs.Rewrites.{Ground, new_generation, when_held, preallocated, item_in_place, write_in_place, each_in_place, rewritten_anew}
use Rattle.change_def.specs.Changes.{Change, before, new_items, writes_anew, pieces_written, pieces_joined, extents_in_place, split_refs, shares_compared, drops, wanted, pieces_after, plan_of}
use Rattle.change_def.proofs.Each.{new_item, add_at}
use Rattle.change_def.proofs.News.{place_some}

-- ---- pieces that differ in their places only

-- what an item adds to the byte count
abbrev counted : Fields → ℕ
counted f = cond (hole f) 0 f.length

-- built alike, at the same keys, and counted alike
data Alike : List Piece → List Piece → Type 0 where
  none : Alike [] []
  one : {p q : Piece} {ps qs : List Piece} → p.built ≡ q.built → p.item.key ≡ q.item.key → counted p.item ≡ counted q.item → Alike ps qs → Alike (p ∷ ps) (q ∷ qs)

alike_same : (ps : List Piece) → Alike ps ps
alike_same [] = none
alike_same (p ∷ ps) = one refl refl refl (alike_same ps)

-- picked by tests that agree
alike_cond : {s t : Bool} {ps qs ks ls : List Piece} → s ≡ t → Alike ps ks → Alike qs ls → Alike (cond s ps qs) (cond t ks ls)
alike_cond {s} {t} {ps} {qs} {ks} {ls} h a b = rw h (go t)
  where
    go : (t : Bool) → Alike (cond t ps qs) (cond t ks ls)
    go true = a
    go false = b

-- with an item more
alike_insert : (x y : Fields) → x.key ≡ y.key → counted x ≡ counted y → {ps qs : List Piece} → Alike ps qs → Alike (insert x ps) (insert y qs)
unfolding insert
alike_insert x y k b none = one refl k b none
alike_insert x y k b (one m e d a) = alike_cond (ap₂ ltb k e) (one refl k b (one m e d a)) (one m e d (alike_insert x y k b a))

-- those whose keys pass a test
alike_keep : (t : ℕ → Bool) {ps qs : List Piece} → Alike ps qs → Alike (keep (λ (p : Piece). t p.item.key) ps) (keep (λ (p : Piece). t p.item.key) qs)
unfolding keep
alike_keep t none = none
alike_keep t (one m e d a) = alike_cond (ap t e) (one m e d (alike_keep t a)) (alike_keep t a)

alike_any : (t : ℕ → Bool) {ps qs : List Piece} → Alike ps qs → any (λ (p : Piece). t p.item.key) ps ≡ any (λ (p : Piece). t p.item.key) qs
unfolding any
alike_any t none = refl
alike_any t (one m e d a) = rw (e, alike_any t a) refl

-- as many puts, and as many edits of any items
alike_puts : {ps qs : List Piece} → Alike ps qs → length (puts ps) ≡ length (puts qs)
unfolding flat_map
alike_puts none = refl
alike_puts (one {p} {q} {ps} {qs} m e d a) = rw m (go q.built (alike_puts a))
  where
    go : (b : Bool) → length (puts ps) ≡ length (puts qs) → length (only b (Edit.put p.item) ++ puts ps) ≡ length (only b (Edit.put q.item) ++ puts qs)
    go true i = ap suc i
    go false i = i

-- the edits at and below an item, and those behind it
edits-length : (f : Fields) (fs : List Fields) (ps : List Piece)
    → length (edits (f ∷ fs) ps) ≡ length (puts (keep (below f.key) ps)) + (cond (any (λ (p : Piece). eqb p.item.key f.key) ps) 0 1 + length (edits fs (keep (λ (p : Piece). not (below f.key p)) ps)))
unfolding edits
edits-length f fs ps =
    length-append (puts (keep (below f.key) ps)) (only (not (any (λ (p : Piece). eqb p.item.key f.key) ps)) (delete f.key) ++ edits fs (keep (λ (p : Piece). not (below f.key p)) ps))
    ∙ ap (λ (n : ℕ). length (puts (keep (below f.key) ps)) + n) (go (any (λ (p : Piece). eqb p.item.key f.key) ps) (edits fs (keep (λ (p : Piece). not (below f.key p)) ps)))
  where
    go : (b : Bool) (es : List Edit) → length (only (not b) (delete f.key) ++ es) ≡ cond b 0 1 + length es
    go true es = omega arith
    go false es = omega arith

alike_edits : (fs : List Fields) {ps qs : List Piece} → Alike ps qs → length (edits fs ps) ≡ length (edits fs qs)
alike_edits [] a = unfold edits in alike_puts a
alike_edits (f ∷ fs) {ps} {qs} a =
    rw (edits-length f fs ps, edits-length f fs qs, alike_any (λ (k : ℕ). eqb k f.key) a)
    (omega (arith, alike_puts (alike_keep (λ (k : ℕ). ltb k f.key) a), alike_edits fs (alike_keep (λ (k : ℕ). not (ltb k f.key)) a)))

-- the same byte count
alike_bytes : {ps qs : List Piece} → Alike ps qs → counted_bytes (items_of ps) ≡ counted_bytes (items_of qs)
unfolding counted_bytes
alike_bytes none = refl
alike_bytes (one m e d a) = ap₂ (λ (n k : ℕ). n + k) d (alike_bytes a)

-- ---- the numbers of a plan

-- none is 0
abbrev somewhere : List ℕ → Bool
somewhere ps = every (λ (p : ℕ). not (eqb p 0)) ps

pub ones-some : (n : ℕ) → every (λ (p : ℕ). not (eqb p 0)) (replicate n 1) ≡ true
unfolding every
ones-some zero = refl
ones-some (suc n) = ones-some n

-- as sound places are
places-some : (rows : List Row) (ps : List ℕ) (ws : List Wanted) → places_sound rows ps ws ≡ true → somewhere ps ≡ true
unfolding places_sound every placed
places-some rows ps ws h =
    let n : Bool = eqb (length ps) (length ws) in
    let s : Bool = every (place_sound rows) (placed ps ws) in
    let d : Bool = pairs places_apart (placed ps ws) in
    go ps ws (places_count rows ps ws h) (both_left s d (both_right n (s && d) h))
  where
    go : (ps : List ℕ) (ws : List Wanted) → length ps ≡ length ws → every (place_sound rows) (placed ps ws) ≡ true → somewhere ps ≡ true
    go [] ws n h = refl
    go (p ∷ ps) [] n h = absurd (omega arith)
    go (p ∷ ps) (w ∷ ws) n h =
        both (not (eqb p 0)) (somewhere ps)
        (place_some rows p w (both_left (place_sound rows (add_at p w)) (every (place_sound rows) (placed ps ws)) h))
        (go ps ws (omega arith) (both_right (place_sound rows (add_at p w)) (every (place_sound rows) (placed ps ws)) h))

-- a write for each place that a rewrite takes
anew_length : (ps : List ℕ) (rs : List Rewrite) → length (writes_anew ps rs) ≡ min (length ps) (length rs)
unfolding writes_anew
anew_length [] rs = omega arith
anew_length (p ∷ ps) [] = omega arith
anew_length (p ∷ ps) (r ∷ rs) = omega (arith, anew_length ps rs)

module _ (g : Ground) where
  -- an item over a new extent that is not at 0 counts its bytes
  new-counted : (p : ℕ) (w : Wanted) → not (eqb p 0) ≡ true → counted (new_item g p w) ≡ w.length
  new-counted p w h = rw (not-true (eqb p 0) h) refl

  alike_new : (ps qs : List ℕ) (ws : List Wanted) → length ps ≡ length qs → somewhere ps ≡ true → somewhere qs ≡ true → {ks ls : List Piece} → Alike ks ls → Alike (insert_all (new_items g ps ws) ks) (insert_all (new_items g qs ws) ls)
  unfolding new_items insert_all every
  alike_new [] [] ws n h k a = a
  alike_new [] (q ∷ qs) ws n h k a = absurd (omega arith)
  alike_new (p ∷ ps) [] ws n h k a = absurd (omega arith)
  alike_new (p ∷ ps) (q ∷ qs) [] n h k a = a
  alike_new (p ∷ ps) (q ∷ qs) (w ∷ ws) n h k a =
      alike_new ps qs ws (omega arith) (both_right (not (eqb p 0)) (somewhere ps) h) (both_right (not (eqb q 0)) (somewhere qs) k)
      (alike_insert (new_item g p w) (new_item g q w) refl (new-counted p w (both_left (not (eqb p 0)) (somewhere ps) h) ∙ sym (new-counted q w (both_left (not (eqb q 0)) (somewhere qs) k))) a)

module _ (g : Ground) (c : Change) (limit : ℕ) where
  -- with other places
  pub numbers-same : (ps qs : List ℕ) → length ps ≡ length (wanted g c limit) → length qs ≡ length (wanted g c limit)
      → every (λ (p : ℕ). not (eqb p 0)) ps ≡ true → every (λ (p : ℕ). not (eqb p 0)) qs ≡ true
      → numbers (plan_of g c limit ps) ≡ numbers (plan_of g c limit qs)
  numbers-same ps qs m n h k =
      let a : Alike (pieces_after g c limit ps) (pieces_after g c limit qs) = unfold pieces_after in alike_new g ps qs (wanted g c limit) (m ∙ sym n) h k (alike_same (pieces_joined g c)) in
      let x : List Write = each_in_place g write_in_place c.rewrites in
      let rs : List Rewrite = rewritten_anew g c.rewrites in
      rw (alike_edits (before g c) a, alike_bytes a, placed-length ps (wanted g c limit) m, placed-length qs (wanted g c limit) n)
      (rw (length-append x (writes_anew ps rs), length-append x (writes_anew qs rs), anew_length ps rs, anew_length qs rs, m, n) refl)

  -- so any places will do to count, as 1 for each
  pub numbers-sound : (ps : List ℕ) → places_sound g.rows ps (wanted g c limit) ≡ true → numbers (plan_of g c limit ps) ≡ numbers (plan_of g c limit (replicate (length (wanted g c limit)) 1))
  numbers-sound ps h =
      let n : ℕ = length (wanted g c limit) in
      numbers-same ps (replicate n 1) (places_count g.rows ps (wanted g c limit) h) (length-replicate n 1) (places-some g.rows ps (wanted g c limit) h) (ones-some n)

-- ---- how many lines a plan has at most

-- any list
module _ {A : Type 0} where
  pub keep-most : (p : A → Bool) (l : List A) → length (keep p l) ≤ length l
  keep-most p l = omega (arith, keep_two p l)

  -- at most n for each
  flat_most : {B : Type 0} (f : A → List B) (n : ℕ) → ((a : A) → length (f a) ≤ n) → (l : List A) → length (flat_map f l) ≤ n * length l
  unfolding flat_map
  flat_most f n h [] = omega arith
  flat_most f n h (a ∷ l) = omega (arith, length-append (f a) (flat_map f l), h a, flat_most f n h l)

puts-most : (ps : List Piece) → length (puts ps) ≤ length ps
puts-most ps = omega (arith, flat_most (λ (p : Piece). only p.built (Edit.put p.item)) 1 (λ p. only-few p.built (Edit.put p.item)) ps)

one-most : (b : Bool) → cond b 0 1 ≤ 1
one-most true = omega arith
one-most false = omega arith

-- an edit for each item and each piece, of any lists
pub edits-most : (fs : List Fields) (ps : List Piece) → length (edits fs ps) ≤ length fs + length ps
edits-most [] ps = unfold edits in omega (arith, puts-most ps)
edits-most (f ∷ fs) ps =
    omega (
      arith,
      edits-length f fs ps,
      puts-most (keep (below f.key) ps),
      one-most (any (λ (p : Piece). eqb p.item.key f.key) ps),
      edits-most fs (keep (λ (p : Piece). not (below f.key p)) ps),
      keep_two (below f.key) ps,
    )

-- ---- of the pieces

-- a cut leaves two pieces of an item at most
pub cut_most : (lo hi : ℕ) (fs : List Fields) → length (cut_pieces lo hi fs) ≤ 2 * length fs
unfolding cut_pieces
cut_most lo hi fs = flat_most (λ (f : Fields). cond (touched lo hi f) (map built (cut lo hi f)) (kept f ∷ [])) 2 (λ f. go f (touched lo hi f)) fs
  where
    go : (f : Fields) (b : Bool) → length (cond b (map built (cut lo hi f)) (kept f ∷ [])) ≤ 2
    go f true =
        omega (
          arith,
          length-map (cut lo hi f) built,
          length-append (only (ltb f.key lo) (front lo f)) (only (ltb hi (end f)) (back hi f)),
          only-few (ltb f.key lo) (front lo f),
          only-few (ltb hi (end f)) (back hi f),
        )
    go f false = omega arith

-- joins leave no more pieces than there were
next-most : (generation : ℕ) (p : Piece) (ps : List Piece) → length (join_next generation p ps) ≤ suc (length ps)
next-most generation p [] = omega arith
next-most generation p (q ∷ qs) = go (joinable p.item q.item)
  where
    go : (b : Bool) → length (cond b (built (joined p.item q.item generation) ∷ qs) (p ∷ q ∷ qs)) ≤ suc (suc (length qs))
    go true = omega arith
    go false = omega arith

around-most : (generation s : ℕ) (ps : List Piece) → length (join_around generation s ps) ≤ length ps
unfolding join_around
around-most generation s [] = omega arith
around-most generation s (p ∷ ps) = go (ltb s p.item.key) (past s ps) (past s (tail ps)) (around-most generation s ps)
  where
    go : (a b d : Bool) → length (join_around generation s ps) ≤ length ps
        → length (cond a (p ∷ ps) (cond b (join_next generation p ps) (cond d (join_next generation p (join_around generation s ps)) (p ∷ join_around generation s ps)))) ≤ suc (length ps)
    go true b d h = omega arith
    go false true d h = next-most generation p ps
    go false false true h = omega (arith, next-most generation p (join_around generation s ps))
    go false false false h = omega arith

joined-most : (generation : ℕ) (ss : List ℕ) (ps : List Piece) → length (join_all generation ss ps) ≤ length ps
unfolding join_all
joined-most generation [] ps = omega arith
joined-most generation (s ∷ ss) ps = omega (arith, joined-most generation ss (join_around generation s ps), around-most generation s ps)

-- ---- of the references

-- where each row gives at most the lines of its extent, a drop is in one line at most
module _ (ds : List InLeaf) (f : Row → List Ref) (few : (row : Row) → length (f row) ≤ length (lines row.start ds)) where
  rows-from : (rows : List Row) (b : ℕ) → table_kept rows ≡ true → ((i : ℕ) (e : Row) → i < length rows → b ≤ (get_or rows i e).start) → length (flat_map f rows) ≤ count (λ (d : InLeaf). leb b d.item.extent_start) ds
  unfolding flat_map
  rows-from [] b h low = omega arith
  rows-from (r ∷ rs) b h low =
      omega (
        arith,
        length-append (f r) (flat_map f rs),
        few r,
        length-map (drops_of r.start ds) (λ (d : InLeaf). ref_of d.item),
        drops-number r.start ds,
        rows-from rs (suc r.start) (kept-tail r rs h) (λ i e l. kept_rising (r ∷ rs) h 0 (suc i) e (omega arith) (omega arith)),
        count-apart (λ (d : InLeaf). true) (λ (d : InLeaf). eqb d.item.extent_start r.start) (λ (d : InLeaf). leb (suc r.start) d.item.extent_start) (λ (d : InLeaf). leb b d.item.extent_start)
            (λ d u. apart d.item.extent_start (eqb d.item.extent_start r.start) (leb (suc r.start) d.item.extent_start) refl refl) ds (every_true ds),
      )
    where
      apart : (s : ℕ) (p q : Bool) → eqb s r.start ≡ p → leb (suc r.start) s ≡ q → cond p 1 0 + cond q 1 0 ≤ cond (leb b s) 1 0
      apart s true true e l = absurd (omega (arith, eqb-true s r.start e, leb-true (suc r.start) s l))
      apart s true false e l = rw (le-leb b s (omega (arith, low 0 r (omega arith), eqb-true s r.start e))) (omega arith)
      apart s false true e l = rw (le-leb b s (omega (arith, low 0 r (omega arith), leb-true (suc r.start) s l))) (omega arith)
      apart s false false e l = omega arith

  rows-most : (rows : List Row) → table_kept rows ≡ true → length (flat_map f rows) ≤ length ds
  rows-most rows h = omega (arith, rows-from rows 0 h (λ i e l. omega arith), count-length (λ (d : InLeaf). leb 0 d.item.extent_start) ds)

module _ (rows : List Row) (ds : List InLeaf) (h : table_kept rows ≡ true) where
  given : (b : Bool) (l : List Ref) → (length (cond b l []) ≤ length l) × (length (cond b [] l) ≤ length l)
  given true l = (omega arith, omega arith)
  given false l = (omega arith, omega arith)

  pub releases-most : length (releases rows ds) ≤ length ds
  releases-most = rows-most ds (λ (row : Row). cond (released ds row) (lines row.start ds) []) (λ row. (given (released ds row) (lines row.start ds)).0) rows h

  pub unrefs-most : length (unrefs rows ds) ≤ length ds
  unrefs-most = rows-most ds (λ (row : Row). cond (released ds row) [] (lines row.start ds)) (λ row. (given (released ds row) (lines row.start ds)).1) rows h

-- ---- of the new extents and the writes

placed-most : (ps : List ℕ) (ws : List Wanted) → length (placed ps ws) ≤ length ws
unfolding placed
placed-most [] ws = omega arith
placed-most (p ∷ ps) [] = omega arith
placed-most (p ∷ ps) (w ∷ ws) = omega (arith, placed-most ps ws)

new-most : (g : Ground) (ps : List ℕ) (ws : List Wanted) → length (new_items g ps ws) ≤ length ws
unfolding new_items
new-most g [] ws = omega arith
new-most g (p ∷ ps) [] = omega arith
new-most g (p ∷ ps) (w ∷ ws) = omega (arith, new-most g ps ws)

-- a rewrite is in place or takes a new extent
place_length : {A : Type 0} (g : Ground) (f : Rewrite → InLeaf → A) (rs : List Rewrite) → length (each_in_place g f rs) + length (rewritten_anew g rs) ≡ length rs
unfolding each_in_place flat_map keep
place_length g f [] = refl
place_length {A} g f (r ∷ rs) = go (preallocated g r) (place_length g f rs)
  where
    go : (o : Option InLeaf) → length (each_in_place g f rs) + length (rewritten_anew g rs) ≡ length rs
        → length (when_held o [] (λ (h : InLeaf). f r h ∷ []) ++ each_in_place g f rs) + length (cond (not (when_held o false (λ (h : InLeaf). true))) (r ∷ rewritten_anew g rs) (rewritten_anew g rs)) ≡ suc (length rs)
    go nothing h = omega arith
    go (some x) h = omega arith

-- ---- of a plan

-- at most so many lines, of a change of a file with so many items, with so many rewrites and extents wanted
pub record Most (items rewrites extents : ℕ) (n : Numbers) : Type 0 where
  pub edits : n.edits ≤ 3 * items + rewrites + extents
  pub shares : n.shares ≤ 3 * items + rewrites
  pub unrefs : n.unrefs ≤ 2 * items
  pub releases : n.releases ≤ items
  pub adds : n.adds ≤ extents
  pub writes : n.writes ≤ rewrites

module _ (g : Ground) (c : Change) where
  abbrev items : ℕ
  items = length (before g c)

  abbrev times : ℕ
  times = length c.rewrites

  joined-pieces : length (pieces_joined g c) ≤ 2 * items + times
  unfolding pieces_joined pieces_written
  joined-pieces =
      let rs : List Rewrite = c.rewrites in
      let xs : List Fields = each_in_place g (item_in_place g) rs in
      omega (
        arith,
        joined-most (new_generation g) (each_in_place g (λ (r : Rewrite) (h : InLeaf). r.sector) rs) (insert_all xs (cut_pieces c.lo c.hi (before g c))),
        insert_all-length xs (cut_pieces c.lo c.hi (before g c)),
        place_length g (item_in_place g) rs,
        cut_most c.lo c.hi (before g c),
      )

  drops-most : length (drops g c) ≤ items
  unfolding drops
  drops-most = omega (arith, keep-most (λ (h : InLeaf). covered c.lo c.hi h.item && (not (hole h.item) && not (among (extents_in_place g c) h.item))) g.in_leaves, length-map g.in_leaves (λ (h : InLeaf). h.item))

  -- whatever the places; rows of one start would each give its lines, so the table is kept
  pub numbers-most : (limit : ℕ) (places : List ℕ) → table_kept g.rows ≡ true → Most (length (before g c)) (length c.rewrites) (length (wanted g c limit)) (numbers (plan_of g c limit places))
  numbers-most limit places h =
      record {
        edits = omega (arith, edits-most (before g c) (pieces_after g c limit places), after);
        shares =
            let l : List Ref = keep (λ (r : Ref). not (any (eqb r.start) (extents_in_place g c))) (split_refs g c) in
            omega (
              arith,
              length-append l (shares_compared g c),
              keep-most (λ (r : Ref). not (any (eqb r.start) (extents_in_place g c))) (split_refs g c),
              length-map (keep (split c.lo c.hi) (before g c)) ref_of,
              keep-most (split c.lo c.hi) (before g c),
              compared_most (extents_in_place g c) (items_of (pieces_joined g c)) (before g c),
              length-map (pieces_joined g c) (λ (p : Piece). p.item),
              joined-pieces,
            );
        unrefs =
            omega (
              arith,
              length-append (compared_unrefs (extents_in_place g c) (before g c) (items_of (pieces_joined g c))) (unrefs g.rows (drops g c)),
              compared_most (extents_in_place g c) (before g c) (items_of (pieces_joined g c)),
              unrefs-most g.rows (drops g c) h,
              drops-most,
            );
        releases = omega (arith, releases-most g.rows (drops g c) h, drops-most);
        adds = placed-most places (wanted g c limit);
        writes =
            let rs : List Rewrite = rewritten_anew g c.rewrites in
            omega (arith, length-append (each_in_place g write_in_place c.rewrites) (writes_anew places rs), anew_length places rs, place_length g write_in_place c.rewrites);
      }
    where
      after : length (pieces_after g c limit places) ≤ 2 * items + times + length (wanted g c limit)
      after = unfold pieces_after in omega (arith, insert_all-length (new_items g places (wanted g c limit)) (pieces_joined g c), new-most g places (wanted g c limit), joined-pieces)
