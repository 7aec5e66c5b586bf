-- References before and after a change: what is shared, dropped and added makes up the difference. Assumes nothing.
use mathlib.Core.Path.{◌≡◌, refl, ap, ◌∙◌, sym}
use mathlib.Core.Bool.{Bool, true, false, cond, ◌&&◌, ◌||◌, not, false≢true}
use mathlib.Core.List.{List, [], ◌∷◌, map}
use mathlib.Core.Logic.{⊎_elim}
use Prim.Native.Nat.{ℕ, ◌+◌, ◌%◌, ◌<◌}
use native.Mathlib.Omega.{arith}
use lib.Dec.{eqb, ltb}
use lib.ListN.{length, get_or}
use borrow.Author.Tests.{eqb-true, ltb-true, eq-eqb, ne_eqb, le-ltb, not-true}
use Rattle.std.specs.Prelude.{Some, None}
use Rattle.records.specs.Stages.{every, pairs}
use Rattle.records.specs.Select.{keep, any, count}
use Rattle.records.proofs.Tests.{both, both_left, both_right, either_left, either_right, every_map, every_both, every-at, first_of_zero}
use Rattle.records.proofs.Lists.{any_mem, any_some, at_every, every-mapped, any-mapped, every-listed}
use Rattle.records.proofs.Counts.{count_append, count_map, count-keep, count_none, count_where, count-any, any-count, count_most}
use Rattle.item.specs.Items.{Fields, ranged, hole, end}
use Rattle.lists.specs.Lists.{item_sound, rises}
use Rattle.lists.proofs.Order.{item-ranged}
use Rattle.table.specs.declared.Row.{Row}
use Rattle.table.specs.Rows.{find}
use Rattle.table.proofs.Laws.{kept-length}
use Rattle.cut_def.specs.Cuts.{covered, split}
use Rattle.cut_def.specs.Mappings.{named}
use Rattle.cut_def.specs.Pieces.{Piece, items_of, insert_all}
use Rattle.cut_def.specs.Joins.{past, join_all}
use Rattle.cut_def.specs.Refs.{Ref, ref_of, ref_passes, names, naming}
use Rattle.cut_def.proofs.Kept.{clear, cut-clear, ranged-cut, every-insert_all}
use Rattle.cut_def.proofs.Counts.{OfJoins, last_at, join_all-same, passes_pieces, passes_joins, cut-count, insert_all-counts}
use Rattle.ref_def.specs.Compared.{among, compared_unrefs}
use Rattle.ref_def.specs.Drops.{InLeaf, drops_refusal, releases, unrefs}
use Rattle.ref_def.proofs.Compared.{among-listed, compared_balance, shares-other}
use Rattle.ref_def.proofs.Drops.{drops-lines}
use Rattle.plan_def.specs.Plans.{Add}
use Rattle.plan_def.specs.Places.{Wanted, placed, place_sound, places_sound}
use Rattle.plan_def.proofs.Places.{places_count, placed-length, placed_at, place_missing}
use Rattle.change_def.specs.Rewrites.{Ground, item_in_place, new_generation}
use Rattle.change_def.specs.Changes.{Change, before, new_items, pieces_written, pieces_joined, extents_in_place, split_refs, shares_compared, drops, change_refusal, pieces_after, wanted, plan_of}
use Rattle.change_def.proofs.Fair.{Fair, rewrite_inside}
use Rattle.change_def.proofs.Each.{each_every, each_map, new-count}
use Rattle.change_def.proofs.Items.{clear_facts, holder_facts, inside, sector-some, items_in_place}
use Rattle.change_def.proofs.News.{wanted_sound, wants, place_some, new-reference, wanted-sound, adds-sound}
use Rattle.change_def.proofs.Steps.{cut_items, kept-cut-items, kept-written}

-- ---- references of the extents in place, and others

-- the reference is of no such extent, and passes
abbrev pub other_ref : List ℕ → (Ref → Bool) → Ref → Bool
other_ref extents q r = not (any (eqb r.start) extents) && q r

-- an item that passes is among them, or passes as another
split-count : (extents : List ℕ) (q : Ref → Bool) (fs : List Fields)
    → count (ref_passes q) fs ≡ count (λ (f : Fields). among extents f && ref_passes q f) fs + count (ref_passes (other_ref extents q)) fs
unfolding count
split-count extents q [] = refl
split-count extents q (f ∷ fs) = omega (arith, split-count extents q fs, one)
  where
    go : (n a b : Bool) → cond (n && b) 1 0 ≡ cond ((n && a) && (n && b)) 1 0 + cond (n && (not a && b)) 1 0
    go false a b = refl
    go true true b = omega arith
    go true false b = omega arith

    one : cond (ref_passes q f) 1 0 ≡ cond (among extents f && ref_passes q f) 1 0 + cond (ref_passes (other_ref extents q) f) 1 0
    one = rw (among-listed extents f) (go (named f) (any (eqb f.extent_start) extents) (q (ref_of f)))

-- ---- joins around items that do not pass

-- the first key is at most one that is there
first_below : (s : ℕ) (ps : List Piece) → pairs rises (items_of ps) ≡ true → any (λ (f : Fields). eqb s f.key) (items_of ps) ≡ true → past s ps ≡ false
unfolding pairs any
first_below s [] r a = absurd (false≢true a)
first_below s (x ∷ ps) r a = go (eqb s x.item.key) refl a
  where
    go : (b : Bool) → eqb s x.item.key ≡ b → (b || any (λ (f : Fields). eqb s f.key) (items_of ps)) ≡ true → ltb s x.item.key ≡ false
    go true e a = le-ltb s x.item.key (omega (arith, eqb-true s x.item.key e))
    go false e a =
        let z = any_some (λ (f : Fields). eqb s f.key) (rises x.item) (items_of ps) a (both_left (every (rises x.item) (items_of ps)) (pairs rises (items_of ps)) r) in
        le-ltb s x.item.key (omega (arith, eqb-true s z.0.key z.1, ltb-true x.item.key z.0.key z.2))

-- the item at a sector's key is the last at or before it
last_at_lem : (p : Fields → Bool) (s : ℕ) (ps : List Piece) → pairs rises (items_of ps) ≡ true → any (λ (f : Fields). eqb s f.key) (items_of ps) ≡ true
    → every (λ (f : Fields). not (eqb s f.key) || not (p f)) (items_of ps) ≡ true → last_at p s ps ≡ false
unfolding pairs any every last_at
last_at_lem p s [] r a h = refl
last_at_lem p s (x ∷ ps) r a h =
    let t : Fields → Bool = λ f. not (eqb s f.key) || not (p f) in
    let u : Bool = every (rises x.item) (items_of ps) in
    let v : Bool = pairs rises (items_of ps) in
    go (eqb s x.item.key) refl (ltb s x.item.key) (both_left u v r) (both_right u v r) a (both_left (t x.item) (every t (items_of ps)) h) (λ b. last_at_lem p s ps (both_right u v r) b (both_right (t x.item) (every t (items_of ps)) h))
  where
    next : (ps : List Piece) → every (rises x.item) (items_of ps) ≡ true → s ≡ x.item.key → past s ps ≡ true
    next [] u e = refl
    next (y ∷ ps) u e = rw e (both_left (rises x.item y.item) (every (rises x.item) (items_of ps)) u)

    either_way : (b : Bool) → cond b false false ≡ false
    either_way true = refl
    either_way false = refl

    go : (b : Bool) → eqb s x.item.key ≡ b → (d : Bool) → every (rises x.item) (items_of ps) ≡ true → pairs rises (items_of ps) ≡ true
        → (b || any (λ (f : Fields). eqb s f.key) (items_of ps)) ≡ true → (not b || not (p x.item)) ≡ true
        → (any (λ (f : Fields). eqb s f.key) (items_of ps) ≡ true → last_at p s ps ≡ false)
        → cond d false (cond (past s ps) (p x.item) (last_at p s ps)) ≡ false
    go true e d u v a h f = rw (next ps u (eqb-true s x.item.key e), not-true (p x.item) h) (either_way d)
    go false e d u v a h f = rw (first_below s ps v a, f a) (either_way d)

-- items that do not pass, put where no key is theirs: joins around them change no number
joins_other : (p : Fields → Bool) (o : OfJoins p) (n : ℕ) (xs : List Fields) (ps : List Piece)
    → pairs rises (items_of (insert_all xs ps)) ≡ true
    → every (λ (x : Fields). not (p x)) xs ≡ true
    → every (λ (x : Fields). every (λ (f : Fields). not (eqb x.key f.key)) (items_of ps)) xs ≡ true
    → count p (items_of (join_all n (map (λ (x : Fields). x.key) xs) (insert_all xs ps))) ≡ count p (items_of ps)
joins_other p o n xs ps r none away =
    join_all-same p o n (map (λ (x : Fields). x.key) xs) qs r
    (every-mapped (λ (s : ℕ). not (last_at p s qs)) (λ (x : Fields). x.key) xs
    ∙ every_map (λ (x : Fields). any (at x.key) xs && every (λ (f : Fields). not (at x.key f)) (items_of ps)) (λ (x : Fields). not (last_at p x.key qs)) one
    xs (every_both (λ (x : Fields). any (at x.key) xs) (λ (x : Fields). every (λ (f : Fields). not (at x.key f)) (items_of ps)) xs (every-listed (λ (x : Fields). x.key) xs) away))
    ∙ insert_all-counts p xs ps ∙ rw (count_none p xs none) (omega arith)
  where
    qs : List Piece
    qs = insert_all xs ps

    at : ℕ → Fields → Bool
    at s f = eqb s f.key

    one : (x : Fields) → (any (at x.key) xs && every (λ (f : Fields). not (at x.key f)) (items_of ps)) ≡ true → not (last_at p x.key qs) ≡ true
    one x e =
        let here : any (at x.key) xs ≡ true = both_left (any (at x.key) xs) (every (λ (f : Fields). not (at x.key f)) (items_of ps)) e in
        let t : Fields → Bool = λ f. not (at x.key f) || not (p f) in
        rw (last_at_lem p x.key qs r
        (count-any (at x.key) (items_of qs) (omega (arith, insert_all-counts (at x.key) xs ps, any-count (at x.key) xs here)))
        (every-insert_all t xs ps (every_map (λ (f : Fields). not (p f)) t (λ f h. either_right (not (at x.key f)) (not (p f)) h) xs none)
        (every_map (λ (f : Fields). not (at x.key f)) t (λ f h. either_left (not (at x.key f)) (not (p f)) h) (items_of ps) (both_right (any (at x.key) xs) (every (λ (f : Fields). not (at x.key f)) (items_of ps)) e))))
        refl

module _ (g : Ground) (c : Change) where
  -- the shares of splits, but for extents in place
  abbrev pub kept_shares : List Ref
  kept_shares = keep (λ (r : Ref). not (any (eqb r.start) (extents_in_place g c))) (split_refs g c)

  -- each item in place is of an extent in place
  pub written_listed : every (λ (x : Fields). any (eqb x.extent_start) (extents_in_place g c)) (items_in_place g c) ≡ true
  written_listed =
      let xs : List Fields = items_in_place g c in
      let k : Fields → ℕ = λ x. x.extent_start in
      every_map (λ (a : Fields). any (λ (d : Fields). eqb (k a) (k d)) xs) (λ (x : Fields). any (eqb (k x)) (extents_in_place g c))
      (λ x e. ap (any (eqb (k x))) (each_map g (item_in_place g) k c.rewrites) ∙ any-mapped (eqb (k x)) k xs ∙ e) xs (every-listed k xs)

  -- the extents in place are those of the items
  pub listed-written : (st : ℕ) → any (eqb st) (extents_in_place g c) ≡ any (λ (x : Fields). eqb st x.extent_start) (items_in_place g c)
  listed-written st = ap (any (eqb st)) (each_map g (item_in_place g) (λ (x : Fields). x.extent_start) c.rewrites) ∙ any-mapped (eqb st) (λ (x : Fields). x.extent_start) (items_in_place g c)

module _ (g : Ground) (c : Change) (fair : Fair g c) where
  -- no piece of the cut has the key of an item in place
  keys_away : every (λ (x : Fields). every (λ (f : Fields). not (eqb x.key f.key)) (items_of (cut_items g c))) (items_in_place g c) ≡ true
  keys_away =
      each_every g (item_in_place g) (rewrite_inside g c) (λ (x : Fields). every (λ (f : Fields). not (eqb x.key f.key)) (items_of (cut_items g c)))
      (λ r h u s.
      let i = inside g c r u in
      let low = i.low in
      let high = i.high in
      let full = sector-some g c fair in
      let fs : List Fields = items_of (cut_items g c) in
      every_map (λ (f : Fields). clear c.lo c.hi f && (item_sound g.file f && ranged f)) (λ (f : Fields). not (eqb r.sector f.key))
      (λ f e.
      let k = both_right (clear c.lo c.hi f) (item_sound g.file f && ranged f) e in
      let b = (item-ranged g.file f (both_left (item_sound g.file f) (ranged f) k) (both_right (item_sound g.file f) (ranged f) k)).some in
      rw (ne_eqb r.sector f.key (λ q. ⊎_elim (λ x. omega arith) (λ x. omega arith) (clear_facts c.lo c.hi f (both_left (clear c.lo c.hi f) (item_sound g.file f && ranged f) e)))) refl)
      fs (every_both (clear c.lo c.hi) (λ (f : Fields). item_sound g.file f && ranged f) fs (cut-clear c.lo c.hi (before g c) (omega arith))
      (every_both (item_sound g.file) ranged fs (kept-cut-items g c fair).sound (ranged-cut c.lo c.hi (before g c) fair.sound.ranges))))
      c.rewrites fair.rewrites

  -- writes in place and joins change no number of other references
  pub others-joined : (q : Ref → Bool) → count (ref_passes (other_ref (extents_in_place g c) q)) (items_of (pieces_joined g c)) ≡ count (ref_passes (other_ref (extents_in_place g c) q)) (items_of (cut_items g c))
  unfolding pieces_joined pieces_written
  others-joined q =
      let p : Fields → Bool = ref_passes (other_ref (extents_in_place g c) q) in
      ap (λ (l : List ℕ). count p (items_of (join_all (new_generation g) l (insert_all (items_in_place g c) (cut_items g c))))) (each_map g (item_in_place g) (λ (x : Fields). x.key) c.rewrites)
      ∙ joins_other p (passes_joins (other_ref (extents_in_place g c) q)) (new_generation g) (items_in_place g c) (cut_items g c) (kept-written g c fair).rising
      (every_map (λ (x : Fields). any (eqb x.extent_start) (extents_in_place g c)) (λ (x : Fields). not (p x)) (λ x e. rw e (go (named x))) (items_in_place g c) (written_listed g c))
      keys_away
    where
      go : (b : Bool) → not (b && false) ≡ true
      go true = refl
      go false = refl

  -- the drops are the covered items of other extents
  pub drops-counted : (q : Ref → Bool) → count (λ (d : InLeaf). q (ref_of d.item)) (drops g c) ≡ count (λ (f : Fields). covered c.lo c.hi f && ref_passes (other_ref (extents_in_place g c) q) f) (before g c)
  unfolding drops
  drops-counted q =
      count-keep (λ (d : InLeaf). q (ref_of d.item)) dropped g.in_leaves
      ∙ count_where (λ (d : InLeaf). ranged d.item) (λ (d : InLeaf). dropped d && q (ref_of d.item)) (λ (d : InLeaf). counted d.item) (λ d. one d.item) g.in_leaves (sym (every-mapped ranged (λ (d : InLeaf). d.item) g.in_leaves) ∙ fair.sound.ranges)
      ∙ sym (count_map counted (λ (d : InLeaf). d.item) g.in_leaves)
    where
      dropped : InLeaf → Bool
      dropped d = covered c.lo c.hi d.item && (not (hole d.item) && not (among (extents_in_place g c) d.item))

      counted : Fields → Bool
      counted f = covered c.lo c.hi f && ref_passes (other_ref (extents_in_place g c) q) f

      go : (v r h a b : Bool) → r ≡ true → ((v && (not h && not ((r && not h) && a))) && b) ≡ (v && ((r && not h) && (not a && b)))
      go false r h a b e = refl
      go true false h a b e = absurd (false≢true e)
      go true true true a b e = refl
      go true true false true b e = refl
      go true true false false b e = refl

      one : (f : Fields) → ranged f ≡ true → ((covered c.lo c.hi f && (not (hole f) && not (among (extents_in_place g c) f))) && q (ref_of f)) ≡ counted f
      one f r = rw (among-listed (extents_in_place g c) f) (go (covered c.lo c.hi f) (ranged f) (hole f) (any (eqb f.extent_start) (extents_in_place g c)) (q (ref_of f)) r)

  -- a split shares an item
  split_passes : (q : Ref → Bool) (f : Fields) → ranged f ≡ true → (split c.lo c.hi f && q (ref_of f)) ≡ (split c.lo c.hi f && ref_passes q f)
  split_passes q f r = go (ltb c.lo c.hi) (ltb f.key c.lo && ltb c.hi (end f)) (hole f) (ranged f) (q (ref_of f)) r
    where
      go : (l m h r b : Bool) → r ≡ true → ((l && (m && not h)) && b) ≡ ((l && (m && not h)) && ((r && not h) && b))
      go false m h r b e = refl
      go true false h r b e = refl
      go true true true r b e = refl
      go true true false true b e = refl
      go true true false false b e = absurd (false≢true e)

  splits_counted : (q : Ref → Bool) → count q (split_refs g c) ≡ count (λ (f : Fields). split c.lo c.hi f && ref_passes q f) (before g c)
  splits_counted q =
      count_map q ref_of (keep (split c.lo c.hi) (before g c))
      ∙ count-keep (λ (f : Fields). q (ref_of f)) (split c.lo c.hi) (before g c)
      ∙ count_where ranged (λ (f : Fields). split c.lo c.hi f && q (ref_of f)) (λ (f : Fields). split c.lo c.hi f && ref_passes q f) (split_passes q) (before g c) fair.sound.ranges

  -- the shares kept are the splits of other extents
  pub shares-counted : (q : Ref → Bool) → count q (kept_shares g c) ≡ count (λ (f : Fields). split c.lo c.hi f && ref_passes (other_ref (extents_in_place g c) q) f) (before g c)
  shares-counted q = count-keep q (λ (r : Ref). not (any (eqb r.start) (extents_in_place g c))) (split_refs g c) ∙ splits_counted (other_ref (extents_in_place g c) q)

  -- drops that are not refused
  pub drops-zero : change_refusal g c ≡ 0 → drops_refusal g.rows (drops g c) ≡ 0
  unfolding change_refusal
  drops-zero z = (first_of_zero _ z).1.1.1.1.0

  -- an extent in place is named before
  pub in_place_named : (st : ℕ) → any (eqb st) (extents_in_place g c) ≡ true → 0 < naming st (before g c)
  in_place_named st h =
      let z = any_some (λ (x : Fields). eqb st x.extent_start) (λ (x : Fields). any (names x.extent_start) (before g c)) (items_in_place g c) (sym (listed-written g c st) ∙ h)
      (each_every g (item_in_place g) (rewrite_inside g c) (λ (x : Fields). any (names x.extent_start) (before g c))
      (λ r k u s. let f = holder_facts g r k s in
      any-mapped (names k.item.extent_start) (λ (d : InLeaf). d.item) g.in_leaves
      ∙ any_mem (λ (d : InLeaf). names k.item.extent_start d.item) f.member (rw (f.ranges, f.solid, eq-eqb k.item.extent_start k.item.extent_start refl) refl))
      c.rewrites fair.rewrites) in
      any-count (names st) (before g c) (rw (eqb-true st z.0.extent_start z.1) z.2)

  module _ (limit : ℕ) (pos : 0 < limit) (sectors : limit % g.sector ≡ 0) (places : List ℕ) (sound : places_sound g.rows places (wanted g c limit) ≡ true) where
    -- each new item is an add's reference
    adds-counted : (q : Ref → Bool) → count (ref_passes q) (new_items g places (wanted g c limit)) ≡ count (λ (a : Add). q (record { start = a.start; offset = a.key })) (placed places (wanted g c limit))
    adds-counted q =
        new-count g (place_sound g.rows) (wanted_sound g.sector) (ref_passes q) (λ (a : Add). q (record { start = a.start; offset = a.key }))
        (λ p w v u. let k = wants g.sector w u in rw (k.kind, place_some g.rows p w v, new-reference g p w k) refl)
        places (wanted g c limit) (adds-sound g c fair limit pos sectors places sound) (wanted-sound g c fair limit pos sectors)

    -- references after, unrefs and releases are references before, shares and adds
    pub balance : change_refusal g c ≡ 0 → (q : Ref → Bool)
        → count (ref_passes q) (items_of (pieces_after g c limit places)) + (count q (plan_of g c limit places).unrefs + count q (plan_of g c limit places).releases)
        ≡ count (ref_passes q) (before g c) + (count q (plan_of g c limit places).shares + count (λ (a : Add). q (record { start = a.start; offset = a.key })) (plan_of g c limit places).adds)
    unfolding pieces_after
    balance z q =
        let e : List ℕ = extents_in_place g c in
        omega (
          arith,
          insert_all-counts (ref_passes q) (new_items g places (wanted g c limit)) (pieces_joined g c),
          adds-counted q,
          split-count e q (items_of (pieces_joined g c)),
          split-count e q (before g c),
          compared_balance e (before g c) (items_of (pieces_joined g c)) q,
          others-joined q,
          cut-count (ref_passes (other_ref e q)) (passes_pieces (other_ref e q)) c.lo c.hi (before g c),
          drops-counted q,
          drops-lines q g.rows (drops g c) fair.sound.table (drops-zero z),
          shares-counted q,
          count_append q (kept_shares g c) (shares_compared g c),
          count_append q (compared_unrefs e (before g c) (items_of (pieces_joined g c))) (unrefs g.rows (drops g c)),
        )

    -- ---- new extents are new

    -- no add has a row
    pub adds_fresh : (k : ℕ) (e : Add) → k < length (plan_of g c limit places).adds → find (get_or (plan_of g c limit places).adds k e).start g.rows ≡ None
    adds_fresh k e l =
        let ws : List Wanted = wanted g c limit in
        let w : Wanted = record { key = 0; length = 0; kind = 0 } in
        let row : Row = record { start = 0; length = 0; references = 0; made = 0; keyed = 0 } in
        let n = places_count g.rows places ws sound in
        let m = placed-length places ws n in
        let f = place_missing g.rows places ws sound w (λ i h. (wants g.sector (get_or ws i w) (every-at (wanted_sound g.sector) ws (wanted-sound g c fair limit pos sectors) i w h)).some) k row (omega arith) (λ i h. kept-length g.rows fair.sound.table i row h) in
        rw (placed_at places ws k e w (omega arith) (omega arith)) f

    -- so none is at an extent that has one
    pub adds-elsewhere : (st k : ℕ) (row : Row) → find st g.rows ≡ Some (k, row) → count (λ (a : Add). eqb a.start st) (plan_of g c limit places).adds ≡ 0
    adds-elsewhere st k row f =
        let new : List Add = placed places (wanted g c limit) in
        let e : Add = record { start = 0; length = 0; key = 0 } in
        count_none (λ (a : Add). eqb a.start st) new
        (at_every (λ (a : Add). not (eqb a.start st)) e new
        (λ i l. rw (ne_eqb (get_or new i e).start st (λ q. let m : find st g.rows ≡ None = rw q at (adds_fresh i e l) in let z : ◌≡◌ {A = ℕ} 0 1 = cc in omega arith)) refl))

    -- ---- shared extents are named

    pub shares-named : (st : ℕ) → 0 < count (λ (r : Ref). eqb r.start st) (plan_of g c limit places).shares → 0 < naming st (before g c)
    shares-named st h = go (any (eqb st) (extents_in_place g c)) refl
      where
        go : (b : Bool) → any (eqb st) (extents_in_place g c) ≡ b → 0 < naming st (before g c)
        go true e = in_place_named st e
        go false e =
            let q : Ref → Bool = λ r. eqb r.start st in
            omega (
              arith,
              count_append q (kept_shares g c) (shares_compared g c),
              shares-other (extents_in_place g c) (before g c) (items_of (pieces_joined g c)) st e,
              shares-counted q,
              count_most (λ (f : Fields). split c.lo c.hi f && ref_passes (other_ref (extents_in_place g c) q) f) (names st) (λ f k.
                  let y = both_right (split c.lo c.hi f) (ref_passes (other_ref (extents_in_place g c) q) f) k in
                  both (named f) (eqb f.extent_start st) (both_left (named f) (other_ref (extents_in_place g c) q (ref_of f)) y) (both_right (not (any (eqb f.extent_start) (extents_in_place g c))) (eqb f.extent_start st) (both_right (named f) (other_ref (extents_in_place g c) q (ref_of f)) y))) (before g c),
            )
