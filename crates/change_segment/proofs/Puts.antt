-- A segment through its steps: items put in, and joins. Assumes nothing.
use mathlib.Core.Path.{◌≡◌, refl, ap, ◌∙◌}
use mathlib.Core.List.{List, [], ◌∷◌, ◌++◌, map}
use Prim.Native.Nat.{ℕ, ◌+◌, ◌<◌, ◌≤◌, ◌^◌}
use native.Mathlib.Omega.{arith}
use Rattle.std.specs.Prelude.{Option, Some, None, option_to_list}
use Rattle.std.specs.Option.{ForSome}
use Rattle.item.specs.Items.{Fields, items, end}
use Rattle.cut_def.specs.Pieces.{Piece, insert, insert_all, cut_pieces}
use Rattle.cut_def.specs.Joins.{join_around, join_all}
use Rattle.cut_segment.specs.declared.Running.{Running}
use Rattle.cut_segment.specs.declared.making.Making.{Making}
use Rattle.cut_segment.specs.declared.remade.Remade.{Remade}
use Rattle.cut_segment.specs.Segments.{item_at, pieces}
use Rattle.cut_segment.specs.Making.{Of, CutFrom, Stays}
use Rattle.cut_segment.proofs.Inserting.{inserted_pieces, inserted_around, inserted_first, inserted_lower}
use Rattle.cut_joins.specs.Joins.{Reaching}
use Rattle.cut_joins.proofs.Joining.{joining_around}
use Rattle.change_def.specs.declared.Rewrite.{Rewrite}
use Rattle.change_def.specs.declared.RangeChange.{RangeChange}
use Rattle.change_def.proofs.Filled.{insert_parts}
use Rattle.change_rewrites.specs.declared.in_place.InPlace.{InPlace}
use Rattle.change_rewrites.specs.Raw.{item_of}
use Rattle.change_segment.specs.declared.Parts.{Parts}
use Rattle.change_segment.specs.declared.Stamp.{Stamp}
use Rattle.change_segment.specs.Raw.{PutIf, JoinedIf, MadeIn, MadeOf, Within, Inside, new_of}
use Rattle.change_segment.specs.Sides.{anew, front_new, back_new, sides, sector_of, written_pieces}

-- ---- what is made

-- what stays through one step more
stays-of : (l : Running) (n : ℕ) (m m' : Making) → Of l n m → Stays m m' → Of l n m'
stays-of l n m m' d s = record { list = s.list ∙ d.list; room = s.room ∙ d.room }

-- after the cut
pub made_cut : (lo hi : ℕ) (l : Running) (room : ℕ) (m : Making) → CutFrom lo hi l room m → MadeIn (cut_pieces lo hi (items l.records.now)) lo hi 2 l room m
made_cut lo hi l room m c = record { those = c.those; made = rw c.those.list (record { same = c.cut.same; few = c.cut.few; around = c.cut.around }) }

-- an item in what is cut
abbrev pub Fitting : (lo hi : ℕ) → Fields → Type 0
Fitting lo hi x = (lo ≤ x.key) × (x.key < hi) × (end x ≤ 2 ^ 63)

insert_one : (x : Fields) (ps : List Piece) → insert x ps ≡ insert_all (x ∷ []) ps
unfolding insert_all
insert_one x ps = refl

insert_nothing : (ps : List Piece) → insert_all [] ps ≡ ps
unfolding insert_all
insert_nothing ps = refl

join_one : (g k : ℕ) (ps : List Piece) → join_around g k ps ≡ join_all g (k ∷ []) ps
unfolding join_all
join_one g k ps = refl

join_nothing : (g : ℕ) (ps : List Piece) → join_all g [] ps ≡ ps
unfolding join_all
join_nothing g ps = refl

module _ (ps : List Piece) (lo hi n : ℕ) (l : Running) (room : ℕ) (m m' : Making) (d : MadeIn ps lo hi n l room m) (t : Stays m m') where
  -- where nothing was done
  same_made : (k : ℕ) → n ≤ k → (m'.segment ≡ m.segment) × (m'.buffer.now ≡ m.buffer.now) → MadeIn ps lo hi k l room m'
  same_made k h w = record { those = stays-of l room m m' d.those t; made = rw (t.list, w.0, w.1) (record { same = d.made.same; few = omega (arith, d.made.few); around = d.made.around }) }

  -- after an item was put in
  pub made-put : {A : Type 0} (o : Option A) (item : A → Fields) → PutIf o item m m' → ForSome o (λ (a : A). Fitting lo hi (item a)) → MadeIn (insert_all (map item (option_to_list o)) ps) lo hi (n + 1) l room m'
  made-put (Some a) item i q =
      let list : List ℕ = m.list.records.now in
      let x : Fields = item a in
      let k : Fitting lo hi x = q a refl in
      let a = d.made.around x.key k.0 k.1 in
      let e : pieces list m'.segment m'.buffer.now ≡ insert_all (x ∷ []) ps = inserted_pieces x list m.segment m.buffer.now m'.segment m'.buffer.now i a ∙ ap (insert x) d.made.same ∙ insert_one x ps in
      record {
        those = stays-of l room m m' d.those t;
        made =
            rw t.list
            (record {
              same = e;
              few = omega (arith, i.count, d.made.few);
              around = λ k p h. inserted_around x list m.segment m.buffer.now m'.segment m'.buffer.now i k (d.made.around k p h);
            });
      }
  made-put None item w q = rw insert_nothing (same_made (n + 1) (omega arith) w)

  -- after the joins around a sector
  pub made-join : (o : Option InPlace) (g : ℕ) → JoinedIf o g m m' → MadeIn (join_all g (map sector_of (option_to_list o)) ps) lo hi n l room m'
  made-join (Some w) g j =
      let list : List ℕ = m.list.records.now in
      let k : ℕ = sector_of w in
      let e : pieces list m'.segment m'.buffer.now ≡ join_all g (k ∷ []) ps = j.same ∙ ap (join_around g k) d.made.same ∙ join_one g k ps in
      record {
        those = stays-of l room m m' d.those t;
        made =
            rw t.list
            (record {
              same = e;
              few = omega (arith, j.most, d.made.few);
              around = λ o p h. joining_around g k o list m.segment m.buffer.now m'.segment m'.buffer.now j (d.made.around o p h);
            });
      }
  made-join None g w = rw join_nothing (same_made n (omega arith) w)

-- read
pub made_read : (ps : List Piece) (lo hi n : ℕ) (l : Running) (room : ℕ) (m : Making) (r : Remade) → MadeIn ps lo hi n l room m → (r.list ≡ m.list) × (r.buffer.now ≡ m.buffer.now) × (r.segment ≡ m.segment) → MadeOf ps lo hi n l r
made_read ps lo hi n l room m r d e = record { list = e.0 ∙ d.those.list; made = rw (← d.those.list, e.1, e.2) d.made }

-- ---- a segment that starts at or before an offset

abbrev pub Reaches : ℕ → Making → Type 0
Reaches k m = (0 < m.segment.count) × ((item_at m.buffer.now 0).key ≤ k)

module _ (m m' : Making) where
  -- it starts with what was put in, or before
  pub put_reaches : {A : Type 0} (o : Option A) (item : A → Fields) → PutIf o item m m' → (a : A) → o ≡ Some a → Reaches (item a).key m'
  put_reaches o item p a t = let f = inserted_first (item a) m.list.records.now m.segment m.buffer.now m'.segment m'.buffer.now (rw t at p) in (f.0, f.1)

  -- and does so after more
  pub put_keeps : {A : Type 0} (o : Option A) (item : A → Fields) (k : ℕ) → PutIf o item m m' → Reaches k m → Reaches k m'
  put_keeps (Some a) item k i q =
      let l = inserted_lower (item a) m.list.records.now m.segment m.buffer.now m'.segment m'.buffer.now i q.0 m.good.room in
      let f = inserted_first (item a) m.list.records.now m.segment m.buffer.now m'.segment m'.buffer.now i in
      (f.0, omega (arith, l, q.1))
  put_keeps None item k w q = rw (w.0, w.1) q

  pub join_keeps : (o : Option InPlace) (g k : ℕ) → JoinedIf o g m m' → Reaches k m → Reaches k m'
  join_keeps (Some w) g k j q = (j.some, omega (arith, j.first, q.1))
  join_keeps None g k w q = rw (w.0, w.1) q

-- ---- all steps of a change with no place taken

join_two : (g : ℕ) (xs ys : List ℕ) (ps : List Piece) → join_all g (xs ++ ys) ps ≡ join_all g ys (join_all g xs ps)
unfolding join_all
join_two g [] ys ps = refl
join_two g (x ∷ xs) ys ps = join_two g xs ys (join_around g x ps)

module _ (t : Stamp) (c : RangeChange) (p : Parts) (l : Running) (room : ℕ) (inside : Inside t.sector c p) where
  abbrev item : InPlace → Fields
  item w = item_of t.generation t.sector w

  fitting : (w : InPlace) → Within t.sector c w.rewrite → Fitting c.lo c.hi (item w)
  fitting w d = (d.low, omega (arith, d.some, d.high), omega (arith, d.high, d.limit))

  module _ (m0 m1 : Making) (cut : CutFrom c.lo c.hi l room m0) (p1 : PutIf p.front item m0 m1) (t1 : Stays m0 m1) where
    pub made1 : MadeIn (insert_all (map item (option_to_list p.front)) (cut_pieces c.lo c.hi (items l.records.now))) c.lo c.hi 3 l room m1
    made1 = made-put _ c.lo c.hi 2 l room m0 m1 (made_cut c.lo c.hi l room m0 cut) t1 p.front item p1 (λ w e. fitting w (inside.front w e))

    module _ (m2 : Making) (p2 : PutIf p.back item m1 m2) (t2 : Stays m1 m2) where
      abbrev both_in : List Piece
      both_in = insert_all (sides p.front p.back item item) (cut_pieces c.lo c.hi (items l.records.now))

      pub made2 : MadeIn both_in c.lo c.hi 4 l room m2
      made2 =
          rw (insert_parts (map item (option_to_list p.front)) (map item (option_to_list p.back)) (cut_pieces c.lo c.hi (items l.records.now)))
          (made-put _ c.lo c.hi 3 l room m1 m2 made1 t2 p.back item p2 (λ w e. fitting w (inside.back w e)))

      -- what the joins ask for
      pub join_front : ForSome p.front (λ (w : InPlace). Reaching w.rewrite.sector m2)
      join_front w e =
          let i = fitting w (inside.front w e) in
          let r = put_keeps m1 m2 p.back item (sector_of w) p2 (put_reaches m0 m1 p.front item p1 w e) in
          record { around = made2.made.around (sector_of w) i.0 i.1; some = r.0; first = r.1 }

      module _ (m3 : Making) (j1 : JoinedIf p.front t.generation m2 m3) (t3 : Stays m2 m3) where
        made3 : MadeIn (join_all t.generation (map sector_of (option_to_list p.front)) both_in) c.lo c.hi 4 l room m3
        made3 = made-join both_in c.lo c.hi 4 l room m2 m3 made2 t3 p.front t.generation j1

        pub join_back : ForSome p.back (λ (w : InPlace). Reaching w.rewrite.sector m3)
        join_back w e =
            let i = fitting w (inside.back w e) in
            let r = join_keeps m2 m3 p.front t.generation (sector_of w) j1 (put_reaches m1 m2 p.back item p2 w e) in
            record { around = made3.made.around (sector_of w) i.0 i.1; some = r.0; first = r.1 }

        pub made_all : (m4 : Making) → JoinedIf p.back t.generation m3 m4 → Stays m3 m4 → MadeIn (written_pieces t.generation t.sector c p (items l.records.now)) c.lo c.hi 4 l room m4
        made_all m4 j2 t4 =
            rw (join_two t.generation (map sector_of (option_to_list p.front)) (map sector_of (option_to_list p.back)) both_in)
            (made-join _ c.lo c.hi 4 l room m3 m4 made3 t4 p.back t.generation j2)

-- ---- and with the new items

-- what takes a new extent is rewritten
pub anew_of : (r : Option Rewrite) (w : Option InPlace) (x : Rewrite) → anew r w ≡ Some x → r ≡ Some x
anew_of r None x e = e
anew_of r (Some w) x e = cc

module _ (t : Stamp) (c : RangeChange) (p : Parts) (x y : ℕ) (l : Running) (room : ℕ) (inside : Inside t.sector c p) where
  new-inside : (r : Rewrite) (place : ℕ) → Within t.sector c r → Fitting c.lo c.hi (new_of t r place)
  new-inside r place w = (w.low, omega (arith, w.some, w.high), omega (arith, w.high, w.limit))

  new_fits : (o : Option Rewrite) (w : Option InPlace) (place : ℕ) → ForSome o (Within t.sector c) → ForSome (anew o w) (λ (r : Rewrite). Fitting c.lo c.hi (new_of t r place))
  new_fits o w place h r e = new-inside r place (h r (anew_of o w r e))

  module _ (ps : List Piece) (m0 m1 : Making) (m : MadeIn ps c.lo c.hi 4 l room m0) (p1 : PutIf (front_new c p) (λ (r : Rewrite). new_of t r x) m0 m1) (t1 : Stays m0 m1) where
    pub new1 : MadeIn (insert_all (map (λ (r : Rewrite). new_of t r x) (option_to_list (front_new c p))) ps) c.lo c.hi 5 l room m1
    new1 = made-put ps c.lo c.hi 4 l room m0 m1 m t1 (front_new c p) (λ (r : Rewrite). new_of t r x) p1 (new_fits c.front p.front x inside.«new-front»)

    pub new_all : (m2 : Making) → PutIf (back_new c p) (λ (r : Rewrite). new_of t r y) m1 m2 → Stays m1 m2
        → MadeIn (insert_all (sides (front_new c p) (back_new c p) (λ (r : Rewrite). new_of t r x) (λ (r : Rewrite). new_of t r y)) ps) c.lo c.hi 6 l room m2
    new_all m2 p2 t2 =
        rw (insert_parts (map (λ (r : Rewrite). new_of t r x) (option_to_list (front_new c p))) (map (λ (r : Rewrite). new_of t r y) (option_to_list (back_new c p))) ps)
        (made-put _ c.lo c.hi 5 l room m1 m2 new1 t2 (back_new c p) (λ (r : Rewrite). new_of t r y) p2 (new_fits c.back p.back y inside.«new-back»))
