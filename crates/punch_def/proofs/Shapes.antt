-- What the change that a punch asks for cuts and rewrites, from its start on. Assumes nothing.
use mathlib.Core.Path.{◌≡◌, refl, ◌∙◌, sym}
use mathlib.Core.Bool.{Bool, true, false, cond, ◌&&◌, not}
use mathlib.Core.List.Memᴰ
use mathlib.Core.List.{List, [], ◌∷◌, ◌++◌, Memᴰ}
use mathlib.Core.Logic.{◌⊎◌, inl, inr, ⊎_elim}
use Prim.Native.Nat.{ℕ, ◌+◌, ◌-◌, ◌%◌, ◌≤◌, ◌<◌, max, min}
use native.Mathlib.Omega.{arith}
use native.Mathlib.Nat.{add-mod_right}
use native.Mathlib.Decide.{dec_lt}
use lib.Dec.{eqb, leb, ltb}
use borrow.Author.Tests.{eqb-true, eqb-false, ne_eqb, ltb-true, ltb-false, lt-ltb, le-leb, not-true}
use Rattle.records.specs.Stages.{every, pairs}
use Rattle.records.specs.Select.{only}
use Rattle.records.proofs.Tests.{both_left, both_right}
use Rattle.item.specs.Items.{Fields}
use Rattle.cut_def.specs.Mappings.{holder}
use Rattle.change_def.specs.Rounding.{round_down, round_up}
use Rattle.change_def.specs.declared.Rewrite.{Rewrite}
use Rattle.change_def.specs.Changes.{Change}
use Rattle.change_def.proofs.Rounding.{whole_next, down_below, down_near, down_whole, down_last, down_rises, up_above, up_whole, up_first}
use Rattle.punch_def.specs.Punch.{held_by, in_one_sector, first_part, last_part, within_sector, across_sectors, punch_change, Part}

-- ---- one of a list, or none

only_one : {A : Type 0} (b : Bool) (a w : A) → Memᴰ w (only b a) → (b ≡ true) × (w ≡ a)
only_one true a w m = (refl, Memᴰ.eq_of_singleton m)
only_one false a w m = absurd (Memᴰ.not-nil m)

one_only : {A : Type 0} (b : Bool) (a : A) → b ≡ true → Memᴰ a (only b a)
one_only b a e = rw e (Memᴰ.head refl)

pairs-two : {A : Type 0} (t : A → A → Bool) (p q : Bool) (a b : A) → t a b ≡ true → pairs t (only p a ++ only q b) ≡ true
unfolding every pairs
pairs-two t true true a b h = rw h refl
pairs-two t true false a b h = refl
pairs-two t false true a b h = refl
pairs-two t false false a b h = refl

-- ---- sectors

module _ (s : ℕ) (pos : 0 < s) where
  -- the sector that an offset is in
  pub sector_of : (y o : ℕ) → y % s ≡ 0 → y ≤ o → o < y + s → y ≡ round_down s o
  sector_of y o w l h =
      elim (dec_lt y (round_down s o)) [
        | yes m ↦ absurd (omega (arith, whole_next s pos y (round_down s o) w (down_whole s pos o) m, down_below s pos o))
        | no m ↦ omega (arith, down_last s pos o y w l)
      ]

  next_whole : (y : ℕ) → y % s ≡ 0 → (y + s) % s ≡ 0
  next_whole y w = add-mod_right y s ∙ w

-- ---- what is to be rewritten, and what a change is to be

module _ (fs : List Fields) (size s x stop : ℕ) where
  -- a sector that [x, stop) covers in part is rewritten with what is covered of it zero, inside the cut
  pub record Rewritten (lo hi : ℕ) (w : Rewrite) : Type 0 where
    pub part : Part fs size s x stop w.sector
    pub first : w.first ≡ max x w.sector
    pub end : w.end ≡ min stop (w.sector + s)
    pub lower : lo ≤ w.sector
    pub upper : w.sector + s ≤ hi

  pub record Drawn (c : Change) : Type 0 where
    pub lower : c.lo % s ≡ 0
    pub upper : c.hi % s ≡ 0
    pub order : c.lo ≤ c.hi
    pub begins : round_down s x ≤ c.lo
    pub ends : c.hi ≤ round_up s stop
    pub inside : (o : ℕ) → round_up s x ≤ o → o < round_down s stop → (c.lo ≤ o) × (o < c.hi)
    pub rewritten : (w : Rewrite) → Memᴰ w c.rewrites → Rewritten c.lo c.hi w
    pub parts : (y : ℕ) → Part fs size s x stop y → (w : Rewrite) × Memᴰ w c.rewrites × (w.sector ≡ y)
    pub rising : pairs (λ (r t : Rewrite). leb (r.sector + s) t.sector) c.rewrites ≡ true
    pub unfilled : c.holes ≡ []
    pub sized : c.size ≡ size

module _ (fs : List Fields) (size s x stop : ℕ) (pos : 0 < s) (before : x < stop) (held : held_by (holder (round_down s x) fs) ≡ true) where
  -- the start's sector is below the size rounded up if the start is
  start-below : round_down s x < round_up s size → x < round_up s size
  start-below h = omega (arith, whole_next s pos (round_down s x) (round_up s size) (down_whole s pos x) (up_whole s pos size) h, down_near s pos x)

  -- ---- inside one sector

  module _ (same : round_down s x ≡ round_down s (stop - 1)) (short : stop - x < s) where
    stop_near : stop ≤ round_down s x + s
    stop_near = omega (arith, down_near s pos (stop - 1))

    no-sector : round_down s stop ≤ round_up s x
    no-sector =
        elim (dec_lt (round_up s x) (round_down s stop)) [
          | yes l ↦ absurd (omega (arith, whole_next s pos (round_up s x) (round_down s stop) (up_whole s pos x) (down_whole s pos stop) l, up_above s pos x, down_below s pos stop))
          | no l ↦ omega arith
        ]

    -- only the start's sector is covered in part
    the_part : (y : ℕ) → Part fs size s x stop y → y ≡ round_down s x
    the_part y p = sector_of s pos y x p.aligned (omega (arith, down_last s pos (stop - 1) y p.aligned (omega arith), down_below s pos x)) p.ends

    within : Drawn fs size s x stop (within_sector size s x stop)
    unfolding pairs every
    within = go (ltb x (round_up s size)) refl
      where
        partly : (round_down s x < x) ⊎ (stop < round_down s x + s)
        partly =
            elim (dec_lt (round_down s x) x) [
              | yes l ↦ inl l
              | no l ↦ inr (omega (arith, down_below s pos x))
            ]

        w : Rewrite
        w = record { sector = round_down s x; first = x; end = stop }

        this : x < round_up s size → Rewritten fs size s x stop (round_down s x) (round_down s x + s) w
        this l =
            record {
              part = record { aligned = down_whole s pos x; begins = omega (arith, down_below s pos x); ends = down_near s pos x; partly = partly; below = omega (arith, down_below s pos x); held = held };
              first = omega (arith, down_below s pos x);
              end = omega (arith, stop_near);
              lower = omega arith;
              upper = omega arith;
            }

        go : (b : Bool) → ltb x (round_up s size) ≡ b
            → Drawn fs size s x stop
            (cond b (record { lo = round_down s x; hi = round_down s x + s; rewrites = w ∷ []; holes = []; size = size })
            (record { lo = round_down s x; hi = round_down s x; rewrites = []; holes = []; size = size }))
        go true e =
            record {
              lower = down_whole s pos x;
              upper = next_whole s pos (round_down s x) (down_whole s pos x);
              order = omega arith;
              begins = omega arith;
              ends = whole_next s pos (round_down s x) (round_up s stop) (down_whole s pos x) (up_whole s pos stop) (omega (arith, down_below s pos x, up_above s pos stop));
              inside = λ o l h. absurd (omega (arith, no-sector));
              rewritten = λ v m. rw (Memᴰ.eq_of_singleton m) (this (ltb-true x (round_up s size) e));
              parts = λ y p. (w, Memᴰ.head refl, sym (the_part y p));
              rising = refl;
              unfilled = refl;
              sized = refl;
            }
        go false e =
            record {
              lower = down_whole s pos x;
              upper = down_whole s pos x;
              order = omega arith;
              begins = omega arith;
              ends = omega (arith, down_below s pos x, up_above s pos stop);
              inside = λ o l h. absurd (omega (arith, no-sector));
              rewritten = λ v m. absurd (Memᴰ.not-nil m);
              parts = λ y p. absurd (omega (arith, start-below (rw (the_part y p) at p.below), ltb-false x (round_up s size) e));
              rising = refl;
              unfilled = refl;
              sized = refl;
            }

  -- ---- across sectors

  module _ (apart : round_down s x + s ≤ round_down s stop) where
    -- the two tests
    first_says : first_part size s x ≡ true → (round_down s x < x) × (x < round_up s size)
    first_says h =
        let t : Bool = not (eqb (round_down s x) x) in
        let u : Bool = ltb x (round_up s size) in
        let n = eqb-false (round_down s x) x (not-true (eqb (round_down s x) x) (both_left t u h)) in
        (omega (arith, down_below s pos x), ltb-true x (round_up s size) (both_right t u h))

    says_first : round_down s x < x → x < round_up s size → first_part size s x ≡ true
    says_first l h = rw (ne_eqb (round_down s x) x (λ e. omega arith), lt-ltb x (round_up s size) h) refl

    last_says : last_part fs size s stop ≡ true → (round_down s stop < stop) × (stop < round_up s size) × (held_by (holder (round_down s stop) fs) ≡ true)
    last_says h =
        let t : Bool = not (eqb (round_down s stop) stop) in
        let u : Bool = ltb stop (round_up s size) in
        let v : Bool = held_by (holder (round_down s stop) fs) in
        let n = eqb-false (round_down s stop) stop (not-true (eqb (round_down s stop) stop) (both_left t (u && v) h)) in
        let r : (u && v) ≡ true = both_right t (u && v) h in
        (omega (arith, down_below s pos stop), ltb-true stop (round_up s size) (both_left u v r), both_right u v r)

    says_last : round_down s stop < stop → stop < round_up s size → held_by (holder (round_down s stop) fs) ≡ true → last_part fs size s stop ≡ true
    says_last l h k = rw (ne_eqb (round_down s stop) stop (λ e. omega arith), lt-ltb stop (round_up s size) h, k) refl

    -- the cut's bounds
    start_up : round_up s x ≤ round_down s stop
    start_up = omega (arith, up_first s pos x (round_down s x + s) (next_whole s pos (round_down s x) (down_whole s pos x)) (omega (arith, down_near s pos x)))

    lo-is : (p : Bool) → (cond p (round_down s x) (round_up s x) % s ≡ 0) × (round_down s x ≤ cond p (round_down s x) (round_up s x)) × (cond p (round_down s x) (round_up s x) ≤ round_up s x)
    lo-is true = (down_whole s pos x, omega arith, omega (arith, down_below s pos x, up_above s pos x))
    lo-is false = (up_whole s pos x, omega (arith, down_below s pos x, up_above s pos x), omega arith)

    hi-is :
        (q : Bool) → last_part fs size s stop ≡ q
        → (cond q (round_down s stop + s) (round_down s stop) % s ≡ 0)
        × (round_down s stop ≤ cond q (round_down s stop + s) (round_down s stop))
        × (cond q (round_down s stop + s) (round_down s stop) ≤ round_up s stop)
    hi-is true e =
        (next_whole s pos (round_down s stop) (down_whole s pos stop), omega arith, whole_next s pos (round_down s stop) (round_up s stop) (down_whole s pos stop) (up_whole s pos stop) (omega (arith, (last_says e).0, up_above s pos stop)))
    hi-is false e = (down_whole s pos stop, omega arith, omega (arith, down_below s pos stop, up_above s pos stop))

    across : Drawn fs size s x stop (across_sectors fs size s x stop)
    across = go (first_part size s x) (last_part fs size s stop) refl refl
      where
        v : Rewrite
        v = record { sector = round_down s x; first = x; end = round_down s x + s }

        w : Rewrite
        w = record { sector = round_down s stop; first = round_down s stop; end = stop }

        first-is : (hi : ℕ) → round_down s stop ≤ hi → first_part size s x ≡ true → Rewritten fs size s x stop (round_down s x) hi v
        first-is hi l e =
            let f = first_says e in
            record {
              part = record { aligned = down_whole s pos x; begins = omega arith; ends = down_near s pos x; partly = inl f.0; below = omega arith; held = held };
              first = omega arith;
              end = omega (arith, down_below s pos stop);
              lower = omega arith;
              upper = omega arith;
            }

        last_is : (lo : ℕ) → lo ≤ round_up s x → last_part fs size s stop ≡ true → Rewritten fs size s x stop lo (round_down s stop + s) w
        last_is lo l e =
            let f = last_says e in
            record {
              part = record { aligned = down_whole s pos stop; begins = f.0; ends = omega (arith, down_near s pos x); partly = inr (down_near s pos stop); below = omega arith; held = f.2 };
              first = omega (arith, down_near s pos x);
              end = omega (arith, down_near s pos stop);
              lower = omega (arith, start_up);
              upper = omega arith;
            }

        go : (p q : Bool) → first_part size s x ≡ p → last_part fs size s stop ≡ q
            → Drawn fs size s x stop
            (record {
              lo = cond p (round_down s x) (round_up s x);
              hi = cond q (round_down s stop + s) (round_down s stop);
              rewrites = only p v ++ only q w;
              holes = [];
              size = size;
            })
        go p q ep eq =
            record {
              lower = (lo-is p).0;
              upper = (hi-is q eq).0;
              order = omega (arith, (lo-is p).2, (hi-is q eq).1, start_up);
              begins = (lo-is p).1;
              ends = (hi-is q eq).2;
              inside = λ o l h. (omega (arith, (lo-is p).2), omega (arith, (hi-is q eq).1));
              rewritten = λ r m. ⊎_elim (is-first r) (is_last r) (Memᴰ.append_cases (only p v) m);
              parts = λ y d. ⊎_elim (has_first y d) (has_last y d) d.partly;
              rising = pairs-two (λ (r t : Rewrite). leb (r.sector + s) t.sector) p q v w (le-leb (round_down s x + s) (round_down s stop) apart);
              unfilled = refl;
              sized = refl;
            }
          where
            lo : ℕ
            lo = cond p (round_down s x) (round_up s x)

            hi : ℕ
            hi = cond q (round_down s stop + s) (round_down s stop)

            is-first : (r : Rewrite) → Memᴰ r (only p v) → Rewritten fs size s x stop lo hi r
            is-first r m =
                let o = only_one p v r m in
                let e : lo ≡ round_down s x = rw o.0 refl in
                rw (o.1, e) (first-is hi (hi-is q eq).1 (ep ∙ o.0))

            is_last : (r : Rewrite) → Memᴰ r (only q w) → Rewritten fs size s x stop lo hi r
            is_last r m =
                let o = only_one q w r m in
                let e : hi ≡ round_down s stop + s = rw o.0 refl in
                rw (o.1, e) (last_is lo (lo-is p).2 (eq ∙ o.0))

            has_first : (y : ℕ) → Part fs size s x stop y → y < x → (r : Rewrite) × Memᴰ r (only p v ++ only q w) × (r.sector ≡ y)
            has_first y d l =
                let e : y ≡ round_down s x = sector_of s pos y x d.aligned (omega arith) d.ends in
                (v, Memᴰ.append_left (only q w) (one_only p v (sym ep ∙ says_first (omega arith) (start-below (rw e at d.below)))), sym e)

            has_last : (y : ℕ) → Part fs size s x stop y → stop < y + s → (r : Rewrite) × Memᴰ r (only p v ++ only q w) × (r.sector ≡ y)
            has_last y d l =
                let e : y ≡ round_down s stop = sector_of s pos y stop d.aligned (omega arith) l in
                let b : stop < round_up s size = omega (arith, whole_next s pos y (round_up s size) d.aligned (up_whole s pos size) d.below) in
                (w, Memᴰ.append_right (only p v) (one_only q w (sym eq ∙ says_last (omega arith) b (rw e at d.held))), sym e)

  -- ---- all cases

  pub drawn : Drawn fs size s x stop (punch_change fs size s x stop)
  drawn = go (in_one_sector s x stop) refl
    where
      D : ℕ
      D = round_down s x

      far : (b : Bool) → eqb D (round_down s (stop - 1)) ≡ b → (b && ltb (stop - x) s) ≡ false → D + s ≤ stop
      far true e h = omega (arith, ltb-false (stop - x) s h, down_below s pos x)
      far false e h =
          let n = eqb-false D (round_down s (stop - 1)) e in
          let l : D < round_down s (stop - 1) = omega (arith, down_rises s pos x (stop - 1) (omega arith)) in
          omega (arith, whole_next s pos D (round_down s (stop - 1)) (down_whole s pos x) (down_whole s pos (stop - 1)) l, down_below s pos (stop - 1))

      go : (b : Bool) → in_one_sector s x stop ≡ b → Drawn fs size s x stop (cond b (within_sector size s x stop) (across_sectors fs size s x stop))
      go true e =
          let t : Bool = eqb D (round_down s (stop - 1)) in
          let u : Bool = ltb (stop - x) s in
          within (eqb-true D (round_down s (stop - 1)) (both_left t u e)) (ltb-true (stop - x) s (both_right t u e))
      go false e =
          across (down_last s pos stop (D + s) (next_whole s pos D (down_whole s pos x)) (far (eqb D (round_down s (stop - 1))) refl e))
