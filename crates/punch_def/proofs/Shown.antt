-- What each offset of a punched file maps to. Assumes nothing.
use mathlib.Core.Path.{◌≡◌, refl, ◌∙◌}
use mathlib.Core.Bool.{Bool, true, false, cond, not}
use mathlib.Core.List.Memᴰ
use mathlib.Core.List.{List, [], ◌∷◌, ◌++◌, Memᴰ}
use mathlib.Core.Option.{none, some}
use mathlib.Core.Logic.{◌⊎◌, inl, inr, ⊎_elim}
use Prim.Native.Nat.{ℕ, ◌+◌, ◌%◌, ◌≤◌, ◌<◌}
use native.Mathlib.Omega.{arith}
use native.Mathlib.Nat.{add-mod_right}
use native.Mathlib.Decide.{dec_lt}
use lib.Dec.{ltb}
use Rattle.records.specs.Stages.{every}
use Rattle.records.specs.Select.{only}
use Rattle.records.proofs.Lists.{every_all}
use Rattle.item.specs.Items.{Fields}
use Rattle.table.specs.declared.Row.{Row}
use Rattle.cut_def.specs.Mappings.{holds, mapping_in, mapping}
use Rattle.cut_def.specs.Pieces.{items_of}
use Rattle.request.specs.declared.Volume.{Volume}
use Rattle.request.specs.declared.File.{File}
use Rattle.request.specs.declared.Range.{Range}
use Rattle.request.proofs.Stages.{sector-some}
use Rattle.plan_def.specs.Plans.{Plan}
use Rattle.change_def.specs.Rounding.{round_down, round_up}
use Rattle.change_def.specs.Preallocs.{piece_limit}
use Rattle.change_def.specs.declared.Rewrite.{Rewrite}
use Rattle.change_def.specs.Rewrites.{ground_of, Ground, leaf_items}
use Rattle.change_def.specs.Changes.{Change, pieces_after}
use Rattle.change_def.proofs.Preallocs.{limit_whole}
use Rattle.change_def.proofs.Fair.{Sound}
use Rattle.change_def.proofs.Rounding.{whole_next, down_below, down_near, down_whole, down_last, up_above, up_whole, up_first}
use Rattle.change_def.proofs.Shown.{on_sector, lies_off, mapping-outside, mapping-inside}
use Rattle.punch_def.specs.Punch.{in_one_sector, first_part, last_part, within_sector, across_sectors, Punched, Part}
use Rattle.punch_def.proofs.Planned.{Planned, ground_items}
use Rattle.punch_def.proofs.Starts.{first_past}
use Rattle.punch_def.proofs.Shapes.{sector_of}
use Rattle.punch_def.proofs.Fair.{Asked, drawn_from, change_begins, change_ends, rewrite_part, whole_unwritten, whole_cut, planned-sound, planned-asked, planned-fair}

-- ---- one offset

-- where no item holds it, it leads nowhere
unheld : (o : ℕ) (fs : List Fields) → ((f : Fields) → Memᴰ f fs → holds o f ≡ true → ⊥) → mapping o fs ≡ none
unfolding mapping
unheld o [] h = refl
unheld o (f ∷ fs) h = go (holds o f) refl (unheld o fs (λ g m. h g (Memᴰ.tail m)))
  where
    go : (b : Bool) → holds o f ≡ b → mapping o fs ≡ none → cond b (some (mapping_in o f)) (mapping o fs) ≡ none
    go true e r = absurd (h f (Memᴰ.head refl) e)
    go false e r = r

-- ---- what is cut

-- an offset on a sector that is covered whole from the start on, or on a rewritten one
abbrev Covered : (s x stop o : ℕ) → Change → Type 0
Covered s x stop o c = ((round_up s x ≤ o) × (o < round_down s stop)) ⊎ ((w : Rewrite) × Memᴰ w c.rewrites × (w.sector ≤ o) × (o < w.sector + s))

-- of two changes what holds of each
either_change : (P : Change → Type 0) (b : Bool) (c e : Change) → P c → P e → P (cond b c e)
either_change P true c e p q = p
either_change P false c e p q = q

module _ (fs : List Fields) (size s x stop : ℕ) (pos : 0 < s) (o : ℕ) where
  -- every offset of the cut is such
  abbrev Cut : Change → Type 0
  Cut c = c.lo ≤ o → o < c.hi → Covered s x stop o c

  cut-within : Cut (within_sector size s x stop)
  cut-within =
      either_change Cut (ltb x (round_up s size))
      (record { lo = round_down s x; hi = round_down s x + s; rewrites = record { sector = round_down s x; first = x; end = stop } ∷ []; holes = []; size = size })
      (record { lo = round_down s x; hi = round_down s x; rewrites = []; holes = []; size = size })
      (λ l h. inr (record { sector = round_down s x; first = x; end = stop }, Memᴰ.head refl, l, h))
      (λ l h. absurd (omega arith))

  cut_across : Cut (across_sectors fs size s x stop)
  cut_across l h =
      elim (dec_lt o (round_up s x)) [
        | yes b ↦ inr (first (first_part size s x) (last_part fs size s stop) l b)
        | no b ↦ elim (dec_lt o (round_down s stop)) [
          | yes e ↦ inl (omega arith, e)
          | no e ↦ inr (last (first_part size s x) (last_part fs size s stop) h (omega arith))
        ]
      ]
    where
      v : Rewrite
      v = record { sector = round_down s x; first = x; end = round_down s x + s }

      w : Rewrite
      w = record { sector = round_down s stop; first = round_down s stop; end = stop }

      first : (p q : Bool) → cond p (round_down s x) (round_up s x) ≤ o → o < round_up s x → (t : Rewrite) × Memᴰ t (only p v ++ only q w) × (t.sector ≤ o) × (o < t.sector + s)
      first true q l b =
          (v, Memᴰ.head refl, l, omega (arith, up_first s pos x (round_down s x + s) (add-mod_right (round_down s x) s ∙ down_whole s pos x) (omega (arith, down_near s pos x))))
      first false q l b = absurd (omega arith)

      last : (p q : Bool) → o < cond q (round_down s stop + s) (round_down s stop) → round_down s stop ≤ o → (t : Rewrite) × Memᴰ t (only p v ++ only q w) × (t.sector ≤ o) × (o < t.sector + s)
      last p true h e = (w, Memᴰ.append_right (only p v) (Memᴰ.head refl), e, h)
      last p false h e = absurd (omega arith)

  cut-covered : (offset : ℕ) (c : Change) (a : Asked fs size s offset stop c) → x ≡ a.start → Cut c
  cut-covered offset c a e =
      rw (a.made, ← e) (either_change Cut (in_one_sector s x stop) (within_sector size s x stop) (across_sectors fs size s x stop) cut-within cut_across)

-- ---- of a plan

module _ (v : Volume) (f : File) (fs : List Fields) (shared : List ℕ) (rs : List Row) (r : Range) (places : List ℕ) (p : Plan) (d : Planned v f fs shared rs r places p) where
  abbrev g : Ground
  g = ground_of v f fs shared rs

  abbrev c : Change
  c = d.change

  abbrev stop : ℕ
  stop = r.offset + r.length

  -- what is known of them
  items : leaf_items g.in_leaves ≡ fs
  items = ground_items v f fs shared rs d.lent

  sound : Sound g
  sound = planned-sound v f fs shared rs r places p d

  abbrev asked : Asked fs f.size v.sector r.offset stop c
  asked = planned-asked v f fs shared rs r places p d

  pos : 0 < v.sector
  pos = sector-some v.sector d.lent.sector

  piece_sectors : piece_limit % v.sector ≡ 0
  piece_sectors = limit_whole v.sector d.lent.sector

  -- ---- outside the cut and inside

  -- outside nothing changes
  outside_kept : (o : ℕ) → (o < c.lo) ⊎ (c.hi ≤ o) → mapping o (items_of (pieces_after g c piece_limit places)) ≡ mapping o fs
  unfolding every
  outside_kept o out =
      rw items
      at (mapping-outside g c (planned-fair v f fs shared rs r places p d) o piece_limit (omega arith) piece_sectors places d.placed out
      (rw (drawn_from g fs items sound f.size r.offset stop c asked).unfilled refl))

  -- inside, a sector that the range covers whole is removed
  inside-removed : (o : ℕ) → c.lo ≤ o → o < c.hi → round_up v.sector r.offset ≤ o → o < round_down v.sector stop → mapping o (items_of (pieces_after g c piece_limit places)) ≡ none
  inside-removed o a b l h =
      mapping-inside g c (planned-fair v f fs shared rs r places p d) o piece_limit (omega arith) piece_sectors places d.placed a b
      (every_all (λ (w : Rewrite). not (on_sector g o w)) c.rewrites (λ w m. lies_off o w.sector (w.sector + v.sector) (λ a b. ⊎_elim (λ y. omega arith) (λ y. omega arith) (whole_unwritten g fs items sound f.size r.offset stop c asked o l h w m))))

  -- outside, no item held it
  outside_unheld : (o : ℕ) → (o < c.lo) ⊎ (c.hi ≤ o) → round_up v.sector r.offset ≤ o → o < round_down v.sector stop → mapping o fs ≡ none
  outside_unheld o out l h =
      unheld o fs
      (λ i m k.
      let w = whole_cut g fs items sound f.size r.offset stop c asked i o m k l h in
      ⊎_elim (λ x. omega (arith, w.0)) (λ x. omega (arith, w.1)) out)

  -- one or the other
  sides : (P : Type 0) (o : ℕ) → ((o < c.lo) ⊎ (c.hi ≤ o) → P) → (c.lo ≤ o → o < c.hi → P) → P
  sides P o out in_cut =
      elim (dec_lt o c.lo) [
        | yes a ↦ out (inl a)
        | no a ↦ elim (dec_lt o c.hi) [
          | yes b ↦ in_cut (omega arith) b
          | no b ↦ out (inr (omega arith))
        ]
      ]

  -- ---- what fallocate(2) says

  -- the range's whole sectors are removed, and outside the range rounded out nothing changes
  pub punched-shown : Punched v.sector r.offset stop (λ (o : ℕ). mapping o fs) (λ (o : ℕ). mapping o (items_of (pieces_after g c piece_limit places)))
  punched-shown =
      record {
        removed = λ o l h. sides (mapping o (items_of (pieces_after g c piece_limit places)) ≡ none) o (λ out. outside_kept o out ∙ outside_unheld o out l h) (λ a b. inside-removed o a b l h);
        below = λ o l. outside_kept o (inl (omega (arith, change_begins g fs items sound f.size r.offset stop c asked)));
        above = λ o l. outside_kept o (inr (omega (arith, change_ends g fs items sound f.size r.offset stop c asked)));
      }

  -- a sector that the range does not cover whole, and that is not rewritten, keeps its mapping
  pub others-kept : (o : ℕ) → (round_down v.sector o < r.offset) ⊎ (stop < round_down v.sector o + v.sector)
      → (Part fs f.size v.sector r.offset stop (round_down v.sector o) → ⊥) → mapping o (items_of (pieces_after g c piece_limit places)) ≡ mapping o fs
  others-kept o partly unless =
      sides (mapping o (items_of (pieces_after g c piece_limit places)) ≡ mapping o fs) o (outside_kept o)
      (λ a b. absurd (go (cut-covered fs f.size v.sector asked.start stop pos o r.offset c asked refl a b)))
    where
      go : Covered v.sector asked.start stop o c → ⊥
      go (inl (l, h)) =
          let u = down_last v.sector pos o (round_up v.sector asked.start) (up_whole v.sector pos asked.start) l in
          let n = whole_next v.sector pos (round_down v.sector o) (round_down v.sector stop) (down_whole v.sector pos o) (down_whole v.sector pos stop) (omega (arith, down_below v.sector pos o)) in
          ⊎_elim (λ x. omega (arith, u, up_above v.sector pos asked.start, first_past r.offset asked.start fs asked.first)) (λ x. omega (arith, n, down_below v.sector pos stop)) partly
      go (inr (w, m, l, h)) =
          let q = (rewrite_part g fs items sound f.size r.offset stop c asked w m).part in
          unless (rw (sector_of v.sector pos w.sector o q.aligned l h) at q)
