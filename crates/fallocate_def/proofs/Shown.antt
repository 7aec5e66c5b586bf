-- What each offset maps to after a planned fallocate. Assumes nothing.
use mathlib.Core.Path.{◌≡◌, refl, ap, ◌∙◌, sym}
use mathlib.Core.Bool.{Bool, true, false, cond, not, false≢true}
use mathlib.Core.List.{List}
use mathlib.Core.Logic.{◌⊎◌, inl, inr, ⊎_elim}
use mathlib.Core.Option.{Option, none, some}
use Prim.Native.Nat.{ℕ, ◌+◌, ◌%◌, ◌≤◌, ◌<◌}
use native.Mathlib.Omega.{arith}
use native.Mathlib.Decide.{dec_lt}
use borrow.Author.Tests.{not-true}
use Rattle.records.specs.Select.{only, any}
use Rattle.records.proofs.Tests.{both_right, either_left}
use Rattle.records.proofs.Lists.{any_some, none-every}
use Rattle.item.specs.Items.{Fields}
use Rattle.table.specs.declared.Row.{Row}
use Rattle.request.specs.declared.Volume.{Volume}
use Rattle.request.specs.declared.File.{File}
use Rattle.request.specs.declared.Range.{Range}
use Rattle.cut_def.specs.Mappings.{named, holds, Mapping, mapping_in, mapping}
use Rattle.cut_def.specs.Pieces.{items_of}
use Rattle.plan_def.specs.Plans.{Plan}
use Rattle.change_def.specs.Rounding.{round_down, round_up}
use Rattle.change_def.specs.Preallocs.{Stretch, piece_limit}
use Rattle.change_def.specs.Rewrites.{Ground}
use Rattle.change_def.specs.Changes.{Change, pieces_after}
use Rattle.change_def.proofs.Preallocs.{limit_whole}
use Rattle.change_def.proofs.Fair.{Fair}
use Rattle.change_def.proofs.Shown.{on_sector, shown-some, shown-held, unasked, mapping-outside, mapping-hole, mapping-sector}
use Rattle.punch_def.proofs.Planned.{ground_items}
use Rattle.fallocate_def.specs.Fallocate.{end_rewritten, end_sector, end_stop, holes_to_allocate, Allocated}
use Rattle.fallocate_def.proofs.Less.{inside, has, over, within, within_facts, without_facts}
use Rattle.fallocate_def.proofs.Holes.{InHole, hole_facts}
use Rattle.fallocate_def.proofs.Planned.{ground, change, Planned, planned-filled}
use Rattle.fallocate_def.proofs.Fair.{planned-fair}

-- an item that holds an offset is over it
held-over : (o : ℕ) (fs : List Fields) → any (holds o) fs ≡ true → any (over o) fs ≡ false → ⊥
held-over o fs h n =
    let z = any_some (holds o) (λ (f : Fields). not (over o f)) fs h (none-every (over o) fs n) in
    let f : Fields = z.0 in
    false≢true (sym (not-true (over o f) z.2) ∙ both_right (named f) (over o f) z.1)

-- an offset that leads somewhere does not lead nowhere
some-none : (m : Mapping) (x : Option Mapping) → x ≡ some m → x ≡ none → ⊥
some-none m x h e = let z : ◌≡◌ {A = ℕ} 0 1 = cc in absurd (omega arith)

-- an offset that is not in a range is before or past it
beside : (a b o : ℕ) → (a ≤ o → o < b → ⊥) → (o < a) ⊎ (b ≤ o)
beside a b o h =
    elim (dec_lt o a) [
      | yes l ↦ inl l
      | no l ↦ let n : o < b → ⊥ = h (omega arith) in inr (omega arith)
    ]

module _ (v : Volume) (f : File) (r : Range) (keepSize : Bool) (fs : List Fields) (shared : List ℕ) (rs : List Row) (places : List ℕ) (p : Plan) (k : Planned v f r keepSize fs shared rs places p) where
  abbrev stop : ℕ
  stop = r.offset + r.length

  abbrev lo : ℕ
  lo = round_down v.sector r.offset

  abbrev hi : ℕ
  hi = round_up v.sector stop

  abbrev end_lo : ℕ
  end_lo = end_sector f.size v.sector stop

  abbrev end_hi : ℕ
  end_hi = end_stop f.size v.sector stop

  abbrev holes : List Stretch
  holes = holes_to_allocate f.size v.sector r.offset stop fs

  abbrev g : Ground
  g = ground v f r keepSize fs shared rs

  abbrev c : Change
  c = change v f r keepSize fs shared rs

  abbrev after : ℕ → Option Mapping
  after o = mapping o (items_of (pieces_after g c piece_limit places))

  fair : Fair g c
  fair = planned-fair v f r keepSize fs shared rs places p k

  sectors : piece_limit % v.sector ≡ 0
  sectors = limit_whole v.sector k.lent.sector

  -- an offset that cannot be in a hole is in none
  no-hole : (o : ℕ) → (InHole f.size v.sector r.offset stop o fs → ⊥) → inside o holes ≡ false
  no-hole o h = go (inside o holes) refl
    where
      go : (t : Bool) → inside o holes ≡ t → t ≡ false
      go true e = absurd (h (hole_facts f.size v.sector r.offset stop o fs e))
      go false e = refl

  -- outside the end's sector and every hole an offset maps to what it did
  shown-outside : (o : ℕ) → (end_lo ≤ o → o < end_hi → ⊥) → (InHole f.size v.sector r.offset stop o fs → ⊥) → after o ≡ mapping o fs
  shown-outside o n h =
      mapping-outside g c fair o piece_limit (omega arith) sectors places k.placed (beside end_lo end_hi o n) (none-every (has o) holes (no-hole o h))
      ∙ ap (mapping o) (ground_items v f fs shared rs k.lent)

  -- so does one that an item holds
  shown-item : (o : ℕ) → (end_lo ≤ o → o < end_hi → ⊥) → any (holds o) fs ≡ true → after o ≡ mapping o fs
  shown-item o n h = shown-outside o n (λ i. held-over o fs h i.free)

  -- the end's sector is rewritten
  end_rewritten_lem : (o : ℕ) → within end_lo end_hi o ≡ true → any (on_sector g o) c.rewrites ≡ true
  unfolding any
  end_rewritten_lem o = go (end_rewritten v.sector f.size stop)
    where
      s : ℕ
      s = round_down v.sector f.size

      go : (t : Bool) → within (cond t s 0) (cond t (s + v.sector) 0) o ≡ true → any (on_sector g o) (only t (record { sector = s; first = f.size; end = s + v.sector })) ≡ true
      go true h = either_left (within s (s + v.sector) o) false h
      go false h = let z = (within_facts 0 0 o h).1 in absurd (omega arith)

  -- in it an offset is mapped
  shown-end : (o : ℕ) → within end_lo end_hi o ≡ true → after o ≡ none → ⊥
  shown-end o h =
      let z = mapping-sector g c fair o piece_limit (omega arith) sectors places k.placed (end_rewritten_lem o h) in
      some-none z.0 (after o) z.1

  -- and in a hole, to a preallocated extent
  shown-filled : (o : ℕ) → inside o holes ≡ true → (m : Mapping) × (after o ≡ some m) × (m.kind ≡ 2)
  shown-filled o h = mapping-hole g c fair o piece_limit (omega arith) sectors places k.placed h

  shown-hole : (o : ℕ) → inside o holes ≡ true → after o ≡ none → ⊥
  shown-hole o h = let z = shown-filled o h in some-none z.0 (after o) z.1

  -- an offset that an item holds was mapped before
  held-shown : (o : ℕ) → any (holds o) fs ≡ true → mapping o fs ≡ none → ⊥
  held-shown o h = let z = shown-some o (λ (x : Fields). true) fs h (unasked o fs) in some-none (mapping_in o z.0) (mapping o fs) z.2

  -- and where an item holds it
  shown_solid : (o : ℕ) → any (holds o) fs ≡ true → after o ≡ none → ⊥
  shown_solid o h = go (within end_lo end_hi o) refl
    where
      go : (t : Bool) → within end_lo end_hi o ≡ t → after o ≡ none → ⊥
      go true e n = shown-end o e n
      go false e n = held-shown o h (sym (shown-item o (without_facts end_lo end_hi o (rw e refl)) h) ∙ n)

  -- a planned fallocate allocates its range
  pub allocated-shown : Allocated lo hi end_lo end_hi (λ (o : ℕ). mapping o fs) after
  allocated-shown =
      record {
        mapped = λ o a b. ⊎_elim (shown-hole o) (⊎_elim (shown-end o) (shown_solid o)) (planned-filled v f r keepSize fs shared rs places p k o a b);
        filled = λ o a b n e. ⊎_elim (λ h. shown-filled o h) (⊎_elim (λ h. absurd (let w = within_facts end_lo end_hi o h in n w.0 w.1)) (λ h. absurd (held-shown o h e))) (planned-filled v f r keepSize fs shared rs places p k o a b);
        kept = λ o m n h. shown-item o n (shown-held o fs m h) ∙ h;
        below = λ o l n. shown-outside o n (λ i. omega arith);
        above = λ o l n. shown-outside o n (λ i. omega arith);
      }
