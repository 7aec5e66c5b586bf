-- The first half of a plan: what it says of the whole, its numbers, and what its calls ask for. Assumes nothing.
use mathlib.Core.Path.{◌≡◌, refl, ap, ap₂, ◌∙◌, sym}
use mathlib.Core.Bool.{Bool, true, false, cond, ◌&&◌}
use mathlib.Core.List.{List, [], ◌∷◌, ◌++◌, map, flat_map}
use Prim.Native.Nat.{ℕ, zero, suc, ◌+◌, ◌-◌, ◌<◌, ◌≤◌, ◌^◌}
use native.Mathlib.Omega.{arith}
use native.Mathlib.Nat.{zero-add}
use lib.Dec.{eqb, leb}
use lib.ListN.{length, replicate, length-append, length-replicate, replicate-append-replicate}
use borrow.Author.Tests.{le-leb, eqb-true, eqb-false, ne_eqb}
use Rattle.std.specs.Prelude.{Option, Some, None, Ok, option_to_list}
use Rattle.std.specs.Option.{ForSome}
use Rattle.records.specs.Records.{chunks, records}
use Rattle.records.specs.Stages.{first, first_of, every, pairs, stage}
use Rattle.records.proofs.Tests.{both_left, both_right, every_map, every_both, first_of_zero, whenever-zero}
use Rattle.item.specs.Items.{Fields, items, ranged, end}
use Rattle.lists.specs.Lists.{item_sound}
use Rattle.lists.proofs.Order.{item-ranged}
use Rattle.request.specs.declared.Volume.{Volume}
use Rattle.request.specs.declared.File.{File}
use Rattle.request.specs.declared.Numbers.{Numbers}
use Rattle.request.specs.Lent.{sector_sound}
use Rattle.request.specs.Answers.{Outcome, plan, refused}
use Rattle.cut_def.specs.Pieces.{insert_all}
use Rattle.cut_def.specs.Edits.{edits}
use Rattle.ref_def.specs.Drops.{in_leaves}
use Rattle.ref_def.proofs.Drops.{leaves-items}
use Rattle.plan_def.specs.Plans.{Plan, numbers, refused_or}
use Rattle.plan_def.specs.Outputs.{Rooms, Outs}
use Rattle.edit_lines.specs.Pieced.{piece_items}
use Rattle.change_def.specs.declared.RangeChange.{RangeChange}
use Rattle.change_def.specs.declared.Fill.{Fill}
use Rattle.change_def.specs.declared.Rewrite.{Rewrite}
use Rattle.change_def.specs.Rewrites.{Ground, rewrite_refusal}
use Rattle.change_def.specs.Preallocs.{Stretch, piece_limit, prealloc_pieces, sum_of}
use Rattle.change_def.specs.Changes.{Change, before as items_before, change_refusal, sectors_wanted, pieces_wanted, wanted, plan_of, changed}
use Rattle.change_def.specs.Drafts.{Drafted, stretch_for, drafted}
use Rattle.change_def.specs.Raw.{change_of}
use Rattle.change_def.specs.Sweep.{sweep, filled_of}
use Rattle.change_def.proofs.Fair.{Fair}
use Rattle.change_def.proofs.Drafts.{numbers-most, ones-some}
use Rattle.change_def.proofs.Filled.{bare_fair, bare_refusal, holes-below}
use Rattle.change_holes.specs.declared.Sums.{Sums}
use Rattle.change_holes.specs.declared.NewExtents.{NewExtents}
use Rattle.change_holes.specs.declared.Bounds.{Bounds}
use Rattle.change_holes.specs.Walk.{wishes}
use Rattle.change_holes.proofs.Pieces.{pieces_few}
use Rattle.change_ground.specs.declared.Ground.{Ground as Lent}
use Rattle.change_ground.specs.Lent.{ground, items_in}
use Rattle.change_segment.specs.declared.Places.{Places}
use Rattle.change_segment.specs.declared.Parts.{Parts}
use Rattle.change_segment.specs.Raw.{Parting}
use Rattle.change_segment.specs.Sides.{front_new, back_new, sides, wanted_at, one_if, anew_count, places_at}
use Rattle.change_segment.proofs.Sides.{ways, wanted-sides, sides-few, sides-count}
use Rattle.change_segment.proofs.Puts.{anew_of}
use Rattle.change_lay.specs.declared.Counts.{Counts}
use Rattle.change_lay.proofs.Laying.{ready_now}
use Rattle.change_lay.specs.declared.Begun.{Begun}
use Rattle.change_lay.specs.Laid.{Pieced, ground_of, change_in, plan_at, edits_at, PlanLaid}
use Rattle.change_draft.specs.declared.Needs.{Needs}
use Rattle.change_draft.specs.declared.asked.Asked.{Asked}
use Rattle.change_draft.specs.Raw.{draft_said, extents_of, counts_of, numbers_of, whole}
use Rattle.change_draft.proofs.Filled.{pieces-count, holes_sum, sectors_now, wishes_now, bytes_fit_now, numbers_now}

-- ---- the first half's two ways

was_refused : (d : Drafted) (x w : ℕ) → ◌≡◌ {A = Outcome Drafted} (refused w) (cond (eqb x 0) (plan d) (refused x)) → (w ≡ x) × (x ≡ 0 → ⊥)
was_refused d x w h = go (eqb x 0) refl h
  where
    go : (b : Bool) → eqb x 0 ≡ b → ◌≡◌ {A = Outcome Drafted} (refused w) (cond b (plan d) (refused x)) → (w ≡ x) × (x ≡ 0 → ⊥)
    go true e h = let z : ◌≡◌ {A = ℕ} 0 1 = cc in absurd (omega arith)
    go false e h = let i : w ≡ x = cc in (i, eqb-false x 0 e)

was_planned : (d e : Drafted) (x : ℕ) → ◌≡◌ {A = Outcome Drafted} (plan e) (cond (eqb x 0) (plan d) (refused x)) → x ≡ 0
was_planned d e x h = go (eqb x 0) refl h
  where
    go : (b : Bool) → eqb x 0 ≡ b → ◌≡◌ {A = Outcome Drafted} (plan e) (cond b (plan d) (refused x)) → x ≡ 0
    go true i h = eqb-true x 0 i
    go false i h = let z : ◌≡◌ {A = ℕ} 0 1 = cc in absurd (omega arith)

refuse_first : (x a b : ℕ) (p : Plan) → (x ≡ 0 → ⊥) → refused_or (first_of (x ∷ a ∷ b ∷ [])) (plan p) ≡ refused x
unfolding refused_or first_of first
refuse_first zero a b p z = absurd (z refl)
refuse_first (suc x) a b p z = refl

-- ---- the two sectors

rewrites-few : (c : RangeChange) → length (option_to_list c.front ++ option_to_list c.back) ≤ 2
rewrites-few c = ways (λ a b. length (option_to_list a ++ option_to_list b) ≤ 2) (λ x y. omega arith) (λ x. omega arith) (λ y. omega arith) (omega arith) c.front c.back

pub anew-most : (c : RangeChange) (p : Parts) → anew_count c p ≤ 2
anew-most c p = ways (λ (a b : Option Rewrite). one_if a + one_if b ≤ 2) (λ x y. omega arith) (λ x. omega arith) (λ y. omega arith) (omega arith) (front_new c p) (back_new c p)

sides-ones : {A : Type 0} (a b : Option A) → sides {B = ℕ} a b (λ (x : A). 1) (λ (x : A). 1) ≡ replicate (one_if a + one_if b) 1
sides-ones (Some x) (Some y) = refl
sides-ones (Some x) None = refl
sides-ones None (Some y) = refl
sides-ones None None = refl

-- the change that is asked for is fair without its holes
pub base_fair : (g : Lent) (c : RangeChange) (w : Fill) → Fair (ground g) (filled_of c w (items_in g)) → Fair (ground g) (change_of c g.file.size)
base_fair g c w a = bare_fair g.file.size (ground g) (filled_of c w (items_in g)) a

module _ (a : Asked) where
  abbrev c : RangeChange
  c = a.begun.range

  abbrev p : Parts
  p = a.begun.parts

  abbrev w : Fill
  w = a.fill

  abbrev v : Volume
  v = a.begun.base.volume

  abbrev size : ℕ
  size = a.begun.base.file.size

  abbrev fs : List Fields
  fs = items_in a.begun.base

  abbrev shared : List ℕ
  shared = a.begun.base.leaves.shared.now

  abbrev g : Ground
  g = ground_of a.begun

  abbrev d : Change
  d = whole a

  abbrev base : Change
  base = change_in a.begun

  -- how many sectors take new extents
  abbrev anew : ℕ
  anew = anew_count c p

  -- nothing refuses the change: the generation can go up, and the sectors be written
  pub passed : change_refusal g d ≡ 0 → (v.generation ≡ 2 ^ 64 - 1 → ⊥) × (stage (rewrite_refusal g) base.rewrites ≡ 0)
  unfolding change_refusal
  passed z =
      let t = first_of_zero _ z in
      (eqb-false _ _ (whenever-zero (eqb g.generation (2 ^ 64 - 1)) 13 t.0 (λ e. omega arith)), t.1.1.0)

  pub refusal-same : (why : ℕ) → why ≡ change_refusal g base → why ≡ change_refusal g d
  refusal-same why e = e ∙ bare_refusal size g d

  -- it can start
  pub can_start : change_refusal g base ≡ 0 → v.generation < 2 ^ 64 → (v.generation + 1 < 2 ^ 64) × (stage (rewrite_refusal g) base.rewrites ≡ 0)
  can_start z fits =
      let q = passed (sym (refusal-same 0 (sym z))) in
      let n = q.0 in
      (omega (arith, n), q.1)

  -- ---- the first half

  pub draft_refused : (why : ℕ) → why ≡ change_refusal g d → (why ≡ 0 → ⊥) → refused why ≡ drafted g d piece_limit
  unfolding drafted
  draft_refused why e n = rw (← e, ne_eqb why 0 n) refl

  pub draft_passed : change_refusal g d ≡ 0 → plan (record { numbers = numbers (plan_of g d piece_limit (replicate (length (wanted g d piece_limit)) 1)); extents = map stretch_for (wanted g d piece_limit) }) ≡ drafted g d piece_limit
  unfolding drafted
  draft_passed z = rw z refl

  -- what the draft says of the whole
  pub refused-told : (why : ℕ) → refused why ≡ drafted g d piece_limit → (ps : List ℕ) (rooms : Rooms) → changed g d piece_limit ps rooms ≡ refused why
  unfolding drafted changed
  refused-told why h ps rooms =
      let k = was_refused _ (change_refusal g d) why h in
      refuse_first (change_refusal g d) _ _ (plan_of g d piece_limit ps) k.1 ∙ ap refused (sym k.0)

  pub planned-told : (n : Needs) → draft_said fs (Ok n) ≡ drafted g d piece_limit → change_refusal g d ≡ 0
  unfolding drafted
  planned-told n h = was_planned _ _ (change_refusal g d) h

  pub sectors_many : anew ≡ length (sectors_wanted g d piece_limit)
  sectors_many = sides-count (front_new c p) (back_new c p) (wanted_at g) (wanted_at g) ∙ ap length (sym (sectors_now g c w fs p a.begun.parting))

  -- each place counts as 1
  abbrev ones : List ℕ
  ones = places_at c p 1 1

  ones-count : anew ≡ length ones
  ones-count = sides-count (front_new c p) (back_new c p) (λ (r : Rewrite). 1) (λ (r : Rewrite). 1)

  abbrev others : List ℕ
  others = replicate (length (pieces_wanted g d piece_limit)) 1

  ones-many : length ones ≡ length (sectors_wanted g d piece_limit)
  ones-many = sym ones-count ∙ sectors_many

  ones_all : ones ++ others ≡ replicate (length (wanted g d piece_limit)) 1
  ones_all =
      let e : anew + length (pieces_wanted g d piece_limit) ≡ length (wanted g d piece_limit) = omega (arith, sectors_many, length-append (sectors_wanted g d piece_limit) (pieces_wanted g d piece_limit)) in
      ap (λ (l : List ℕ). l ++ others) (sides-ones (front_new c p) (back_new c p))
      ∙ replicate-append-replicate anew (length (pieces_wanted g d piece_limit)) 1
      ∙ ap (λ (n : ℕ). replicate n 1) e

  -- the sums that are taken
  pub holes_fit : sum_of (sweep c.lo c.hi w.from w.to fs) ≤ 2 ^ 63
  holes_fit = rw (holes_sum g c w fs) at (holes-below g d a.fair)

  module _ (n : Counts) (pn : n ≡ counts_of (plan_at a.begun (record { front = 1; back = 1 }))) (s : Sums)
      (pb : s.bytes ≡ sum_of (sweep c.lo c.hi w.from w.to fs))
      (pp : s.pieces ≡ length (flat_map (prealloc_pieces piece_limit) (sweep c.lo c.hi w.from w.to fs))) where
    bytes_are : s.bytes ≡ sum_of d.holes
    bytes_are = pb ∙ sym (holes_sum g c w fs)

    pieces_are : s.pieces ≡ length (pieces_wanted g d piece_limit)
    pieces_are = pp ∙ sym (pieces-count g c w fs)

    -- its numbers are those of the plan
    numbers_are : numbers_of n anew s w.size ≡ numbers (plan_of g d piece_limit (replicate (length (wanted g d piece_limit)) 1))
    numbers_are =
        (λ i. numbers_of (pn i) (ones-count i) (record { bytes = bytes_are i; pieces = pieces_are i }) w.size)
        ∙ sym (numbers_now size g d a.fair ones others ones-many (length-replicate (length (pieces_wanted g d piece_limit)) 1) (ones-some (length (pieces_wanted g d piece_limit))))
        ∙ ap (λ (l : List ℕ). numbers (plan_of g d piece_limit l)) ones_all

    pub draft_planned : change_refusal g d ≡ 0 → (m : Numbers) (e : NewExtents) (k : ℕ) → k ≡ anew → m ≡ numbers_of n k s w.size → e ≡ extents_of v c w p
        → draft_said fs (Ok (record { numbers = m; extents = e })) ≡ drafted g d piece_limit
    draft_planned z m e k pk pm pe =
        ap₂ {C = Outcome Drafted} (λ (m : Numbers) (l : List Stretch). plan (record { numbers = m; extents = l }))
        (pm ∙ ap (λ (k : ℕ). numbers_of n k s w.size) pk ∙ numbers_are)
        (ap (λ (e : NewExtents). wishes e fs) pe ∙ wishes_now g c w fs p a.begun.parting v a.fair.sound.sector refl)
        ∙ draft_passed z

    -- and fit 64 bits
    pub numbers_fit : (k : ℕ) → k ≡ anew
        → (n.edits.edits + s.pieces < 2 ^ 64) × (k + s.pieces < 2 ^ 64) × (n.edits.bytes + s.bytes < 2 ^ 64)
    numbers_fit k pk =
        let most = numbers-most g base piece_limit ones a.fair.sound.table in
        let few = pieces_few (sweep c.lo c.hi w.from w.to fs) in
        let e1 : n.edits.edits ≡ (numbers (plan_of g base piece_limit ones)).edits = ap (λ (n : Counts). n.edits.edits) pn in
        let e2 : n.edits.bytes ≡ (numbers (plan_of g base piece_limit ones)).bytes = ap (λ (n : Counts). n.edits.bytes) pn in
        let h : length (items_before g base) ≡ length fs = ap length (leaves-items fs shared a.begun.base.leaves.one_each) in
        let r : length base.rewrites ≤ 2 = rewrites-few c in
        let x : length (wanted g base piece_limit) ≤ 2 = rw (wanted-sides g c size p a.begun.parting piece_limit) (sides-few (front_new c p) (back_new c p) (wanted_at g) (wanted_at g)) in
        let two : anew ≤ 2 = anew-most c p in
        let b = bytes_fit_now size g d a.fair ones others ones-many (length-replicate (length (pieces_wanted g d piece_limit)) 1) (ones-some (length (pieces_wanted g d piece_limit))) in
        let fit = holes_fit in
        let ed = most.edits in
        (omega (arith, e1, ed, h, r, x, a.sized, pp, few, fit), omega (arith, pk, two, pp, few, fit), omega (arith, e2, b, bytes_are))

-- ---- in the terms of the calls

-- a plan without pieces
pub none_pieced : (before after : List Fields) (file generation : ℕ) → Pieced before after (piece_items file generation [])
unfolding records chunks every pairs
none_pieced before after file generation = record { rise = refl; olds = refl; news = refl }

module _ (b : Begun) where
  pub none-counted :
      (n : Counts) (at : Places) (before after : Outs) → PlanLaid b.base.file.number (plan_at b at) (edits_at b at []) n before after
      → n ≡ counts_of (plan_at b at)
  unfolding records chunks insert_all
  none-counted n at before after l =
      let e1 = l.edits.edits.lines ∙ zero-add _ in
      let e2 = l.refs.shares.lines ∙ zero-add _ in
      let e3 = l.refs.unrefs.lines ∙ zero-add _ in
      let e4 = l.refs.releases.lines ∙ zero-add _ in
      let e5 = l.writes.lines ∙ zero-add _ in
      let e6 = l.edits.bytes in
      λ i. record { refs = record { shares = e2 i; unrefs = e3 i; releases = e4 i }; edits = record { edits = e1 i; bytes = e6 i }; writes = e5 i }

  -- a sector that takes a new extent ends within 64 bits
  pub sides_fit : b.base.volume.generation + 1 < 2 ^ 64
      → ForSome (front_new b.range b.parts) (λ (r : Rewrite). r.sector + b.base.volume.sector < 2 ^ 64) × ForSome (back_new b.range b.parts) (λ (r : Rewrite). r.sector + b.base.volume.sector < 2 ^ 64)
  sides_fit n =
      let r = ready_now b n in (
        (λ x e. let i = r.inside.«new-front» x (anew_of b.range.front b.parts.front x e) in omega (arith, i.high, i.limit)),
        (λ x e. let i = r.inside.«new-back» x (anew_of b.range.back b.parts.back x e) in omega (arith, i.high, i.limit)),
      )
