-- The second half of a plan: places, room, and the outputs. Assumes nothing.
use mathlib.Core.Path.{◌≡◌, refl, ap, ap₂, ◌∙◌, sym}
use mathlib.Core.Bool.{Bool, true}
use mathlib.Core.List.{List, [], ◌∷◌, ◌++◌, map, flat_map}
use Prim.Native.Nat.{ℕ, zero, suc, ◌+◌, ◌-◌, ◌*◌, ◌/◌, ◌≤◌}
use native.Mathlib.Omega.{arith}
use native.Mathlib.Nat.{zero-add, le-div_iff_mul-le}
use lib.ListN.{length, get_or, take, drop, replicate, length-map, length-append, length-replicate}
use Rattle.std.specs.Prelude.{Option, Some, None, Ok, Err}
use Rattle.records.specs.Stages.{unless, first, first_of}
use Rattle.records.proofs.Lists.{every_true}
use Rattle.records.proofs.Tests.{first-zero, unless-zero, first_last, first_stop, first_go}
use Rattle.item.specs.Items.{Fields, items}
use Rattle.table.specs.declared.Row.{Row}
use Rattle.table.specs.Rows.{rows}
use Rattle.request.specs.declared.Volume.{Volume}
use Rattle.request.specs.declared.File.{File}
use Rattle.records.specs.declared.refusal.Refusal.{Refusal}
use Rattle.records.specs.Refusals.{number}
use Rattle.records.proofs.Refusals.{number-some}
use Rattle.request.specs.Answers.{Outcome, plan, refused}
use Rattle.cut_def.specs.Pieces.{items_of, insert_all}
use Rattle.cut_def.specs.Edits.{Edit, edits}
use Rattle.cut_def.specs.Refs.{Ref}
use Rattle.ref_def.proofs.Drops.{leaves-items}
use Rattle.plan_def.specs.Plans.{Plan, Add, Write, numbers, refused_or}
use Rattle.plan_def.specs.Places.{Wanted, placed, places_sound}
use Rattle.plan_def.specs.Outputs.{Rooms, Outs, outs, rooms_of, room_for, left, MetWith, edit_bytes, ref_numbers, add_numbers, write_numbers}
use Rattle.plan_def.proofs.Places.{placed-length, places_count}
use Rattle.plan_lines.specs.Lines.{lay, Laid}
use Rattle.plan_lines.proofs.Laws.{length-lay}
use Rattle.plan_lines.proofs.Again.{lay_read}
use Rattle.plan_def.specs.ReadBack.{add_in, adds_in}
use Rattle.edit_lines.specs.Pieced.{piece_item, piece_items}
use Rattle.change_def.specs.declared.RangeChange.{RangeChange}
use Rattle.change_def.specs.declared.Fill.{Fill}
use Rattle.change_def.specs.declared.Rewrite.{Rewrite}
use Rattle.change_def.specs.Rewrites.{Ground}
use Rattle.change_def.specs.Preallocs.{Stretch, piece_limit, prealloc_pieces}
use Rattle.change_def.specs.Changes.{Change, before as items_before, new_items, sectors_wanted, pieces_wanted, wanted, plan_of, changed}
use Rattle.change_def.specs.Drafts.{Drafted, stretch_for}
use Rattle.change_def.specs.Sweep.{filled_of}
use Rattle.change_def.proofs.News.{piece_wanted}
use Rattle.change_def.proofs.Drafts.{numbers-sound}
use Rattle.change_holes.specs.Walk.{wishes}
use Rattle.change_places.specs.Wishes.{wanted_of}
use Rattle.change_places.proofs.Keys.{placed_spans, sound_spans}
use Rattle.change_ground.specs.Lent.{items_in, rows_in}
use Rattle.change_draft.specs.declared.asked.Asked.{Asked}
use Rattle.change_draft.specs.Raw.{whole}
use Rattle.change_segment.specs.declared.Parts.{Parts}
use Rattle.change_segment.specs.Sides.{front_new, back_new, sides, one_if, anew_count, places_at}
use Rattle.change_segment.proofs.Sides.{sides-count}
use Rattle.change_lay.specs.declared.Counts.{Counts}
use Rattle.change_lay.proofs.Outputs.{fitting, outputs-laid, met-refused}
use Rattle.change_lay.specs.Laid.{Pieced, ground_of, plan_at, after_at, new_pieces, edits_at, PlanLaid}
use Rattle.change_segment.specs.declared.Places.{Places}
use Rattle.change_draft.specs.declared.Needs.{Needs}
use Rattle.change_range.specs.Raw.{Accepted, FinishWhy}
use Rattle.change_draft.proofs.Filled.{pieced, edits_now, writes_now, shares_now, unrefs_now, releases_now}
use Rattle.change_draft.proofs.Drafting.{draft_passed, sectors_many}

-- ---- places

-- the places are those of the two sides, and the others
places-sides :
    {A : Type 0} (a b : Option A) (ps : List ℕ)
    → one_if a + one_if b ≤ length ps
    → ps ≡ sides a b (λ (r : A). get_or ps 0 0) (λ (r : A). get_or ps (one_if a) 0) ++ drop (one_if a + one_if b) ps
places-sides (Some r) (Some q) (x ∷ y ∷ ps) h = refl
places-sides (Some r) (Some q) [] h = absurd (omega arith)
places-sides (Some r) (Some q) (x ∷ []) h = absurd (omega arith)
places-sides (Some r) None (x ∷ ps) h = refl
places-sides (Some r) None [] h = absurd (omega arith)
places-sides None (Some q) (x ∷ ps) h = refl
places-sides None (Some q) [] h = absurd (omega arith)
places-sides None None ps h = refl

-- the adds at the other places
placed-drop : (ps qs : List ℕ) (ws us : List Wanted) → length ps ≡ length ws → drop (length ps) (placed (ps ++ qs) (ws ++ us)) ≡ placed qs us
unfolding placed
placed-drop [] qs [] us h = refl
placed-drop [] qs (w ∷ ws) us h = absurd (omega arith)
placed-drop (p ∷ ps) qs [] us h = absurd (omega arith)
placed-drop (p ∷ ps) qs (w ∷ ws) us h = placed-drop ps qs ws us (omega arith)

-- the items over pieces, from their adds
pieces_read : (g : Ground) (qs : List ℕ) (ss : List Stretch) → map (piece_item g.file (g.generation + 1)) (placed qs (map piece_wanted ss)) ≡ new_items g qs (map piece_wanted ss)
unfolding placed new_items
pieces_read g [] ss = refl
pieces_read g (q ∷ qs) [] = refl
pieces_read g (q ∷ qs) (s ∷ ss) = ap (λ (l : List Fields). piece_item g.file (g.generation + 1) (record { start = q; length = s.length; key = s.start }) ∷ l) (pieces_read g qs ss)

pass : (o : Outcome Plan) → refused_or 0 o ≡ o
unfolding refused_or
pass o = refl

plan-is : (d e : Drafted) → plan d ≡ plan e → d ≡ e
plan-is d e h = cc

-- ---- the second half

-- what the code's two refusals come to
module _ (n : Needs) (fs : List Fields) (rows : List Row) (ps : List ℕ) (rooms : Rooms) where
  -- the places are not as wanted,
  pub why-placed : (a : ℕ) → a ≡ unless (places_sound rows ps (map wanted_of (wishes n.extents fs))) 26 → (a ≡ 0 → ⊥) → FinishWhy n fs rows ps rooms a
  why-placed a pa z = λ q h. first_stop a (unless (room_for rooms q) 27) z ∙ ap (λ (x : ℕ). first x (unless (room_for rooms q) 27)) pa

  -- or they are
  pub why-roomed : 0 ≡ unless (places_sound rows ps (map wanted_of (wishes n.extents fs))) 26 → (b : ℕ) → ((q : Plan) → numbers q ≡ n.numbers → b ≡ unless (room_for rooms q) 27) → FinishWhy n fs rows ps rooms b
  why-roomed pa b pb = λ q h. pb q (h (unless-zero (places_sound rows ps (map wanted_of (wishes n.extents fs))) 26 (sym pa) (λ e. omega arith))) ∙ sym (first_go _ _ (sym pa))

module _ (a : Asked) (n : Needs) (ps : List ℕ) (ac : Accepted a n) where
  abbrev file : ℕ
  file = a.begun.base.file.number

  abbrev size : ℕ
  size = a.begun.base.file.size

  abbrev generation : ℕ
  generation = a.begun.base.volume.generation

  abbrev c : RangeChange
  c = a.begun.range

  abbrev p : Parts
  p = a.begun.parts

  abbrev fs : List Fields
  fs = items_in a.begun.base

  abbrev rs : List Row
  rs = rows_in a.begun.base

  abbrev g' : Ground
  g' = ground_of a.begun

  abbrev d' : Change
  d' = whole a

  abbrev ws : List Wanted
  ws = wanted g' d' piece_limit

  abbrev q : Plan
  q = plan_of g' d' piece_limit ps

  needed : ◌≡◌ {A = Drafted} (record { numbers = n.numbers; extents = wishes n.extents fs }) (record { numbers = numbers (plan_of g' d' piece_limit (replicate (length ws) 1)); extents = map stretch_for ws })
  needed = plan-is _ _ (ac.needs ∙ sym (draft_passed a ac.none))

  -- the extents wanted are those of the walk
  extents-told : map stretch_for ws ≡ wishes n.extents fs
  extents-told = sym (ap (λ (d : Drafted). d.extents) needed)

  wishes-many : length (wishes n.extents fs) ≡ length ws
  wishes-many = ap length (sym extents-told) ∙ length-map ws stretch_for

  pub adds-many : length (wishes n.extents fs) ≡ n.numbers.adds
  adds-many =
      let e : n.numbers.adds ≡ length (placed (replicate (length ws) 1) ws) = ap (λ (d : Drafted). d.numbers.adds) needed in
      wishes-many ∙ sym (e ∙ placed-length (replicate (length ws) 1) ws (length-replicate (length ws) 1) ∙ length-replicate (length ws) 1)

  -- the plan's numbers are those of the draft, where the places are sound
  counts : places_sound rs ps ws ≡ true → numbers q ≡ n.numbers
  counts e = numbers-sound g' d' piece_limit ps e ∙ sym (ap (λ (d : Drafted). d.numbers) needed)

  sound-same : places_sound rs ps ws ≡ places_sound rs ps (map wanted_of (wishes n.extents fs))
  sound-same = sound_spans ps ws (wishes n.extents fs) extents-told rs

  module _ (before : Outs) (why : ℕ) (told : FinishWhy n fs rs ps (rooms_of before) why) where
    why_is : why ≡ first (unless (places_sound rs ps ws) 26) (unless (room_for (rooms_of before) q) 27)
    why_is = told q (λ e. counts (sound-same ∙ e)) ∙ ap (λ (b : Bool). first (unless b 26) (unless (room_for (rooms_of before) q) 27)) (sym sound-same)

    outcome : changed g' d' piece_limit ps (rooms_of before) ≡ refused_or why (plan q)
    unfolding changed first_of
    outcome = rw (ac.none, why_is, first_last) (unfold first in refl)

    pub finish_refused : (r : Refusal) → why ≡ number r → MetWith file (changed g' d' piece_limit ps (rooms_of before)) (Err r) before before
    finish_refused r e = met-refused file r (changed g' d' piece_limit ps (rooms_of before)) before (outcome ∙ refuses why (λ z. number-some r (sym e ∙ z)) ∙ ap refused e)
      where
        refuses : (x : ℕ) → (x ≡ 0 → ⊥) → refused_or x (plan q) ≡ refused x
        refuses zero z = absurd (z refl)
        refuses (suc x) z = unfold refused_or in refl

    module _ (z : why ≡ 0) where
      pub places-sound : places_sound rs ps ws ≡ true
      places-sound = unless-zero _ 26 (first-zero (unless (places_sound rs ps ws) 26) (unless (room_for (rooms_of before) q) 27) (sym why_is ∙ z)).0 (λ e. omega arith)

      pub rooms_fit : room_for (rooms_of before) q ≡ true
      rooms_fit = unless-zero _ 27 (first-zero (unless (places_sound rs ps ws) 26) (unless (room_for (rooms_of before) q) 27) (sym why_is ∙ z)).1 (λ e. omega arith)

      pub finish_planned : (after : Outs) → after ≡ left file (plan q) before → MetWith file (changed g' d' piece_limit ps (rooms_of before)) (Ok (Some n.numbers)) before after
      finish_planned after e = rw (outcome, z, pass) (record { answer = ap plan (sym (counts places-sound)); outputs = e })

  -- ---- the writing

  module _ (before : Outs) (sound : places_sound rs ps ws ≡ true) (fits : room_for (rooms_of before) q ≡ true) where
    abbrev x : ℕ
    x = get_or ps 0 0

    abbrev y : ℕ
    y = get_or ps (one_if (front_new c p)) 0

    abbrev at : Places
    at = record { front = x; back = y }

    abbrev k : ℕ
    k = anew_count c p

    abbrev first-places : List ℕ
    first-places = places_at c p x y

    first-count : k ≡ length first-places
    first-count = sides-count (front_new c p) (back_new c p) (λ (r : Rewrite). x) (λ (r : Rewrite). y)

    abbrev others' : List ℕ
    others' = drop k ps

    places-many : length ps ≡ length ws
    places-many = places_count rs ps ws sound

    pub wishes-places : length (wishes n.extents fs) ≡ length ps
    wishes-places = wishes-many ∙ sym places-many

    k-many : k ≡ length (sectors_wanted g' d' piece_limit)
    k-many = sectors_many a

    firsts : length first-places ≡ length (sectors_wanted g' d' piece_limit)
    firsts = sym first-count ∙ k-many

    split : ps ≡ first-places ++ others'
    split = places-sides (front_new c p) (back_new c p) ps (omega (arith, places-many, k-many, length-append (sectors_wanted g' d' piece_limit) (pieces_wanted g' d' piece_limit)))

    adds_are : q.adds ≡ placed ps (map wanted_of (wishes n.extents fs))
    adds_are = placed_spans ps ws (wishes n.extents fs) extents-told

    adds-number : length q.adds ≡ length ps
    adds-number = placed-length ps ws places-many

    module _ (m : ℕ) (adds' : List ℕ) (l : Laid add_numbers 3 0 (placed ps (map wanted_of (wishes n.extents fs))) before.adds m adds') where
      m_is : m ≡ length q.adds
      m_is = l.lines ∙ zero-add _ ∙ ap length (sym adds_are)

      adds-laid : adds' ≡ lay add_numbers 3 0 q.adds before.adds
      adds-laid = l.output ∙ ap (λ (l : List Add). lay add_numbers 3 0 l before.adds) (sym adds_are)

      room : length q.adds ≤ length before.adds / 3
      room = (fitting before q fits).adds

      -- the part of the adds that is lent to the edits
      pub part-order : k * 3 ≤ m * 3
      part-order = omega (arith, m_is, adds-number, places-many, k-many, length-append (sectors_wanted g' d' piece_limit) (pieces_wanted g' d' piece_limit))

      pub part_fits : m * 3 ≤ length before.adds
      part_fits =
          let t : length q.adds * 3 ≤ length before.adds = (le-div_iff_mul-le {k = 3} (omega arith)).0 room in
          omega (arith, t, m_is)

      pub part-inside : m * 3 ≤ length adds'
      part-inside =
          let e : length adds' ≡ length before.adds = ap length adds-laid ∙ length-lay add_numbers 3 (omega arith) (λ a. refl) 0 q.adds before.adds in
          omega (arith, e, part_fits)

      abbrev part : List ℕ
      part = take (m * 3 - k * 3) (drop (k * 3) adds')

      part_read : adds_in part ≡ placed others' (pieces_wanted g' d' piece_limit)
      unfolding add_in
      part_read =
          rw (m_is, adds-laid)
          (lay_read add_numbers 3 add_in (omega arith) (λ a. refl) (λ a. true) (λ a u s. refl) q.adds before.adds k (every_true q.adds) room (omega (arith, adds-number, places-many, k-many, length-append (sectors_wanted g' d' piece_limit) (pieces_wanted g' d' piece_limit)))
          ∙ ap (λ (l : List ℕ). drop k (placed l ws)) split
          ∙ ap (λ (i : ℕ). drop i (placed (first-places ++ others') ws)) first-count
          ∙ placed-drop first-places others' (sectors_wanted g' d' piece_limit) (pieces_wanted g' d' piece_limit) firsts)

      part-items : piece_items file (generation + 1) part ≡ new_items g' others' (pieces_wanted g' d' piece_limit)
      part-items = ap (map (piece_item file (generation + 1))) part_read ∙ pieces_read g' others' (flat_map (prealloc_pieces piece_limit) d'.holes)

      olds : items_before g' d' ≡ fs
      olds = leaves-items fs a.begun.base.leaves.shared.now a.begun.base.leaves.one_each

      pieced_now : Pieced fs (items_of (after_at a.begun at)) (piece_items file (generation + 1) part)
      pieced_now =
          let r = pieced size g' d' a.fair first-places others' firsts in
          record { rise = rw part-items r.rise; olds = rw part-items (rw olds at r.olds); news = rw part-items r.news }

      written :
          (r : Counts) (after : Outs)
          → PlanLaid file (plan_at a.begun at) (edits_at a.begun at part) r (outs before.edits before.shares before.unrefs before.releases adds' before.writes) after
          → after ≡ left file (plan q) before
      written r after h =
          let e1 : edits_at a.begun at part ≡ q.edits =
          ap (λ (ys : List Fields). edits (items_before g' d') (insert_all ys (after_at a.begun at))) part-items
          ∙ sym (edits_now size g' d' a.fair first-places others' firsts) ∙ ap (λ (l : List ℕ). (plan_of g' d' piece_limit l).edits) (sym split) in
          let e6 : (plan_at a.begun at).writes ≡ q.writes = sym (writes_now size g' d' a.fair first-places others' firsts) ∙ ap (λ (l : List ℕ). (plan_of g' d' piece_limit l).writes) (sym split) in
          let e2 : (plan_at a.begun at).shares ≡ q.shares = sym (shares_now size g' d' a.fair first-places others' firsts) in
          let e3 : (plan_at a.begun at).unrefs ≡ q.unrefs = sym (unrefs_now size g' d' a.fair first-places others' firsts) in
          let e4 : (plan_at a.begun at).releases ≡ q.releases = sym (releases_now size g' d' a.fair first-places others' firsts) in
          outputs-laid file q before after fits
          (h.edits.edits.output ∙ ap (λ (l : List Edit). lay (edit_bytes file) 71 0 l before.edits) e1)
          (h.refs.shares.output ∙ ap (λ (l : List Ref). lay ref_numbers 2 0 l before.shares) e2)
          (h.refs.unrefs.output ∙ ap (λ (l : List Ref). lay ref_numbers 2 0 l before.unrefs) e3)
          (h.refs.releases.output ∙ ap (λ (l : List Ref). lay ref_numbers 2 0 l before.releases) e4)
          (h.adds ∙ adds-laid)
          (h.writes.output ∙ ap (λ (l : List Write). lay write_numbers 4 0 l before.writes) e6)

      -- the same for the places and the part that the code has
      module _ (at' : Places) (j n' : ℕ) (px : at'.front ≡ get_or ps 0 0) (pj : j ≡ one_if (front_new c p)) (py : at'.back ≡ get_or ps j 0) (pn : n' ≡ k) where
        at_is : at' ≡ at
        at_is = ap₂ {C = Places} (λ (x : ℕ) (y : ℕ). record { front = x; back = y }) px (py ∙ ap (λ (i : ℕ). get_or ps i 0) pj)

        pub order-at : n' * 3 ≤ m * 3
        order-at = rw pn part-order

        pub pieced_at : Pieced fs (items_of (after_at a.begun at')) (new_pieces a.begun (take (m * 3 - n' * 3) (drop (n' * 3) adds')))
        pieced_at = rw (pn, at_is) pieced_now

        pub written_at :
            (r : Counts) (after : Outs)
            → PlanLaid file (plan_at a.begun at') (edits_at a.begun at' (take (m * 3 - n' * 3) (drop (n' * 3) adds'))) r (outs before.edits before.shares before.unrefs before.releases adds' before.writes) after
            → after ≡ left file (plan q) before
        written_at r after h = written r after (rw (pn, at_is) at h)
