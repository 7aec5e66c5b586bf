-- With ample outputs no operation answers 27, a want of room: the answer is the one that `enough` gives. Assumes nothing.
use mathlib.Core.Path.{◌≡◌, refl, sym}
use mathlib.Core.Bool.{Bool, true, false, cond, ◌&&◌, not}
use mathlib.Core.List.{List, [], ◌∷◌, map}
use mathlib.Core.Option.{Option, none, some}
use Prim.Native.Nat.{ℕ, zero, suc, ◌+◌, ◌≤◌}
use native.Mathlib.Omega.{arith}
use lib.Dec.{eqb, ltb}
use lib.ListN.{length, length-append, length-map}
use borrow.Author.Tests.{eqb-false}
use Rattle.records.specs.Stages.{unless, first, first_of}
use Rattle.records.specs.Select.{only, keep}
use Rattle.records.proofs.Tests.{first_of_zero}
use Rattle.records.proofs.Picks.{only-few}
use Rattle.item.specs.Items.{Fields, hole, items}
use Rattle.table.specs.declared.Row.{Row}
use Rattle.table.specs.Rows.{rows}
use Rattle.request.specs.declared.Volume.{Volume}
use Rattle.request.specs.declared.File.{File}
use Rattle.request.specs.declared.Range.{Range}
use Rattle.request.specs.Answers.{Outcome, plan, nothing, refused}
use Rattle.request.proofs.Stages.{Accepted, accepted}
use Rattle.ref_def.specs.Drops.{InLeaf, in_leaves}
use Rattle.table.specs.Rows.{table_kept}
use Rattle.plan_def.specs.Plans.{Plan, refused_or, or_nothing}
use Rattle.plan_def.specs.Places.{places_sound}
use Rattle.plan_def.specs.Outputs.{Rooms, room_for}
use Rattle.plan_def.proofs.Places.{places_count}
use Rattle.plan_def.proofs.Outcomes.{refused_or-plan}
use Rattle.cut_def.specs.Cuts.{covered, split}
use Rattle.cut_def.specs.Pieces.{cut_pieces}
use Rattle.cut_def.specs.Refs.{ref_of}
use Rattle.cut_def.proofs.Inserts.{insert_all-length}
use Rattle.change_def.specs.Preallocs.{piece_limit}
use Rattle.change_def.specs.Rewrites.{Ground, ground_of}
use Rattle.change_def.specs.Changes.{Change, before, change_refusal, changed, wanted, plan_of}
use Rattle.change_def.proofs.Drafts.{keep-most, edits-most, cut_most, unrefs-most, releases-most, numbers-most}
use Rattle.change_def.specs.declared.Rewrite.{Rewrite}
use Rattle.change_def.specs.Rounding.{round_down, round_up}
use Rattle.punch_def.specs.Punch.{first_held, start_in, in_one_sector, first_part, last_part, across_sectors, punch_change, change_from, plan_punch, range_refusal, punch, punch_lent}
use Rattle.punch_def.proofs.Planned.{ground_items}
use Rattle.fallocate_def.specs.Fallocate.{end_rewritten, fallocate_change, fallocate_refusal, fallocate, fallocate_lent}
use Rattle.clone_span.specs.declared.CloneRange.{CloneRange}
use Rattle.clone_items.specs.declared.Copying.{Copying}
use Rattle.clone_items.specs.Copies.{clone_item, copied, clones}
use Rattle.clone_items.specs.Replacing.{top, clone_drops, clone_splits, pieces_now}
use Rattle.clone_def.specs.Clone.{copying, with_room, drafted, drafted_lent, clone_lent}
use Rattle.clone_def.proofs.Planned as Cloning
use Rattle.plan_bounds.specs.Ample.{most_records, most_places, enough, Ample}
use Rattle.plan_bounds.proofs.Enough.{enough-ample, Few, fits}
use Rattle.plan_bounds.proofs.Never.{Other, others, range_other, fallocate-other, change_other, source-other, clone-other}

-- two outcomes are the same, and not 27
record Settled (o p : Outcome Plan) : Type 0 where
  same : o ≡ p
  never : o ≡ refused 27 → ⊥

-- ---- by cases of what comes before

plan-settled : (p : Plan) → Settled (plan p) (plan p)
plan-settled p = record { same = refl; never = λ e. let z : ◌≡◌ {A = ℕ} 0 1 = cc in omega arith }

no_work : Settled nothing nothing
no_work = record { same = refl; never = λ e. let z : ◌≡◌ {A = ℕ} 0 1 = cc in omega arith }

refused-settled : (n : ℕ) (o p : Outcome Plan) → Other n → (n ≡ 0 → Settled o p) → Settled (refused_or n o) (refused_or n p)
unfolding refused_or
refused-settled zero o p k h = h refl
refused-settled (suc n) o p k h = record { same = refl; never = λ e. eqb-false (suc n) 27 k cc }

nothing-settled : {A : Type 0} (x : Option A) (f g : A → Outcome Plan) → ((y : A) → x ≡ some y → Settled (f y) (g y)) → Settled (or_nothing x f) (or_nothing x g)
nothing-settled none f g h = no_work
nothing-settled (some y) f g h = h y refl

cond-settled : (b : Bool) (o p : Outcome Plan) → Settled o p → Settled (cond b nothing o) (cond b nothing p)
cond-settled true o p h = no_work
cond-settled false o p h = h

-- ---- the last stage

module _ (one : Rooms) (a : Ample one) where
  -- behind 26
  last : (x : ℕ) (sound : Bool) (p : Plan) → Other x → (sound ≡ true → Few p)
      → Settled (refused_or (first_of (x ∷ unless sound 26 ∷ unless (room_for one p) 27 ∷ [])) (plan p)) (refused_or (first_of (x ∷ unless sound 26 ∷ unless (room_for enough p) 27 ∷ [])) (plan p))
  unfolding first_of
  last x true p n f = rw (fits one p a (f refl), fits enough p enough-ample (f refl)) (refused-settled _ _ _ (search others) (λ z. plan-settled p))
  last x false p n f = unfold first in refused-settled _ _ _ (search others) (λ z. plan-settled p)

  -- of a change
  changed-settled : (g : Ground) (c : Change) (places : List ℕ) → table_kept g.rows ≡ true → length (before g c) ≤ most_records → length c.rewrites ≤ 2 → length places ≤ most_places
      → Settled (changed g c piece_limit places one) (changed g c piece_limit places enough)
  unfolding changed
  changed-settled g c places kept items rewrites few =
      last (change_refusal g c) (places_sound g.rows places (wanted g c piece_limit)) (plan_of g c piece_limit places) (change_other g c)
      (λ e.
      let m = numbers-most g c piece_limit places kept in
      let n = places_count g.rows places (wanted g c piece_limit) e in
      record {
        edits = let x = m.edits in omega arith;
        shares = let x = m.shares in omega arith;
        unrefs = let x = m.unrefs in omega arith;
        releases = let x = m.releases in omega arith;
        adds = let x = m.adds in omega arith;
        writes = let x = m.writes in omega arith;
      })

  -- of a clone
  room_settled : (o : Outcome Plan) → ((p : Plan) → o ≡ plan p → Few p) → Settled o o → Settled (with_room one o) (with_room enough o)
  unfolding refused_or
  room_settled (plan p) h k = rw (fits one p a (h p refl), fits enough p enough-ample (h p refl)) k
  room_settled nothing h k = k
  room_settled (refused n) h k = k

-- ---- a punch

-- a punch rewrites two sectors at most
module _ (fs : List Fields) (size sector stop : ℕ) where
  change_most : (start : ℕ) → length (punch_change fs size sector start stop).rewrites ≤ 2
  change_most start = go (in_one_sector sector start stop) (ltb start (round_up sector size))
    where
      one : Rewrite
      one = record { sector = round_down sector start; first = start; end = round_down sector start + sector }

      two : Rewrite
      two = record { sector = round_down sector stop; first = round_down sector stop; end = stop }

      go : (a b : Bool) → length (cond a (cond b (record { lo = round_down sector start; hi = round_down sector start + sector; rewrites = record { sector = round_down sector start; first = start; end = stop } ∷ []; holes = []; size = size }) (record { lo = round_down sector start; hi = round_down sector start; rewrites = []; holes = []; size = size })) (across_sectors fs size sector start stop)).rewrites ≤ 2
      go true true = omega arith
      go true false = omega arith
      go false b =
          let x : Bool = first_part size sector start in
          let y : Bool = last_part fs size sector stop in
          omega (arith, length-append (only x one) (only y two), only-few x one, only-few y two)

  from-most : (o : Option ℕ) (c : Change) → change_from fs size sector stop o ≡ some c → length c.rewrites ≤ 2
  from-most none c h = let z : ◌≡◌ {A = ℕ} 0 1 = cc in absurd (omega arith)
  from-most (some start) c h = let e : punch_change fs size sector start stop ≡ c = cc in rw (sym e) (change_most start)

  punch-most : (offset : ℕ) (c : Change) → plan_punch fs size sector offset stop ≡ some c → length c.rewrites ≤ 2
  unfolding plan_punch
  punch-most offset c h = from-most (start_in (first_held offset fs) stop) c h

module _ (one : Rooms) (a : Ample one) (v : Volume) (f : File) (r : Range) (list shared table places : List ℕ) (few : length (items list) ≤ most_records) (short : length places ≤ most_places) where
  abbrev fs : List Fields
  fs = items list

  abbrev rs : List Row
  rs = rows table

  abbrev g : Ground
  g = ground_of v f fs shared rs

  range_accepted : range_refusal v f r fs shared rs ≡ 0 → Accepted v f fs shared rs
  unfolding range_refusal
  range_accepted e = accepted v f fs shared rs (first_of_zero _ e).0

  ground_few : Accepted v f fs shared rs → (c : Change) → length (before g c) ≤ most_records
  ground_few t c = rw (ground_items v f fs shared rs t) few

  punch-settled : Settled (punch_lent v f r list shared table places one) (punch_lent v f r list shared table places enough)
  punch-settled =
      refused-settled _ _ _ (search others)
      (λ z. unfold punch in
      refused-settled (range_refusal v f r fs shared rs) _ _ (range_other v f r fs shared rs)
      (λ e.
      let t : Accepted v f fs shared rs = range_accepted e in
      nothing-settled (plan_punch fs f.size v.sector r.offset (r.offset + r.length)) _ _
      (λ c q. changed-settled one a g c places t.«table_kept» (ground_few t c) (punch-most fs f.size v.sector (r.offset + r.length) r.offset c q) short)))

  pub punch-same : punch_lent v f r list shared table places one ≡ punch_lent v f r list shared table places enough
  punch-same = punch-settled.same

  pub punch_never : punch_lent v f r list shared table places one ≡ refused 27 → ⊥
  punch_never = punch-settled.never

  -- ---- a fallocate

  fallocate-range : fallocate_refusal v f r fs shared rs ≡ 0 → range_refusal v f r fs shared rs ≡ 0
  unfolding fallocate_refusal
  fallocate-range e = (first_of_zero _ e).0

  fallocate-settled : (keepSize : Bool) → Settled (fallocate_lent v f r keepSize list shared table places one) (fallocate_lent v f r keepSize list shared table places enough)
  fallocate-settled keepSize =
      refused-settled _ _ _ (search others)
      (λ z. unfold fallocate in
      refused-settled (fallocate_refusal v f r fs shared rs) _ _ (fallocate-other v f r fs shared rs)
      (λ e.
      let t : Accepted v f fs shared rs = range_accepted (fallocate-range e) in
      let w : Rewrite = record { sector = round_down v.sector f.size; first = f.size; end = round_down v.sector f.size + v.sector } in
      let c : Change = fallocate_change keepSize fs f.size v.sector r.offset (r.offset + r.length) in
      changed-settled one a g c places t.«table_kept» (ground_few t c)
      (omega (arith, only-few (end_rewritten v.sector f.size (r.offset + r.length)) w))
      short))

  pub fallocate-same : (keepSize : Bool) → fallocate_lent v f r keepSize list shared table places one ≡ fallocate_lent v f r keepSize list shared table places enough
  fallocate-same keepSize = (fallocate-settled keepSize).same

  pub fallocate_never : (keepSize : Bool) → fallocate_lent v f r keepSize list shared table places one ≡ refused 27 → ⊥
  fallocate_never keepSize = (fallocate-settled keepSize).never

-- ---- a clone

leaves-most : (fs : List Fields) (bs : List ℕ) → length (in_leaves fs bs) ≤ length fs
unfolding in_leaves
leaves-most [] bs = omega arith
leaves-most (f ∷ fs) [] = omega arith
leaves-most (f ∷ fs) (b ∷ bs) = omega (arith, leaves-most fs bs)

clones-most : (c : Copying) (fs : List Fields) → length (clones c fs) ≤ length fs
clones-most c fs = omega (arith, length-map (keep (copied c) fs) (clone_item c), keep-most (copied c) fs)

pieces_now_lem : (c : Copying) (fs source : List Fields) → length (pieces_now c fs source) ≡ length (clones c source) + length (cut_pieces c.to (top c) fs)
unfolding pieces_now
pieces_now_lem c fs source = insert_all-length (clones c source) (cut_pieces c.to (top c) fs)

module _ (one : Rooms) (a : Ample one) (v : Volume) (dst src : File) (own : Bool) (span : CloneRange) (list shared source table : List ℕ) (few : length (items list) ≤ most_records) (more : length (items source) ≤ most_records) where
  abbrev before' : List Fields
  before' = items list

  abbrev rs' : List Row
  rs' = rows table

  abbrev from : List Fields
  from = Cloning.src_items v dst src own span before' shared (items source) rs'

  from-few : length from ≤ most_records
  from-few = go own
    where
      go : (o : Bool) → length (cond o (items list) (items source)) ≤ most_records
      go true = few
      go false = more

  plan-few : (p : Plan) → Cloning.Planned v dst src own span before' shared (items source) rs' p → Few p
  plan-few p h =
      let c : Copying = copying v dst src own span before' shared (items source) rs' in
      let ds : List InLeaf = clone_drops c before' shared in
      let leaves-few = leaves-most before' shared in
      let ds-few = keep-most (λ (x : InLeaf). covered c.to (top c) x.item && not (hole x.item)) (in_leaves before' shared) in
      let copies = clones-most c from in
      let kept = h.lent.destination.«table_kept» in
      rw h.made
      (record {
        edits = omega (arith, edits-most before' (pieces_now c before' from), pieces_now_lem c before' from, cut_most c.to (top c) before', from-few);
        shares = omega (arith, length-append (clone_splits c before') (map ref_of (clones c from)), length-map (keep (split c.to (top c)) before') ref_of, keep-most (split c.to (top c)) before', length-map (clones c from) ref_of, from-few);
        unrefs = omega (arith, unrefs-most rs' ds kept);
        releases = omega (arith, releases-most rs' ds kept);
        adds = omega arith;
        writes = omega arith;
      })

  drafted-settled : Settled (drafted_lent v dst src own span list shared source table) (drafted_lent v dst src own span list shared source table)
  drafted-settled =
      refused-settled _ _ _ (search others)
      (λ z. unfold drafted in
      refused-settled _ _ _ (source-other v dst src own span before' shared (items source) rs')
      (λ z. cond-settled (eqb (Cloning.L v dst src own span before' shared (items source) rs') 0) _ _ (refused-settled _ _ _ (clone-other v dst src own span before' shared (items source) rs') (λ z. plan-settled _))))

  clone-settled : Settled (clone_lent v dst src own span list shared source table one) (clone_lent v dst src own span list shared source table enough)
  clone-settled =
      room_settled one a (drafted_lent v dst src own span list shared source table)
      (λ p e. plan-few p (Cloning.drafted-planned v dst src own span before' shared (items source) rs' p (refused_or-plan _ _ p e).1))
      drafted-settled

  pub clone-same : clone_lent v dst src own span list shared source table one ≡ clone_lent v dst src own span list shared source table enough
  clone-same = clone-settled.same

  pub clone_never : clone_lent v dst src own span list shared source table one ≡ refused 27 → ⊥
  clone_never = clone-settled.never
