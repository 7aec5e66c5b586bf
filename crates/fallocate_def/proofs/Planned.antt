-- What a fallocate that is planned says of all that it was lent. Assumes nothing.
use mathlib.Core.Path.{◌≡◌, refl, sym}
use mathlib.Core.Bool.{Bool, true, false, cond, ◌&&◌, ◌||◌, not}
use mathlib.Core.List.{List, [], ◌∷◌}
use mathlib.Core.Logic.{◌⊎◌, inl, inr, ⊎_elim}
use Prim.Native.Nat.{ℕ, ◌+◌, ◌<◌, ◌≤◌, ◌^◌}
use native.Mathlib.Omega.{arith}
use lib.Dec.{eqb, leb, ltb}
use lib.ListN.{length}
use borrow.Author.Tests.{eqb-false, leb-true, ltb-true, lt-ltb}
use Rattle.records.specs.Stages.{whenever, first, stage, every}
use Rattle.records.specs.Select.{any}
use Rattle.records.proofs.Tests.{both, both_left, both_right, either, either_left, either_right, implied, first-zero, first_of_zero, whenever-zero, unless-zero, stage-zero, every_both}
use Rattle.item.specs.Items.{Fields, ranged, hole, end}
use Rattle.lists.specs.Lists.{record_refusal}
use Rattle.table.specs.declared.Row.{Row}
use Rattle.request.specs.declared.Volume.{Volume}
use Rattle.request.specs.declared.File.{File}
use Rattle.request.specs.declared.Range.{Range}
use Rattle.request.specs.Answers.{plan}
use Rattle.request.proofs.Stages.{Accepted, accepted}
use Rattle.cut_def.specs.Mappings.{holds}
use Rattle.plan_def.specs.Plans.{Plan}
use Rattle.plan_def.specs.Places.{places_sound}
use Rattle.plan_def.specs.Outputs.{Rooms}
use Rattle.plan_def.proofs.Outcomes.{refused_or-plan, plan-same}
use Rattle.change_def.specs.Preallocs.{piece_limit, sum_of}
use Rattle.change_def.specs.Rewrites.{ground_of, Ground}
use Rattle.change_def.specs.Changes.{Change, wanted, plan_of, change_refusal, changed}
use Rattle.punch_def.specs.Punch.{range_refusal}
use Rattle.punch_def.proofs.Planned.{records-ranged}
use Rattle.change_def.specs.Rounding.{round_down, round_up}
use Rattle.fallocate_def.specs.Fallocate.{end_sector, end_stop, item_refusal, holes_to_allocate, fallocate_change, fallocate_refusal, fallocate}
use Rattle.fallocate_def.proofs.Less.{inside, over, within, within_facts, without_facts}
use Rattle.fallocate_def.proofs.Holes.{hole-told}

-- one that passes p among those that pass u
any-map : {A : Type 0} (u p q : A → Bool) → ((a : A) → u a ≡ true → p a ≡ true → q a ≡ true) → (l : List A) → every u l ≡ true → any p l ≡ true → any q l ≡ true
unfolding any every
any-map u p q f [] h k = k
any-map u p q f (a ∷ l) h k =
    ⊎_elim (λ e. either_left (q a) (any q l) (f a (both_left (u a) (every u l) h) e))
    (λ e. either_right (q a) (any q l) (any-map u p q f l (both_right (u a) (every u l) h) e))
    (either (p a) (any p l) k)

-- ---- what the stages say of the items

module _ (size sector offset stop : ℕ) where
  abbrev lo : ℕ
  lo = round_down sector offset

  abbrev hi : ℕ
  hi = round_up sector stop

  -- an item meets the rounded range
  abbrev meets : Fields → Bool
  meets f = ltb lo (end f) && ltb f.key hi

  -- it is neither a hole nor regular at or past the size
  abbrev fit : Fields → Bool
  fit f = not (hole f) && not (eqb f.kind 1 && leb size f.key)

  -- as every item that meets the range has to be
  abbrev pub allowed : Fields → Bool
  allowed f = not (meets f) || fit f

  -- items that pass 10 and 11
  pub items_allowed : (fs : List Fields) → stage (item_refusal size (round_down sector offset) (round_up sector stop)) fs ≡ 0 → every allowed fs ≡ true
  unfolding every
  items_allowed [] h = refl
  items_allowed (f ∷ fs) h =
      let s = stage-zero (item_refusal size (round_down sector offset) (round_up sector stop)) f fs h in
      both (allowed f) (every allowed fs) (go (meets f) (hole f) (eqb f.kind 1 && leb size f.key) s.0) (items_allowed fs s.1)
    where
      go : (x a b : Bool) → cond x (first (whenever a 10) (whenever b 11)) 0 ≡ 0 → (not x || (not a && not b)) ≡ true
      go true a b h = let z = first-zero (whenever a 10) (whenever b 11) h in rw (whenever-zero a 10 z.0 (λ e. omega arith), whenever-zero b 11 z.1 (λ e. omega arith)) refl
      go false a b h = refl

  -- an allowed item that is over an offset of the range is no hole, and holds it
  over-holds : (o : ℕ) → lo ≤ o → o < hi → (f : Fields) → (ranged f && allowed f) ≡ true → over o f ≡ true → holds o f ≡ true
  over-holds o low high f h e =
      let k = within_facts f.key (end f) o e in
      let m : meets f ≡ true = both (ltb lo (end f)) (ltb f.key hi) (lt-ltb lo (end f) (omega arith)) (lt-ltb f.key hi (omega arith)) in
      let n : fit f ≡ true = implied (meets f) (fit f) (both_right (ranged f) (allowed f) h) m in
      both (ranged f && not (hole f)) (over o f)
      (both (ranged f) (not (hole f)) (both_left (ranged f) (allowed f) h) (both_left (not (hole f)) (not (eqb f.kind 1 && leb size f.key)) n))
      e

  -- an offset is in a hole that is filled, in the end's sector, or held by an item
  abbrev pub Filled : List Fields → ℕ → Type 0
  Filled fs o =
      (inside o (holes_to_allocate size sector offset stop fs) ≡ true)
      ⊎ ((within (end_sector size sector stop) (end_stop size sector stop) o ≡ true) ⊎ (any (holds o) fs ≡ true))

  -- as each of the rounded range is
  pub range-filled : (fs : List Fields) → every ranged fs ≡ true → every allowed fs ≡ true → (o : ℕ) → lo ≤ o → o < hi → Filled fs o
  range-filled fs r a o low high = go (any (over o) fs) refl (within end_lo end_hi o) refl
    where
      end_lo : ℕ
      end_lo = end_sector size sector stop

      end_hi : ℕ
      end_hi = end_stop size sector stop

      go : (x : Bool) → any (over o) fs ≡ x → (y : Bool) → within end_lo end_hi o ≡ y → Filled fs o
      go true e y k = inr (inr (any-map (λ (f : Fields). ranged f && allowed f) (over o) (holds o) (over-holds o low high) fs (every_both ranged allowed fs r a) e))
      go false e true k = inr (inl k)
      go false e false k = inl (hole-told size sector offset stop o fs (record { low = low; high = high; free = e; aside = without_facts end_lo end_hi o (rw k refl) }))

-- ---- what the plan says

module _ (v : Volume) (f : File) (r : Range) (keepSize : Bool) (fs : List Fields) (shared : List ℕ) (rs : List Row) where
  abbrev pub ground : Ground
  ground = ground_of v f fs shared rs

  abbrev pub change : Change
  change = fallocate_change keepSize fs f.size v.sector r.offset (r.offset + r.length)

  pub record Planned (places : List ℕ) (p : Plan) : Type 0 where
    pub made : p ≡ plan_of ground change piece_limit places
    pub changes : change_refusal ground change ≡ 0
    pub placed : places_sound rs places (wanted ground change piece_limit) ≡ true
    pub lent : Accepted v f fs shared rs
    pub some : 0 < r.length
    pub limit : r.offset + r.length < 2 ^ 63
    pub records : stage record_refusal fs ≡ 0
    pub items : stage (item_refusal f.size (round_down v.sector r.offset) (round_up v.sector (r.offset + r.length))) fs ≡ 0
    pub total : sum_of (holes_to_allocate f.size v.sector r.offset (r.offset + r.length) fs) ≤ v.total

  pub planned : (places : List ℕ) (rooms : Rooms) (p : Plan) → fallocate v f r keepSize fs shared rs places rooms ≡ plan p → Planned places p
  unfolding fallocate fallocate_refusal range_refusal changed
  planned places rooms p h =
      let a = refused_or-plan _ _ p h in
      let b = refused_or-plan _ _ p a.1 in
      let z = first_of_zero _ a.0 in
      let y = first_of_zero _ z.0 in
      let x = first_of_zero _ b.0 in
      let sum : ℕ = sum_of (holes_to_allocate f.size v.sector r.offset (r.offset + r.length) fs) in
      record {
        made = sym (plan-same _ _ b.1);
        changes = x.0;
        placed = unless-zero (places_sound rs places (wanted ground change piece_limit)) 26 x.1.0 (λ e. omega arith);
        lent = accepted v f fs shared rs y.0;
        some = let n = eqb-false r.length 0 (whenever-zero (eqb r.length 0) 5 y.1.0 (λ e. omega arith)) in omega arith;
        limit = ltb-true (r.offset + r.length) (2 ^ 63) (unless-zero (ltb (r.offset + r.length) (2 ^ 63)) 6 y.1.1.0 (λ e. omega arith));
        records = y.1.1.1.0;
        items = z.1.0;
        total = leb-true sum v.total (unless-zero (leb sum v.total) 12 z.1.1.0 (λ e. omega arith));
      }

  -- every offset of the rounded range is then held or filled
  pub planned-filled : (places : List ℕ) (p : Plan) → Planned places p → (o : ℕ)
      → round_down v.sector r.offset ≤ o
      → o < round_up v.sector (r.offset + r.length)
      → Filled f.size v.sector r.offset (r.offset + r.length) fs o
  planned-filled places p k =
      range-filled f.size v.sector r.offset (r.offset + r.length) fs (records-ranged fs k.records)
      (items_allowed f.size v.sector r.offset (r.offset + r.length) fs k.items)
