-- What a punch that is planned says of all that it was lent. Assumes nothing.
use mathlib.Core.Path.{◌≡◌, refl, sym}
use mathlib.Core.Bool.{true}
use mathlib.Core.List.{List, [], ◌∷◌, Memᴰ}
use mathlib.Core.Option.{some}
use Prim.Native.Nat.{ℕ, ◌+◌, ◌<◌, ◌^◌}
use native.Mathlib.Omega.{arith}
use lib.Dec.{eqb, leb, ltb}
use lib.ListN.{length}
use borrow.Author.Tests.{eqb-true, eqb-false, ltb-true}
use Rattle.records.specs.Stages.{stage, every}
use Rattle.records.proofs.Tests.{both, both_left, first_of_zero, whenever-zero, unless-zero, stage-zero}
use Rattle.item.specs.Items.{Fields, ranged}
use Rattle.table.specs.declared.Row.{Row}
use Rattle.lists.specs.Lists.{record_refusal}
use Rattle.lists.proofs.Laws.{kept, Plain, plain}
use Rattle.request.specs.declared.Volume.{Volume}
use Rattle.request.specs.declared.File.{File}
use Rattle.request.specs.declared.Range.{Range}
use Rattle.request.specs.Answers.{plan}
use Rattle.request.proofs.Stages.{Accepted, accepted}
use Rattle.ref_def.specs.Drops.{in_leaves}
use Rattle.ref_def.proofs.Drops.{leaves-items}
use Rattle.plan_def.specs.Plans.{Plan}
use Rattle.plan_def.specs.Places.{places_sound}
use Rattle.plan_def.specs.Outputs.{Rooms}
use Rattle.plan_def.proofs.Outcomes.{refused_or-plan, or_nothing-plan, plan-same}
use Rattle.change_def.specs.Preallocs.{piece_limit}
use Rattle.change_def.specs.Rewrites.{ground_of, leaf_items}
use Rattle.change_def.specs.Changes.{Change, change_refusal, changed, wanted, plan_of}
use Rattle.change_def.proofs.Fair.{Sound}
use Rattle.punch_def.specs.Punch.{plan_punch, range_refusal, punch}

-- records that pass 7, 8 and 9 are of kind 1 or 2
pub records-ranged : (fs : List Fields) → stage record_refusal fs ≡ 0 → every ranged fs ≡ true
unfolding every
records-ranged [] h = refl
records-ranged (f ∷ fs) h =
    let s = stage-zero record_refusal f fs h in
    both (ranged f) (every ranged fs) (plain f s.0).ranged (records-ranged fs s.1)

-- each of them, and none is encoded
pub records-plain : (f : Fields) (fs : List Fields) → stage record_refusal fs ≡ 0 → Memᴰ f fs → Plain f
records-plain f (g ∷ fs) h (Memᴰ.head e) = rw e (plain g (stage-zero record_refusal g fs h).0)
records-plain f [] h x'' = elim x'' [ ]
records-plain f (g ∷ fs) h (Memᴰ.tail m) = records-plain f fs (stage-zero record_refusal g fs h).1 m

module _ (v : Volume) (f : File) (fs : List Fields) (shared : List ℕ) (rs : List Row) where
  -- the shared bytes are one a record
  pub ground_items : Accepted v f fs shared rs → leaf_items (in_leaves fs shared) ≡ fs
  ground_items a = leaves-items fs shared (eqb-true (length shared) (length fs) (both_left (eqb (length shared) (length fs)) (every (λ (b : ℕ). leb b 1) shared) a.shares))

  -- so the file that the change goes by passed its checks
  pub ground_sound : Accepted v f fs shared rs → every ranged fs ≡ true → Sound (ground_of v f fs shared rs)
  ground_sound a r =
      let e = ground_items a in
      record {
        kept = rw e (kept f.number fs a.kept);
        ranges = rw e r;
        sector = a.sector;
        sectors = rw e a.sectors;
        table = a.«table_kept»;
      }

  module _ (r : Range) (places : List ℕ) where
    pub record Planned (p : Plan) : Type 0 where
      pub change : Change
      pub asked : plan_punch fs f.size v.sector r.offset (r.offset + r.length) ≡ some change
      pub made : p ≡ plan_of (ground_of v f fs shared rs) change piece_limit places
      pub unrefused : change_refusal (ground_of v f fs shared rs) change ≡ 0
      pub placed : places_sound rs places (wanted (ground_of v f fs shared rs) change piece_limit) ≡ true
      pub lent : Accepted v f fs shared rs
      pub some : 0 < r.length
      pub limit : r.offset + r.length < 2 ^ 63
      pub records : stage record_refusal fs ≡ 0

    pub planned : (rooms : Rooms) (p : Plan) → punch v f r fs shared rs places rooms ≡ plan p → Planned p
    unfolding punch range_refusal changed
    planned rooms p h =
        let a = refused_or-plan _ _ p h in
        let b = or_nothing-plan (plan_punch fs f.size v.sector r.offset (r.offset + r.length)) _ p a.1 in
        let c : Change = b.0 in
        let d = refused_or-plan _ _ p b.2 in
        let z = first_of_zero _ a.0 in
        let y = first_of_zero _ d.0 in
        record {
          change = c;
          asked = b.1;
          made = sym (plan-same _ _ d.1);
          unrefused = y.0;
          placed = unless-zero (places_sound rs places (wanted (ground_of v f fs shared rs) c piece_limit)) 26 y.1.0 (λ e. omega arith);
          lent = accepted v f fs shared rs z.0;
          some = let n = eqb-false r.length 0 (whenever-zero (eqb r.length 0) 5 z.1.0 (λ e. omega arith)) in omega arith;
          limit = ltb-true (r.offset + r.length) (2 ^ 63) (unless-zero (ltb (r.offset + r.length) (2 ^ 63)) 6 z.1.1.0 (λ e. omega arith));
          records = z.1.1.1.0;
        }
