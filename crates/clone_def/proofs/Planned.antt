-- What a clone that is planned says of all that it was lent. Assumes nothing.
use mathlib.Core.Path.{◌≡◌, refl, sym}
use mathlib.Core.Bool.{Bool, true, ◌&&◌, ◌||◌, not}
use mathlib.Core.List.{List, [], ◌∷◌}
use mathlib.Core.Logic.{⊎_elim, ◌⊎◌, inl, inr}
use Prim.Native.Nat.{ℕ, ◌+◌, ◌%◌, ◌<◌, ◌≤◌, ◌^◌}
use native.Mathlib.Omega.{arith}
use lib.Dec.{eqb, leb, ltb}
use borrow.Author.Tests.{eqb-true, eqb-false, leb-true, ltb-true}
use Rattle.records.specs.Stages.{unless, stage, every}
use Rattle.records.proofs.Tests.{both, both_left, both_right, either, implied, first_of_zero, whenever-zero, unless-zero, stage-zero}
use Rattle.item.specs.Items.{Fields, ranged}
use Rattle.table.specs.declared.Row.{Row}
use Rattle.table.specs.Rows.{one_more_reference}
use Rattle.request.specs.declared.Volume.{Volume}
use Rattle.request.specs.declared.File.{File}
use Rattle.request.specs.Answers.{Outcome, plan, nothing, refused}
use Rattle.request.proofs.Stages.{Accepted2, accepted2}
use Rattle.lists.proofs.Laws.{ranged_of}
use Rattle.cut_def.specs.Refs.{Ref}
use Rattle.ref_def.specs.Drops.{drops_refusal}
use Rattle.plan_def.specs.Plans.{Plan}
use Rattle.plan_def.specs.Outputs.{Rooms, room_for}
use Rattle.plan_def.proofs.Outcomes.{refused_or-plan, plan-same, cond-plan}
use Rattle.clone_span.specs.declared.CloneRange.{CloneRange}
use Rattle.clone_items.specs.Copies.{source_record}
use Rattle.clone_span.specs.Spans.{destination_record}
use Rattle.clone_def.specs.Clone.{source_file, source_items, len, width, drops, split_refs, copying, plan_of, with_room, lent_and_source, clone_refusal, drafted, clone}

-- records that pass 7 and 8 are of kind 1 or 2
pub destination-ranged : (fs : List Fields) → stage destination_record fs ≡ 0 → every ranged fs ≡ true
unfolding every
destination-ranged [] h = refl
destination-ranged (f ∷ fs) h =
    let s = stage-zero destination_record f fs h in
    let z = first_of_zero _ s.0 in
    let inline = eqb-false f.kind 0 (whenever-zero (eqb f.kind 0) 7 z.0 (λ e. omega arith)) in
    let over = leb-true f.kind 2 (unless-zero (leb f.kind 2) 8 z.1.0 (λ e. omega arith)) in
    both (ranged f) (every ranged fs) (ranged_of f inline over) (destination-ranged fs s.1)

-- a plan that has room was a plan
pub room-plan : (rooms : Rooms) (o : Outcome Plan) (p : Plan) → with_room rooms o ≡ plan p → o ≡ plan p
room-plan rooms (plan q) p h = (refused_or-plan (unless (room_for rooms q) 27) (plan q) p h).1
room-plan rooms nothing p h = let z : ◌≡◌ {A = ℕ} 0 1 = cc in absurd (omega arith)
room-plan rooms (refused n) p h = let z : ◌≡◌ {A = ℕ} 0 1 = cc in absurd (omega arith)

module _ (v : Volume) (dst src : File) (own : Bool) (span : CloneRange) (before : List Fields) (shared : List ℕ) (source : List Fields) (rs : List Row) where
  abbrev pub L : ℕ
  L = len v dst src own span before shared source rs

  abbrev pub W : ℕ
  W = width v dst src own span before shared source rs

  abbrev pub src_file : File
  src_file = source_file v dst src own span before shared source rs

  abbrev pub src_items : List Fields
  src_items = source_items v dst src own span before shared source rs

  pub record Planned (p : Plan) : Type 0 where
    pub made : p ≡ plan_of v dst src own span before shared source rs
    pub lent : Accepted2 v dst src_file own before shared src_items rs
    pub begins : span.from ≤ src_file.size
    pub ends : span.from + L ≤ src_file.size
    pub aligned : (span.from % v.sector ≡ 0) × (span.to % v.sector ≡ 0)
    pub some : 0 < L
    pub limit : span.to + L < 2 ^ 63
    pub separate : own ≡ true → (span.to + W ≤ span.from) ⊎ (span.from + W ≤ span.to)
    pub «all-ranged» : every ranged before ≡ true
    pub dropped : drops_refusal rs (drops v dst src own span before shared source rs) ≡ 0
    pub splits : stage (λ (r : Ref). one_more_reference r.start rs) (split_refs v dst src own span before shared source rs) ≡ 0
    pub records : stage (source_record rs (copying v dst src own span before shared source rs)) src_items ≡ 0

  pub drafted-planned : (p : Plan) → drafted v dst src own span before shared source rs ≡ plan p → Planned p
  unfolding drafted lent_and_source clone_refusal
  drafted-planned p h =
      let a = refused_or-plan _ _ p h in
      let b = cond-plan (eqb L 0) _ p a.1 in
      let d = refused_or-plan _ _ p b.1 in
      let z = first_of_zero _ a.0 in
      let s = first_of_zero _ z.1.0 in
      let x = first_of_zero _ d.0 in
      let e = first_of_zero _ x.0 in
      let al = unless-zero (eqb (span.from % v.sector) 0 && eqb (span.to % v.sector) 0) 21 s.1.1.0 (λ e. omega arith) in
      record {
        made = sym (plan-same _ _ d.1);
        lent = accepted2 v dst src_file own before shared src_items rs z.0;
        begins = leb-true span.from src_file.size (unless-zero (leb span.from src_file.size) 19 s.0 (λ e. omega arith));
        ends = leb-true (span.from + L) src_file.size (unless-zero (leb (span.from + L) src_file.size) 20 s.1.0 (λ e. omega arith));
        aligned = (eqb-true (span.from % v.sector) 0 (both_left (eqb (span.from % v.sector) 0) (eqb (span.to % v.sector) 0) al), eqb-true (span.to % v.sector) 0 (both_right (eqb (span.from % v.sector) 0) (eqb (span.to % v.sector) 0) al));
        some = let n = eqb-false L 0 b.0 in omega arith;
        limit = ltb-true (span.to + L) (2 ^ 63) (unless-zero (ltb (span.to + L) (2 ^ 63)) 6 e.0 (λ e. omega arith));
        separate = λ o.
            ⊎_elim (λ q. inl (leb-true (span.to + W) span.from q)) (λ q. inr (leb-true (span.from + W) span.to q))
            (either (leb (span.to + W) span.from) (leb (span.from + W) span.to)
            (implied own (leb (span.to + W) span.from || leb (span.from + W) span.to)
            (unless-zero (not own || (leb (span.to + W) span.from || leb (span.from + W) span.to)) 24 e.1.1.0 (λ e. omega arith)) o));
        «all-ranged» = destination-ranged before x.1.0;
        dropped = x.1.1.1.0;
        splits = x.1.1.1.1.0;
        records = x.1.1.1.1.1.0;
      }

  pub planned : (rooms : Rooms) (p : Plan) → clone v dst src own span before shared source rs rooms ≡ plan p → Planned p
  unfolding clone
  planned rooms p h = drafted-planned p (room-plan rooms (drafted v dst src own span before shared source rs) p h)
