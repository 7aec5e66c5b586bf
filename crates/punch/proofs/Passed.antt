-- What passes the refusals of a range says of all that was lent. Assumes nothing.
use mathlib.Core.Path.{◌≡◌}
use mathlib.Core.Bool.{Bool, true}
use mathlib.Core.List.{List}
use Prim.Native.Nat.{ℕ, ◌+◌, ◌<◌, ◌≤◌, ◌^◌}
use native.Mathlib.Omega.{arith}
use lib.Dec.{eqb, leb, ltb}
use lib.ListN.{length}
use borrow.Author.Tests.{eqb-true, eqb-false, leb-true, ltb-true}
use Rattle.records.specs.Stages.{every, stage}
use Rattle.records.proofs.Tests.{both_left, first-zero, first_of_zero, unless-zero, whenever-zero}
use Rattle.item.specs.Items.{items}
use Rattle.table.specs.Rows.{rows, table_kept}
use Rattle.lists.specs.Lists.{record_refusal}
use Rattle.request.specs.declared.Volume.{Volume}
use Rattle.request.specs.declared.File.{File}
use Rattle.request.specs.declared.Range.{Range}
use Rattle.request.proofs.Stages.{Accepted, accepted}
use Rattle.cut_segment.specs.Segments.{Runs}
use Rattle.cut_segment.proofs.Segments.{kept-runs}
use Rattle.change_def.specs.Rewrites.{ground_of}
use Rattle.change_def.proofs.Fair.{Sound}
use Rattle.punch_def.specs.Punch.{range_refusal}
use Rattle.punch_def.proofs.Planned.{records-ranged, ground_sound}
use Rattle.punch.specs.Raw.{range_lent}

module _ (v : Volume) (f : File) (r : Range) (list shared table : List ℕ) where
  record Passed : Type 0 where
    accepted : Accepted v f (items list) shared (rows table)
    some : 0 < r.length
    limit : r.offset + r.length < 2 ^ 63
    records : stage record_refusal (items list) ≡ 0

  passed : range_lent v f r list shared table ≡ 0 → Passed
  unfolding range_refusal
  passed h =
      let z = first_of_zero _ (first-zero _ _ h).1 in
      let n = eqb-false r.length 0 (whenever-zero (eqb r.length 0) 5 z.1.0 (λ e. omega arith)) in
      record {
        accepted = accepted v f (items list) shared (rows table) z.0;
        some = omega arith;
        limit = ltb-true (r.offset + r.length) (2 ^ 63) (unless-zero (ltb (r.offset + r.length) (2 ^ 63)) 6 z.1.1.0 (λ e. omega arith));
        records = z.1.1.1.0;
      }

  -- what the range and its ground are
  pub record Facts : Type 0 where
    pub runs : Runs 0 (items list)
    pub «one-each» : length shared ≡ length (items list)
    pub «rows-kept» : table_kept (rows table) ≡ true
    pub sound : Sound (ground_of v f (items list) shared (rows table))
    pub size : f.size < 2 ^ 63
    pub sized : length (items list) ≤ 65536
    pub some : r.offset < r.offset + r.length
    pub limit : r.offset + r.length < 2 ^ 63

  pub facts : range_lent v f r list shared table ≡ 0 → Facts
  facts z =
      let p = passed z in
      let a = p.accepted in
      let ranges = records-ranged (items list) p.records in
      record {
        runs = kept-runs f.number (items list) a.kept ranges;
        «one-each» = eqb-true (length shared) (length (items list)) (both_left (eqb (length shared) (length (items list))) (every (λ (b : ℕ). leb b 1) shared) a.shares);
        «rows-kept» = a.«table_kept»;
        sound = ground_sound v f (items list) shared (rows table) a ranges;
        sized = leb-true (length (items list)) 65536 a.sized;
        size = ltb-true f.size (2 ^ 63) a.size;
        some = omega (arith, p.some);
        limit = p.limit;
      }
