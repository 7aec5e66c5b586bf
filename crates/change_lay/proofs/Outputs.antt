-- A plan that has room lies in the outputs as it should. Assumes nothing.
use mathlib.Core.Path.{◌≡◌, refl, ◌∙◌}
use mathlib.Core.Bool.{true}
use Prim.Native.Nat.{ℕ, ◌/◌, ◌≤◌}
use native.Mathlib.Omega.{arith}
use Rattle.std.proofs.lemmas.Bool.Decides.{nat_tests}
use lib.ListN.{length}
use Rattle.std.specs.Prelude.{None, Ok, Err}
use Rattle.records.specs.declared.refusal.Refusal.{Refusal}
use Rattle.records.specs.Refusals.{number}
use Rattle.request.specs.Answers.{Outcome, plan, nothing, refused}
use Rattle.plan_def.specs.Plans.{Plan}
use Rattle.plan_def.specs.Outputs.{Outs, rooms_of, room_for, left, MetWith, edit_bytes, ref_numbers, add_numbers, write_numbers}
use Rattle.plan_def.proofs.Leaving.{edit-length}
use Rattle.plan_lines.specs.Lines.{lay}
use Rattle.plan_lines.proofs.Laws.{lay-put}

-- the parts of the room test
pub record Fitting (o : Outs) (p : Plan) : Type 0 where
  pub edits : length p.edits ≤ length o.edits / 71
  pub shares : length p.shares ≤ length o.shares / 2
  pub unrefs : length p.unrefs ≤ length o.unrefs / 2
  pub releases : length p.releases ≤ length o.releases / 2
  pub adds : length p.adds ≤ length o.adds / 3
  pub writes : length p.writes ≤ length o.writes / 4

pub fitting : (o : Outs) (p : Plan) → room_for (rooms_of o) p ≡ true → Fitting o p
fitting o p h =
    record {
      edits = grind (arith, nat_tests);
      shares = grind (arith, nat_tests);
      unrefs = grind (arith, nat_tests);
      releases = grind (arith, nat_tests);
      adds = grind (arith, nat_tests);
      writes = grind (arith, nat_tests);
    }

-- a plan laid over the outputs lies there from their start
pub outputs-laid :
    (file : ℕ) (p : Plan) (before after : Outs) → room_for (rooms_of before) p ≡ true
    → after.edits ≡ lay (edit_bytes file) 71 0 p.edits before.edits
    → after.shares ≡ lay ref_numbers 2 0 p.shares before.shares
    → after.unrefs ≡ lay ref_numbers 2 0 p.unrefs before.unrefs
    → after.releases ≡ lay ref_numbers 2 0 p.releases before.releases
    → after.adds ≡ lay add_numbers 3 0 p.adds before.adds
    → after.writes ≡ lay write_numbers 4 0 p.writes before.writes
    → after ≡ left file (plan p) before
outputs-laid file p before after h l1 l2 l3 l4 l5 l6 =
    let t = fitting before p h in
    let e1 = l1 ∙ lay-put (edit_bytes file) 71 (omega arith) (edit-length file) 0 p.edits before.edits (omega (arith, t.edits)) in
    let e2 = l2 ∙ lay-put ref_numbers 2 (omega arith) (λ r. refl) 0 p.shares before.shares (omega (arith, t.shares)) in
    let e3 = l3 ∙ lay-put ref_numbers 2 (omega arith) (λ r. refl) 0 p.unrefs before.unrefs (omega (arith, t.unrefs)) in
    let e4 = l4 ∙ lay-put ref_numbers 2 (omega arith) (λ r. refl) 0 p.releases before.releases (omega (arith, t.releases)) in
    let e5 = l5 ∙ lay-put add_numbers 3 (omega arith) (λ r. refl) 0 p.adds before.adds (omega (arith, t.adds)) in
    let e6 = l6 ∙ lay-put write_numbers 4 (omega arith) (λ r. refl) 0 p.writes before.writes (omega (arith, t.writes)) in
    λ i. record { edits = e1 i; shares = e2 i; unrefs = e3 i; releases = e4 i; adds = e5 i; writes = e6 i }

pub met-refused : (file : ℕ) (r : Refusal) (o : Outcome Plan) (before : Outs) → o ≡ refused (number r) → MetWith file o (Err r) before before
met-refused file r o before e = rw e (record { answer = refl; outputs = refl })

pub met-nothing : (file : ℕ) (o : Outcome Plan) (before : Outs) → o ≡ nothing → MetWith file o (Ok None) before before
met-nothing file o before e = rw e (record { answer = refl; outputs = refl })
