-- The plan that an operation left in its outputs, read back, is the plan: so what is printed is the outcome. Assumes nothing.
use mathlib.Core.Path.{◌≡◌, refl, ap, ap₂, ◌∙◌}
use mathlib.Core.Bool.{Bool, true}
use mathlib.Core.List.{List, [], ◌∷◌, ◌++◌, flat_map, append_assoc}
use Prim.Native.Nat.{ℕ, ◌+◌, ◌*◌, ◌<◌, ◌≤◌}
use native.Mathlib.Omega.{arith}
use native.Mathlib.Nat.{zero-add}
use lib.ListN.{length, drop, length-append}
use lib.Seq.{drop_at}
use Rattle.endian.specs.Le.{put}
use Rattle.records.specs.Records.{chunks}
use Rattle.records.specs.Stages.{every}
use Rattle.records.proofs.Tests.{both_left, both_right}
use Rattle.records.proofs.Lists.{every_true}
use Rattle.request.specs.Given.{Answer}
use Rattle.request.specs.Answers.{Outcome, plan, nothing, refused, said}
use Rattle.plan_def.specs.Plans.{Plan, numbers}
use Rattle.plan_def.specs.Outputs.{Outs, MetWith, laid, left, edit_bytes, ref_numbers, add_numbers, write_numbers}
use Rattle.plan_def.specs.ReadBack.{edit_in, ref_in, add_in, write_in}
use Rattle.plan_def.proofs.Leaving.{edit-length}
use Rattle.plan_lines.proofs.Laws.{length_flat}
use Rattle.plan_bounds.specs.Widths.{edit_fits}
use Rattle.plan_bounds.proofs.Read.{edit-back}
use Rattle.print_answer.specs.Printed.{printed, plan_in, read_back, shown, Holds, HoldsAnswer}

-- ---- one output: f gives the numbers of a line, w of them

module _ {A : Type 0} (f : A → List ℕ) (w : ℕ) (pos : 0 < w) (wide : (a : A) → length (f a) ≡ w) where
  front : (l : List A) (out : List ℕ) → laid f l out ≡ flat_map f l ++ drop (length (flat_map f l)) out
  unfolding put
  front l out = rw zero-add refl

  laid-holds : (l : List A) (out : List ℕ) → length l * w ≤ length (laid f l out)
  laid-holds l out =
      let n : length (laid f l out) ≡ length (flat_map f l) + length (drop (length (flat_map f l)) out) = ap length (front l out) ∙ length-append (flat_map f l) (drop (length (flat_map f l)) out) in
      omega (arith, length_flat f w pos wide l)

  -- d reads a line of what passes a test
  module _ (d : List ℕ → A) (u : A → Bool) (reads : (a : A) → u a ≡ true → (s : List ℕ) → d (f a ++ s) ≡ a) where
    lines-back : (l : List A) (t : List ℕ) → every u l ≡ true → chunks d w (length l) (flat_map f l ++ t) ≡ l
    unfolding chunks flat_map every
    lines-back [] t h = refl
    lines-back (a ∷ l) t h =
        rw (append_assoc (f a) (flat_map f l) t, drop_at (f a) (flat_map f l ++ t) w (wide a))
        (ap₂ (λ (x : A) (m : List A). x ∷ m) (reads a (both_left (u a) (every u l) h) (flat_map f l ++ t)) (lines-back l t (both_right (u a) (every u l) h)))

    laid-back : (l : List A) (out : List ℕ) → every u l ≡ true → chunks d w (length l) (laid f l out) ≡ l
    laid-back l out h = rw (front l out) (lines-back l (drop (length (flat_map f l)) out) h)

-- ---- all outputs

module _ (file : ℕ) (p : Plan) (o : Outs) where
  plan-back : every edit_fits p.edits ≡ true → plan_in (numbers p) (left file (plan p) o) ≡ p
  unfolding plan_in ref_in add_in write_in
  plan-back h =
      rw (
        laid-back (edit_bytes file) 71 (omega arith) (edit-length file) edit_in edit_fits (edit-back file) p.edits o.edits h,
        laid-back ref_numbers 2 (omega arith) (λ r. refl) ref_in (λ r. true) (λ r k s. refl) p.shares o.shares (every_true p.shares),
        laid-back ref_numbers 2 (omega arith) (λ r. refl) ref_in (λ r. true) (λ r k s. refl) p.unrefs o.unrefs (every_true p.unrefs),
        laid-back ref_numbers 2 (omega arith) (λ r. refl) ref_in (λ r. true) (λ r k s. refl) p.releases o.releases (every_true p.releases),
        laid-back add_numbers 3 (omega arith) (λ a. refl) add_in (λ a. true) (λ a k s. refl) p.adds o.adds (every_true p.adds),
        laid-back write_numbers 4 (omega arith) (λ w. refl) write_in (λ w. true) (λ w k s. refl) p.writes o.writes (every_true p.writes),
      )
      refl

  plan-holds : Holds (numbers p) (left file (plan p) o)
  plan-holds =
      record {
        edits = laid-holds (edit_bytes file) 71 (omega arith) (edit-length file) p.edits o.edits;
        shares = laid-holds ref_numbers 2 (omega arith) (λ r. refl) p.shares o.shares;
        unrefs = laid-holds ref_numbers 2 (omega arith) (λ r. refl) p.unrefs o.unrefs;
        releases = laid-holds ref_numbers 2 (omega arith) (λ r. refl) p.releases o.releases;
        adds = laid-holds add_numbers 3 (omega arith) (λ a. refl) p.adds o.adds;
        writes = laid-holds write_numbers 4 (omega arith) (λ w. refl) p.writes o.writes;
      }

-- ---- an answer

-- its numbers fit a record, if it is a plan
abbrev pub Fitting : Outcome Plan → Type 0
Fitting o = (p : Plan) → o ≡ plan p → every edit_fits p.edits ≡ true

pub read_back_lem : (file : ℕ) (o : Outcome Plan) (r : Answer) (before after : Outs) → MetWith file o r before after → Fitting o → read_back (said r) after ≡ o
unfolding read_back
read_back_lem file (plan p) r before after m h = rw (m.answer, m.outputs) (ap plan (plan-back file p before (h p refl)))
read_back_lem file nothing r before after m h = rw m.answer refl
read_back_lem file (refused n) r before after m h = rw m.answer refl

-- what is shown is the outcome, printed
pub shown-printed : (file : ℕ) (o : Outcome Plan) (r : Answer) (before after : Outs) → MetWith file o r before after → Fitting o → shown r after ≡ printed o
shown-printed file o r before after m h = ap printed (read_back_lem file o r before after m h)

-- the outputs are as long as the answer says
pub met_holds : (file : ℕ) (o : Outcome Plan) (r : Answer) (before after : Outs) → MetWith file o r before after → HoldsAnswer (said r) after
met_holds file (plan p) r before after m = rw (m.answer, m.outputs) (plan-holds file p before)
met_holds file nothing r before after m = rw m.answer tt
met_holds file (refused n) r before after m = rw m.answer tt
