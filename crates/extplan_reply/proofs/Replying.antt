-- The reply to an input, from what was read and what the operation left. Assumes nothing.
use mathlib.Core.Path.{◌≡◌, refl, ap, ◌∙◌, sym, subst}
use mathlib.Core.List.{List, [], ◌∷◌, ◌++◌, flat_map}
use Prim.Native.Nat.{ℕ, ◌<◌, ◌≤◌, ◌^◌}
use native.Mathlib.Omega.{arith}
use lib.ListN.{length, take, length-append}
use lib.Seq.{take_all}
use borrow.Author.Tests.{ne_eqb}
use mathlib.Core.Bool.{true}
use Rattle.table.specs.Rows.{row_numbers}
use Rattle.records.specs.Stages.{every}
use Rattle.plan_bounds.specs.Widths.{edit_fits}
use Rattle.endian.proofs.Numbers.{length-enc}
use Rattle.item.specs.Items.{encode}
use Rattle.item.proofs.Widths.{length-encode}
use Rattle.plan_lines.proofs.Laws.{length-lay}
use Rattle.request.specs.Given.{Answer}
use Rattle.request.specs.Answers.{Outcome}
use Rattle.std.specs.Prelude.{Result, Ok, Err, IsErrAnd}
use Rattle.plan_def.specs.Plans.{Plan}
use Rattle.plan_def.specs.Outputs.{Rooms, Outs, rooms_of, MetWith}
use Rattle.plan_bounds.proofs.Bytes.{bytes-items}
use Rattle.plan_bounds.specs.Ample.{Ample}
use Rattle.print_answer.specs.Printed.{printed}
use Rattle.print_laws.proofs.Back.{shown-printed, met_holds}
use Rattle.read_item.specs.Raw.{byte}
use Rattle.read_order.specs.declared.Read.{Read}
use Rattle.read_order.specs.declared.Request.{Request}
use Rattle.read_order.specs.declared.Phase.TheVariants as Phases
use Rattle.read_order.specs.Numbers.{numbers}
use Rattle.read_order.specs.Taking.{Numbers}
use Rattle.read_order.specs.Run.{Reading}
use Rattle.read_order.specs.Taking.{fault}
use Rattle.read_store.specs.Buffers.{Buffers}
use Rattle.read_store.specs.Storing.{alone, Stored}
use Rattle.read_input.specs.Input.{read_input}
use Rattle.extplan_operate.specs.Operations.{list_in, source_in, shared_in, table_in, places_in, operation_in, LieIn, asking}
use Rattle.extplan_reply.specs.Raw.{Roomy}
use Rattle.extplan_reply.specs.Replies.{operation_on, answer_to, Replied}
use Rattle.extplan_reply.proofs.Parts.{all_laid, first-laid, second_laid, some-laid}
use Rattle.extplan_reply.proofs.Operation.{operation_fits}
use Rattle.extplan_reply.proofs.Counts.{Known, known, line_some, narrow}
use Rattle.extplan_reply.proofs.Never.{enough-same}

-- places are numbers as they are
alone-same : (l : List ℕ) → flat_map alone l ≡ l
unfolding flat_map
alone-same [] = refl
alone-same (a ∷ l) = ap (λ (m : List ℕ). a ∷ m) (alone-same l)

module _ (s : List ℕ) (short : length s ≤ 65536) (b : Buffers) (r : Numbers) (b' : Buffers) (wide : Roomy b) (z : Stored (read_input s) b r b') where
  abbrev x : Reading
  x = read_input s

  k : Known x
  k = known s short

  -- ---- where it lies

  lying : LieIn r b'
  lying =
      rw z.numbers
      (record {
        few = omega (arith, k.items, k.stored, length-append x.items x.source);
        items = rw (z.filled.items, length-lay encode 70 (omega arith) length-encode 0 (x.items ++ x.source) b.items) (omega (arith, k.stored, k.few_items, wide.items));
        shared = rw (z.filled.shared, length-lay byte 1 (omega arith) (length-enc 1) 0 x.shared b.shared) (omega (arith, k.items, k.few_items, wide.shared, length-append x.items x.source));
        table = rw (z.filled.table, length-lay row_numbers 5 (omega arith) (λ r. refl) 0 x.rows b.table) (omega (arith, k.rows, k.few_rows, wide.table));
        places = rw (z.filled.places, length-lay alone 1 (omega arith) (λ r. refl) 0 x.places b.places) (omega (arith, k.places, k.few_places, wide.places));
      })

  -- ---- the operation on it

  list_read : list_in r b'.items ≡ flat_map encode x.items
  list_read = rw (z.numbers, z.filled.items) (first-laid encode 70 (omega arith) length-encode x.items x.source b.items (omega (arith, k.few_items, wide.items)) x.numbers.items k.items)

  source_read : source_in r b'.items ≡ flat_map encode x.source
  source_read = rw (z.numbers, z.filled.items) (second_laid encode 70 (omega arith) length-encode x.items x.source b.items (omega (arith, k.few_items, wide.items)) x.numbers.items x.numbers.stored k.items k.stored)

  shared_read : shared_in r b'.shared ≡ take x.numbers.items x.shared
  shared_read =
      rw (z.numbers, z.filled.shared)
      (some-laid byte (length-enc 1) x.shared b.shared x.numbers.items (omega (arith, k.items, k.stored, k.shared, length-append x.items x.source)) (omega (arith, k.stored, k.shared, k.few_items, wide.shared))
      ∙ ap (take x.numbers.items) k.bytes)

  table_read : table_in r b'.table ≡ flat_map row_numbers x.rows
  table_read = rw (z.numbers, z.filled.table) (all_laid row_numbers 5 (omega arith) (λ r. refl) x.rows b.table x.numbers.rows k.rows (omega (arith, k.few_rows, wide.table)))

  places_read : places_in r b'.places ≡ x.places
  places_read =
      rw (z.numbers, z.filled.places)
      (some-laid alone (λ n. refl) x.places b.places x.numbers.places (omega (arith, k.places)) (omega (arith, k.few_places, wide.places))
      ∙ ap (take x.numbers.places) (alone-same x.places)
      ∙ take_all x.numbers.places x.places (omega (arith, k.places)))

  operation_read : (rooms : Rooms) → operation_in r b' rooms ≡ operation_on x rooms
  unfolding operation_on
  operation_read rooms = rw (list_read, shared_read, source_read, table_read, places_read) (rw z.numbers refl)

  -- ---- what is replied

  plan-replied :
      (o o' : Outs) (a : Answer) → fault r ≡ 0 → Ample (rooms_of o) → r.volume.generation < 2 ^ 64 → r.file.number < 2 ^ 64
      → MetWith r.file.number (operation_in r b' (rooms_of o)) a o o'
      → Replied s (Ok a) o'
  unfolding answer_to
  plan-replied o o' a e m g f t =
      let q : fault x.numbers ≡ 0 = rw (← z.numbers) e in
      let i : Outcome Plan = operation_in r b' (rooms_of o) in
      record {
        lines =
            rw q
            (shown-printed r.file.number i a o o' t (λ p w. fitting (rooms_of o) p g f w)
            ∙ ap printed (operation_read (rooms_of o) ∙ enough-same s short (rooms_of o) m));
        holds = met_holds r.file.number i a o o' t;
      }
    where
      fitting : (rooms : Rooms) (p : Plan) → r.volume.generation < 2 ^ 64 → r.file.number < 2 ^ 64 → operation_in r b' rooms ≡ Outcome.plan p → every edit_fits p.edits ≡ true
      fitting rooms p g f w = operation_fits r _ _ _ _ _ rooms p g f (rw list_read (bytes-items x.items)) (rw source_read (bytes-items x.source)) w

-- the same of what the code read, with the request in it
module _ (s : List ℕ) (short : length s ≤ 65536) (b : Buffers) (r : Read) (b' : Buffers) (wide : Roomy b) (z : Stored (read_input s) b (numbers r) b') (q : Request) (e : r.phase ≡ Phases.Request q) where
  asked_same : numbers r ≡ asking r q
  asked_same = rw e refl

  pub asked_lying : LieIn (asking r q) b'
  asked_lying = rw (← asked_same) (lying s short b (numbers r) b' wide z)

  pub asked_replied :
      (o o' : Outs) (a : Answer) → fault (numbers r) ≡ 0 → Ample (rooms_of o)
      → MetWith r.file.number (operation_in (asking r q) b' (rooms_of o)) a o o'
      → Replied s (Ok a) o'
  asked_replied o o' a f m t =
      let n = narrow s in
      plan-replied s short b (numbers r) b' wide z o o' a f m
      (omega (arith, n.generation, ap (λ (x : Numbers). x.volume.generation) z.numbers))
      (omega (arith, n.number, ap (λ (x : Numbers). x.file.number) z.numbers))
      (subst (λ (x : Numbers). MetWith r.file.number (operation_in x b' (rooms_of o)) a o o') (sym asked_same) t)

-- ---- a line at fault

module _ (s : List ℕ) (o : Outs) where
  fault_lines : (n : ℕ) → fault (read_input s).numbers ≡ n → (read_input s).numbers.line ≡ n → Replied s (Err n) o
  unfolding answer_to
  fault_lines n e l = record { lines = rw (e, ne_eqb n 0 (λ q. line_some s (l ∙ q))) refl; holds = tt }

  replied-same : (r : Result Answer ℕ) (n : ℕ) → IsErrAnd r (λ (m : ℕ). m ≡ n) → Replied s (Err n) o → Replied s r o
  replied-same (Ok a) n h k = absurd h
  replied-same (Err m) n h k = rw h k

  -- a line that is at fault itself, and input that ends before the request
  pub line_replied : (r : Result Answer ℕ) (n : ℕ) → IsErrAnd r (λ (m : ℕ). m ≡ n) → (read_input s).numbers.phase ≡ 0 → (read_input s).numbers.line ≡ n → Replied s r o
  unfolding fault
  line_replied r n h p l = replied-same r n h (fault_lines n (rw (p, l) refl) l)

  pub end-replied : (r : Result Answer ℕ) (n : ℕ) → IsErrAnd r (λ (m : ℕ). m ≡ n) → (t : Numbers) → t ≡ (read_input s).numbers → n ≡ t.line → fault t ≡ n → Replied s r o
  end-replied r n h t e l f = replied-same r n h (fault_lines n (rw e at f) (sym (rw e at l)))
