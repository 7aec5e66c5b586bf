-- A line that is kept, by its kind. Assumes nothing.
use mathlib.Core.Logic.{◌≢◌}
use mathlib.Core.Path.{◌≡◌, refl, sym, ap, ◌∙◌}
use mathlib.Core.Bool.{false}
use mathlib.Core.List.{List, [], ◌∷◌, append_assoc}
use Prim.Native.Nat.{ℕ, ◌+◌, ◌-◌, ◌*◌, ◌/◌, ◌<◌, ◌≤◌}
use lib.Dec.{eqb}
use native.Mathlib.Omega.{arith}
use native.Mathlib.Nat.{mul-one}
use lib.ListN.{length, get_or, take, drop, set}
use lib.Seq.{drop-drop}
use borrow.Rule.Slice.PartMut.{put_mid}
use Rattle.endian.specs.Le.{put}
use Rattle.plan_lines.proofs.Laws.{put_one}
use borrow.Author.Tests.{ne_eqb}
use Rattle.table.specs.Rows.{row_of, row_numbers}
use Rattle.item.specs.Items.{encode}
use Rattle.plan_lines.specs.Lines.{lay}
use Rattle.plan_lines.proofs.Laws.{lay_nil, laid_one, laid_full}
use Rattle.read_item.specs.Raw.{byte}
use Rattle.read_line.specs.declared.Form.{Form}
use Rattle.read_line.specs.declared.Kind.{Kind}
use Rattle.read_line.specs.declared.Kind.TheVariants as Kinds
use Rattle.read_line.specs.Forms.{kind_number}
use Rattle.read_order.specs.declared.Read.{Read}
use Rattle.read_order.specs.declared.Phase.{Phase}
use Rattle.read_order.specs.declared.Phase.TheVariants.{Nothing, Volume, File, Source, Extents, SourceExtents, Places, Request}
use Rattle.read_order.specs.Numbers.{numbers, phase_number}
use Rattle.read_order.specs.Order.{next}
use Rattle.read_order.specs.Taking.{Numbers, item_of, shared_of, place_of, holder, taken, taken_to, items_in, shared_in, rows_in, places_in}
use Rattle.read_store.specs.Buffers.{buffers}
use Rattle.read_store.specs.Storing.{alone, Kept}

module _ (r : Numbers) (v : List ℕ) (is ss ts ps : List ℕ) where
  pub kept-item : (is' ss' : List ℕ) → next r.phase 3 ≢ 0 → (file : ℕ) → file ≡ holder r (next r.phase 3) → is' ≡ lay encode 70 r.stored (item_of file v ∷ []) is → ss' ≡ lay byte 1 r.stored (shared_of v ∷ []) ss
      → Kept r 3 v (buffers is ss ts ps) (buffers is' ss' ts ps)
  unfolding items_in shared_in rows_in places_in
  kept-item is' ss' h file f p q =
      record {
        items = rw (ne_eqb (next r.phase 3) 0 h, ← f) p;
        shared = rw (ne_eqb (next r.phase 3) 0 h) q;
        table = sym (lay_nil row_numbers 5 r.rows ts);
        places = sym (lay_nil alone 1 r.places ps);
      }

  pub kept-row : (ts' : List ℕ) → next r.phase 4 ≢ 0 → ts' ≡ lay row_numbers 5 r.rows (row_of v ∷ []) ts → Kept r 4 v (buffers is ss ts ps) (buffers is ss ts' ps)
  unfolding items_in shared_in rows_in places_in
  kept-row ts' h p =
      record {
        items = sym (lay_nil encode 70 r.stored is);
        shared = sym (lay_nil byte 1 r.stored ss);
        table = rw (ne_eqb (next r.phase 4) 0 h) p;
        places = sym (lay_nil alone 1 r.places ps);
      }

  pub kept-place : (ps' : List ℕ) → next r.phase 5 ≢ 0 → ps' ≡ lay alone 1 r.places (place_of v ∷ []) ps → Kept r 5 v (buffers is ss ts ps) (buffers is ss ts ps')
  unfolding items_in shared_in rows_in places_in
  kept-place ps' h p =
      record {
        items = sym (lay_nil encode 70 r.stored is);
        shared = sym (lay_nil byte 1 r.stored ss);
        table = sym (lay_nil row_numbers 5 r.rows ts);
        places = rw (ne_eqb (next r.phase 5) 0 h) p;
      }

  other : (k : ℕ) → eqb k 3 ≡ false → eqb k 4 ≡ false → eqb k 5 ≡ false → Kept r k v (buffers is ss ts ps) (buffers is ss ts ps)
  unfolding items_in shared_in rows_in places_in
  other k a b c =
      record {
        items = rw a (sym (lay_nil encode 70 r.stored is));
        shared = rw a (sym (lay_nil byte 1 r.stored ss));
        table = rw b (sym (lay_nil row_numbers 5 r.rows ts));
        places = rw c (sym (lay_nil alone 1 r.places ps));
      }

  -- a line of another kind
  pub kept-other : (k : Kind) → k ≢ Kinds.Item → k ≢ Kinds.Extent → k ≢ Kinds.Place → Kept r (kind_number k) v (buffers is ss ts ps) (buffers is ss ts ps)
  kept-other Kinds.Volume a b c = other 1 refl refl refl
  kept-other Kinds.File a b c = other 2 refl refl refl
  kept-other Kinds.Item a b c = absurd (a refl)
  kept-other Kinds.Extent a b c = absurd (b refl)
  kept-other Kinds.Place a b c = absurd (c refl)
  kept-other Kinds.Punch a b c = other 6 refl refl refl
  kept-other Kinds.Fallocate a b c = other 7 refl refl refl
  kept-other Kinds.Clone a b c = other 8 refl refl refl

-- ---- a row and a place

five : (v : List ℕ) → 5 ≤ length v → take 5 v ≡ get_or v 0 0 ∷ get_or v 1 0 ∷ get_or v 2 0 ∷ get_or v 3 0 ∷ get_or v 4 0 ∷ []
five [] h = absurd (omega arith)
five (a ∷ []) h = absurd (omega arith)
five (a ∷ b ∷ []) h = absurd (omega arith)
five (a ∷ b ∷ c ∷ []) h = absurd (omega arith)
five (a ∷ b ∷ c ∷ d ∷ []) h = absurd (omega arith)
five (a ∷ b ∷ c ∷ d ∷ e ∷ v) h = refl

module _ (n : ℕ) (out : List ℕ) where
  pub row_full : (v : List ℕ) → length out / 5 ≤ n → out ≡ lay row_numbers 5 n (row_of v ∷ []) out
  row_full v h = (laid_full row_numbers 5 n (row_of v) out h).output

  pub row_kept : (v part : List ℕ) → 5 ≤ length v → n < length out / 5 → part ≡ take 5 v → put_mid (n * 5) (n * 5 + 5 - n * 5) out part ≡ lay row_numbers 5 n (row_of v ∷ []) out
  unfolding put row_of
  row_kept v part l h e =
      let k : n * 5 + 5 - n * 5 ≡ 5 = omega arith in
      (laid_one row_numbers 5 n (row_of v) out _ h (rw (k, e, five v l, drop-drop 5 (n * 5) out) (sym (append_assoc (take (n * 5) out) (row_numbers (row_of v)) (drop (n * 5 + 5) out))))).output

  pub place_full : (v : ℕ) → length out ≤ n → out ≡ lay alone 1 n (v ∷ []) out
  place_full v h = (laid_full alone 1 n v out (omega arith)).output

  pub place_kept : (v : ℕ) → n < length out → set out n v ≡ lay alone 1 n (v ∷ []) out
  place_kept v h = (laid_one alone 1 n v out (set out n v) (omega arith) (rw mul-one (put_one v n out h))).output

-- a line that is taken is in order
pub in_order : (r : Read) (f : Form) (t : Read) → numbers t ≡ taken (numbers r) (kind_number f.kind) f.values → next (phase_number r.phase) (kind_number f.kind) ≢ 0
unfolding taken taken_to
in_order r f t e z = go t.phase (ap (λ (n : Numbers). n.phase) e ∙ z)
  where
    go : (p : Phase) → phase_number p ≡ 0 → ⊥
    go Nothing q = omega arith
    go Volume q = omega arith
    go File q = omega arith
    go (Source f) q = omega arith
    go Extents q = omega arith
    go (SourceExtents f) q = omega arith
    go Places q = omega arith
    go (Request r) q = omega arith
