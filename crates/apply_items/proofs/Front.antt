-- Front to back: the records that no edit names, one by one. Assumes nothing.
use mathlib.Core.Path.{◌≡◌, refl, ap, ap₂, ◌∙◌, sym}
use mathlib.Core.Bool.{Bool, true, false, ◌||◌}
use mathlib.Core.List.{List, [], ◌∷◌, ◌++◌, map, append_assoc, append-nil}
use Prim.Native.Nat.{ℕ, suc, ◌+◌, ◌*◌, ◌/◌, ◌≤◌, ◌<◌, min}
use native.Mathlib.Omega.{arith}
use native.Mathlib.Numerals.{add-one}
use lib.Dec.{eqb}
use lib.ListN.{length, get_or, take, drop, length-take, drop_of_length-le}
use lib.Seq.{drop-cons, get_or-take}
use borrow.Author.Tests.{eqb-false, ne_eqb}
use Rattle.records.specs.Select.{keep, any}
use Rattle.records.specs.Stages.{pairs}
use Rattle.records.proofs.Lists.{pairs-drop}
use Rattle.item.specs.declared.Item.{Item}
use Rattle.item.specs.Items.{Fields, fields, item_of, decode, items, encode}
use Rattle.item.proofs.Laws.{item-decode, items-length, items_at}
use Rattle.item.proofs.Widths.{length-encode}
use Rattle.lists.specs.Lists.{rises}
use Rattle.cut_def.specs.Edits.{Edit, key_of, edited}
use Rattle.cut_def.proofs.Applied.{ItemsUp, rising_up, unedited}
use Rattle.apply_def.specs.Apply.{edits_rise}
use Rattle.apply_def.proofs.Buffers.{same_self, same-put, behind-at, behind_more, front-more}
use Rattle.plan_def.specs.ReadBack.{edit_in}
use Rattle.apply_walk.proofs.Merge.{key_read}
use Rattle.apply_items.specs.Passes.{IsPut, unnamed, Packing, Packed}

-- ---- what edits name, by their first line

module _ (lines : List (List ℕ)) (c : List ℕ) (cs : List (List ℕ)) (e : lines ≡ c ∷ cs) (f : Fields) (r : f ≡ decode (drop 1 c)) where
  key_first : key_of (edit_in c) ≡ f.key
  key_first = key_read c ∙ ap (λ (g : Fields). g.key) (sym r)

  pub rise_later : pairs edits_rise (map edit_in lines) ≡ true → pairs edits_rise (map edit_in cs) ≡ true
  rise_later h = pairs-drop edits_rise 1 (edit_in c ∷ map edit_in cs) (rw e at h)

  -- a lower key: from this one on the others name the same
  pub names_later : (key : ℕ) → f.key < key → (k : ℕ) → key ≤ k → edited (map edit_in cs) k ≡ edited (map edit_in lines) k
  unfolding any
  names_later key h k l =
      let b : eqb (key_of (edit_in c)) k ≡ false = ne_eqb (key_of (edit_in c)) k (λ z. omega (arith, key_first)) in
      rw (e, b) refl

  -- else it alone may name the key
  pub names_first : (key : ℕ) → pairs edits_rise (map edit_in lines) ≡ true → key ≤ f.key → eqb f.key key ≡ edited (map edit_in lines) key
  unfolding any
  names_first key h l = rw (e, ← key_first) (go (eqb (key_of (edit_in c)) key) refl)
    where
      up : pairs edits_rise (edit_in c ∷ map edit_in cs) ≡ true
      up = rw e at h

      go : (b : Bool) → eqb (key_of (edit_in c)) key ≡ b → b ≡ (b || edited (map edit_in cs) key)
      go true q = refl
      go false q = let n = eqb-false (key_of (edit_in c)) key q in sym (unedited key (suc (key_of (edit_in c))) (map edit_in cs) (omega (arith, key_first)) (rising_up key_of (edit_in c ∷ map edit_in cs) up).1)

pub names_none : (lines : List (List ℕ)) (key : ℕ) → length lines ≡ 0 → false ≡ edited (map edit_in lines) key
unfolding any
names_none [] key h = refl
names_none (c ∷ cs) key h = absurd (omega (arith, h))

-- ---- a turn

-- edits that name the same from a key on leave the same of records from it on
same_unnamed : (left left' : List Edit) (key : ℕ) → ((k : ℕ) → key ≤ k → edited left' k ≡ edited left k) → (b : ℕ) → key ≤ b → (fs : List Fields) → ItemsUp b fs → unnamed left' fs ≡ unnamed left fs
unfolding keep
same_unnamed left left' key h b l [] u = refl
same_unnamed left left' key h b l (f ∷ fs) u = rw (h f.key (omega (arith, u.0)), same_unnamed left left' key h (suc f.key) (omega (arith, u.0)) fs u.1) refl

module _ (es left : List Edit) (before : List ℕ) (n i w : ℕ) (list : List ℕ) (p : Packing es left before n i w list) (inside : n ≤ length before / 70) (rise : pairs rises (take n (items before)) ≡ true)
    (h : i < n) (r : Item) (e : r ≡ item_of (drop (i * 70) list)) (left' : List Edit) (pass : (k : ℕ) → r.key ≤ k → edited left' k ≡ edited left k) where
  abbrev fs : List Fields
  fs = take n (items before)

  long : length list / 70 ≡ length before / 70
  long = ap (λ (m : ℕ). m / 70) p.same.long

  fs_long : length fs ≡ n
  fs_long = length-take n (items before) ∙ (let m : min n (length (items before)) ≡ n = omega (arith, items-length before) in m)

  -- record i is still the old one
  old_read : fields r ≡ get_or fs i (fields r)
  old_read =
      item-decode r _ e
      ∙ sym (items_at list i (fields r) (omega (arith, long)))
      ∙ behind-at (items list) (items before) w p.behind i (fields r) p.less
      ∙ sym (get_or-take n (items before) i (fields r) h)

  old_cons : drop i fs ≡ fields r ∷ drop (i + 1) fs
  old_cons = drop-cons fs i (fields r) (omega (arith, fs_long)) ∙ ap₂ (λ (f : Fields) (k : ℕ). f ∷ drop k fs) (sym old_read) (sym (add-one i))

  later : unnamed left' (drop (i + 1) fs) ≡ unnamed left (drop (i + 1) fs)
  later =
      let u : pairs rises (fields r ∷ drop (i + 1) fs) ≡ true = rw old_cons at (pairs-drop rises i fs rise) in
      same_unnamed left left' r.key pass (suc r.key) (omega arith) (drop (i + 1) fs) (rising_up (λ (g : Fields). g.key) (fields r ∷ drop (i + 1) fs) u).1

  -- an edit names it
  pub pack_named : true ≡ edited left r.key → Packing es left' before n (i + 1) w list
  unfolding keep
  pack_named q =
      let k : unnamed left (drop i fs) ≡ unnamed left (drop (i + 1) fs) = rw (old_cons, ← q) refl in
      record { less = omega (arith, p.less); same = p.same; front = ap (λ (l : List Fields). take w (items list) ++ l) (later ∙ sym k) ∙ p.front; behind = p.behind }

  -- or none
  pub pack_kept : false ≡ edited left r.key → (list' : List ℕ) → IsPut w (fields r) list list' → Packing es left' before n (i + 1) (w + 1) list'
  unfolding keep
  pack_kept q list' x =
      let m : w < length (items list) = omega (arith, items-length list, long, p.less) in
      let k : unnamed left (drop i fs) ≡ fields r ∷ unnamed left (drop (i + 1) fs) = rw (old_cons, ← q) refl in
      record {
        less = omega (arith, p.less);
        same = same-put 70 (omega arith) before list list' (encode (fields r)) w p.same (length-encode (fields r)) (omega (arith, p.less)) x.bytes;
        front =
            ap (λ (l : List Fields). l ++ unnamed left' (drop (i + 1) fs)) (ap (take (w + 1)) x.those ∙ front-more (items list) w (fields r) m)
            ∙ append_assoc (take w (items list)) (fields r ∷ []) (unnamed left' (drop (i + 1) fs))
            ∙ ap (λ (l : List Fields). take w (items list) ++ l) (ap (λ (l : List Fields). fields r ∷ l) later ∙ sym k)
            ∙ p.front;
        behind = ap (drop (w + 1)) x.those ∙ behind_more (items list) (items before) w p.behind (fields r);
      }

-- the start and the end
pub pack_start : (es : List Edit) (before : List ℕ) (n : ℕ) → Packing es es before n 0 0 before
pack_start es before n = record { less = omega arith; same = same_self 70 (omega arith) before; front = refl; behind = refl }

pub pack_done : (es left : List Edit) (before : List ℕ) (n i w : ℕ) (list : List ℕ) → Packing es left before n i w list → i ≤ n → n ≤ i → Packed es before n w list
unfolding keep
pack_done es left before n i w list p l h =
    let d : drop i (take n (items before)) ≡ [] = drop_of_length-le (take n (items before)) {i = i} (omega (arith, length-take n (items before))) in
    record {
      most = omega (arith, p.less);
      same = p.same;
      front = sym (ap (λ (x : List Fields). take w (items list) ++ unnamed left x) d ∙ append-nil (take w (items list))) ∙ p.front;
      behind = p.behind;
    }
