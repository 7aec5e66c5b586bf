-- The list after edits, by cases of the first old record and the first edit, where both lists rise. Assumes nothing.
use mathlib.Core.Path.{◌≡◌, refl, ap, ap₂, ◌∙◌, sym}
use mathlib.Core.Bool.{Bool, true, false, cond, false≢true}
use mathlib.Core.List.{List, [], ◌∷◌, ◌++◌, map, flat_map}
use Prim.Native.Nat.{ℕ, suc, ◌+◌, ◌*◌, ◌/◌, ◌≤◌, ◌<◌}
use Rattle.std.specs.Prelude.{Option, Some}
use native.Mathlib.Omega.{arith}
use native.Mathlib.Decide.{dec_lt}
use lib.Dec.{eqb}
use lib.ListN.{length, get_or, take, drop}
use Rattle.std.proofs.lemmas.List.{get_or-take}
use borrow.Author.Tests.{ltb-true, ltb-false, eqb-true, eqb-false}
use Rattle.records.specs.Select.{keep}
use Rattle.records.specs.Stages.{pairs}
use Rattle.records.proofs.Loops.{records-length, records-at, records_cons, records_nil}
use Rattle.records.proofs.Lists.{pairs-drop}
use Rattle.item.specs.declared.Item.{Item}
use Rattle.item.specs.Items.{Fields, fields, item_of, decode, items}
use Rattle.records.proofs.Chunks.{drop-take}
use Rattle.item.proofs.Widths.{decode-take}
use Rattle.item.proofs.Laws.{item-decode, items-length, items_at}
use Rattle.lists.specs.Lists.{rises}
use Rattle.cut_def.specs.Pieces.{built, kept, insert_all}
use Rattle.cut_def.specs.Edits.{Edit, put, delete, key_of, put_of, items_after}
use Rattle.cut_def.proofs.Applied.{ItemsUp, EditsUp, rising_up, after_kept, after-named, after-put, after-delete}
use Rattle.edit_merge.specs.Merge.{from, gone, behind}
use Rattle.edit_merge.proofs.News.{from_cons, from_nil}
use Rattle.apply_def.specs.Apply.{edits_rise}
use Rattle.plan_def.specs.ReadBack.{edit_in, edits_in}
use Rattle.apply_walk.specs.declared.walk.Origin.TheVariants.{Kept, Put}
use Rattle.apply_walk.specs.Merge.{Rising, left}
use Rattle.apply_walk.specs.Walks.{IsFrom}

-- ---- rising lists

items_up : (f : Fields) (fs : List Fields) → pairs rises (f ∷ fs) ≡ true → ItemsUp (suc f.key) fs
items_up f fs h = (rising_up (λ (g : Fields). g.key) (f ∷ fs) h).1

edits_up : (e : Edit) (es : List Edit) → pairs edits_rise (e ∷ es) ≡ true → EditsUp (suc (key_of e)) es
edits_up e es h = (rising_up key_of (e ∷ es) h).1

-- ---- the first record of the result

-- an old record before all edits
pub old-first : (f : Fields) (fs : List Fields) (e : Edit) (es : List Edit) → pairs edits_rise (e ∷ es) ≡ true → gone (Some (key_of e)) (f ∷ fs) ≡ true → items_after (f ∷ fs) (e ∷ es) ≡ kept f ∷ items_after fs (e ∷ es)
old-first f fs e es r h = after_kept f fs (e ∷ es) (ltb-true f.key (key_of e) h, edits_up e es r)

-- an edit before all old records
edit-before : (fs : List Fields) (e : Edit) (es : List Edit) → ItemsUp (suc (key_of e)) fs → EditsUp (suc (key_of e)) es → items_after fs (e ∷ es) ≡ map built (put_of e) ++ items_after fs es
edit-before fs (put x) es u v = after-put x fs es u v
edit-before fs (delete k) es u v = after-delete k fs es u

-- one before them, or at the first one's key, which it passes
pub edit-first : (fs : List Fields) (e : Edit) (es : List Edit) → pairs rises fs ≡ true → pairs edits_rise (e ∷ es) ≡ true → gone (Some (key_of e)) fs ≡ false → items_after fs (e ∷ es) ≡ map built (put_of e) ++ items_after (behind (key_of e) fs) es
edit-first [] e es u v h = edit-before [] e es tt (edits_up e es v)
edit-first (f ∷ fs) e es u v h = go (eqb f.key (key_of e)) refl
  where
    k : key_of e ≤ f.key
    k = ltb-false f.key (key_of e) h

    go : (b : Bool) → eqb f.key (key_of e) ≡ b → items_after (f ∷ fs) (e ∷ es) ≡ map built (put_of e) ++ items_after (cond b fs (f ∷ fs)) es
    go true q =
        let s = eqb-true f.key (key_of e) q in
        after-named f fs e es (sym s) ∙ edit-before fs e es (rw s at (items_up f fs u)) (edits_up e es v)
    go false q =
        let s = eqb-false f.key (key_of e) q in
        edit-before (f ∷ fs) e es (omega (arith, k), items_up f fs u) (edits_up e es v)

-- ---- what a step reads

pub key_read : (s : List ℕ) → key_of (edit_in s) ≡ (decode (drop 1 s)).key
unfolding edit_in
key_read s = go (eqb (get_or s 0 0) 1)
  where
    go : (b : Bool) → key_of (cond b (put (decode (drop 1 s))) (delete (decode (drop 1 s)).key)) ≡ (decode (drop 1 s)).key
    go true = refl
    go false = refl

pub put_read : (s : List ℕ) → eqb (get_or s 0 0) 1 ≡ true → edit_in s ≡ put (decode (drop 1 s))
unfolding edit_in
put_read s h = rw h refl

pub delete_read : (s : List ℕ) → eqb (get_or s 0 0) 1 ≡ false → edit_in s ≡ delete (decode (drop 1 s)).key
unfolding edit_in
delete_read s h = rw h refl

-- from its own 71 bytes alone
pub edit_own : (s : List ℕ) → edit_in (take 71 s) ≡ edit_in s
unfolding edit_in
edit_own s = rw (get_or-take 71 s 0 0 (omega arith), drop-take 1 70 s, decode-take (drop 1 s)) refl

-- an old record that comes first is there
pub gone-there : (k : Option ℕ) (list : List ℕ) (i : ℕ) → true ≡ gone k (from list i) → i < length list / 70
gone-there k list i h =
    elim (dec_lt i (length list / 70)) [
      | yes l ↦ l
      | no m ↦ absurd (false≢true (rw (from_nil list i (omega arith)) at (sym h)))
    ]

-- ---- the steps

module _ (list edits : List ℕ) (rise : Rising list edits) (i j : ℕ) where
  olds : pairs rises (from list i) ≡ true
  olds = pairs-drop rises i (items list) rise.olds

  news : pairs edits_rise (drop j (edits_in edits)) ≡ true
  news = pairs-drop edits_rise j (edits_in edits) rise.news

  -- old record i
  module _ (h : i < length list / 70) where
    abbrev old : Item
    old = item_of (drop (i * 70) list)

    old_cons : from list i ≡ fields old ∷ from list (i + 1)
    old_cons = from_cons list i h ∙ ap (λ (f : Fields). f ∷ from list (i + 1)) (sym (item-decode old _ refl))

    pub old_at : IsFrom list edits (Kept i) (fields old)
    old_at = (omega (arith, items-length list), item-decode old _ refl ∙ sym (items_at list i (fields old) h))

    -- behind all edits
    pub old_last : length edits / 71 ≤ j → left list edits i j ≡ kept (fields old) ∷ left list edits (i + 1) j
    old_last l =
        let n : drop j (edits_in edits) ≡ [] = records_nil edit_in 71 edits j l in
        ap₂ items_after old_cons n ∙ after_kept (fields old) _ [] tt ∙ ap (λ (es : List Edit). kept (fields old) ∷ items_after (from list (i + 1)) es) (sym n)

  -- edit j is there
  module _ (r : Item) (h : j < length edits / 71) (e : fields r ≡ decode (drop 1 (drop (j * 71) edits))) where
    abbrev edit : Edit
    edit = edit_in (drop (j * 71) edits)

    first-edit : drop j (edits_in edits) ≡ edit ∷ drop (j + 1) (edits_in edits)
    first-edit = records_cons edit_in 71 edits j h

    key : key_of edit ≡ r.key
    key = key_read (drop (j * 71) edits) ∙ sym (ap (λ (f : Fields). f.key) e)

    rise-from : pairs edits_rise (edit ∷ drop (j + 1) (edits_in edits)) ≡ true
    rise-from = rw first-edit at news

    -- an old record before it
    pub old_next : (q : true ≡ gone (Some r.key) (from list i)) → let f = fields (item_of (drop (i * 70) list)) in left list edits i j ≡ kept f ∷ left list edits (i + 1) j
    old_next q =
        let l = gone-there (Some r.key) list i q in
        let f = fields (item_of (drop (i * 70) list)) in
        let b : gone (Some (key_of edit)) (f ∷ from list (i + 1)) ≡ true = ap₂ (λ k. gone (Some k)) key (sym (old_cons l)) ∙ sym q in
        ap₂ items_after (old_cons l) first-edit ∙ old-first f _ edit _ rise-from b ∙ ap (λ (es : List Edit). kept f ∷ items_after (from list (i + 1)) es) (sym first-edit)

    -- the edit first: n is what is left of the list behind its key
    module _ (q : false ≡ gone (Some r.key) (from list i)) (n : ℕ) (p : from list n ≡ behind r.key (from list i)) where
      edit-step : left list edits i j ≡ map built (put_of edit) ++ left list edits n (j + 1)
      edit-step =
          ap (items_after (from list i)) first-edit
          ∙ edit-first (from list i) edit (drop (j + 1) (edits_in edits)) olds rise-from (rw key (sym q))
          ∙ ap (λ (fs : List Fields). map built (put_of edit) ++ items_after fs (drop (j + 1) (edits_in edits))) (rw key (sym p))

      pub put_next : true ≡ eqb (get_or (drop (j * 71) edits) 0 0) 1 → (left list edits i j ≡ built (fields r) ∷ left list edits n (j + 1)) × IsFrom list edits (Put j) (fields r)
      put_next x =
          let d : edit ≡ put (fields r) = put_read (drop (j * 71) edits) (sym x) ∙ ap put (sym e) in (
            edit-step ∙ ap (λ (k : Edit). map built (put_of k) ++ left list edits n (j + 1)) d,
            (omega (arith, records-length edit_in 71 edits), sym d ∙ sym (records-at edit_in 71 edits j (put (fields r)) h)),
          )

      pub delete_next : false ≡ eqb (get_or (drop (j * 71) edits) 0 0) 1 → left list edits i j ≡ left list edits n (j + 1)
      delete_next x =
          let d : edit ≡ delete (decode (drop 1 (drop (j * 71) edits))).key = delete_read (drop (j * 71) edits) (sym x) in
          edit-step ∙ ap (λ (k : Edit). map built (put_of k) ++ left list edits n (j + 1)) d

-- ---- the end

after_nil : items_after [] [] ≡ []
unfolding items_after flat_map keep insert_all
after_nil = refl

pub none_left : (list edits : List ℕ) (i j : ℕ) → length list / 70 ≤ i → length edits / 71 ≤ j → left list edits i j ≡ []
none_left list edits i j h l = ap₂ items_after (from_nil list i h) (records_nil edit_in 71 edits j l) ∙ after_nil
