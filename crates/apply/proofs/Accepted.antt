-- What is lent and accepted, and what is left of the definition then. Assumes nothing.
use mathlib.Core.Path.{◌≡◌, refl, ap, ◌∙◌, sym}
use mathlib.Core.Bool.{true, ◌&&◌}
use mathlib.Core.List.{List, ◌++◌}
use Prim.Native.Nat.{ℕ, zero, suc, ◌*◌, ◌/◌, ◌<◌}
use native.Mathlib.Omega.{arith}
use lib.Dec.{leb}
use lib.ListN.{length, take}
use borrow.Author.Tests.{le-leb}
use Rattle.records.specs.Stages.{unless, first, first_of, stage, every, pairs}
use Rattle.records.proofs.Tests.{first-zero, first_last, first_assoc, first_go, first_stop, unless-zero}
use Rattle.item.specs.Items.{Fields, items}
use Rattle.table.specs.declared.Row.{Row}
use Rattle.table.specs.Rows.{rows, table_kept}
use Rattle.lists.specs.Lists.{list_kept, whole_sectors}
use Rattle.lists.proofs.Laws.{kept}
use Rattle.request.specs.Lent.{sector_sound}
use Rattle.request.proofs.Stages.{sector-some}
use Rattle.plan_def.specs.Plans.{Plan}
use Rattle.apply_def.specs.Apply.{edits_rise, list_after, rows_after, row_missing, net_sound, apply_refusal, Applying, applied, or_applied, apply}
use Rattle.plan_def.specs.ReadBack.{edits_in}
use Rattle.apply_def.specs.Lent.{Parts, items_in, rows_in, count_broken, parts_broken, plan_lent, apply_lent}
use Rattle.apply_walk.specs.Merge.{Rising}
use Rattle.apply_refusals.specs.Stages.{ones, others, Inside, Ready, result_refusal}
use Rattle.apply_refusals.proofs.Lent.{items-many, rows-many, ones-told}

-- ---- nothing is refused

pub record Facts (number sector : ℕ) (list table edits : List ℕ) : Type 0 where
  pub kept : list_kept number (items list) ≡ true
  pub rising : pairs edits_rise (edits_in edits) ≡ true
  pub tabled : table_kept (rows table) ≡ true
  pub sound : sector_sound sector ≡ true
  pub sectors : every (whole_sectors sector) (items list) ≡ true

facts : (number sector : ℕ) (list table edits : List ℕ) → others number sector list table edits ≡ 0 → Facts number sector list table edits
facts number sector list table edits h =
    let a = first-zero (unless (list_kept number (items list)) 2) _ h in
    let b = first-zero (unless (pairs edits_rise (edits_in edits)) 2) _ a.1 in
    let c = first-zero (unless (table_kept (rows table)) 3) _ b.1 in
    let d = first-zero (unless (sector_sound sector) 4) _ c.1 in
    record {
      kept = unless-zero (list_kept number (items list)) 2 a.0 (λ z. omega arith);
      rising = unless-zero (pairs edits_rise (edits_in edits)) 2 b.0 (λ z. omega arith);
      tabled = unless-zero (table_kept (rows table)) 3 c.0 (λ z. omega arith);
      sound = unless-zero (sector_sound sector) 4 d.0 (λ z. omega arith);
      sectors = unless-zero (every (whole_sectors sector) (items list)) 4 d.1 (λ z. omega arith);
    }

module _ (number sector n m : ℕ) (list table edits : List ℕ) (r : Ready number sector n m list table edits) where
  pub lent_facts : Facts number sector (take (n * 70) list) (take (m * 5) table) edits
  lent_facts = facts number sector (take (n * 70) list) (take (m * 5) table) edits r.zero

  pub lent_rising : Rising (take (n * 70) list) edits
  lent_rising = record { olds = (kept number (items_in n list) lent_facts.kept).rising; news = lent_facts.rising }

  pub lent-sector : 0 < sector
  lent-sector = sector-some sector lent_facts.sound

  pub lent_rows : length (rows_in m table) ≡ m
  lent_rows = rows-many m table r.inside.tabled

  -- what is left of the definition
  pub apply-is : (generation room space : ℕ) (p : Plan) → p.edits ≡ edits_in edits
      → apply sector number generation room space (items_in n list) (rows_in m table) p
      ≡ or_applied (result_refusal sector number generation room space (items_in n list) (rows_in m table) p) (applied (list_after p (items_in n list)) (rows_after generation p (rows_in m table)))
  unfolding apply apply_refusal first_of
  apply-is generation room space p e =
      let fs : List Fields = items_in n list in
      let rs : List Row = rows_in m table in
      let f : Facts number sector (take (n * 70) list) (take (m * 5) table) edits = lent_facts in
      let a : leb (length fs) 65536 ≡ true = le-leb (length fs) 65536 (omega (arith, items-many n list r.inside.listed, r.inside.few_items)) in
      let b : leb (length rs) 65536 ≡ true = le-leb (length rs) 65536 (omega (arith, lent_rows, r.inside.few_rows)) in
      let g : pairs edits_rise p.edits ≡ true = rw e f.rising in
      let over : ℕ = unless (leb (length (list_after p fs)) 65536 && leb (length (rows_after generation p rs)) 65536) 1 in
      let miss : ℕ = stage (row_missing rs) (p.shares ++ (p.unrefs ++ p.releases)) in
      let nets : ℕ = unless (every (net_sound p) rs) 3 in
      let l2 : ℕ = unless (list_kept number (list_after p fs) && every (whole_sectors sector) (list_after p fs)) 2 in
      let t3 : ℕ = unless (table_kept (rows_after generation p rs)) 3 in
      let last : ℕ = unless (leb (length (list_after p fs)) room && leb (length (rows_after generation p rs)) space) 27 in
      rw (a, b, f.kept, g, f.tabled, f.sound, f.sectors)
      (ap (λ (x : ℕ). or_applied x (applied (list_after p fs) (rows_after generation p rs))) (all over miss nets l2 t3 last))
    where
      all : (a b c d e f : ℕ) → first (first 0 (first 0 (first 0 (first 0 (first 0 (first 0 (first 0 (first a (first b (first c (first d (first e 0)))))))))))) (first f 0) ≡ first a (first b (first c (first d (first e f))))
      all zero zero zero zero zero f = unfold first in first_last f
      all zero zero zero zero (suc e) f = unfold first in refl
      all zero zero zero (suc d) e f = unfold first in refl
      all zero zero (suc c) d e f = unfold first in refl
      all zero (suc b) c d e f = unfold first in refl
      all (suc a) b c d e f = unfold first in refl

-- ---- all refusals in order

or_or : (x y : ℕ) (a : Applying) → or_applied x (or_applied y a) ≡ or_applied (first x y) a
unfolding first
or_or zero y a = refl
or_or (suc x) y a = refl

module _ (sector number generation n m : ℕ) (list table : List ℕ) (p : Parts) where
  abbrev fs : List Fields
  fs = items_in n list

  abbrev rs : List Row
  rs = rows_in m table

  abbrev later : ℕ
  later = first (others number sector (take (n * 70) list) (take (m * 5) table) p.edits) (result_refusal sector number generation (length list / 70) (length table / 5) fs rs (plan_lent p))

  abbrev result : Applying
  result = applied (list_after (plan_lent p) fs) (rows_after generation (plan_lent p) rs)

  lent_is : apply_lent sector number generation n m list table p ≡ or_applied (first (ones n m list table p) later) result
  unfolding apply apply_refusal first_of
  lent_is =
      or_or _ _ result
      ∙ ap (λ (x : ℕ). or_applied x result)
      (flat (count_broken n 70 list) (count_broken m 5 table) (parts_broken p) (unless (leb (length fs) 65536) 1) (unless (leb (length rs) 65536) 1)
      (unless (list_kept number fs) 2) (unless (pairs edits_rise (edits_in p.edits)) 2) (unless (table_kept rs) 3) (unless (sector_sound sector) 4) (unless (every (whole_sectors sector) fs) 4) _ _ _ _ _ _
      ∙ ap (λ (x : ℕ). first x later) (sym (ones-told n m (parts_broken p) list table)))
    where
      flat : (a b c d e f g h i j k l m n o p : ℕ)
          → first (first a (first b (first c 0))) (first (first d (first e (first f (first g (first h (first i (first j (first k (first l (first m (first n (first o 0)))))))))))) (first p 0))
          ≡ first (first (first a (first b c)) (first d e)) (first (first f (first g (first h (first i j)))) (first k (first l (first m (first n (first o p))))))
      flat a b c d e f g h i j k l m n o p = simp (first_assoc, first_last)

  -- 1, and then 2 to 4
  pub lent-ones : (x : ℕ) → x ≡ ones n m list table p → (x ≡ 0 → ⊥) → apply_lent sector number generation n m list table p ≡ or_applied x result
  lent-ones x e h = lent_is ∙ ap (λ (y : ℕ). or_applied (first y later) result) (sym e) ∙ ap (λ (y : ℕ). or_applied y result) (sym (first_stop x later h))

  pub lent-others : (x y : ℕ) → x ≡ ones n m list table p → x ≡ 0 → y ≡ others number sector (take (n * 70) list) (take (m * 5) table) p.edits → (y ≡ 0 → ⊥) → apply_lent sector number generation n m list table p ≡ or_applied y result
  lent-others x y e z q h =
      lent_is
      ∙ ap (λ (w : ℕ). or_applied w result)
      (first_go (ones n m list table p) later (sym e ∙ z)
      ∙ ap (λ (w : ℕ). first w (result_refusal sector number generation (length list / 70) (length table / 5) fs rs (plan_lent p))) (sym q)
      ∙ sym (first_stop y (result_refusal sector number generation (length list / 70) (length table / 5) fs rs (plan_lent p)) h))

  -- neither: what applying then does, and what is known
  pub lent_ready : (y : ℕ) → Inside n m list table → y ≡ others number sector (take (n * 70) list) (take (m * 5) table) p.edits → y ≡ 0 → Ready number sector n m list table p.edits
  lent_ready y i q h = record { inside = i; zero = sym q ∙ h }

  pub lent-apply : (x : ℕ) → x ≡ ones n m list table p → x ≡ 0 → apply_lent sector number generation n m list table p ≡ apply sector number generation (length list / 70) (length table / 5) fs rs (plan_lent p)
  unfolding first_of
  lent-apply x e z =
      ap (λ (w : ℕ). or_applied w (apply sector number generation (length list / 70) (length table / 5) fs rs (plan_lent p)))
      (ap (λ (w : ℕ). first (count_broken n 70 list) (first (count_broken m 5 table) w)) (first_last (parts_broken p)) ∙ (first-zero (first (count_broken n 70 list) (first (count_broken m 5 table) (parts_broken p))) _ (sym e ∙ z)).0)
