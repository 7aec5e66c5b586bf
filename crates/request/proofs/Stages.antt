-- The stages in the groups of the code are the paper's list of stages; and what acceptance says. Assumes nothing.
use mathlib.Core.Path.{◌≡◌, refl, sym}
use mathlib.Core.Bool.{Bool, true, false, ◌&&◌, ◌||◌, not}
use mathlib.Core.List.{List}
use Prim.Native.Nat.{ℕ, ◌%◌, ◌<◌}
use native.Mathlib.Omega.{arith}
use lib.Dec.{eqb, leb}
use lib.ListN.{length}
use borrow.Author.Tests.{eqb-true}
use Rattle.records.specs.Stages.{unless, first, first_of, every}
use Rattle.records.proofs.Tests.{either, first_go, first_stop, first_last, first_assoc, first_of_zero, unless-zero}
use mathlib.Core.Logic.{⊎_elim}
use Rattle.item.specs.Items.{Fields, items}
use Rattle.lists.specs.Lists.{shared_sound, list_kept, whole_sectors}
use Rattle.lists.specs.Raw.{list_sized}
use Rattle.table.specs.declared.Row.{Row}
use Rattle.table.specs.Rows.{rows, table_kept}
use Rattle.request.specs.declared.Volume.{Volume}
use Rattle.request.specs.declared.File.{File}
use Rattle.request.specs.Lent.{sector_sound, size_sound, lent_refusal, lent_refusal2, list_broken, table_broken, lent, lent2}
use Rattle.request.specs.Raw.{fours, fours2, ones, twos}

-- refusals 1: broken lengths first, or each with its list's
ones-parts :
    (list shared table : List ℕ)
    → ones list shared table
    ≡ first (first (list_broken list) (table_broken table)) (first (unless (leb (length (items list)) 65536) 1) (first (unless (shared_sound shared (items list)) 1) (unless (leb (length (rows table)) 65536) 1)))
ones-parts list shared table = go (eqb (length list % 70) 0) (leb (length (items list)) 65536) (shared_sound shared (items list)) (eqb (length table % 5) 0) (leb (length (rows table)) 65536)
  where
    go : (l a s t b : Bool) → first (unless (l && a) 1) (first (unless s 1) (unless (t && b) 1)) ≡ first (first (unless l 1) (unless t 1)) (first (unless a 1) (first (unless s 1) (unless b 1)))
    go false a s t b = unfold first in refl
    go true true true true b = unfold first in refl
    go true true true false b = unfold first in refl
    go true true false true b = unfold first in refl
    go true true false false b = unfold first in refl
    go true false s true b = unfold first in refl
    go true false s false b = unfold first in refl

pub lent_groups :
    (v : Volume) (f : File) (list shared table : List ℕ)
    → first (ones list shared table) (first (first (unless (list_kept f.number (items list)) 2) (unless (table_kept (rows table)) 3)) (fours v.sector f.size list))
    ≡ lent v f list shared table
unfolding lent_refusal first_of
lent_groups v f list shared table = rw (ones-parts list shared table) (simp (first_assoc, first_last))

-- the same with the source's
source-parts :
    (list shared source table : List ℕ)
    → first (unless (list_sized source) 1) (ones list shared table)
    ≡ first (first (list_broken source) (first (list_broken list) (table_broken table))) (first (unless (leb (length (items source)) 65536) 1) (first (unless (leb (length (items list)) 65536) 1) (first (unless (shared_sound shared (items list)) 1) (unless (leb (length (rows table)) 65536) 1))))
source-parts list shared source table =
    rw (ones-parts list shared table)
    (go (eqb (length source % 70) 0) (leb (length (items source)) 65536) (eqb (length list % 70) 0) (eqb (length table % 5) 0) (first (unless (leb (length (items list)) 65536) 1) (first (unless (shared_sound shared (items list)) 1) (unless (leb (length (rows table)) 65536) 1))))
  where
    go : (k c l t : Bool) (x : ℕ) → first (unless (k && c) 1) (first (first (unless l 1) (unless t 1)) x) ≡ first (first (unless k 1) (first (unless l 1) (unless t 1))) (first (unless c 1) x)
    go false c l t x = unfold first in refl
    go true true l t x = unfold first in refl
    go true false true true x = unfold first in refl
    go true false true false x = unfold first in refl
    go true false false t x = unfold first in refl

pub lent_groups2 :
    (v : Volume) (dst src : File) (own : Bool) (list shared source table : List ℕ)
    → first (first (unless (list_sized source) 1) (ones list shared table))
    (first (first (twos dst.number src.number own list source) (unless (table_kept (rows table)) 3)) (fours2 v.sector dst.size src.size list source))
    ≡ lent2 v dst src own list shared source table
unfolding lent_refusal2 first_of
lent_groups2 v dst src own list shared source table = rw (source-parts list shared source table) (simp (first_assoc, first_last))

-- ---- what acceptance says

-- a sector is one of five
pub sector-is : (P : ℕ → Type 0) → P 4096 → P 8192 → P 16384 → P 32768 → P 65536 → (s : ℕ) → sector_sound s ≡ true → P s
sector-is P a b c d e s h =
    let e12 : Bool = eqb s 4096 in
    let e13 : Bool = eqb s 8192 in
    let e14 : Bool = eqb s 16384 in
    let e15 : Bool = eqb s 32768 in
    let e16 : Bool = eqb s 65536 in
    ⊎_elim (λ x. rw (eqb-true s 4096 x) a)
    (λ h1.
    ⊎_elim (λ x. rw (eqb-true s 8192 x) b)
    (λ h2.
    ⊎_elim (λ x. rw (eqb-true s 16384 x) c)
    (λ h3. ⊎_elim (λ x. rw (eqb-true s 32768 x) d) (λ x. rw (eqb-true s 65536 x) e) (either e15 e16 h3))
    (either e14 (e15 || e16) h2))
    (either e13 (e14 || (e15 || e16)) h1))
    (either e12 (e13 || (e14 || (e15 || e16))) h)

pub sector-some : (s : ℕ) → sector_sound s ≡ true → 0 < s
sector-some s h = sector-is (λ (s : ℕ). 0 < s) (omega arith) (omega arith) (omega arith) (omega arith) (omega arith) s h

-- the two ways past the sector's stage
pub sector-four : (s x : ℕ) → sector_sound s ≡ false → 4 ≡ first (unless (sector_sound s) 4) x
sector-four s x h = rw h (first_stop 4 x (λ e. omega arith))

pub sector_go : (s x : ℕ) → sector_sound s ≡ true → x ≡ first (unless (sector_sound s) 4) x
sector_go s x h = rw h (sym (first_go 0 x refl))

pub record Accepted (v : Volume) (f : File) (fs : List Fields) (shared : List ℕ) (rs : List Row) : Type 0 where
  pub sized : leb (length fs) 65536 ≡ true
  pub shares : shared_sound shared fs ≡ true
  pub «table-sized» : leb (length rs) 65536 ≡ true
  pub kept : list_kept f.number fs ≡ true
  pub «table_kept» : table_kept rs ≡ true
  pub sector : sector_sound v.sector ≡ true
  pub size : size_sound f.size ≡ true
  pub sectors : every (whole_sectors v.sector) fs ≡ true

pub accepted : (v : Volume) (f : File) (fs : List Fields) (shared : List ℕ) (rs : List Row) → lent_refusal v f fs shared rs ≡ 0 → Accepted v f fs shared rs
unfolding lent_refusal
accepted v f fs shared rs h =
    let z = first_of_zero _ h in
    record {
      sized = unless-zero (leb (length fs) 65536) 1 z.0 (λ e. omega arith);
      shares = unless-zero (shared_sound shared fs) 1 z.1.0 (λ e. omega arith);
      «table-sized» = unless-zero (leb (length rs) 65536) 1 z.1.1.0 (λ e. omega arith);
      kept = unless-zero (list_kept f.number fs) 2 z.1.1.1.0 (λ e. omega arith);
      «table_kept» = unless-zero (table_kept rs) 3 z.1.1.1.1.0 (λ e. omega arith);
      sector = unless-zero (sector_sound v.sector) 4 z.1.1.1.1.1.0 (λ e. omega arith);
      size = unless-zero (size_sound f.size) 4 z.1.1.1.1.1.1.0 (λ e. omega arith);
      sectors = unless-zero (every (whole_sectors v.sector) fs) 4 z.1.1.1.1.1.1.1.0 (λ e. omega arith);
    }

-- of two files: both are accepted with the table, and the source has another number unless it is the destination
pub record Accepted2 (v : Volume) (dst src : File) (own : Bool) (fs : List Fields) (shared : List ℕ) (source : List Fields) (rs : List Row) : Type 0 where
  pub destination : Accepted v dst fs shared rs
  pub «source-sized» : leb (length source) 65536 ≡ true
  pub «source-kept» : list_kept src.number source ≡ true
  pub «source-size» : size_sound src.size ≡ true
  pub «source-sectors» : every (whole_sectors v.sector) source ≡ true
  pub other : (own || not (eqb src.number dst.number)) ≡ true

pub accepted2 :
    (v : Volume) (dst src : File) (own : Bool) (fs : List Fields) (shared : List ℕ) (source : List Fields) (rs : List Row)
    → lent_refusal2 v dst src own fs shared source rs ≡ 0
    → Accepted2 v dst src own fs shared source rs
unfolding lent_refusal2
accepted2 v dst src own fs shared source rs h =
    let z = first_of_zero _ h in
    let y = z.1.1.1.1 in
    let x = y.1.1.1 in
    record {
      destination =
          record {
            sized = unless-zero (leb (length fs) 65536) 1 z.1.0 (λ e. omega arith);
            shares = unless-zero (shared_sound shared fs) 1 z.1.1.0 (λ e. omega arith);
            «table-sized» = unless-zero (leb (length rs) 65536) 1 z.1.1.1.0 (λ e. omega arith);
            kept = unless-zero (list_kept dst.number fs) 2 y.0 (λ e. omega arith);
            «table_kept» = unless-zero (table_kept rs) 3 x.0 (λ e. omega arith);
            sector = unless-zero (sector_sound v.sector) 4 x.1.0 (λ e. omega arith);
            size = unless-zero (size_sound dst.size) 4 x.1.1.0 (λ e. omega arith);
            sectors = unless-zero (every (whole_sectors v.sector) fs) 4 x.1.1.1.1.0 (λ e. omega arith);
          };
      «source-sized» = unless-zero (leb (length source) 65536) 1 z.0 (λ e. omega arith);
      «source-kept» = unless-zero (list_kept src.number source) 2 y.1.0 (λ e. omega arith);
      «source-size» = unless-zero (size_sound src.size) 4 x.1.1.1.0 (λ e. omega arith);
      «source-sectors» = unless-zero (every (whole_sectors v.sector) source) 4 x.1.1.1.1.1.0 (λ e. omega arith);
      other = unless-zero (own || not (eqb src.number dst.number)) 2 y.1.1.0 (λ e. omega arith);
    }
