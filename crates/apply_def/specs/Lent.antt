-- What is lent to applying: the list and the table with a count each, and room behind them; and a plan as the outputs of an
-- operation hold it (plan_def/specs/Outputs), read back. Any bytes are a plan or are refused with 1.
use Rattle.std.specs.Prelude.{Bool, false, ◌&&◌, ◌||◌, List, [], ◌∷◌, ℕ, ◌*◌, ◌/◌, ◌%◌, eqb, leb, length, get_or, take}
use Rattle.records.specs.Records.{records}
use Rattle.records.specs.Stages.{unless, first_of, every}
use Rattle.item.specs.Items.{Fields, items}
use Rattle.table.specs.declared.Row.{Row}
use Rattle.table.specs.Rows.{rows}
use Rattle.plan_def.specs.Plans.{Plan}
use Rattle.plan_def.specs.ReadBack.{edits_in, refs_in, adds_in}
use Rattle.apply_def.specs.Apply.{Applying, or_applied, apply}
use Rattle.apply_def.specs.declared.Parts.{Parts as Slices}

-- the byte says put or delete
abbrev pub tag_sound : List ℕ → Bool
tag_sound s = eqb (get_or s 0 0) 1 || eqb (get_or s 0 0) 2

-- the parts of a plan that applying is lent
pub record Parts : Type 0 where
  pub edits : List ℕ
  pub shares : List ℕ
  pub unrefs : List ℕ
  pub releases : List ℕ
  pub adds : List ℕ

abbrev pub parts_of : (edits shares unrefs releases adds : List ℕ) → Parts
parts_of edits shares unrefs releases adds = record { edits = edits; shares = shares; unrefs = unrefs; releases = releases; adds = adds }

-- as code lends them
abbrev pub lent : Slices → Parts
lent p = parts_of p.edits.now p.shares.now p.unrefs.now p.releases.now p.adds.now

abbrev pub plan_lent : Parts → Plan
plan_lent p =
    record {
      edits = edits_in p.edits;
      shares = refs_in p.shares;
      unrefs = refs_in p.unrefs;
      releases = refs_in p.releases;
      adds = adds_in p.adds;
      writes = [];
      size = 0;
      bytes = 0;
      prealloc = false;
    }

-- 1: parts of broken length, or an edit that is neither put nor delete
abbrev pub parts_broken : Parts → ℕ
parts_broken p =
    unless
    ((eqb (length p.edits % 71) 0 && every (λ (b : Bool). b) (records tag_sound 71 p.edits))
    && ((eqb (length p.shares % 2) 0 && eqb (length p.unrefs % 2) 0) && (eqb (length p.releases % 2) 0 && eqb (length p.adds % 3) 0)))
    1

-- the first n records of a list that has room behind them, and the first n rows of a table
abbrev pub items_in : ℕ → List ℕ → List Fields
items_in n list = items (take (n * 70) list)

abbrev pub rows_in : ℕ → List ℕ → List Row
rows_in n table = rows (take (n * 5) table)

-- 1: "a list or table of broken length": fewer whole records of a width than the count says
abbrev pub count_broken : (count width : ℕ) → List ℕ → ℕ
count_broken count width s = unless (leb count (length s / width)) 1

-- with room for as many records and rows as the list and the table have
abbrev pub apply_in : (sector number generation countItems countRows : ℕ) → (list table : List ℕ) → Plan → Applying
apply_in sector number generation countItems countRows list table p =
    apply sector number generation (length list / 70) (length table / 5) (items_in countItems list) (rows_in countRows table) p

-- from the bytes and numbers that are lent
abbrev pub apply_lent : (sector number generation countItems countRows : ℕ) → (list table : List ℕ) → Parts → Applying
apply_lent sector number generation countItems countRows list table p =
    or_applied (first_of (count_broken countItems 70 list ∷ count_broken countRows 5 table ∷ parts_broken p ∷ []))
    (apply_in sector number generation countItems countRows list table (plan_lent p))
