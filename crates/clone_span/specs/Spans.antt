-- What a clone asks of its range in both files (document 01, "A clone"; `clone_span`, clone.rs).
use Rattle.std.specs.Prelude.{Bool, cond, ◌&&◌, ◌||◌, not, List, [], ◌∷◌, ℕ, ◌+◌, ◌-◌, ◌%◌, ◌^◌, eqb, leb, ltb}
use lib.ListN.{length}
use Rattle.records.specs.Stages.{whenever, unless, first_of}
use Rattle.item.specs.Items.{Fields}
use Rattle.change_def.specs.Rounding.{round_up}

-- "Length 0 means to the source's end."
abbrev pub resolved : (size from length : ℕ) → ℕ
resolved size from length = cond (eqb length 0) (size - from) length

-- what is cloned of the extents: the last, partial sector of the source whole
abbrev pub span_of : (sector from length : ℕ) → ℕ
span_of sector from length = round_up sector (from + length) - from

-- ---- refusals, in order

-- "19, start past the source's end; 20, end past it; 21, an offset not whole sectors; 22, length not whole sectors and
-- short of the source's end"
abbrev pub source_refusal : (sector srcSize from to length : ℕ) → ℕ
source_refusal sector srcSize from to length =
    first_of
    (unless (leb from srcSize) 19
    ∷ unless (leb (from + length) srcSize) 20
    ∷ unless (eqb (from % sector) 0 && eqb (to % sector) 0) 21
    ∷ unless (eqb (length % sector) 0 || eqb (from + length) srcSize) 22
    ∷ [])

-- "6, destination offset + length over 2^63 − 1; 23, a partial sector inside the destination; 24, overlap within one
-- file"
abbrev pub destination_refusal : (sector : ℕ) → (own : Bool) → (dstSize from to length : ℕ) → ℕ
destination_refusal sector own dstSize from to length =
    first_of
    (unless (ltb (to + length) (2 ^ 63)) 6
    ∷ unless (eqb (length % sector) 0 || leb dstSize (to + length)) 23
    ∷ unless (not own || (leb (to + span_of sector from length) from || leb (from + span_of sector from length) to)) 24
    ∷ [])

-- "destination records 7, 8"
abbrev pub destination_record : Fields → ℕ
destination_record f = first_of (whenever (eqb f.kind 0) 7 ∷ unless (leb f.kind 2) 8 ∷ [])

-- "25, growing a destination that has records and ends inside a sector"
abbrev pub growth_refusal : (sector dstSize to length : ℕ) → List Fields → ℕ
growth_refusal sector dstSize to length fs = unless (leb (to + length) dstSize || (eqb (dstSize % sector) 0 || eqb (lib.ListN.length fs) 0)) 25
