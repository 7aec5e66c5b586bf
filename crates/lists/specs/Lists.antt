-- What is lent of a file: its list and the shared bytes, and when they are refused with 1, 2, 4, 7, 8 and 9
-- (document 01, "What a call is lent" and "When a plan is refused").
use Rattle.std.specs.Prelude.{Bool, ◌&&◌, ◌||◌, not, List, [], ◌∷◌, ℕ, ◌+◌, ◌%◌, ◌^◌, eqb, leb, ltb, length}
use Rattle.records.specs.Stages.{whenever, unless, first_of, every, pairs}
use Rattle.item.specs.Items.{Fields, ranged, end}

-- 1: "a list .. of broken length": "A record is 70 bytes"
abbrev pub whole_records : List ℕ → Bool
whole_records list = eqb (length list % 70) 0

-- 1: "over-long": "A list holds 0 to 65,536 records"
abbrev pub few_records : List Fields → Bool
few_records fs = leb (length fs) 65536

-- 1: "a shared byte not 0 or 1, or the shared bytes not one a record"
abbrev pub shared_sound : List ℕ → List Fields → Bool
shared_sound shared fs = eqb (length shared) (length fs) && every (λ (b : ℕ). leb b 1) shared

-- "length is at least 1, key + length is at most 2^63, position + length fits 64 bits"
abbrev pub range_sound : Fields → Bool
range_sound f = leb 1 f.length && leb (end f) (2 ^ 63) && ltb (f.position + f.length) (2 ^ 64)

-- "every record has the named file's number and type 108 .. and, for kinds 1 and 2," a sound range
abbrev pub item_sound : ℕ → Fields → Bool
item_sound file f = eqb f.file file && eqb f.key_type 108 && (not (ranged f) || range_sound f)

-- "key offsets rise strictly"
abbrev pub rises : Fields → Fields → Bool
rises f g = ltb f.key g.key

-- "no two ranges overlap": of two items of kind 1 or 2, one ends at most where the other starts
abbrev pub apart : Fields → Fields → Bool
apart f g = not (ranged f) || (not (ranged g) || (leb (end f) g.key || leb (end g) f.key))

-- 2: "a list not well kept, sectors aside"
unfoldable pub list_kept : ℕ → List Fields → Bool
list_kept file fs = every (item_sound file) fs && (pairs rises fs && pairs apart fs)

-- 4: "a key or length of kind 1 or 2 not whole sectors"
abbrev pub whole_sectors : ℕ → Fields → Bool
whole_sectors sector f = not (ranged f) || (eqb (f.key % sector) 0 && eqb (f.length % sector) 0)

-- "well kept if every record has the named file's number and type 108, key offsets rise strictly and, for kinds 1 and 2,
-- length is at least 1, key + length is at most 2^63, position + length fits 64 bits, key and length are whole sectors and no
-- two ranges overlap"
abbrev pub well_kept : (sector file : ℕ) → List Fields → Bool
well_kept sector file fs = list_kept file fs && every (whole_sectors sector) fs

-- "record by record 7 inline, 8 kind over 2, 9 encrypted or other encoding"
abbrev pub record_refusal : Fields → ℕ
record_refusal f =
    first_of
    (whenever (eqb f.kind 0) 7
    ∷ unless (leb f.kind 2) 8
    ∷ unless (eqb f.encryption 0 && eqb f.other 0) 9
    ∷ [])
