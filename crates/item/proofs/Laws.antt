-- What the setters and the constructor make of an item's numbers. Assumes nothing.
use Rattle.std.proofs.Common.{◌≡◌, ℕ, ◌*◌, ◌/◌, ◌^◌, ◌<◌, List, length, get_or, drop, refl, ap, arith}
use Rattle.endian.specs.Le.{le, num, room}
use Rattle.endian.proofs.Fields.{place}
use Rattle.records.specs.Records.{records}
use Rattle.records.proofs.Loops.{rest, rest_all, chunks-length, chunks-at}
use Rattle.item.specs.declared.Item.{Item}
use Rattle.item.specs.Items.{Fields, fields, item_of, decode, items, regular_item, of_kind, with_numbers}
use Rattle.item.specs.Raw.{written, blank}
use Rattle.item.proofs.Runs.{Reads, reads-written}

-- an item of 53 bytes reads as its own fields
pub reads_self : (i : Item) → length i.«data» ≡ 53 → Reads i (fields i)
reads_self i l = record { long = l; told = refl }

-- ---- the items of a list, for loops over them

pub item-decode : (r : Item) (s : List ℕ) → r ≡ item_of s → fields r ≡ decode s
unfolding decode
item-decode r s h = ap fields h

pub rest-items : (s : List ℕ) → rest decode 70 s (length s / 70) 0 ≡ items s
unfolding items
rest-items s = rest_all decode 70 s

pub items-length : (s : List ℕ) → length (items s) ≡ length s / 70
unfolding items records
items-length s = chunks-length decode 70 (length s / 70) s

pub items_at : (s : List ℕ) (k : ℕ) (e : Fields) → k < length s / 70 → get_or (items s) k e ≡ decode (drop (k * 70) s)
unfolding items records
items_at s k e h = chunks-at decode 70 (length s / 70) s k e h

-- ---- setters: one number of the data written anew
pub with_kind : (i r : Item) (f : Fields) (v : ℕ) → Reads i f → v < 256 → r ≡ written i 20 1 v → Reads r (of_kind f v)
unfolding place room
with_kind i r f v h hv e = reads-written i r f 5 v h (omega arith) (omega arith) e

pub with_generation : (i r : Item) (f : Fields) (v : ℕ) → Reads i f → v < 2 ^ 64 → r ≡ written i 0 8 v → Reads r (with_numbers f f.file f.key v f.kind f.position f.length)
unfolding place room
with_generation i r f v h hv e = reads-written i r f 0 v h (omega arith) (omega arith) e

pub with_position : (i r : Item) (f : Fields) (v : ℕ) → Reads i f → v < 2 ^ 64 → r ≡ written i 37 8 v → Reads r (with_numbers f f.file f.key f.generation f.kind v f.length)
unfolding place room
with_position i r f v h hv e = reads-written i r f 8 v h (omega arith) (omega arith) e

pub with_length : (i r : Item) (f : Fields) (v : ℕ) → Reads i f → v < 2 ^ 64 → r ≡ written i 45 8 v → Reads r (with_numbers f f.file f.key f.generation f.kind f.position v)
unfolding place room
with_length i r f v h hv e = reads-written i r f 9 v h (omega arith) (omega arith) e

-- the key is no part of the data
pub with_key : (i : Item) (f : Fields) (file key : ℕ) → Reads i f → fields (record { file = file; key_type = i.key_type; key = key; «data» = i.«data» }) ≡ with_numbers f file key f.generation f.kind f.position f.length
with_key i f file key h = ap (λ (g : Fields). with_numbers g file key g.generation g.kind g.position g.length) h.told

-- six numbers over zeros are a new regular item
pub regular-item :
    (file key generation start length : ℕ) (z a b c d e r : Item)
    → generation < 2 ^ 64
    → start < 2 ^ 64
    → length < 2 ^ 64
    → z ≡ blank file key
    → a ≡ written z 0 8 generation
    → b ≡ written a 8 8 length
    → c ≡ written b 20 1 1
    → d ≡ written c 21 8 start
    → e ≡ written d 29 8 length
    → r ≡ written e 45 8 length
    → fields r ≡ regular_item file key generation start length
unfolding place room num le
regular-item file key generation start length z a b c d e r hg hs hl pz pa pb pc pd pe pr =
    let z0 : Reads (blank file key) (fields (blank file key)) = reads_self (blank file key) refl in
    let zr : Reads z (fields (blank file key)) = rw pz z0 in
    let ar = reads-written z a _ 0 generation zr (omega arith) (omega arith) pa in
    let br = reads-written a b _ 1 length ar (omega arith) (omega arith) pb in
    let cr = reads-written b c _ 5 1 br (omega arith) (omega arith) pc in
    let dr = reads-written c d _ 6 start cr (omega arith) (omega arith) pd in
    let er = reads-written d e _ 7 length dr (omega arith) (omega arith) pe in
    (reads-written e r _ 9 length er (omega arith) (omega arith) pr).told
