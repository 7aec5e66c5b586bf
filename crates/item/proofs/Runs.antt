-- An item's numbers as a run of fields, so that one law of runs serves every field. Assumes nothing.
use Rattle.std.proofs.Common.{◌≡◌, ℕ, suc, ◌+◌, ◌<◌, ◌≤◌, List, [], ◌∷◌, ◌++◌, length, get_or, take, drop, set, sym, refl, ap, ◌∙◌, append_assoc, append-nil, add-zero, arith, length-append, take_all, drop-drop}
use Rattle.endian.specs.Le.{num, enc, put, room, Bytes}
use Rattle.endian.proofs.Numbers.{length-enc, num-drop, num-room}
use Rattle.endian.proofs.Puts.{put-put, length-put}
use Rattle.endian.proofs.Fields.{dec, encs, sum, Fit, dec_encs, encs_dec, dec-put, place, dec_take, dec_drop, place_le, bytes_take, bytes_drop}
use Rattle.item.specs.declared.Item.{Item}
use Rattle.item.specs.Items.{Fields, fields, item_of, decode, encode, Sound}
use Rattle.item.specs.Raw.{written}

-- the widths of the data's fields, and of a record's
abbrev pub data_widths : List ℕ
data_widths = 8 ∷ 8 ∷ 1 ∷ 1 ∷ 2 ∷ 1 ∷ 8 ∷ 8 ∷ 8 ∷ 8 ∷ []

abbrev pub widths : List ℕ
widths = 8 ∷ 1 ∷ 8 ∷ data_widths

-- an item's numbers in order, and back
abbrev pub numbers : Fields → List ℕ
numbers f =
    f.file
    ∷ f.key_type
    ∷ f.key
    ∷ f.generation
    ∷ f.ram
    ∷ f.compression
    ∷ f.encryption
    ∷ f.other
    ∷ f.kind
    ∷ f.extent_start
    ∷ f.extent_length
    ∷ f.position
    ∷ f.length
    ∷ []

abbrev pub of_numbers : List ℕ → Fields
of_numbers v =
    record {
      file = get_or v 0 0;
      key_type = get_or v 1 0;
      key = get_or v 2 0;
      generation = get_or v 3 0;
      ram = get_or v 4 0;
      compression = get_or v 5 0;
      encryption = get_or v 6 0;
      other = get_or v 7 0;
      kind = get_or v 8 0;
      extent_start = get_or v 9 0;
      extent_length = get_or v 10 0;
      position = get_or v 11 0;
      length = get_or v 12 0;
    }

-- a key and data as fields
abbrev pub keyed : Item → List ℕ → Fields
keyed i v = of_numbers (i.file ∷ i.key_type ∷ i.key ∷ v)

pub fields_dec : (i : Item) → fields i ≡ keyed i (dec data_widths 0 i.«data»)
unfolding dec
fields_dec i = refl

-- an item whose data are 53 long and whose numbers are f
pub record Reads (i : Item) (f : Fields) : Type 0 where
  pub long : length i.«data» ≡ 53
  pub told : fields i ≡ f

-- a number of the data written anew: field j is that number, all others are as they were
pub reads-written :
    (i r : Item) (f : Fields) (j v : ℕ)
    → Reads i f
    → v < room (get_or data_widths j 0)
    → j < 10
    → r ≡ written i (place data_widths 0 j) (get_or data_widths j 0) v
    → Reads r (of_numbers (set (numbers f) (suc (suc (suc j))) v))
unfolding sum dec
reads-written i r f j v h hv hj e =
    let p : ℕ = place data_widths 0 j in
    let w : ℕ = get_or data_widths j 0 in
    let l : length i.«data» ≡ 53 = h.long in
    record {
      long = rw e (length-put (enc w v) p i.«data» (simp length-enc (omega (arith, place_le data_widths 0 j))) ∙ l);
      told =
          rw e
          (ap (keyed i) (dec-put data_widths 0 j v i.«data» hv (omega arith) hj)
          ∙ ap (λ (f : Fields). of_numbers (set (numbers f) (suc (suc (suc j))) v)) h.told);
    }

-- ---- records: encode after decode and decode after encode

numbers_dec : (s : List ℕ) → numbers (decode s) ≡ dec widths 0 s
unfolding decode item_of dec sum
numbers_dec s =
    ap (λ (v : List ℕ). num 8 0 s ∷ num 1 8 s ∷ num 8 9 s ∷ v)
    (dec_take data_widths 0 53 (drop 17 s) (omega arith) ∙ dec_drop data_widths 17 0 s)

pub encode_encs : (f : Fields) → encode f ≡ encs widths (numbers f)
unfolding encode encs
encode_encs f = simp (append_assoc, append-nil)

-- "encode after decode is the identity for all bytes"
pub encode-decode : (s : List ℕ) → Bytes s → 70 ≤ length s → encode (decode s) ≡ take 70 s
unfolding sum
encode-decode s b h = encode_encs (decode s) ∙ ap (encs widths) (numbers_dec s) ∙ encs_dec widths s b h

-- "decode after encode for all numbers that fit their widths"
pub decode-encode : (f : Fields) (t : List ℕ) → Sound f → decode (encode f ++ t) ≡ f
decode-encode f t h =
    let fit : Fit widths (numbers f) = (h.file, (h.key_type, (h.key, (h.generation, (h.ram, (h.compression, (h.encryption, (h.other, (h.kind, (h.extent_start, (h.extent_length, (h.position, (h.length, tt))))))))))))) in
    ap of_numbers (numbers_dec (encode f ++ t) ∙ ap (λ (x : List ℕ). dec widths 0 (x ++ t)) (encode_encs f) ∙ dec_encs widths (numbers f) t fit)

-- what is decoded fits
pub decode-sound : (s : List ℕ) → Bytes s → Sound (decode s)
unfolding decode item_of
decode-sound s b =
    let d : List ℕ = take 53 (drop 17 s) in
    let bd : Bytes d = bytes_take 53 (drop 17 s) (bytes_drop 17 s b) in
    record {
      file = num-room 8 0 s b;
      key_type = num-room 1 8 s b;
      key = num-room 8 9 s b;
      generation = num-room 8 0 d bd;
      ram = num-room 8 8 d bd;
      compression = num-room 1 16 d bd;
      encryption = num-room 1 17 d bd;
      other = num-room 2 18 d bd;
      kind = num-room 1 20 d bd;
      extent_start = num-room 8 21 d bd;
      extent_length = num-room 8 29 d bd;
      position = num-room 8 37 d bd;
      length = num-room 8 45 d bd;
    }

-- an item whose parts are read by their places in a list is the item there
pub item_read :
    (r : Item) (s : List ℕ) (at : ℕ)
    → r.file ≡ num 8 at s
    → r.key_type ≡ num 1 (at + 8) s
    → r.key ≡ num 8 (at + 9) s
    → r.«data» ≡ take 53 (drop (at + 17) s)
    → r ≡ item_of (drop at s)
unfolding item_of
item_read r s at f t k d =
    let e : r ≡ record { file = num 8 at s; key_type = num 1 (at + 8) s; key = num 8 (at + 9) s; «data» = take 53 (drop (at + 17) s) } =
    λ i. record { file = f i; key_type = t i; key = k i; «data» = d i } in
    e ∙ simp (num-drop, drop-drop, add-zero)

-- a key's bytes and the data are an item's bytes
pub key-and_data : (i : Item) → Bytes i.«data» → length i.«data» ≡ 53 → enc 8 i.file ++ enc 1 i.key_type ++ enc 8 i.key ++ i.«data» ≡ encode (fields i)
unfolding sum encs dec
key-and_data i b l =
    let d : List ℕ = i.«data» in
    let e : encs data_widths (dec data_widths 0 d) ≡ d = encs_dec data_widths d b (omega arith) ∙ take_all 53 d (omega arith) in
    let k : List ℕ = enc 8 i.file ++ enc 1 i.key_type in
    append_assoc k (enc 8 i.key) d
    ∙ append_assoc (enc 8 i.file) (enc 1 i.key_type) (enc 8 i.key ++ d)
    ∙ ap (λ (x : List ℕ). enc 8 i.file ++ (enc 1 i.key_type ++ (enc 8 i.key ++ x))) (sym e)
    ∙ sym (encode_encs (fields i) ∙ ap (λ (f : Fields). encs widths (numbers f)) (fields_dec i))

-- four writes, one behind the other, are an item's bytes
pub put_item :
    (i : Item) (at : ℕ) (d d1 d2 d3 d4 : List ℕ)
    → Bytes i.«data»
    → length i.«data» ≡ 53
    → at + 70 ≤ length d
    → d1 ≡ put (enc 8 i.file) at d
    → d2 ≡ put (enc 1 i.key_type) (at + 8) d1
    → d3 ≡ put (enc 8 i.key) (at + 9) d2
    → d4 ≡ put (take 53 (drop 0 i.«data»)) (at + 17) d3
    → d4 ≡ put (encode (fields i)) at d
put_item i at d d1 d2 d3 d4 b ld h e1 e2 e3 e4 =
    let t : take 53 (drop 0 i.«data») ≡ i.«data» = take_all 53 i.«data» (omega arith) in
    let f : List ℕ = enc 8 i.file in
    let k : List ℕ = enc 1 i.key_type in
    let o : List ℕ = enc 8 i.key in
    let p1 : put k (at + 8) (put f at d) ≡ put (f ++ k) at d = put-put f k at 8 d (length-enc 8 _) (simp length-enc (omega arith)) in
    let p2 : put o (at + 9) (put (f ++ k) at d) ≡ put (f ++ k ++ o) at d = put-put (f ++ k) o at 9 d (simp (length-append, length-enc)) (simp length-enc (omega arith)) in
    let p3 : put i.«data» (at + 17) (put (f ++ k ++ o) at d) ≡ put (f ++ k ++ o ++ i.«data») at d = put-put (f ++ k ++ o) i.«data» at 17 d (simp (length-append, length-enc)) (omega arith) in
    rw (e4, e3, e2, e1, t, p1, p2, p3) (ap (λ (x : List ℕ). put x at d) (key-and_data i b ld))
