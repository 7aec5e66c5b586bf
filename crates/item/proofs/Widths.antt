-- A record is its own 70 bytes. Assumes nothing.
use Rattle.std.proofs.Common.{◌≡◌, ℕ, List, length, take, drop, refl, ap, ◌∙◌, arith, length-append, take-take}
use Rattle.endian.proofs.Numbers.{num-take, length-enc}
use Rattle.records.proofs.Chunks.{drop-take}
use Rattle.item.specs.Items.{Fields, item_of, decode, encode}

pub decode-take : (s : List ℕ) → decode (take 70 s) ≡ decode s
unfolding decode item_of
decode-take s =
    let d : take 53 (drop 17 (take 70 s)) ≡ take 53 (drop 17 s) = ap (take 53) (drop-take 17 53 s) ∙ take-take 53 53 (drop 17 s) (omega arith) in
    rw (num-take 8 0 70 s (omega arith), num-take 1 8 70 s (omega arith), num-take 8 9 70 s (omega arith), d) refl

pub length-encode : (f : Fields) → length (encode f) ≡ 70
unfolding encode
length-encode f = simp (length-append, length-enc)
