-- Records are bytes. Assumes nothing.
use mathlib.Core.List.{List, [], ◌∷◌, ◌++◌, flat_map}
use Prim.Native.Nat.{ℕ, zero, suc}
use native.Mathlib.Omega.{arith}
use Rattle.endian.specs.Le.{Bytes, enc}
use Rattle.endian.proofs.Numbers.{bytes-enc}
use Rattle.endian.proofs.Fields.{encs}
use Rattle.item.specs.Items.{Fields, encode}
use Rattle.item.proofs.Runs.{encode_encs}

bytes_append : (s t : List ℕ) → Bytes s → Bytes t → Bytes (s ++ t)
bytes_append [] t a b i = b i
bytes_append (x ∷ s) t a b zero = a 0
bytes_append (x ∷ s) t a b (suc i) = bytes_append s t (λ j. a (suc j)) b i

bytes-none : Bytes []
bytes-none i = omega arith

bytes_encs : (ws vs : List ℕ) → Bytes (encs ws vs)
unfolding encs
bytes_encs [] vs = bytes-none
bytes_encs (w ∷ ws) [] = bytes-none
bytes_encs (w ∷ ws) (v ∷ vs) = bytes_append (enc w v) (encs ws vs) (bytes-enc w v) (bytes_encs ws vs)

pub bytes-items : (fs : List Fields) → Bytes (flat_map encode fs)
unfolding flat_map
bytes-items [] = bytes-none
bytes-items (f ∷ fs) = bytes_append (encode f) (flat_map encode fs) (rw (encode_encs f) (bytes_encs _ _)) (bytes-items fs)
