-- Records of one width, read chunk by chunk. Assumes nothing.
use Rattle.std.proofs.Common.{◌≡◌, ℕ, zero, suc, ◌+◌, ◌*◌, ◌<◌, List, ◌∷◌, map, get_or, take, drop, refl, ap, ◌∙◌, arith, Bool, ◌&&◌, length, ◌/◌, [], sym}
use mathlib.Core.Path.{ap₂}
use Rattle.std.proofs.lemmas.List.{get_or-take, get_or-drop}
use native.Mathlib.Nat.{suc-mul, zero-mul, zero-add}
use Rattle.std.specs.Simd.{first_chunks}
use lib.ListN.{get_or-map}
use Rattle.records.proofs.Loops.{records-at}
use Rattle.std.specs.List.{list_all}
use Rattle.records.specs.Records.{chunks, records}
use Rattle.records.specs.Stages.{every}

-- number m of chunk k
pub chunk-at : {A : Type 0} (w n : ℕ) (s : List A) (k m : ℕ) (d : List A) (e : A) → k < n → m < w → get_or (get_or (first_chunks w n s) k d) m e ≡ get_or s (k * w + m) e
chunk-at w zero s k m d e h l = absurd (omega arith)
chunk-at w (suc n) s zero m d e h l = rw (zero-mul, zero-add) (get_or-take w s m e l)
chunk-at w (suc n) s (suc k) m d e h l =
    let o : w + (k * w + m) ≡ suc k * w + m = rw suc-mul (omega arith) in
    chunk-at w n (drop w s) k m d e (omega arith) l ∙ get_or-drop w s (k * w + m) e ∙ ap (λ (i : ℕ). get_or s i e) o

-- the records of a list are its chunks, where each is read from its own numbers alone
pub chunks_read : {A : Type 0} (f : List ℕ → A) (w : ℕ) → ((s : List ℕ) → f (take w s) ≡ f s) → (n : ℕ) (s : List ℕ) → map f (first_chunks w n s) ≡ chunks f w n s
unfolding chunks
chunks_read f w h zero s = refl
chunks_read f w h (suc n) s = ap₂ (λ a l. a ∷ l) (h s) (chunks_read f w h n (drop w s))

pub records_read : {A : Type 0} (f : List ℕ → A) (w : ℕ) → ((s : List ℕ) → f (take w s) ≡ f s) → (s : List ℕ) → map f (first_chunks w (length s / w) s) ≡ records f w s
unfolding records
records_read f w h s = chunks_read f w h (length s / w) s

-- a test of each chunk is one of each record
pub all_read : {A : Type 0} (f : List ℕ → A) (q : A → Bool) (l : List (List ℕ)) → list_all (λ c. q (f c)) l ≡ every q (map f l)
unfolding every
all_read f q [] = refl
all_read f q (c ∷ l) = ap (λ (b : Bool). q (f c) && b) (all_read f q l)

-- record k, read from chunk k
pub chunk_read : {A : Type 0} (f : List ℕ → A) (w : ℕ) → ((s : List ℕ) → f (take w s) ≡ f s) → (s : List ℕ) (k : ℕ) (d : List ℕ) → k < length s / w → f (get_or (first_chunks w (length s / w) s) k d) ≡ f (drop (k * w) s)
chunk_read f w h s k d l =
    sym (get_or-map f (first_chunks w (length s / w) s) k d)
    ∙ ap (λ a. get_or a k (f d)) (records_read f w h s)
    ∙ records-at f w s k (f d) l
