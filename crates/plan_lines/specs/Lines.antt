-- For the code only: lines of one length, laid one behind the other over an output.
use Rattle.std.specs.Prelude.{cond, List, [], ◌∷◌, ◌≡◌, ℕ, ◌+◌, ◌*◌, ◌/◌, ltb, length}
use Rattle.endian.specs.Le.{put}

-- f gives the numbers of a line, w of them
module _ {A : Type 0} (f : A → List ℕ) (w : ℕ) where
  -- lines laid from number n on, as many as the output has room for
  unfoldable pub lay : ℕ → List A → List ℕ → List ℕ
  lay n [] out = out
  lay n (a ∷ l) out = lay (n + 1) l (cond (ltb n (length out / w)) (put (f a) (n * w) out) out)

  -- what a function that appends lines does: how many there are then, and the output. Lines that find no room are counted.
  pub record Laid (n : ℕ) (l : List A) (out : List ℕ) (m : ℕ) (out' : List ℕ) : Type 0 where
    pub lines : m ≡ n + length l
    pub output : out' ≡ lay n l out
