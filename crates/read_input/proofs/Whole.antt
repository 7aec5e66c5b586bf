-- The loop over an input's lines. Assumes nothing.
use mathlib.Core.Path.{◌≡◌, refl, sym}
use mathlib.Core.Bool.{true, false}
use mathlib.Core.List.{List}
use Prim.Native.Nat.{ℕ, zero, suc, ◌+◌, ◌-◌, ◌≤◌, ◌<◌}
use native.Mathlib.Omega.{arith}
use lib.Dec.{eqb}
use borrow.Author.Tests.{eqb-true}
use lib.ListN.{length, take, drop, length-drop}
use Rattle.read_line.specs.Forms.{read_line, unreadable}
use Rattle.read_order.specs.declared.Read.{Read}
use Rattle.read_order.specs.declared.Phase.{Phase}
use Rattle.read_order.specs.declared.Phase.TheVariants.{Nothing, Volume, File, Source, Extents, SourceExtents, Places, Request}
use Rattle.read_order.specs.Numbers.{phase_number}
use Rattle.read_order.specs.Order.{next}
use Rattle.read_order.specs.Taking.{Numbers, begin, taken}
use Rattle.read_order.specs.Few.{Few}
use Rattle.read_store.specs.Buffers.{Buffers}
use Rattle.read_store.specs.Storing.{Took, Stored}
use Rattle.read_store.proofs.Runs.{Going, going_first, going-turn, going_done, going_fault, fault_took, fault-phase, fault_taken, few-first, few-less, few-turn}
use Rattle.read_input.specs.Split.{lines, line_length}
use Rattle.read_input.specs.Input.{kind_of, values_of, read_input}
use Rattle.read_input.proofs.Split.{lines-first, lines_none}

-- rest is left of the input s
pub record Onward (s : List ℕ) (b₀ : Buffers) (rest : List ℕ) (r : Numbers) (b : Buffers) : Type 0 where
  pub going : Going kind_of values_of (lines s) b₀ r (lines rest) b
  pub few : Few r (length s - length rest + 1)
  pub short : length rest ≤ length s

pub onward_first : (s : List ℕ) (b : Buffers) (r : Numbers) → r ≡ begin → Onward s b s r b
onward_first s b r e = record { going = going_first kind_of values_of (lines s) b r e; few = rw e (few-less begin 1 (length s - length s + 1) (omega arith) few-first); short = omega arith }

module _ (s : List ℕ) (b₀ : Buffers) (rest : List ℕ) (r : Numbers) (b : Buffers) (o : Onward s b₀ rest r b) where
  -- no more was read than there are bytes
  pub onward_few : 0 < length rest → length s ≤ 65536 → Few r 65537
  onward_few h m = few-less r (length s - length rest + 1) 65537 (omega arith) o.few

  module _ (h : 0 < length rest) (line behind : List ℕ) (p : line ≡ take (line_length rest) rest) (q : behind ≡ drop (line_length rest + 1) rest) where
    turn : (r' : Numbers) (b' : Buffers) → Took r (kind_of line) (values_of line) b r' b' → Going kind_of values_of (lines s) b₀ r' (lines behind) b'
    turn r' b' t = going-turn kind_of values_of (lines s) b₀ r line (lines behind) b r' b' (rw (lines-first rest h, ← p, ← q) at o.going) t

    shorter : length behind < length rest
    shorter = rw (q, length-drop (line_length rest + 1) rest) (omega arith)

    pub onward-turn : (r' : Numbers) (b' : Buffers) → Took r (kind_of line) (values_of line) b r' b' → Onward s b₀ behind r' b'
    onward-turn r' b' t =
        record {
          going = turn r' b' t;
          few = few-turn kind_of values_of r line b r' b' (length s - length rest + 1) (length s - length behind + 1) o.few (omega (arith, shorter, o.short)) t;
          short = omega (arith, shorter, o.short);
        }

    -- a line at fault
    pub onward-fault : (b' : Buffers) → next r.phase (kind_of line) ≡ 0 → b' ≡ b → Stored (read_input s) b₀ (record r { phase = 0 }) b'
    unfolding read_input
    onward-fault b' z f =
        rw (f, ← fault_taken r (kind_of line) (values_of line) z)
        (going_fault kind_of values_of (lines s) b₀ (taken r (kind_of line) (values_of line)) (lines behind) b (turn _ b (fault_took r (kind_of line) (values_of line) b z)) (fault-phase r (kind_of line) (values_of line) z).0)

pub onward_done : (s : List ℕ) (b₀ : Buffers) (r : Numbers) (b : Buffers) (rest : List ℕ) → length rest ≡ 0 → Onward s b₀ rest r b → Stored (read_input s) b₀ r b
unfolding read_input
onward_done s b₀ r b rest h o = going_done kind_of values_of (lines s) b₀ r b (rw (lines_none rest h) at o.going)

-- no right input goes on with a line that can't be read
pub unread : (r : Read) (l : List ℕ) → unreadable ≡ read_line l → next (phase_number r.phase) (kind_of l) ≡ 0
unfolding next
unread r l e = rw (kind_of, ← e) (go r.phase)
  where
    go : (p : Phase) → next (phase_number p) 0 ≡ 0
    go Nothing = refl
    go Volume = refl
    go File = refl
    go (Source f) = refl
    go Extents = refl
    go (SourceExtents f) = refl
    go Places = refl
    go (Request q) = refl

pub not_empty : (n : ℕ) → false ≡ eqb n 0 → 0 < n
not_empty zero e = cc
not_empty (suc n) e = omega arith

pub empty : (n : ℕ) → true ≡ eqb n 0 → n ≡ 0
empty n e = eqb-true n 0 (sym e)
