-- A plan (document 01, "What a call is lent"): "edits (put or delete, by key), shares, unrefs, releases, adds, sector
-- writes, the new size, the byte count and a mark for preallocation, all in the Rust's order".
use Rattle.std.specs.Prelude.{Bool, cond, ◌&&◌, List, ℕ, zero, suc, leb, ltb, length}
use Rattle.std.proofs.Math.Option.{Option, none, some}
use Rattle.request.specs.declared.Numbers.{Numbers}
use Rattle.request.specs.Answers.{Outcome, plan, nothing, refused}
use Rattle.cut_def.specs.Refs.{Ref}
use Rattle.cut_def.specs.Edits.{Edit}

-- a new extent: where it lies, its length, and the key of the item that names it
pub record Add : Type 0 where
  pub start : ℕ
  pub length : ℕ
  pub key : ℕ

-- "A sector write is the sector's file offset, the volume byte it goes to, and the first and past-the-last file offset
-- to zero"
pub record Write : Type 0 where
  pub key : ℕ
  pub at : ℕ
  pub first : ℕ
  pub end : ℕ

pub record Plan : Type 0 where
  pub edits : List Edit
  pub shares : List Ref
  pub unrefs : List Ref
  pub releases : List Ref
  pub adds : List Add
  pub writes : List Write
  pub size : ℕ
  pub bytes : ℕ
  pub prealloc : Bool

-- "its other bytes are what the file read there, zeros past the size": the byte of a sector write at a file offset o, where
-- the file read `read o` before the plan, and had this size before it
abbrev pub written_byte : Write → (sizeBefore : ℕ) → (read : ℕ → ℕ) → ℕ → ℕ
written_byte w sizeBefore read o = cond (leb w.first o && ltb o w.end) 0 (cond (ltb o sizeBefore) (read o) 0)

-- what the answer enum tells of a plan
abbrev pub numbers : Plan → Numbers
numbers p =
    record {
      edits = length p.edits;
      shares = length p.shares;
      unrefs = length p.unrefs;
      releases = length p.releases;
      adds = length p.adds;
      writes = length p.writes;
      size = p.size;
      bytes = p.bytes;
      prealloc = p.prealloc;
    }

abbrev pub told : Outcome Plan → Outcome Numbers
told (plan p) = plan (numbers p)
told nothing = nothing
told (refused n) = refused n

-- a refusal, if its number is not 0; else what follows
unfoldable pub refused_or : ℕ → Outcome Plan → Outcome Plan
refused_or zero o = o
refused_or (suc n) o = refused (suc n)

-- a plan if there is something to do
abbrev pub or_nothing : {A : Type 0} → Option A → (A → Outcome Plan) → Outcome Plan
or_nothing none f = nothing
or_nothing (some a) f = f a
