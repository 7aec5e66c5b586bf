-- How a plan lies in the lent outputs, and refusal 27.
use Rattle.std.specs.Prelude.{Bool, ◌&&◌, ◌≡◌, ℕ, ◌/◌, leb, length, replicate}
use mathlib.Core.List.{List, [], ◌∷◌, ◌++◌, flat_map}
use denote.Triple.Both.{Both}
use Rattle.records.specs.Lent.{Slice, old, new}
use Rattle.endian.specs.Le.{enc, put}
use Rattle.item.specs.Items.{encode}
use Rattle.cut_def.specs.Refs.{Ref}
use Rattle.cut_def.specs.Edits.{Edit, put as putItem, delete}
use Rattle.std.specs.Prelude.{Option, Result}
use Rattle.records.specs.declared.refusal.Refusal.{Refusal}
use Rattle.request.specs.declared.Numbers.{Numbers}
use Rattle.plan_def.specs.declared.Outputs.{Outputs}
use Rattle.request.specs.Answers.{Outcome, plan, nothing, refused, said as answered}
use Rattle.plan_def.specs.Plans.{Plan, Add, Write, told}

-- the lengths of the outputs that a call is lent: edits in bytes, the others in numbers
pub record Rooms : Type 0 where
  pub edits : ℕ
  pub shares : ℕ
  pub unrefs : ℕ
  pub releases : ℕ
  pub adds : ℕ
  pub writes : ℕ

-- 27: "an output is too short for the plan": it holds as many whole records as fit
abbrev pub room_for : Rooms → Plan → Bool
room_for rooms p =
    leb (length p.edits) (rooms.edits / 71)
    && (leb (length p.shares) (rooms.shares / 2)
    && (leb (length p.unrefs) (rooms.unrefs / 2)
    && (leb (length p.releases) (rooms.releases / 2)
    && (leb (length p.adds) (rooms.adds / 3)
    && leb (length p.writes) (rooms.writes / 4)))))

-- an edit is a byte, 1 for put and 2 for delete, and a record; of a delete the record has the file's number, type 108,
-- the key, and zeros
abbrev pub edit_bytes : ℕ → Edit → List ℕ
edit_bytes file (putItem f) = 1 ∷ encode f
edit_bytes file (delete k) = 2 ∷ enc 8 file ++ enc 1 108 ++ enc 8 k ++ replicate 53 0

abbrev pub ref_numbers : Ref → List ℕ
ref_numbers r = r.start ∷ r.offset ∷ []

abbrev pub add_numbers : Add → List ℕ
add_numbers a = a.start ∷ a.length ∷ a.key ∷ []

abbrev pub write_numbers : Write → List ℕ
write_numbers w = w.key ∷ w.at ∷ w.first ∷ w.end ∷ []

-- a part of a plan over an output from its start; "Output past the plan keeps its bytes."
abbrev pub laid : {A : Type 0} → (A → List ℕ) → List A → List ℕ → List ℕ
laid f parts out = put (flat_map f parts) 0 out

-- ---- what a call leaves

-- the six outputs that a call is lent
pub record Outs : Type 0 where
  pub edits : List ℕ
  pub shares : List ℕ
  pub unrefs : List ℕ
  pub releases : List ℕ
  pub adds : List ℕ
  pub writes : List ℕ

abbrev pub outs : (edits shares unrefs releases adds writes : List ℕ) → Outs
outs e s u r a w = record { edits = e; shares = s; unrefs = u; releases = r; adds = a; writes = w }

abbrev pub rooms_of : Outs → Rooms
rooms_of o =
    record {
      edits = length o.edits;
      shares = length o.shares;
      unrefs = length o.unrefs;
      releases = length o.releases;
      adds = length o.adds;
      writes = length o.writes;
    }

-- a plan lies in each of them from its start; a refusal, and nothing to do, leave all as they were
abbrev pub left : ℕ → Outcome Plan → Outs → Outs
left file (plan p) o =
    record {
      edits = laid (edit_bytes file) p.edits o.edits;
      shares = laid ref_numbers p.shares o.shares;
      unrefs = laid ref_numbers p.unrefs o.unrefs;
      releases = laid ref_numbers p.releases o.releases;
      adds = laid add_numbers p.adds o.adds;
      writes = laid write_numbers p.writes o.writes;
    }
left file nothing o = o
left file (refused n) o = o

-- an operation on a file does what its definition says: the answer, and every number of the outputs after it
pub record MetWith (file : ℕ) (o : Outcome Plan) (r : Result (Option Numbers) Refusal) (before after : Outs) : Type 0 where
  pub answer : answered r ≡ told o
  pub outputs : after ≡ left file o before

-- what the six hold
abbrev pub outs_in : Outputs → Outs
outs_in o = outs o.edits.now o.shares.now o.unrefs.now o.releases.now o.adds.now o.writes.now

-- a call writes to what it was lent: the outputs are the same slices after it
pub record Kept (before after : Outputs) : Type 0 where
  pub edits : after.edits.ghost_name ≡ before.edits.ghost_name
  pub shares : after.shares.ghost_name ≡ before.shares.ghost_name
  pub unrefs : after.unrefs.ghost_name ≡ before.unrefs.ghost_name
  pub releases : after.releases.ghost_name ≡ before.releases.ghost_name
  pub adds : after.adds.ghost_name ≡ before.adds.ghost_name
  pub writes : after.writes.ghost_name ≡ before.writes.ghost_name

-- the outputs hold what an answer leaves in them
abbrev pub LeftBy : (file : ℕ) → Outcome Plan → (before after : Outputs) → Type 0
LeftBy file o before after = outs_in after ≡ left file o (outs_in before)

-- what an operation ensures of a definition from the rooms, which are those of the outputs
abbrev pub Met : (file : ℕ) → (Rooms → Outcome Plan) → Result (Option Numbers) Refusal → (before after : Outputs) → Type 0
Met file definition r before after = MetWith file (definition (rooms_of (outs_in before))) r (outs_in before) (outs_in after)
