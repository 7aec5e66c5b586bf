-- For the code only: the copies of a source list, one behind the other, with nothing stored: from record k on, which is copied or is the
-- end; and the steps of a merge with them.
use Rattle.std.specs.Prelude.{Option, Some, None, ◌≡◌, Bool, true, false, ◌||◌, not, List, [], ◌∷◌, ℕ, ◌+◌, ◌*◌, ◌/◌, ◌≤◌, ◌<◌, ◌^◌, ltb, length, drop}
use Rattle.records.specs.Stages.{pairs}
use Rattle.item.specs.declared.Item.{Item}
use Rattle.item.specs.Items.{Fields, fields, decode}
use Rattle.lists.specs.Lists.{range_sound, rises}
use Rattle.cut_def.specs.Pieces.{Piece, items_of}
use Rattle.cut_def.specs.Edits.{Edit, edits}
use Rattle.plan_def.specs.Outputs.{edit_bytes}
use Rattle.plan_lines.specs.Lines.{Laid}
use Rattle.edit_merge.specs.declared.Next.{Next}
use Rattle.edit_merge.specs.declared.MergeCursor.{MergeCursor}
use Rattle.edit_merge.specs.Merge.{from, together, comes_first, Heads}
use Rattle.clone_items.specs.declared.Copying.{Copying}
use Rattle.clone_items.specs.Copies.{clone_item, copied, clones}

-- the first of some items, if there is one, starts behind a key
abbrev pub leads : ℕ → List Fields → Bool
leads key [] = true
leads key (g ∷ gs) = ltb key g.key

-- an item that is copied has a sound range
abbrev pub copy_sound : Copying → Fields → Bool
copy_sound c f = not (copied c f) || range_sound f

module _ (c : Copying) (source : List ℕ) where
  -- record k is copied, or it is the end
  pub record Settled (k : ℕ) : Type 0 where
    pub most : k ≤ length source / 70
    pub there : k < length source / 70 → copied c (decode (drop (k * 70) source)) ≡ true

  -- r is the first record, from k on, that is copied, or the end
  pub record Sought (k r : ℕ) : Type 0 where
    pub least : k ≤ r
    pub settled : Settled r
    pub same : clones c (from source r) ≡ clones c (from source k)

  module _ (segment : List ℕ) where
    -- the new items that are left from item j of the segment and source record k on
    abbrev pub news : (j k : ℕ) → List Piece
    news j k = together (clones c (from source k)) (from segment j)

    -- the copy of record k, where it comes first of them
    abbrev pub LeadingCopy : (j k : ℕ) → Option Item → Type 0
    LeadingCopy j k (Some copy) = (k < length source / 70) × (fields copy ≡ clone_item c (decode (drop (k * 70) source))) × (comes_first (clones c (from source k)) (from segment j) ≡ true)
    LeadingCopy j k None = comes_first (clones c (from source k)) (from segment j) ≡ false

    -- the first of them and what is left behind it, or that none is left
    pub record IsNext (j k : ℕ) (next : Option Next) : Type 0 where
      pub heads : Heads news j k next
      pub none : next ≡ None → (length segment / 70 ≤ j) × (length source / 70 ≤ k)
      pub there : (x : Next) → next ≡ Some x → (j + k < x.j + x.k) × (x.j ≤ length segment / 70) × Settled x.k

    module _ (was : List ℕ) where
      -- the edits that are left
      abbrev pub edits_from : MergeCursor → List Edit
      edits_from at = edits (from was at.i) (news at.j at.k)

      -- where a merge may be: what is left rises
      pub record Good (at : MergeCursor) : Type 0 where
        pub news : pairs rises (items_of (news at.j at.k)) ≡ true
        pub i : at.i ≤ length was / 70
        pub j : at.j ≤ length segment / 70
        pub settled : Settled at.k

      -- what a step asks: an item is left, and the number of edits stays below 2^64
      pub record Ready (at : MergeCursor) : Type 0 where
        pub good : Good at
        pub some : at.i + (at.j + at.k) < length was / 70 + (length segment / 70 + length source / 70)
        pub n : at.n + 1 < 2 ^ 64

      -- a step appends the first edit that is left, and goes on by one item or more
      pub record Stepped (at : MergeCursor) (out : List ℕ) (to : MergeCursor) (out' : List ℕ) : Type 0 where
        pub edit : Edit
        pub first : edits_from at ≡ edit ∷ edits_from to
        pub laid : Laid (edit_bytes c.number) 71 at.n (edit ∷ []) out to.n out'
        pub on : at.i + (at.j + at.k) < to.i + (to.j + to.k)
        pub good : Good to
