-- For the code only: the edits between an old list and the new items, a segment with pieces among it: which new item is the next, and
-- what a step does.
use Rattle.std.specs.Prelude.{◌≡◌, Bool, true, false, Option, Some, None, List, [], ◌∷◌, map, ℕ, ◌+◌, ◌/◌, ◌≤◌, ◌<◌, ◌^◌, ltb, length, drop}
use Rattle.records.specs.Stages.{pairs}
use Rattle.item.specs.Items.{Fields, items}
use Rattle.lists.specs.Lists.{rises}
use Rattle.cut_def.specs.Pieces.{Piece, items_of}
use Rattle.cut_def.specs.Edits.{Edit, edits}
use Rattle.plan_def.specs.Plans.{Add}
use Rattle.plan_def.specs.Outputs.{edit_bytes}
use Rattle.plan_lines.specs.Lines.{Laid}
use Rattle.edit_merge.specs.Merge.{from, together, Heads}
use Rattle.plan_def.specs.ReadBack.{adds_in}
use Rattle.edit_lines.specs.Pieced.{piece_item, piece_items}
use Rattle.edit_merge.specs.declared.Next.{Next}
use Rattle.edit_merge.specs.declared.MergeCursor.{MergeCursor}

-- the next piece comes before all items that are left
abbrev pub piece_first : List Fields → List Add → Bool
piece_first gs [] = false
piece_first [] (a ∷ adds) = true
piece_first (g ∷ gs) (a ∷ adds) = ltb a.key g.key

module _ (file generation : ℕ) where
  module _ (segment pieces : List ℕ) where
    -- the new items that are left from item j of the segment and piece k on
    abbrev pub news : (j k : ℕ) → List Piece
    news j k = together (map (piece_item file generation) (drop k (adds_in pieces))) (from segment j)

    -- the first of them and what is left behind it, or that none is left
    pub record IsNext (j k : ℕ) (next : Option Next) : Type 0 where
      pub heads : Heads news j k next
      pub none : next ≡ None → (length segment / 70 ≤ j) × (length pieces / 3 ≤ k)
      pub there : (x : Next) → next ≡ Some x → (j + k < x.j + x.k) × (x.j ≤ length segment / 70) × (x.k ≤ length pieces / 3)

    module _ (was : List ℕ) where
      -- the edits that are left
      abbrev pub edits_from : MergeCursor → List Edit
      edits_from at = edits (from was at.i) (news at.j at.k)

      -- what a step asks: the lists rise, there is an item left, and the number of edits stays below 2^64
      pub record Ready (at : MergeCursor) : Type 0 where
        pub olds : pairs rises (items was) ≡ true
        pub adds : pairs rises (piece_items file generation pieces) ≡ true
        pub news : pairs rises (items_of (news at.j at.k)) ≡ true
        pub some : at.i + (at.j + at.k) < length was / 70 + (length segment / 70 + length pieces / 3)
        pub i : at.i ≤ length was / 70
        pub j : at.j ≤ length segment / 70
        pub k : at.k ≤ length pieces / 3
        pub n : at.n + 1 < 2 ^ 64

      -- a step appends the first edit that is left, and goes on by one item or two
      pub record Stepped (at : MergeCursor) (out : List ℕ) (to : MergeCursor) (out' : List ℕ) : Type 0 where
        pub edit : Edit
        pub first : edits_from at ≡ edit ∷ edits_from to
        pub news : pairs rises (items_of (news to.j to.k)) ≡ true
        pub laid : Laid (edit_bytes file) 71 at.n (edit ∷ []) out to.n out'
        pub on : at.i + (at.j + at.k) < to.i + (to.j + to.k)
        pub i : to.i ≤ length was / 70
        pub j : to.j ≤ length segment / 70
        pub k : to.k ≤ length pieces / 3
