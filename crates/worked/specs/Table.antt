-- The worked examples P1 to P12 of document 01, as one table: each request with its whole answer. Where the paper leaves
-- numbers open they are ours: the places 4194304 and up, and where P10 clones to.
use Rattle.std.specs.Prelude.{Bool, true, false, List, [], ◌∷◌, ℕ, ◌-◌, ◌^◌}
use Rattle.item.specs.Items.{reference}
use Rattle.request.specs.Answers.{Outcome, plan, nothing, refused}
use Rattle.cut_def.specs.Refs.{Ref}
use Rattle.cut_def.specs.Edits.{Edit, put, delete}
use Rattle.plan_def.specs.Plans.{Plan, Add, Write}
use Rattle.change_def.specs.Preallocs.{Stretch, piece_limit, prealloc_pieces}
use Rattle.worked.specs.Ground.{item, punched, allocated, cloned}

-- what an example speaks of: a request's answer, the pieces of a hole, or a number
pub data Told : Type 0 where
  answer : Outcome Plan → Told
  pieces : List Stretch → Told
  number : ℕ → Told

abbrev ref : ℕ → ℕ → Ref
ref start offset = record { start = start; offset = offset }

abbrev span : ℕ → ℕ → Stretch
span start length = record { start = start; length = length }

-- what is asked, and what the paper says
pub record Example : Type 0 where
  pub asked : Told
  pub due : Told

abbrev is : Told → Told → Example
is asked due = record { asked = asked; due = due }

abbrev planned : (edits : List Edit) (shares releases : List Ref) (adds : List Add) (writes : List Write) (size bytes : ℕ) (prealloc : Bool) → Told
planned edits shares releases adds writes size bytes prealloc =
    answer (plan (record { edits = edits; shares = shares; unrefs = []; releases = releases; adds = adds; writes = writes; size = size; bytes = bytes; prealloc = prealloc }))

unfoldable pub table : List Example
table =
    -- P1: a punch in the middle
    is (answer (punched 1 4096 4096 []))
    (planned (put (item 0 0 0 1 1048576 16384 0 4096) ∷ put (item 8192 0 0 1 1048576 16384 8192 8192) ∷ []) (ref 1048576 0 ∷ []) [] [] [] 16384 12288 false)
    -- P2: "punch 0, 16384: delete, release, bytes 0"
    ∷ is (answer (punched 1 0 16384 [])) (planned (delete 0 ∷ []) [] (ref 1048576 0 ∷ []) [] [] 16384 0 false)
    -- P3: "punch 100, 50, one place: key 0 new, key 4096 position 4096, bytes 16384"
    ∷ is (answer (punched 1 100 50 (4194304 ∷ [])))
    (planned (put (item 0 8 4096 1 4194304 4096 0 4096) ∷ put (item 4096 0 0 1 1048576 16384 4096 12288) ∷ []) [] []
    (record { start = 4194304; length = 4096; key = 0 } ∷ []) (record { key = 0; at = 4194304; first = 100; end = 150 } ∷ []) 16384 16384 false)
    -- P4: "punch 16384, 4096: nothing"
    ∷ is (answer (punched 1 16384 4096 [])) (answer nothing)
    -- P5: "fallocate 16384, 1, one place: one piece of 4096, size 16385"
    ∷ is (answer (allocated 16384 1 (4194304 ∷ [])))
    (planned (put (item 16384 8 4096 2 4194304 4096 0 4096) ∷ []) [] [] (record { start = 4194304; length = 4096; key = 16384 } ∷ []) [] 16385 20480 true)
    -- P6: "fallocate 0, 16384: no edits"
    ∷ is (answer (allocated 0 16384 [])) (planned [] [] [] [] [] 16384 16384 false)
    -- P7: "length 0: 5"
    ∷ is (answer (punched 1 4096 0 [])) (answer (refused 5))
    ∷ is (answer (allocated 4096 0 [])) (answer (refused 5))
    -- P8: "offset 2^63 − 2: length 1 passes 6, length 2 does not"
    ∷ is (answer (punched 1 (2 ^ 63 - 2) 1 [])) (answer nothing)
    ∷ is (answer (punched 1 (2 ^ 63 - 2) 2 [])) (answer (refused 6))
    ∷ is (answer (allocated (2 ^ 63 - 2) 1 (4194304 ∷ [])))
    (planned (put (item (2 ^ 63 - 4096) 8 4096 2 4194304 4096 0 4096) ∷ []) [] [] (record { start = 4194304; length = 4096; key = 2 ^ 63 - 4096 } ∷ []) [] (2 ^ 63 - 1) 20480 true)
    ∷ is (answer (allocated (2 ^ 63 - 2) 2 (4194304 ∷ []))) (answer (refused 6))
    -- P9: "a hole of 268435457: pieces 268435456 and 1"
    ∷ is (pieces (prealloc_pieces piece_limit (span 0 268435457))) (pieces (span 0 268435456 ∷ span 268435456 1 ∷ []))
    -- P10: "clone from 16384, length 0: nothing; with size 100, from 100: 21"
    ∷ is (answer (cloned 16384 16384 32768 0)) (answer nothing)
    ∷ is (answer (cloned 100 100 32768 0)) (answer (refused 21))
    -- P11: "key 0, position 4096: reference offset 18446744073709547520"
    ∷ is (number (reference (item 0 0 0 1 1048576 16384 4096 4096))) (number 18446744073709547520)
    -- P12: "P3 on a preallocated item: no place, write at 1048576, share at reference 0"
    ∷ is (answer (punched 2 100 50 []))
    (planned (put (item 0 8 0 1 1048576 16384 0 4096) ∷ put (item 4096 0 0 2 1048576 16384 4096 12288) ∷ []) (ref 1048576 0 ∷ []) [] []
    (record { key = 0; at = 1048576; first = 100; end = 150 } ∷ []) 16384 16384 false)
    ∷ []
