-- For the code only: 1 of a list in one test, and the state that the check of a list's order carries from record to record, with its
-- turn.
use Rattle.std.specs.Prelude.{Bool, true, cond, ◌&&◌, ◌||◌, not, List, ℕ, leb, ltb, Option, Some, None}
use Rattle.records.specs.Stages.{unless}
use Rattle.item.specs.Items.{Fields, items, ranged, end}
use Rattle.lists.specs.Lists.{whole_records, few_records, item_sound}
use Rattle.lists.specs.declared.Last.{Last}

-- neither of broken length nor over-long
abbrev pub list_sized : List ℕ → Bool
list_sized list = whole_records list && few_records (items list)

-- before the first record
abbrev pub begin : Last
begin = record { key = None; end = 0 }

-- a key is above the last one, if there was one
abbrev pub is_above : Option ℕ → ℕ → Bool
is_above None key = true
is_above (Some last) key = ltb last key

-- f comes after what was passed: its key is above the last one, its range past the last range's end
abbrev pub follows : Last → Fields → Bool
follows a f = is_above a.key f.key && (not (ranged f) || leb a.end f.key)

abbrev pub turn : ℕ → Last → Fields → ℕ
turn file a f = unless (item_sound file f && follows a f) 2

abbrev pub next : Last → Fields → Last
next a f = record { key = Some f.key; end = cond (ranged f) (end f) a.end }
