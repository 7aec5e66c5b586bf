-- Outputs that suffice for every request of at most 9,362 records and 6,553 places, which is all that 65,536 bytes of text
-- can say: the shortest lines are `(item)` and `(place 0)`, each with its line's end.
use Rattle.std.specs.Prelude.{ℕ, ◌*◌, ◌+◌, ◌≤◌}
use Rattle.plan_def.specs.Outputs.{Rooms}

abbrev pub most_records : ℕ
most_records = 9362

abbrev pub most_places : ℕ
most_places = 6553

-- for so many lines of each: 37,448 edits, 28,088 shares, 18,724 unrefs, 9,362 releases, 6,553 adds, 2 writes
abbrev pub enough : Rooms
enough =
    record {
      edits = 71 * (4 * most_records);
      shares = 2 * (3 * most_records + 2);
      unrefs = 2 * (2 * most_records);
      releases = 2 * most_records;
      adds = 3 * most_places;
      writes = 4 * 2;
    }

-- outputs at least as long
pub record Ample (r : Rooms) : Type 0 where
  pub edits : enough.edits ≤ r.edits
  pub shares : enough.shares ≤ r.shares
  pub unrefs : enough.unrefs ≤ r.unrefs
  pub releases : enough.releases ≤ r.releases
  pub adds : enough.adds ≤ r.adds
  pub writes : enough.writes ≤ r.writes
