-- What extplan prints for an answer, line by line (document 01, "extplan").
use Rattle.std.specs.Prelude.{List, [], ◌∷◌, ◌++◌, map, ℕ, ◌*◌, ◌≤◌, length, get_or}
use Rattle.records.specs.Records.{chunks}
use Rattle.request.specs.declared.Numbers.{Numbers}
use Rattle.request.specs.Given.{Answer}
use Rattle.request.specs.Answers.{Outcome, plan, nothing, refused, said}
use Rattle.plan_def.specs.Plans.{Plan}
use Rattle.plan_def.specs.Outputs.{Outs}
use Rattle.plan_def.specs.ReadBack.{edit_in, ref_in, add_in, write_in}
use Rattle.print_line.specs.Lines.{nothing_line, refused_line, plan_line, edit_line, share_line, unref_line, release_line, add_line, write_line}

-- "Puts and deletes come by key, then shares, unrefs, releases, adds, writes"; a plan's edits are by key as they are
unfoldable pub plan_lines : Plan → List (List ℕ)
plan_lines p =
    plan_line p.size p.bytes p.prealloc
    ∷ (map edit_line p.edits
    ++ (map share_line p.shares
    ++ (map unref_line p.unrefs
    ++ (map release_line p.releases
    ++ (map add_line p.adds
    ++ map write_line p.writes)))))

-- "Otherwise `(nothing)` or `(refused N)`."
unfoldable pub printed : Outcome Plan → List (List ℕ)
printed (plan p) = plan_lines p
printed nothing = nothing_line ∷ []
printed (refused n) = refused_line n ∷ []

-- ---- the same from the answer and the outputs

-- the plan that lies in the outputs, with as many lines in each as its numbers say
unfoldable pub plan_in : Numbers → Outs → Plan
plan_in n o =
    record {
      edits = chunks edit_in 71 n.edits o.edits;
      shares = chunks ref_in 2 n.shares o.shares;
      unrefs = chunks ref_in 2 n.unrefs o.unrefs;
      releases = chunks ref_in 2 n.releases o.releases;
      adds = chunks add_in 3 n.adds o.adds;
      writes = chunks write_in 4 n.writes o.writes;
      size = n.size;
      bytes = n.bytes;
      prealloc = n.prealloc;
    }

unfoldable pub read_back : Outcome Numbers → Outs → Outcome Plan
read_back (plan n) o = plan (plan_in n o)
read_back nothing o = nothing
read_back (refused n) o = refused n

abbrev pub shown : Answer → Outs → List (List ℕ)
shown a o = printed (read_back (said a) o)

-- line n, from 0; none if there are not so many
abbrev pub line_at : ℕ → List (List ℕ) → List ℕ
line_at n lines = get_or lines n []

-- the outputs hold the lines that the numbers say
pub record Holds (n : Numbers) (o : Outs) : Type 0 where
  pub edits : n.edits * 71 ≤ length o.edits
  pub shares : n.shares * 2 ≤ length o.shares
  pub unrefs : n.unrefs * 2 ≤ length o.unrefs
  pub releases : n.releases * 2 ≤ length o.releases
  pub adds : n.adds * 3 ≤ length o.adds
  pub writes : n.writes * 4 ≤ length o.writes

-- an answer without a plan asks nothing of them
abbrev pub HoldsAnswer : Outcome Numbers → Outs → Type 0
HoldsAnswer (plan n) o = Holds n o
HoldsAnswer nothing o = Unit {0}
HoldsAnswer (refused n) o = Unit {0}
