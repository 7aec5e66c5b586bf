-- What the code's `Read` says, in the definition's numbers.
use Rattle.std.specs.Prelude.{Bool, true, false, List, ◌≡◌, ℕ, get_or, Option, Some, None}
use Rattle.request.specs.declared.File.{File}
use Rattle.request.specs.declared.Range.{Range}
use Rattle.clone_span.specs.declared.CloneRange.{CloneRange}
use Rattle.read_line.specs.Forms.{kind_number}
use Rattle.read_line.specs.declared.Form.{Form}
use Rattle.read_order.specs.declared.Request.{Request}
use Rattle.read_order.specs.declared.Request.TheVariants.{Punch, Fallocate, Clone, CloneFrom}
use Rattle.read_order.specs.declared.Phase.{Phase}
use Rattle.read_order.specs.declared.Phase.TheVariants as Phases
use Rattle.read_order.specs.declared.Read.{Read}
use Rattle.read_order.specs.Order.{next}
use Rattle.read_order.specs.Taking.{Asked, Numbers, no_request, no_file, taken}

-- a request, and the file that a clone takes from where that is another
abbrev pub asked_in : Request → Asked
asked_in (Punch r) = record { kind = 6; from = r.offset; to = 0; length = r.length; keep = false }
asked_in (Fallocate r keep) = record { kind = 7; from = r.offset; to = 0; length = r.length; keep = keep }
asked_in (Clone s) = record { kind = 8; from = s.from; to = s.to; length = s.length; keep = false }
asked_in (CloneFrom s f) = record { kind = 8; from = s.from; to = s.to; length = s.length; keep = false }

abbrev pub source_in : Request → Option File
source_in (CloneFrom s f) = Some f
source_in r = None

-- a range, and a clone's, by a line's numbers
abbrev pub range_in : List ℕ → Range
range_in v = record { offset = get_or v 0 0; length = get_or v 1 0 }

abbrev pub span_in : List ℕ → CloneRange
span_in v = record { from = get_or v 0 0; to = get_or v 1 0; length = get_or v 2 0 }

-- how far the input has come
abbrev pub phase_number : Phase → ℕ
phase_number Phases.Nothing = 1
phase_number Phases.Volume = 2
phase_number Phases.File = 3
phase_number (Phases.Source f) = 4
phase_number Phases.Extents = 5
phase_number (Phases.SourceExtents f) = 6
phase_number Phases.Places = 7
phase_number (Phases.Request r) = 8

abbrev pub request_in : Phase → Asked
request_in (Phases.Request r) = asked_in r
request_in p = no_request

abbrev pub second_file : Phase → Option File
second_file (Phases.Source f) = Some f
second_file (Phases.SourceExtents f) = Some f
second_file (Phases.Request r) = source_in r
second_file p = None

abbrev pub file_or_none : Option File → File
file_or_none None = no_file
file_or_none (Some f) = f

abbrev pub is_own : Option File → Bool
is_own None = true
is_own (Some f) = false

abbrev pub numbers : Read → Numbers
numbers r =
    record {
      phase = phase_number r.phase;
      line = r.line;
      volume = r.volume;
      file = r.file;
      second = file_or_none (second_file r.phase);
      own = is_own (second_file r.phase);
      items = r.items;
      stored = r.stored;
      rows = r.rows;
      places = r.places;
      asked = request_in r.phase;
    }

-- a line is taken; None: no right input goes on with it
abbrev pub Takes : Read → Form → Option Read → Type 0
Takes r f None = next (phase_number r.phase) (kind_number f.kind) ≡ 0
Takes r f (Some t) = numbers t ≡ taken (numbers r) (kind_number f.kind) f.values
