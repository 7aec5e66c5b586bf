use Rattle.std.proofs.Common.{◌≡◌, ◌-◌}
use Rattle.endian.specs.Le.{put, enc}
use Rattle.endian.proofs.put_num.Given as goal

-- the bytes so far with what is left of v over the rest are the bytes of v
abbrev pub invariant-loop-byte : goal.invariant-loop-byte
invariant-loop-byte l = put (enc (l.w - l.byte-index) l.rest) l.byte-index l.byte-items ≡ enc l.w l.v
