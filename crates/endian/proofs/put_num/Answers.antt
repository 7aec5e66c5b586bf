use Rattle.std.proofs.Common.{◌≡◌, length, ◌∙◌, arith, length-take, length-drop}
use Rattle.endian.specs.Le.{enc}
use Rattle.endian.proofs.Numbers.{length-enc}
use Rattle.endian.proofs.Puts.{put_part, enc_all, enc-turn, enc-none}
use Rattle.endian.proofs.put_num.Goals as goal

pub loop-byte-init : goal.loop-byte-init
loop-byte-init c = enc_all _ _ _ (simp (length-take, length-drop) (omega arith))

pub loop-byte-preserved : goal.loop-byte-preserved
loop-byte-preserved c = let l = c.loop-byte in
    let w : length l.byte-items ≡ c.args.w = omega (arith, simp (length-take, length-drop) at l.auto.byte-items) in
    enc-turn _ l.byte-index l.rest l.byte-items (omega arith) w ∙ l.invariant

pub returns : goal.returns
returns c = let a = c.args in
    let l = c.loop-byte in
    let w : length l.byte-items ≡ a.w = omega (arith, simp (length-take, length-drop) at l.auto.byte-items) in
    let e : l.byte-items ≡ enc a.w a.v = enc-none a.w l.byte-index l.rest l.byte-items (omega arith) ∙ l.invariant in
    rw e (put_part (enc a.w a.v) a.at _ a.out.now (omega (arith, length-enc a.w a.v)))
