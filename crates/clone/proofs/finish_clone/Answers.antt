use Rattle.std.proofs.Common.{◌≡◌, Err, sym, rules}
use Rattle.plan_def.specs.Outputs.{outs_in}
use Rattle.clone_lay.specs.Lent.{plan_in}
use Rattle.clone.proofs.Finishing.{finish_refused, finish_planned}
use Rattle.clone.proofs.finish_clone.Goals as goal

pub returns-in_err-room_refusal-clause-met : goal.returns-in_err-room_refusal-clause-met
returns-in_err-room_refusal-clause-met c = let e = c.in_err-room_refusal in let r : c.from_residual.result ≡ Err e.field-0.0 = search rules in rw r (finish_refused c.args.g (outs_in c.args.out.now) _ (e.ensures (plan_in c.args.g) (sym c.count_clone-n.ensures)))

pub returns-clause-met : goal.returns-clause-met
returns-clause-met c = finish_planned c.args.g (outs_in c.args.out.now) _ c.lay.result _ c.count_clone-n.ensures (c.in_ok-room_refusal.ensures (plan_in c.args.g) (sym c.count_clone-n.ensures)) c.lay.ensures.laid
