use Rattle.std.proofs.Common.{◌≡◌, Err, refl, ap, sym, ◌∙◌, rules, arith}
use Rattle.clone_items.specs.declared.Copying.{Copying}
use Rattle.clone.proofs.Passing.{copies-same, source-sound, destination-ends, placed}
use Rattle.clone.proofs.asked.Asked.ground.Goals as goal

pub copies_refusal-requires : goal.copies_refusal-requires
copies_refusal-requires c = source-sound c.args.self c.requires.lent

pub returns-in_err-copies_refusal : goal.returns-in_err-copies_refusal
returns-in_err-copies_refusal c = let e = c.in_err-copies_refusal in let r : c.from_residual.result ≡ Err e.field-0.0 = search rules in rw r (e.ensures ∙ copies-same c.args.self c.args.p c.requires)

pub overflow_add-s : goal.overflow_add-s
overflow_add-s c = omega (arith, destination-ends c.args.self c.requires.lent c.requires.passes)

pub invariant_of-result : goal.invariant_of-result
invariant_of-result c = let a = c.args.self in let q = c.requires in record { sound = rw q.range (placed a q.some q.lent q.passes (sym (copies-same a c.args.p q) ∙ sym c.in_ok-copies_refusal.ensures)).1 }

pub invariant_of-result-2 : goal.invariant_of-result-2
invariant_of-result-2 c = let a = c.args.self in let q = c.requires in record { placing = rw (q.range, q.list) (placed a q.some q.lent q.passes (sym (copies-same a c.args.p q) ∙ sym c.in_ok-copies_refusal.ensures)).0 }

pub returns : goal.returns
returns c = let a = c.args.self in let q = c.requires in record {
  passes = sym (copies-same a c.args.p q) ∙ sym c.in_ok-copies_refusal.ensures;
  number = ap (λ (k : Copying). k.number) q.range;
  plan = rw (q.range, q.list, q.shared, q.table, c.max.ensures) refl;
}
