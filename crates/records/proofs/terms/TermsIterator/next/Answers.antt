use Rattle.std.proofs.Common.{ap, length, arith}
use Rattle.semantics.specs.declared.refusal.Refusal.TheVariants.{WrongForm}
use Rattle.records.proofs.Leading.{terms-some, terms-none}
use Rattle.records.proofs.terms.TermsIterator.next.Goals as goal

pub returns-in_err-term-clause-steps : goal.returns-in_err-term-clause-steps
returns-in_err-term-clause-steps c =
    let none = terms-none c.args.self.now.rest.now (c.in_err-term.ensures (WrongForm 0)) in
    rw c.from_residual.ensures (none, none)

pub returns-clause-steps : goal.returns-clause-steps
returns-clause-steps c = terms-some c.args.self.now.rest.now _ (c.in_ok-term.ensures (WrongForm 0))

pub returns-clause-goes : goal.returns-clause-goes
returns-clause-goes c =
    let some = terms-some c.args.self.now.rest.now _ (c.in_ok-term.ensures (WrongForm 0)) in
    grind (arith, ap length some)
