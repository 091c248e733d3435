use Rattle.std.proofs.Common.{length}
use Rattle.semantics.specs.Views.{view}
use Rattle.laws.proofs.Promises.{laws_hold}
use Rattle.book.specs.Books.{book_model}
use Rattle.lookup.proofs.Asked.{goes_on}
use Rattle.lookup.proofs.asking.ask.Goals as goal

pub returns-in-Ok-clause-replies : goal.returns-in-Ok-clause-replies
returns-in-Ok-clause-replies g c =
    goes_on (book_model c.args.book.now).columns c.draw.new.view (view (g.P.Policy.meaning c.args.policy.now) c.args.broker (book_model c.args.book.now)) c.args.query.now c.in-Ok.plan
    c.draw.ensures.seen c.draw.ensures.wide c.type_inv.query c.check.ensures.exact c.in-Ok.ensures.plan
    (length c.args.work.now) c.args.reply.now c.answer.new.reply c.answer.result c.answer.ensures.replies

pub returns-in-Ok-clause-keeps_the_laws : goal.returns-in-Ok-clause-keeps_the_laws
returns-in-Ok-clause-keeps_the_laws g c = laws_hold (g.P.Policy.meaning c.args.policy.now)

pub returns-in-Err-clause-keeps_the_laws : goal.returns-in-Err-clause-keeps_the_laws
returns-in-Err-clause-keeps_the_laws g c = laws_hold (g.P.Policy.meaning c.args.policy.now)
