use Rattle.std.proofs.Common.{◌≡◌, ⊎_elim}
use Rattle.book.specs.Books.{book_model}
use Rattle.records.specs.declared.record.Record.TheVariants.{Table, Select, Project, Product, Union, Difference}
use Rattle.query.specs.Plans.{record_count}
use Rattle.query.proofs.Checking.{by_case}
use Rattle.query.proofs.plan.Plan.grow.Goals as goal

pub returns-in-Table : goal.returns-in-Table
returns-in-Table c says h bytes stack plans =
    let columns = (book_model c.args.book.now).columns in
    by_case columns (record_count c.args.self.now) stack c.args.said says c.table.result h (Table c.in-Table.number) c.in-Table.is (λ s k. rw k (c.table.ensures bytes stack plans))

pub returns-in-Select : goal.returns-in-Select
returns-in-Select c says h bytes stack plans =
    let columns = (book_model c.args.book.now).columns in
    by_case columns (record_count c.args.self.now) stack c.args.said says c.select.result h (Select c.in-Select.body) c.in-Select.is (λ s k. rw k.2 (c.select.ensures columns k.0 k.1 bytes stack plans))

pub returns-in-Project : goal.returns-in-Project
returns-in-Project c says h bytes stack plans =
    let columns = (book_model c.args.book.now).columns in
    by_case columns (record_count c.args.self.now) stack c.args.said says c.project.result h (Project c.in-Project.listed) c.in-Project.is (λ s k. rw k.0 (c.project.ensures columns bytes stack plans))

pub returns-in-Product : goal.returns-in-Product
returns-in-Product c says h bytes stack plans =
    let columns = (book_model c.args.book.now).columns in
    by_case columns (record_count c.args.self.now) stack c.args.said says c.product.result h Product c.in-Product.is (λ s k. rw k (c.product.ensures columns bytes stack plans))

pub returns-in-Union : goal.returns-in-Union
returns-in-Union c says h bytes stack plans =
    let columns = (book_model c.args.book.now).columns in
    ⊎_elim
    (λ (is : c.args.said ≡ Union).
    by_case columns (record_count c.args.self.now) stack c.args.said says c.merge.result h Union is (λ s k. rw k (c.merge.ensures.union columns bytes stack plans)))
    (λ (is : c.args.said ≡ Difference).
    by_case columns (record_count c.args.self.now) stack c.args.said says c.merge.result h Difference is (λ s k. rw k (c.merge.ensures.difference columns bytes stack plans)))
    c.in-Union.is
