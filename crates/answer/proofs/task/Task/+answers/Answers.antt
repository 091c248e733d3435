use Rattle.std.proofs.Common.{refl}
use Rattle.semantics.specs.Queries.{nodes}
use Rattle.answer.proofs.Regions.{outside, both-outside}
use Rattle.answer.proofs.Noting.{table-answers, select-answers, project-answers, product-answers, union-answers, difference-answers}
use Rattle.answer.proofs.task.Task.+answers.Goals as goal

pub low-returns-in_err-operation-clause-found : goal.low-returns-in_err-operation-clause-found
low-returns-in_err-operation-clause-found t c =
    record { each = λ columns q over agrees h. absurd (c.in_err-operation.ensures.reads columns (nodes q) over.planned h) }

pub low-returns-in-Table-clause-found : goal.low-returns-in-Table-clause-found
low-returns-in-Table-clause-found t c =
    table-answers c.requires.lower (rw c.in-Table.is at c.in_ok-operation.ensures.reads) (rw c.from.ensures at c.table.ensures.notes)

pub low-select-requires-clause-outside : goal.low-select-requires-clause-outside
low-select-requires-clause-outside t c =
    let below = rw c.in-Select.is at c.in_ok-operation.ensures.lower in
    outside c.in_ok-from-in-Select.ensures.lies c.in_ok-from-in-Select.ensures.lies.limit_kept below c.requires.lower

pub low-returns-in_ok-from-in-Select-clause-found : goal.low-returns-in_ok-from-in-Select-clause-found
low-returns-in_ok-from-in-Select-clause-found t c =
    let below = rw c.in-Select.is at c.in_ok-operation.ensures.lower in
    select-answers c.requires.lower c.in_ok-from-in-Select.ensures.lies c.in_ok-from-in-Select.ensures.found c.in-Select.condition below (rw c.in-Select.is at c.in_ok-operation.ensures.reads) c.select.ensures.notes

pub low-project-requires-clause-outside : goal.low-project-requires-clause-outside
low-project-requires-clause-outside t c =
    let below = (rw c.in-Project.is at c.in_ok-operation.ensures.lower).0 in
    outside c.in_ok-from-in-Project.ensures.lies c.in_ok-from-in-Project.ensures.lies.limit_kept below c.requires.lower

pub low-returns-in_ok-from-in-Project-clause-found : goal.low-returns-in_ok-from-in-Project-clause-found
low-returns-in_ok-from-in-Project-clause-found t c =
    let below = (rw c.in-Project.is at c.in_ok-operation.ensures.lower).0 in
    project-answers c.requires.lower c.in_ok-from-in-Project.ensures.lies c.in_ok-from-in-Project.ensures.found c.in-Project.columns below (rw c.in-Project.is at c.in_ok-operation.ensures.reads) c.project.ensures.notes

pub low-product-requires-clause-outside : goal.low-product-requires-clause-outside
low-product-requires-clause-outside t c =
    both-outside c.in_ok-left-in-Product.ensures.lies c.in_ok-right-in-Product.ensures.lies (rw c.in-Product.is at c.in_ok-operation.ensures.lower) c.requires.lower

pub low-returns-in_ok-right-in-Product-clause-found : goal.low-returns-in_ok-right-in-Product-clause-found
low-returns-in_ok-right-in-Product-clause-found t c =
    product-answers c.requires.lower c.in_ok-left-in-Product.ensures.lies c.in_ok-left-in-Product.ensures.found c.in_ok-right-in-Product.ensures.lies c.in_ok-right-in-Product.ensures.found (rw c.in-Product.is at c.in_ok-operation.ensures.lower) refl (rw c.in-Product.is at c.in_ok-operation.ensures.reads) c.product.ensures.notes

pub low-union-requires-clause-outside : goal.low-union-requires-clause-outside
low-union-requires-clause-outside t c =
    both-outside c.in_ok-left-in-Union.ensures.lies c.in_ok-right-in-Union.ensures.lies (rw c.in-Union.is at c.in_ok-operation.ensures.lower) c.requires.lower

pub low-returns-in_ok-right-in-Union-clause-found : goal.low-returns-in_ok-right-in-Union-clause-found
low-returns-in_ok-right-in-Union-clause-found t c =
    union-answers c.requires.lower c.in_ok-left-in-Union.ensures.lies c.in_ok-left-in-Union.ensures.found c.in_ok-right-in-Union.ensures.lies c.in_ok-right-in-Union.ensures.found (rw c.in-Union.is at c.in_ok-operation.ensures.lower) refl (rw c.in-Union.is at c.in_ok-operation.ensures.reads) c.union.ensures.notes

pub low-difference-requires-clause-outside : goal.low-difference-requires-clause-outside
low-difference-requires-clause-outside t c =
    both-outside c.in_ok-from-in-Difference.ensures.lies c.in_ok-removed-in-Difference.ensures.lies (rw c.in-Difference.is at c.in_ok-operation.ensures.lower) c.requires.lower

pub low-returns-in_ok-removed-in-Difference-clause-found : goal.low-returns-in_ok-removed-in-Difference-clause-found
low-returns-in_ok-removed-in-Difference-clause-found t c =
    difference-answers c.requires.lower c.in_ok-from-in-Difference.ensures.lies c.in_ok-from-in-Difference.ensures.found c.in_ok-removed-in-Difference.ensures.lies c.in_ok-removed-in-Difference.ensures.found (rw c.in-Difference.is at c.in_ok-operation.ensures.lower) refl (rw c.in-Difference.is at c.in_ok-operation.ensures.reads) c.difference.ensures.notes

pub high-returns-in_err-operation-clause-found : goal.high-returns-in_err-operation-clause-found
high-returns-in_err-operation-clause-found t c =
    record { each = λ columns q over agrees h. absurd (c.in_err-operation.ensures.reads columns (nodes q) over.planned h) }

pub high-returns-in-Table-clause-found : goal.high-returns-in-Table-clause-found
high-returns-in-Table-clause-found t c =
    table-answers c.requires.lower (rw c.in-Table.is at c.in_ok-operation.ensures.reads) (rw c.from.ensures at c.table.ensures.notes)

pub high-select-requires-clause-outside : goal.high-select-requires-clause-outside
high-select-requires-clause-outside t c =
    let below = rw c.in-Select.is at c.in_ok-operation.ensures.lower in
    outside c.in_ok-from-in-Select.ensures.lies c.in_ok-from-in-Select.ensures.lies.limit_kept below c.requires.lower

pub high-returns-in_ok-from-in-Select-clause-found : goal.high-returns-in_ok-from-in-Select-clause-found
high-returns-in_ok-from-in-Select-clause-found t c =
    let below = rw c.in-Select.is at c.in_ok-operation.ensures.lower in
    select-answers c.requires.lower c.in_ok-from-in-Select.ensures.lies c.in_ok-from-in-Select.ensures.found c.in-Select.condition below (rw c.in-Select.is at c.in_ok-operation.ensures.reads) c.select.ensures.notes

pub high-project-requires-clause-outside : goal.high-project-requires-clause-outside
high-project-requires-clause-outside t c =
    let below = (rw c.in-Project.is at c.in_ok-operation.ensures.lower).0 in
    outside c.in_ok-from-in-Project.ensures.lies c.in_ok-from-in-Project.ensures.lies.limit_kept below c.requires.lower

pub high-returns-in_ok-from-in-Project-clause-found : goal.high-returns-in_ok-from-in-Project-clause-found
high-returns-in_ok-from-in-Project-clause-found t c =
    let below = (rw c.in-Project.is at c.in_ok-operation.ensures.lower).0 in
    project-answers c.requires.lower c.in_ok-from-in-Project.ensures.lies c.in_ok-from-in-Project.ensures.found c.in-Project.columns below (rw c.in-Project.is at c.in_ok-operation.ensures.reads) c.project.ensures.notes

pub high-product-requires-clause-outside : goal.high-product-requires-clause-outside
high-product-requires-clause-outside t c =
    both-outside c.in_ok-left-in-Product.ensures.lies c.in_ok-right-in-Product.ensures.lies (rw c.in-Product.is at c.in_ok-operation.ensures.lower) c.requires.lower

pub high-returns-in_ok-right-in-Product-clause-found : goal.high-returns-in_ok-right-in-Product-clause-found
high-returns-in_ok-right-in-Product-clause-found t c =
    product-answers c.requires.lower c.in_ok-left-in-Product.ensures.lies c.in_ok-left-in-Product.ensures.found c.in_ok-right-in-Product.ensures.lies c.in_ok-right-in-Product.ensures.found (rw c.in-Product.is at c.in_ok-operation.ensures.lower) refl (rw c.in-Product.is at c.in_ok-operation.ensures.reads) c.product.ensures.notes

pub high-union-requires-clause-outside : goal.high-union-requires-clause-outside
high-union-requires-clause-outside t c =
    both-outside c.in_ok-left-in-Union.ensures.lies c.in_ok-right-in-Union.ensures.lies (rw c.in-Union.is at c.in_ok-operation.ensures.lower) c.requires.lower

pub high-returns-in_ok-right-in-Union-clause-found : goal.high-returns-in_ok-right-in-Union-clause-found
high-returns-in_ok-right-in-Union-clause-found t c =
    union-answers c.requires.lower c.in_ok-left-in-Union.ensures.lies c.in_ok-left-in-Union.ensures.found c.in_ok-right-in-Union.ensures.lies c.in_ok-right-in-Union.ensures.found (rw c.in-Union.is at c.in_ok-operation.ensures.lower) refl (rw c.in-Union.is at c.in_ok-operation.ensures.reads) c.union.ensures.notes

pub high-difference-requires-clause-outside : goal.high-difference-requires-clause-outside
high-difference-requires-clause-outside t c =
    both-outside c.in_ok-from-in-Difference.ensures.lies c.in_ok-removed-in-Difference.ensures.lies (rw c.in-Difference.is at c.in_ok-operation.ensures.lower) c.requires.lower

pub high-returns-in_ok-removed-in-Difference-clause-found : goal.high-returns-in_ok-removed-in-Difference-clause-found
high-returns-in_ok-removed-in-Difference-clause-found t c =
    difference-answers c.requires.lower c.in_ok-from-in-Difference.ensures.lies c.in_ok-from-in-Difference.ensures.found c.in_ok-removed-in-Difference.ensures.lies c.in_ok-removed-in-Difference.ensures.found (rw c.in-Difference.is at c.in_ok-operation.ensures.lower) refl (rw c.in-Difference.is at c.in_ok-operation.ensures.reads) c.difference.ensures.notes
