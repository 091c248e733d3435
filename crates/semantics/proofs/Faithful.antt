-- A lawful valuation is a faithful change of a view's cells.
use Rattle.std.proofs.Common.{◌≡◌, List, refl, inr}
use Rattle.semantics.specs.declared.kind.Column.{Column}
use Rattle.semantics.specs.Faithful.{Faithful}
use Rattle.semantics.specs.Valuations.{Valuation, LawfulFor, valued}
use Rattle.semantics.specs.Values.{Value}
use Rattle.semantics.specs.Views.{Masked, value}

value-part : {v w : Value} → value v ≡ value w → v ≡ w
value-part e = cc

pub lawful-faithful : (columns : List (List Column)) (tables : List (List (List Masked))) (x : Valuation) → LawfulFor columns tables x → Faithful tables (λ a. value (valued x a))
lawful-faithful columns tables x law = record {
  values_stay = λ v. refl;
  apart = λ d n k s t e. law.apart d n k s t (value-part e);
  together = λ d. inr (λ n s. (x.pseudonyms d n, refl));
}
