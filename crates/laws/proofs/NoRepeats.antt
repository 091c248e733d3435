-- Answers of well-formed queries have no repeats.
use Rattle.std.proofs.Common.{◌≡◌, ◌<◌, ◌≤◌, ◌⊎◌, [], length, sym, ap, ◌∙◌, subst, inl, inr}
use mathlib.Core.List.{Memᴰ}
use Rattle.std.proofs.lemmas.List.{length-map, get_or_past}
use Rattle.std.proofs.lemmas.Bool.{cases_lt}
use Rattle.semantics.specs.declared.mark.Mark.{Mark}
use Rattle.semantics.specs.Answers.{low, high, possible}
use Rattle.semantics.specs.Books.{Model, columns_of}
use Rattle.semantics.specs.Orderly.{Orderly}
use Rattle.semantics.specs.Valuations.{masked_kind}
use Rattle.semantics.specs.Views.{Place, drawn}
use Rattle.semantics.proofs.Repeats.{distinct_same, low_distinct, high_distinct, possible_distinct, low-shorter}
use Rattle.laws.specs.Repeats.{RowsFit, AnswersHaveNoRepeats}
use Rattle.laws.proofs.SeenKinds.{views_keep_kinds_lem}

views-fit : (m : Model) → Orderly m → (mark : Place → Mark) → RowsFit m.columns (drawn mark m)
views-fit m good mark t row k = go (cases_lt t 4)
  where
    go : (t < 4) ⊎ (4 ≤ t) → length row ≡ length (columns_of m t)
    go (inl h) =
        sym (length-map row (masked_kind m.columns))
        ∙ ap length (views_keep_kinds_lem m good mark t h row k)
        ∙ length-map (columns_of m t) (λ c. c.kind)
    go (inr h) =
        let none : Memᴰ row [] = subst (Memᴰ row) (get_or_past (drawn mark m) t [] h) k in
        elim none [ ]

pub no_repeats : AnswersHaveNoRepeats
no_repeats = record {
  answers = λ columns tables fit q w. record {
    low_rows = distinct_same (low tables q) (low_distinct columns tables fit q w);
    high_rows = distinct_same (high tables q) (high_distinct columns tables fit q w);
    possible_rows = distinct_same (possible tables q) (possible_distinct columns tables fit q w);
    counts = low-shorter columns tables fit q w;
  };
  views = views-fit;
}
