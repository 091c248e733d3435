-- The laws of answers, from what holds of low and high under every faithful change.
use Rattle.std.proofs.Common.{◌≡◌, List, map, sym, ap, subst}
use mathlib.Core.List.{Memᴰ}
use Rattle.semantics.specs.Answers.{low, high, certain, possible, unmasked, overflow}
use Rattle.semantics.specs.Faithful.{changed}
use Rattle.semantics.specs.Queries.{Tree}
use Rattle.semantics.specs.Valuations.{Valuation, valued}
use Rattle.semantics.specs.Values.{Value}
use Rattle.semantics.specs.Views.{Masked, value, marks, view}
use Rattle.semantics.specs.Wider.{translated}
use Rattle.semantics.proofs.Compatible.{IsValue, is-value, compatible-values}
use Rattle.semantics.proofs.Exact.{exact}
use Rattle.semantics.proofs.Faithful.{lawful-faithful}
use Rattle.semantics.proofs.LowHigh.{low-high, certain_or_possible}
use Rattle.semantics.proofs.Member.{mem_map_back}
use Rattle.semantics.proofs.Refinement.{low-changed, high-changed}
use Rattle.laws.specs.Answers.{LowRowsAreHighRows, OfValues, ValuesGiveOneAnswer, Sharpened, FaithfulChangesSharpen, AnswersBoundTheUnmasked, WiderPoliciesSharpen, IndistinguishableBooksGiveSameAnswers}
use Rattle.laws.specs.Valuations.{LawfulValuationsAreFaithful}
use Rattle.laws.proofs.EqualViews.{indistinguishable_equal}
use Rattle.laws.proofs.Translation.{translation_gives}

pub low_rows_high : LowRowsAreHighRows
low_rows_high tables q row m = low-high tables q m

-- values alone
all-values : (row : List Value) (a : Masked) → Memᴰ a (map value row) → IsValue a
all-values row a m = let h = mem_map_back value row m in subst IsValue (sym h.2) is-value

one_answer_lem : (tables : List (List (List Masked))) → OfValues tables → (q : Tree) → low tables q ≡ high tables q
one_answer_lem tables all q = exact tables (λ a s. subst IsValue (sym (all a s).1) is-value) q

pub values_one : ValuesGiveOneAnswer
values_one = record {
  compatible_rows = λ r s. compatible-values (map value r) (map value s) (all-values r) (all-values s);
  one_answer = one_answer_lem;
}

pub faithful_sharpens : FaithfulChangesSharpen
faithful_sharpens tables change faithful q = record {
  low_rows = λ row m. low-changed tables change faithful q m;
  high_rows = λ row m. high-changed tables change faithful q m;
}

pub lawful_faithful : LawfulValuationsAreFaithful
lawful_faithful = lawful-faithful

-- a view with its values in place has values alone
unmasked-values : (tables : List (List (List Masked))) (x : Valuation) → OfValues (changed (unmasked x) tables)
unmasked-values tables x a s =
    let rows = mem_map_back (map (map (unmasked x))) tables s.in_tables in
    let row = mem_map_back (map (unmasked x)) rows.0 (subst (Memᴰ s.cells) rows.2 s.in_rows) in
    let cell = mem_map_back (unmasked x) row.0 (subst (Memᴰ a) row.2 s.in_cells) in
    (valued x cell.0, cell.2)

pub answers_bound : AnswersBoundTheUnmasked
answers_bound columns tables x law q =
    let faithful = lawful-faithful columns tables x law in
    let one = one_answer_lem (changed (unmasked x) tables) (unmasked-values tables x) q in
    record {
      certain_rows = λ row m. low-changed tables (unmasked x) faithful q m;
      all_rows = λ row m.
          let h = high-changed tables (unmasked x) faithful q (subst (Memᴰ row) one m) in
          (h.0, certain_or_possible tables q h.0 h.1, h.2);
      one_answer = one;
    }

pub wider_sharpens_lem : WiderPoliciesSharpen
wider_sharpens_lem narrow wide broker m wider q =
    let change = translated (marks narrow broker m) (marks wide broker m) m in
    let t = translation_gives narrow wide broker m wider in
    subst (λ after. Sharpened (view narrow broker m) after change q) t.wider_view (faithful_sharpens (view narrow broker m) change t.faithful q)

pub same_answers : IndistinguishableBooksGiveSameAnswers
same_answers meaning broker a b alike q =
    let e = indistinguishable_equal meaning broker a b alike in
    record {
      same_certain = ap (λ tables. certain tables q) e;
      same_possible = ap (λ tables. possible tables q) e;
      same_overflow = λ limit. ap (λ tables. overflow limit tables q) e;
    }
