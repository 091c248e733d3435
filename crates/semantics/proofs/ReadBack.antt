-- Replies come back from their bytes.
use Rattle.std.proofs.Common.{◌≡◌, ℕ, ◌/◌, ◌%◌, List, [], ◌∷◌, ◌++◌, length, take, drop, sym, refl, ap, ◌∙◌, arith}
use Rattle.std.specs.List.{flat_map}
use Rattle.std.proofs.lemmas.List.{take_at, drop_at, append_assoc}
use Rattle.semantics.specs.Bytes.{two_bytes, record_bytes}
use Rattle.semantics.specs.Replies.{value_bytes, cell_bytes, row_bytes, reply_bytes}
use Rattle.semantics.specs.Values.{Value, number, prefix}
use Rattle.semantics.specs.Views.{Masked, value, variable, pseudonym}

-- beginnings of one length are the same, and so are the rests
same-beginning : (xs ys r s : List ℕ) → length xs ≡ length ys → xs ++ r ≡ ys ++ s → (xs ≡ ys) × (r ≡ s)
same-beginning xs ys r s h e = (
  sym (take_at xs r (length ys) h) ∙ ap (take (length ys)) e ∙ take_at ys s (length ys) refl,
  sym (drop_at xs r (length ys) h) ∙ ap (drop (length ys)) e ∙ drop_at ys s (length ys) refl,
)

two-same : (m n : ℕ) → m % 256 ≡ n % 256 → m / 256 ≡ n / 256 → m ≡ n
two-same m n h i = omega arith

four_same : (m n : ℕ) → m % 65536 % 256 ≡ n % 65536 % 256 → m % 65536 / 256 ≡ n % 65536 / 256
    → m / 65536 % 256 ≡ n / 65536 % 256 → m / 65536 / 256 ≡ n / 65536 / 256 → m ≡ n
four_same m n h i j k = omega arith

-- the first cell of some bytes, and the bytes after it
pub value-back : (a b : Value) (r s : List ℕ) → value_bytes a ++ r ≡ value_bytes b ++ s → (a ≡ b) × (r ≡ s)
value-back (number m) (number n) r s e =
    let h : m % 65536 % 256 ≡ n % 65536 % 256 = cc in
    let i : m % 65536 / 256 ≡ n % 65536 / 256 = cc in
    let j : m / 65536 % 256 ≡ n / 65536 % 256 = cc in
    let k : m / 65536 / 256 ≡ n / 65536 / 256 = cc in
    let rest : r ≡ s = cc in
    (ap number (four_same m n h i j k), rest)
value-back (number m) (prefix es) r s e = let z : ◌≡◌ {A = ℕ} 1 2 = cc in absurd (omega arith)
value-back (prefix ds) (number n) r s e = let z : ◌≡◌ {A = ℕ} 2 1 = cc in absurd (omega arith)
value-back (prefix ds) (prefix es) r s e =
    let h : length ds ≡ length es = cc in
    let i : ds ++ r ≡ es ++ s = cc in
    let j = same-beginning ds es r s h i in
    (ap prefix j.0, j.1)

pub cell-back : (a b : Masked) (r s : List ℕ) → cell_bytes a ++ r ≡ cell_bytes b ++ s → (a ≡ b) × (r ≡ s)
cell-back (value v) (value w) r s e = let h = value-back v w r s e in (ap value h.0, h.1)
cell-back (value (number n)) (variable t i c) r s e = let z : ◌≡◌ {A = ℕ} 1 3 = cc in absurd (omega arith)
cell-back (value (prefix ds)) (variable t i c) r s e = let z : ◌≡◌ {A = ℕ} 2 3 = cc in absurd (omega arith)
cell-back (value (number m)) (pseudonym d n) r s e = let z : ◌≡◌ {A = ℕ} 1 4 = cc in absurd (omega arith)
cell-back (value (prefix ds)) (pseudonym d n) r s e = let z : ◌≡◌ {A = ℕ} 2 4 = cc in absurd (omega arith)
cell-back (variable t i c) (value (number n)) r s e = let z : ◌≡◌ {A = ℕ} 3 1 = cc in absurd (omega arith)
cell-back (variable t i c) (value (prefix ds)) r s e = let z : ◌≡◌ {A = ℕ} 3 2 = cc in absurd (omega arith)
cell-back (variable t i c) (variable u j d) r s e =
    let same : variable t i c ≡ variable u j d = cc in
    let rest : r ≡ s = cc in
    (same, rest)
cell-back (variable t i c) (pseudonym d n) r s e = let z : ◌≡◌ {A = ℕ} 3 4 = cc in absurd (omega arith)
cell-back (pseudonym d n) (value (number m)) r s e = let z : ◌≡◌ {A = ℕ} 4 1 = cc in absurd (omega arith)
cell-back (pseudonym d n) (value (prefix ds)) r s e = let z : ◌≡◌ {A = ℕ} 4 2 = cc in absurd (omega arith)
cell-back (pseudonym d n) (variable t i c) r s e = let z : ◌≡◌ {A = ℕ} 4 3 = cc in absurd (omega arith)
cell-back (pseudonym d m) (pseudonym f n) r s e =
    let domain : d ≡ f = cc in
    let h : m % 256 ≡ n % 256 = cc in
    let i : m / 256 ≡ n / 256 = cc in
    let index : m ≡ n = two-same m n h i in
    let same : pseudonym d m ≡ pseudonym f n = cc in
    let rest : r ≡ s = cc in
    (same, rest)

cell-some : (a : Masked) (r : List ℕ) → cell_bytes a ++ r ≡ [] → ⊥
cell-some (value (number n)) r e = let z : ◌≡◌ {A = ℕ} 0 1 = cc in omega arith
cell-some (value (prefix ds)) r e = let z : ◌≡◌ {A = ℕ} 0 1 = cc in omega arith
cell-some (variable t i c) r e = let z : ◌≡◌ {A = ℕ} 0 1 = cc in omega arith
cell-some (pseudonym d n) r e = let z : ◌≡◌ {A = ℕ} 0 1 = cc in omega arith

-- things whose bytes say where they end, one after another
module _ {X : Type 0} (bytes : X → List ℕ) (back : (x y : X) (r s : List ℕ) → bytes x ++ r ≡ bytes y ++ s → (x ≡ y) × (r ≡ s)) where
  all_back : ((x : X) (r : List ℕ) → bytes x ++ r ≡ [] → ⊥) → (xs ys : List X) → flat_map bytes xs ≡ flat_map bytes ys → xs ≡ ys
  all_back some [] [] e = refl
  all_back some [] (y ∷ ys) e = absurd (some y (flat_map bytes ys) (sym e))
  all_back some (x ∷ xs) [] e = absurd (some x (flat_map bytes xs) e)
  all_back some (x ∷ xs) (y ∷ ys) e =
      let h = back x y (flat_map bytes xs) (flat_map bytes ys) e in
      let one : x ≡ y = h.0 in
      let more : xs ≡ ys = all_back some xs ys h.1 in
      cc

  counted_back : (xs ys : List X) (r s : List ℕ) → length xs ≡ length ys → flat_map bytes xs ++ r ≡ flat_map bytes ys ++ s → (xs ≡ ys) × (r ≡ s)
  counted_back [] [] r s n e = (refl, e)
  counted_back [] (y ∷ ys) r s n e = absurd (omega arith)
  counted_back (x ∷ xs) [] r s n e = absurd (omega arith)
  counted_back (x ∷ xs) (y ∷ ys) r s n e =
      let h = back x y (flat_map bytes xs ++ r) (flat_map bytes ys ++ s)
      (sym (append_assoc (bytes x) (flat_map bytes xs) r) ∙ e ∙ append_assoc (bytes y) (flat_map bytes ys) s) in
      let i = counted_back xs ys r s (omega arith) h.1 in
      let one : x ≡ y = h.0 in
      let more : xs ≡ ys = i.0 in
      let same : x ∷ xs ≡ y ∷ ys = cc in
      (same, i.1)

-- the first record of some bytes, and the bytes after it
pub record_back : (kind : ℕ) (a b r s : List ℕ) → record_bytes kind a ++ r ≡ record_bytes kind b ++ s → (a ≡ b) × (r ≡ s)
record_back kind a b r s e =
    let h : length a % 256 ≡ length b % 256 = cc in
    let i : length a / 256 ≡ length b / 256 = cc in
    let rest : a ++ r ≡ b ++ s = cc in
    same-beginning a b r s (two-same (length a) (length b) h i) rest

pub row_back : (kind : ℕ) (x y : List Masked) (r s : List ℕ) → row_bytes kind x ++ r ≡ row_bytes kind y ++ s → (x ≡ y) × (r ≡ s)
row_back kind x y r s e =
    let h = record_back kind (flat_map cell_bytes x) (flat_map cell_bytes y) r s e in
    (all_back cell_bytes cell-back cell-some x y h.0, h.1)

row-some : (kind : ℕ) (x : List Masked) (r : List ℕ) → row_bytes kind x ++ r ≡ [] → ⊥
row-some kind x r e = let z : ◌≡◌ {A = ℕ} 0 1 = cc in omega arith

pub reply_back : (c d p q : List (List Masked)) → reply_bytes c p ≡ reply_bytes d q → (c ≡ d) × (p ≡ q)
unfolding reply_bytes
reply_back c d p q e =
    let h = record_back 0x20 (two_bytes (length c) ++ two_bytes (length p)) (two_bytes (length d) ++ two_bytes (length q))
    (flat_map (row_bytes 0x21) c ++ flat_map (row_bytes 0x22) p) (flat_map (row_bytes 0x21) d ++ flat_map (row_bytes 0x22) q) e in
    let counts : two_bytes (length c) ++ two_bytes (length p) ≡ two_bytes (length d) ++ two_bytes (length q) = h.0 in
    let i : length c % 256 ≡ length d % 256 = cc in
    let j : length c / 256 ≡ length d / 256 = cc in
    let k = counted_back (row_bytes 0x21) (row_back 0x21) c d (flat_map (row_bytes 0x22) p) (flat_map (row_bytes 0x22) q)
    (two-same (length c) (length d) i j) h.1 in
    (k.0, all_back (row_bytes 0x22) (row_back 0x22) (row-some 0x22) p q k.1)
