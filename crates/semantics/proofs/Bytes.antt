-- Numbers and records come back from their bytes, and the bytes from them.
use Rattle.std.proofs.Common.{◌≡◌, ℕ, ◌+◌, ◌*◌, ◌/◌, ◌%◌, ◌<◌, ◌≤◌, true, leb, List, [], ◌∷◌, ◌++◌, length, take, drop, Some, None, sym, refl, ap, ◌∙◌, subst, ⊎_elim, arith}
use Rattle.std.proofs.lemmas.List.{length-append, length-take-le, take_at, drop_at, take-append-drop}
use Rattle.std.proofs.lemmas.Bool.{and_parts, le-leb, leb-true, ltb-true}
use Rattle.semantics.specs.Bytes.{is_byte, two_bytes, from_two, four_bytes, from_four, record_bytes, First, cut, first_record}
use Rattle.semantics.specs.Lists.{every}
use Rattle.semantics.proofs.Outcomes.{cond_ways}
use Rattle.semantics.proofs.Pieces.{every_take, every_drop}

pub two_back : (n : ℕ) → from_two (n % 256) (n / 256) ≡ n
two_back n = omega arith

pub four-back : (n : ℕ) → from_two (n % 65536 % 256) (n % 65536 / 256) + 65536 * from_two (n / 65536 % 256) (n / 65536 / 256) ≡ n
four-back n = omega arith

low : (a b : ℕ) → a < 256 → (a + 256 * b) % 256 ≡ a
low a b h = omega arith

high : (a b : ℕ) → a < 256 → (a + 256 * b) / 256 ≡ b
high a b h = omega arith

pub two-again : (a b : ℕ) → a < 256 → two_bytes (from_two a b) ≡ a ∷ b ∷ []
two-again a b h = rw (low a b h, high a b h)

pub four-again : (a b c d : ℕ) → a < 256 → b < 256 → c < 256 → four_bytes (from_four a b c d) ≡ a ∷ b ∷ c ∷ d ∷ []
four-again a b c d h i j =
    let x : from_four a b c d % 65536 ≡ from_two a b = omega arith in
    let y : from_four a b c d / 65536 ≡ from_two c d = omega arith in
    rw (x, y) (ap (λ l. l ++ two_bytes (from_two c d)) (two-again a b h) ∙ ap (λ l. a ∷ b ∷ l) (two-again c d j))

-- the first of records is cut out
pub first_of : (kind : ℕ) (body rest : List ℕ) → first_record (record_bytes kind body ++ rest) ≡ Some (record { kind = kind; body = body; rest = rest })
first_of kind body rest =
    let s : from_two (length body % 256) (length body / 256) ≡ length body = two_back (length body) in
    let k : from_two (kind % 256) (kind / 256) ≡ kind = two_back kind in
    let l : length body ≤ length (body ++ rest) = rw (length-append body rest) (omega arith) in
    let t : leb (length body) (length (body ++ rest)) ≡ true = le-leb _ _ l in
    rw (s, k, t, take_at body rest (length body) refl, drop_at body rest (length body) refl)

-- what is cut out is a record
pub record FirstOf (bytes : List ℕ) (first : First) : Type 0 where
  pub whole : bytes ≡ record_bytes first.kind first.body ++ first.rest
  pub body_bytes : every is_byte first.body ≡ true
  pub rest-bytes : every is_byte first.rest ≡ true

cut-back : (a b c d : ℕ) (bytes : List ℕ) (first : First) → a < 256 → c < 256 → every is_byte bytes ≡ true → cut (from_two a b) (from_two c d) bytes ≡ Some first → FirstOf (a ∷ b ∷ c ∷ d ∷ bytes) first
cut-back a b c d bytes first ha hc all e =
    let n : ℕ = from_two a b in
    let k : ℕ = from_two c d in
    ⊎_elim
    (λ (h : (leb n (length bytes) ≡ true) × (Some (record { kind = k; body = take n bytes; rest = drop n bytes }) ≡ Some first)).
    let same : record { kind = k; body = take n bytes; rest = drop n bytes } ≡ first = cc in
    let size : length (take n bytes) ≡ n = length-take-le n bytes (leb-true n (length bytes) h.0) in
    let u : two_bytes (length (take n bytes)) ≡ a ∷ b ∷ [] = ap two_bytes size ∙ two-again a b ha in
    let v : two_bytes k ≡ c ∷ d ∷ [] = two-again c d hc in
    let w : take n bytes ++ drop n bytes ≡ bytes = take-append-drop n bytes in
    subst (λ (f : First). FirstOf (a ∷ b ∷ c ∷ d ∷ bytes) f) same
    (record {
      whole = sym (ap (λ l. (l ++ two_bytes k ++ take n bytes) ++ drop n bytes) u ∙ ap (λ l. a ∷ b ∷ ((l ++ take n bytes) ++ drop n bytes)) v ∙ ap (λ l. a ∷ b ∷ c ∷ d ∷ l) w);
      body_bytes = every_take is_byte n bytes all;
      rest-bytes = every_drop is_byte n bytes all;
    }))
    (λ (h : None ≡ Some first). let z : ◌≡◌ {A = ℕ} 0 1 = cc in absurd (omega arith))
    (cond_ways (leb n (length bytes)) (Some (record { kind = k; body = take n bytes; rest = drop n bytes })) None (Some first) e)

pub first_back : (bytes : List ℕ) (first : First) → every is_byte bytes ≡ true → first_record bytes ≡ Some first → FirstOf bytes first
first_back [] first all e = let z : ◌≡◌ {A = ℕ} 0 1 = cc in absurd (omega arith)
first_back (a ∷ []) first all e = let z : ◌≡◌ {A = ℕ} 0 1 = cc in absurd (omega arith)
first_back (a ∷ (b ∷ [])) first all e = let z : ◌≡◌ {A = ℕ} 0 1 = cc in absurd (omega arith)
first_back (a ∷ (b ∷ (c ∷ []))) first all e = let z : ◌≡◌ {A = ℕ} 0 1 = cc in absurd (omega arith)
first_back (a ∷ (b ∷ (c ∷ (d ∷ bytes)))) first all e =
    let h = and_parts (is_byte a) (every is_byte (b ∷ (c ∷ (d ∷ bytes)))) all in
    let i = and_parts (is_byte b) (every is_byte (c ∷ (d ∷ bytes))) h.1 in
    let j = and_parts (is_byte c) (every is_byte (d ∷ bytes)) i.1 in
    let k = and_parts (is_byte d) (every is_byte bytes) j.1 in
    cut-back a b c d bytes first (ltb-true a 256 h.0) (ltb-true c 256 j.0) k.1 e
