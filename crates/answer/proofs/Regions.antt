-- The 30 regions of a workspace do not meet.
use Rattle.std.proofs.Common.{◌≡◌, ℕ, suc, ◌+◌, ◌*◌, ◌<◌, ◌≤◌, length, get_or, Some, None, sym, refl, ap, ◌∙◌, subst, inl, inr, ⊎_elim, mul-le-mul_right, suc-mul, arith}
use Rattle.std.proofs.lemmas.Bool.{cases_lt}
use Rattle.workspace.specs.declared.block.Block.{Block}
use Rattle.answer.specs.declared.bound.Bound.{Bound}
use Rattle.answer.specs.declared.bound.Bound.TheVariants.{Low, High}
use Rattle.answer.specs.Bounds.{other, region}
use Rattle.answer.specs.declared.memo.Memo.{Memo}
use Rattle.answer.specs.Notes.{Turned, Outside, Lies}
use Rattle.answer.specs.Regions.{Apart}
use Rattle.answer.specs.Outputs.{Beside}

-- a region ends where the next begins
pub region-end : (limit k s : ℕ) → k < s → k * limit + limit ≤ s * limit
region-end limit k s h = omega (arith, mul-le-mul_right {m = suc k} {n = s} limit h, suc-mul k limit)

pub region-low : (bound : Bound) (i : ℕ) → i < 15 → region bound i < 30
region-low Low i h = omega arith
region-low High i h = omega arith

-- each answer has a region of its own
pub region_same : (b c : Bound) (i j : ℕ) → region b i ≡ region c j → (b ≡ c) × (i ≡ j)
region_same Low Low i j e = (refl, omega arith)
region_same Low High i j e = absurd (omega arith)
region_same High Low i j e = absurd (omega arith)
region_same High High i j e = (refl, omega arith)

pub regions_other : (b c : Bound) (i j : ℕ) → (i ≡ j → ⊥) → region b i ≡ region c j → ⊥
regions_other b c i j h e = h (region_same b c i j e).1

module _ (limit s : ℕ) (few : limit ≤ 512) (low : s < 30) where
  pub region-within : s * limit + limit ≤ 15360
  region-within = omega (arith, region-end limit s 30 low)

  pub region-room : (n : ℕ) → 240 * limit ≤ n → 8 * (s * limit + limit) ≤ n
  region-room n h = omega (arith, region-end limit s 30 low)

  pub block_room : (n : ℕ) (b : Block) → 240 * limit ≤ n → b.first ≡ s * limit → b.count ≤ limit → 8 * (b.first + b.count) ≤ n
  block_room n b h e f = omega (arith, region-room n h)

-- the block of another region is apart
pub regions_apart : (limit k s : ℕ) (x : Block) → (k ≡ s → ⊥) → x.first ≡ k * limit → x.count ≤ limit → Apart (s * limit) limit x
regions_apart limit k s x apart begins few =
    ⊎_elim
    (λ (h : k < s). inl (omega (arith, region-end limit k s h)))
    (λ (h : s ≤ k). inr (omega (arith, region-end limit s k (omega arith))))
    (cases_lt k s)

-- what stands in another region is outside this one
pub outside_region : (memo : Memo) (bound b : Bound) (i j : ℕ) {x : Block} → j < 15 → (region b j ≡ region bound i → ⊥) → (x.first ≡ region b j * memo.output.limit) × (x.count ≤ memo.output.limit) → Outside memo bound i x
outside_region memo bound b i j {x} low apart at = record {
  apart = regions_apart memo.output.limit (region b j) (region bound i) x apart at.0 at.1;
  within = block_room memo.output.limit (region b j) memo.few (region-low b j low) (length memo.output.work.now) x memo.room at.0 at.1;
  few = at.1;
}

-- the record's other answer, say
pub outside_twin : (memo : Memo) (bound : Bound) (i : ℕ) {x : Block} → i < 15 → get_or memo.found (region (other bound) i) None ≡ Some x → Outside memo bound i x
outside_twin memo bound i {x} low there =
    outside_region memo bound (other bound) i i low (twins-apart bound i) (memo.sound.begins (region (other bound) i) x there, memo.sound.few (region (other bound) i) x there)
  where
    twins-apart : (bound : Bound) (i : ℕ) → region (other bound) i ≡ region bound i → ⊥
    twins-apart Low i e = omega arith
    twins-apart High i e = omega arith

-- an answer of another record
pub outside_other : {bound b : Bound} {i j : ℕ} {old mid now : Memo} {x : Block} → Lies b j old mid (Some x) → now.output.limit ≡ old.output.limit → (j ≡ i → ⊥) → j < 15 → Outside now bound i x
outside_other {bound} {b} {i} {j} {old} {mid} {now} {x} lies e apart low =
    outside_region now bound b i j low (regions_other b bound j i apart) (lies.within.0 ∙ ap (λ n. region b j * n) (sym e), omega (arith, lies.within.1))

-- a lower one, say
pub outside : {bound b : Bound} {i j : ℕ} {old mid now : Memo} {x : Block} → Lies b j old mid (Some x) → now.output.limit ≡ old.output.limit → j < i → i < 15 → Outside now bound i x
outside {bound} {b} {i} {j} lies e h low = outside_other lies e (λ (same : j ≡ i). omega arith) (omega arith)

-- and what stands in those of two
pub both-outside : {bound b b' : Bound} {i j k : ℕ} {old mid last : Memo} {x y : Block} → Lies b j old mid (Some x) → Lies b' k mid last (Some y) → (j < i) × (k < i) → i < 15
    → Outside last bound i x × Outside last bound i y
both-outside one two lower low = (outside one (two.limit_kept ∙ one.limit_kept) lower.0 low, outside two two.limit_kept lower.1 low)

-- so it is beside the output once that is turned to
pub turned-beside : {bound : Bound} {i : ℕ} {old new : Memo} {x : Block} → Turned bound i old new → Outside old bound i x → Beside new.output x
turned-beside {bound} {i} {old} {new} {x} turned outside = record {
  apart = subst (λ n. Apart new.output.rows.first n x) (sym turned.limit_kept) (subst (λ n. Apart n old.output.limit x) (sym turned.first) outside.apart);
  within = let l = ap length turned.work in omega (arith, outside.within);
  few = omega (arith, turned.limit_kept, outside.few);
}
