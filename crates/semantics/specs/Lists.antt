-- Tests of lists, and lists made from a function of the index.
use Rattle.std.specs.Prelude.{ℕ, Bool, true, false, ◌&&◌, List, [], ◌∷◌, map}
use Rattle.std.specs.List.{list_all, list_any, range_with_len}

-- Does every element pass?
abbrev pub every : {X : Type 0} → (X → Bool) → List X → Bool
every p xs = list_all p xs

-- Does some element pass?
abbrev pub some : {X : Type 0} → (X → Bool) → List X → Bool
some p xs = list_any p xs

-- Are the lists equally long, and do the elements pass pair by pair?
abbrev pub pairwise : {X Y : Type 0} → (X → Y → Bool) → List X → List Y → Bool
pairwise p [] [] = true
pairwise p [] (y ∷ ys) = false
pairwise p (x ∷ xs) [] = false
pairwise p (x ∷ xs) (y ∷ ys) = p x y && pairwise p xs ys

-- The list of `f 0`, `f 1`, .. up to below `n`.
abbrev pub tabled : {X : Type 0} → (ℕ → X) → ℕ → List X
tabled f n = map f (range_with_len 0 n)
