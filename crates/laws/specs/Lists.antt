-- Sums and tests over a list of anything.
use Rattle.std.specs.Prelude.{◌≡◌, Bool, true, cond, ◌&&◌, List, [], ◌∷◌, ℕ, suc, ◌+◌}
use Rattle.std.proofs.Math.Option.{Option, none, some}

-- a test that passes exactly when a fact holds
pub record Decides (b : Bool) (fact : Type 0) : Type 0 where
  pub says : b ≡ true → fact
  pub told : fact → b ≡ true

-- all of these tests pass
unfoldable pub every : List Bool → Bool
every [] = true
every (b ∷ bs) = b && every bs

module _ {ℓ} {A : Type ℓ} where
  -- the sum of f over a list
  abbrev pub sum_of : (A → ℕ) → List A → ℕ
  sum_of f [] = 0
  sum_of f (x ∷ xs) = f x + sum_of f xs

  -- every entry of a list passes the test
  abbrev pub all : (A → Bool) → List A → Bool
  all f [] = true
  all f (x ∷ xs) = f x && all f xs

  -- every entry passes the test beside its place, the places counted from i
  abbrev pub all_from : (ℕ → A → Bool) → ℕ → List A → Bool
  all_from f i [] = true
  all_from f i (x ∷ xs) = f i x && all_from f (suc i) xs

  -- the place of the first entry that passes, the places counted from i
  abbrev pub first_from : (A → Bool) → ℕ → List A → Option ℕ
  first_from f i [] = none
  first_from f i (x ∷ xs) = cond (f x) (some i) (first_from f (suc i) xs)
